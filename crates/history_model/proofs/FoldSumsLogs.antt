-- Logs: which events add to them, and that what an actor noted past its last flush is its log. `FoldSumsStreams` uses
-- this where a flush moves a log into an entry.
use Rattle.std.proofs.Common.{◌≡◌, ◌<◌, ◌≤◌, ◌+◌, ◌&&◌, ℕ, suc, Bool, true, false, cond, List, [], ◌∷◌, ◌++◌, length, refl, sym, ◌∙◌, ap, subst, inl, inr, arith}
use Rattle.std.proofs.lemmas.Bool.{false≢true, le-ltb, lt-ltb, cases_Bool}
use Rattle.std.specs.Prelude.{◌==◌, nat_lt}
use Rattle.crgc_ids.specs.Actor.{Actor}
use Rattle.history_model.specs.declared.events.Event.{Event}
use Rattle.history_model.specs.declared.events.Event.TheVariants.{Flush}
use Rattle.history_model.specs.Tally.{tally}
use Rattle.history_model.specs.Cluster.{Cluster, same_actor}
use Rattle.history_model.specs.Facts.{Fact, Note, notes}
use Rattle.history_model.specs.Streams.{facts_by, is_flush_of, log}
use Rattle.history_model.proofs.Basics.{same_actor-equal}
use Rattle.history_model.proofs.Sums.{told_sum}
use Rattle.history_model.proofs.FoldSumsNotes.{told-same}
use Rattle.history_model.proofs.FoldSumsHorizons.{last_flush, last_flush-end, last_flush-here, last_flush-other, last_flush-within}
use Rattle.history_model.proofs.Lists.{tally-append}

-- ---- events and logs

-- an event that is no flush of a adds its notes to a's log
pub log-next : (cl : Cluster) (a : Actor) (e : Event) (p : List Event) → is_flush_of a e ≡ false → log cl a (e ∷ p) ≡ log cl a p ++ facts_by a (notes cl e p)
log-next cl a e p f = ap (λ v. cond v [] (log cl a p ++ facts_by a (notes cl e p))) f

-- a flush of a blanks it, and notes nothing
pub log-flushed : (cl : Cluster) (a : Actor) (e : Event) (p : List Event) → is_flush_of a e ≡ true → (log cl a (e ∷ p) ≡ []) × (notes cl e p ≡ [])
log-flushed cl a (Flush b) p f = (ap (λ v. cond v [] (log cl a p ++ [])) f, refl)
log-flushed cl a e p f = absurd (false≢true f)

-- ---- sums of told notes and logs

-- a note of one of o's actors whose fact passes
abbrev pub passes : ℕ → (Fact → Bool) → Note → Bool
passes o t x = (x.by.node == o) && t x.fact

module _ (cl : Cluster) (o : ℕ) (t : Fact → Bool) where
  abbrev counts : Note → Bool
  counts = passes o t

  -- one note: where b noted it, it is told by the raised horizons alone, and stands in b's log
  raised-step : (x : Fact) (fs : List Fact) (w l r : Bool) (m n : ℕ) → (w ≡ true → (l ≡ t x) × (r ≡ false)) → (w ≡ false → l ≡ r) → m ≡ n + tally t fs → cond l (m + 1) m ≡ cond r (n + 1) n + tally t (cond w (x ∷ fs) fs)
  raised-step x fs true l r m n own other e =
      let both = own refl in
      let moved : cond (t x) (m + 1) m ≡ n + cond (t x) (tally t fs + 1) (tally t fs) =
      elim (t x) as (λ v. cond v (m + 1) m ≡ n + cond v (tally t fs + 1) (tally t fs)) [ true ↦ omega arith | false ↦ e ] in
      ap (λ v. cond v (m + 1) m) both.0 ∙ moved ∙ ap (λ v. cond v (n + 1) n + cond (t x) (tally t fs + 1) (tally t fs)) (sym both.1)
  raised-step x fs false l r m n own other e =
      ap (λ v. cond v (m + 1) m) (other refl)
      ∙ elim r as (λ v. cond v (m + 1) m ≡ cond v (n + 1) n + tally t fs) [ true ↦ omega arith | false ↦ e ]

  -- v is u but for b, whose horizon it raises from its last flush to the end
  pub record IsRaised (b : Actor) (u v : Actor → ℕ) (h : List Event) : Type 0 where
    pub on : (b.node == o) ≡ true
    pub others : (x : Actor) → same_actor x b ≡ false → v x ≡ u x
    pub low : u b ≡ last_flush 0 length b (length h) h
    pub high : length h ≤ v b

  -- at a position between the two horizons b's own notes are told by the raised one
  raised-notes : (b : Actor) (u v : Actor → ℕ) (k : ℕ) → (b.node == o) ≡ true → ((x : Actor) → same_actor x b ≡ false → v x ≡ u x) → u b ≤ k → k < v b → (ns : List Note) → tally (λ x. nat_lt k (v x.by) && counts x) ns ≡ tally (λ x. nat_lt k (u x.by) && counts x) ns + tally t (facts_by b ns)
  raised-notes b u v k on others low high [] = omega arith
  raised-notes b u v k on others low high (x ∷ ns) =
      let own : same_actor x.by b ≡ true → ((nat_lt k (v x.by) && counts x) ≡ t x.fact) × ((nat_lt k (u x.by) && counts x) ≡ false) = λ same. (
      let Own : Actor → Type 0 = λ a. ((nat_lt k (v a) && ((a.node == o) && t x.fact)) ≡ t x.fact) × ((nat_lt k (u a) && ((a.node == o) && t x.fact)) ≡ false) in
      let at_b : Own b = (
        ap (λ w. w && ((b.node == o) && t x.fact)) (lt-ltb k (v b) high) ∙ ap (λ w. w && t x.fact) on,
        ap (λ w. w && ((b.node == o) && t x.fact)) (le-ltb k (u b) low),
      ) in
      subst Own (sym (same_actor-equal x.by b same)) at_b
      ) in
      raised-step x.fact (facts_by b ns) (same_actor x.by b) (nat_lt k (v x.by) && counts x) (nat_lt k (u x.by) && counts x)
      (tally (λ y. nat_lt k (v y.by) && counts y) ns) (tally (λ y. nat_lt k (u y.by) && counts y) ns)
      own (λ other. ap (λ c. nat_lt k c && counts x) (others x.by other)) (raised-notes b u v k on others low high ns)

  -- below both horizons of b the two tell the same
  raised-tests : (b : Actor) (u v : Actor → ℕ) (k : ℕ) → ((x : Actor) → same_actor x b ≡ false → v x ≡ u x) → k < u b → k < v b → (a : Actor) → nat_lt k (v a) ≡ nat_lt k (u a)
  raised-tests b u v k others low high a =
      elim (cases_Bool (same_actor a b)) [
        | inl same ↦ subst (λ x. nat_lt k (v x) ≡ nat_lt k (u x)) (sym (same_actor-equal a b same)) (lt-ltb k (v b) high ∙ sym (lt-ltb k (u b) low))
        | inr other ↦ ap (nat_lt k) (others a other)
      ]

  -- raising one actor's horizon from its last flush to the end adds its log
  pub told-raised : (b : Actor) (u v : Actor → ℕ) (h : List Event) → IsRaised b u v h → told_sum cl v counts h ≡ told_sum cl u counts h + tally t (log cl b h)
  told-raised b u v [] raised = omega arith
  told-raised b u v (e ∷ p) raised =
      elim (cases_Bool (is_flush_of b e)) [
        | inl flush ↦ (
            let blank = log-flushed cl b e p flush in
            let low = raised.low ∙ last_flush-here 0 length b (suc (length p)) e p flush (omega arith) in
            let high = raised.high in
            let before : told_sum cl v counts p ≡ told_sum cl u counts p =
            told-same cl v u counts counts p (λ k l x. ap (λ w. w && counts x) (raised-tests b u v k raised.others (omega arith) (omega arith) x.by)) in
            let unlogged = ap (tally t) blank.0 in
            let untold = ap (tally (λ x. nat_lt (length p) (v x.by) && counts x)) blank.1 in
            let untold_low = ap (tally (λ x. nat_lt (length p) (u x.by) && counts x)) blank.1 in
            omega arith
            )
        | inr none ↦ (
            let low : u b ≡ last_flush 0 length b (length p) p =
            raised.low ∙ last_flush-other 0 length b (suc (length p)) e p none ∙ last_flush-end 0 length b (suc (length p)) p (omega arith) in
            let high : length p < v b = (let top = raised.high in omega arith) in
            let before = told-raised b u v p (record { on = raised.on; others = raised.others; low = low; high = omega arith }) in
            let within : u b ≤ length p = (let w = last_flush-within b (length p) p in omega arith) in
            let here = raised-notes b u v (length p) raised.on raised.others within high (notes cl e p) in
            let grown = ap (tally t) (log-next cl b e p none) ∙ tally-append t (log cl b p) (facts_by b (notes cl e p)) in
            omega arith
            )
      ]
