-- What the first bulletins of a stream tell: the notes below the horizons, and the flags there. `FoldSumsCounts` adds up
-- the streams of all nodes.
use Rattle.std.proofs.Common.{◌≡◌, ◌≤◌, ◌+◌, ◌&&◌, ℕ, suc, Bool, true, false, cond, List, ◌∷◌, length, take, refl, sym, ◌∙◌, ap, inl, inr, arith}
use Rattle.std.proofs.lemmas.Bool.{and_right, cases_Bool}
use Rattle.std.specs.Prelude.{◌==◌, nat_lt, Option, None}
use Rattle.crgc_ids.specs.Actor.{Actor}
use Rattle.history_model.specs.declared.events.Event.{Event}
use Rattle.history_model.specs.declared.events.Event.TheVariants.{Flush}
use Rattle.history_model.specs.Tally.{tally}
use Rattle.history_model.specs.Cluster.{Cluster}
use Rattle.history_model.specs.Facts.{Flags, Fact, flagged, Note}
use Rattle.history_model.specs.Streams.{entry, flags_at, log, stream}
use Rattle.history_model.specs.Graph.{delta_facts, last_flags}
use Rattle.history_model.proofs.Basics.{eqb-refl, same_actor-refl, same_actor-sym}
use Rattle.history_model.proofs.Sums.{horizon_flags, flush_horizon, publish_horizon, told_sum}
use Rattle.history_model.proofs.FoldSumsNotes.{told-later, told-same}
use Rattle.history_model.proofs.FoldSumsHorizons.{horizon_flags-last, flush-elsewhere, flush_horizon-last, is_flush_on, last_flush, last_flush-here, last_flush-later, last_flush-skip, last_flush-within, some_flags}
use Rattle.history_model.proofs.FoldSumsBulletins.{IsToldUntil, stream-value}
use Rattle.history_model.proofs.FoldSumsLogs.{IsRaised, passes, told-raised}
use Rattle.history_model.proofs.FoldSumsFlags.{entry-flags, last_flags-append, newer, newer-assoc}
use Rattle.history_model.proofs.Lists.{tally-append}

-- ---- notes

module _ (cl : Cluster) (o : ℕ) (t : Fact → Bool) where
  abbrev counts : Note → Bool
  counts = passes o t

  -- what is told where flushes before position k are published
  abbrev told_until : ℕ → List Event → ℕ
  told_until k h = told_sum cl (λ a. last_flush 0 length a k h) counts h

  -- the horizons of other nodes' actors do not matter
  same-passing : (k : ℕ) (x : Note) (c d : ℕ) → ((x.by.node == o) ≡ true → c ≡ d) → (nat_lt k c && counts x) ≡ (nat_lt k d && counts x)
  same-passing k x c d same =
      elim (cases_Bool (x.by.node == o)) [
        | inl on ↦ ap (λ w. nat_lt k w && counts x) (same on)
        | inr off ↦ (
            let none = ap (λ w. w && t x.fact) off in
            and_right (nat_lt k c) (counts x) none ∙ sym (and_right (nat_lt k d) (counts x) none)
            )
      ]

  told_until-later : (k : ℕ) (e : Event) (p : List Event) → k ≤ length p → told_until k (e ∷ p) ≡ told_until k p
  told_until-later k e p l =
      let u : List Event → Actor → ℕ = λ h a. last_flush 0 length a k h in
      told-same cl (u (e ∷ p)) (u p) counts counts (e ∷ p) (λ j _ x. ap (λ c. nat_lt j c && counts x) (last_flush-later 0 length x.by k e p l))
      ∙ told-later cl (u p) counts e p (λ a. last_flush-within a k p)

  told_until-other : (e : Event) (p : List Event) → is_flush_on o e ≡ false → told_until (suc (length p)) (e ∷ p) ≡ told_until (length p) p
  told_until-other e p f =
      let u : List Event → Actor → ℕ = λ h a. last_flush 0 length a (length h) h in
      told-same cl (u (e ∷ p)) (u p) counts counts (e ∷ p)
      (λ j _ x. same-passing j x (u (e ∷ p) x.by) (u p x.by) (λ on. last_flush-skip 0 length x.by e p (flush-elsewhere x.by o e on f)))
      ∙ told-later cl (u p) counts e p (λ a. last_flush-within a (length p) p)

  told_until-flush : ((a : Actor) (g : Flags) → t (flagged a g) ≡ false) → (b : Actor) (p : List Event) → (b.node == o) ≡ true → told_until (suc (length p)) (Flush b ∷ p) ≡ told_until (length p) p + tally t (entry cl b p)
  told_until-flush plain b p on =
      let u : List Event → Actor → ℕ = λ h a. last_flush 0 length a (length h) h in
      let top = last_flush-here 0 length b (suc (length p)) (Flush b) p (same_actor-refl b) (omega arith) in
      let raised : IsRaised cl o t b (u p) (u (Flush b ∷ p)) p = record {
        on = on;
        others = λ x other. last_flush-skip 0 length x (Flush b) p (same_actor-sym b x ∙ other);
        low = refl;
        high = omega arith;
      } in
      let more = told-raised cl o t b (u p) (u (Flush b ∷ p)) p raised in
      let unflagged = ap (λ w. cond w (tally t (log cl b p) + 1) (tally t (log cl b p))) (plain b (flags_at b p)) in
      omega arith

-- the first n bulletins of o tell what o's actors noted before their last flush that lies before o's last publish there
pub deltas-told : (cl : Cluster) (h : List Event) (o n : ℕ) (t : Fact → Bool) → ((a : Actor) (g : Flags) → t (flagged a g) ≡ false) → tally t (delta_facts (take n (stream cl o h))) ≡ told_sum cl (λ a. flush_horizon a (publish_horizon cl o n h) h) (λ x. (x.by.node == o) && t x.fact) h
deltas-told cl h o n t plain =
    let laws : IsToldUntil cl o ℕ (λ x y. x + y) (tally t) (told_until cl o t) = record {
      none = λ x. omega arith;
      append = tally-append t;
      assoc = λ x y z. omega arith;
      start = refl;
      later = told_until-later cl o t;
      flush = told_until-flush cl o t plain;
      other = told_until-other cl o t;
    } in
    let horizon : ℕ = publish_horizon cl o n h in
    stream-value cl o (λ x y. x + y) (tally t) (told_until cl o t) laws n h
    ∙ told-same cl (λ a. last_flush 0 length a horizon h) (λ a. flush_horizon a horizon h) (passes o t) (passes o t) h
    (λ k _ x. ap (λ c. nat_lt k c && passes o t x) (sym (flush_horizon-last x.by horizon h)))

-- ---- flags

-- the first n bulletins of a's node tell of a the flags of that flush
pub own-flags : (cl : Cluster) (h : List Event) (a : Actor) (n : ℕ) → last_flags a (delta_facts (take n (stream cl a.node h))) ≡ horizon_flags a (publish_horizon cl a.node n h) h
own-flags cl h a n =
    let until : ℕ → List Event → Option Flags = λ k p. last_flush None (some_flags a) a k p in
    let laws : IsToldUntil cl a.node (Option Flags) newer (last_flags a) until = record {
      none = λ x. refl;
      append = last_flags-append a;
      assoc = newer-assoc;
      start = refl;
      later = last_flush-later None (some_flags a) a;
      flush = λ b p on. entry-flags cl a b p;
      other = λ e p f. last_flush-skip None (some_flags a) a e p (flush-elsewhere a a.node e (eqb-refl a.node) f);
    } in
    stream-value cl a.node newer (last_flags a) until laws n h ∙ sym (horizon_flags-last a (publish_horizon cl a.node n h) h)
