-- Sums of told notes: how they compare with all notes, grow with the history, and depend on horizons and tests. Both the
-- counts of folds (`FoldSumsCounts`) and the core of soundness (`SoundnessTold`) are such sums.
use Rattle.std.proofs.Common.{◌≡◌, ◌<◌, ◌≤◌, ◌&&◌, ℕ, Bool, true, false, cond, List, [], ◌∷◌, ◌++◌, length, map, refl, sym, ◌∙◌, ap, subst, inl, inr, arith}
use Rattle.std.proofs.Math.Bool.{and-false}
use Rattle.std.proofs.lemmas.Bool.{and_from, false≢true, lt-ltb, ltb-true, and_parts, false_from_ne_true}
use Rattle.std.specs.Prelude.{◌==◌, nat_lt}
use Rattle.crgc_ids.specs.Actor.{Actor}
use Rattle.crgc_ids.specs.Members.{IsAmong}
use Rattle.history_model.specs.declared.events.Event.{Event}
use Rattle.history_model.specs.declared.events.Event.TheVariants.{Seed, Tie, Take, Spawn, Send, Drop}
use Rattle.history_model.specs.Cluster.{Cluster, same_actor, newborn}
use Rattle.history_model.specs.Facts.{Note, received, sent_to, created, released, is_received, is_released, note_by, notes}
use Rattle.history_model.proofs.Basics.{same_actor-equal}
use Rattle.history_model.proofs.Sums.{noted_sum, told_sum}
use Rattle.history_model.proofs.Lists.{tally-implies, tally-same, tally-none}

-- ---- told and noted

-- what is told was noted
pub told-noted : (cl : Cluster) (u : Actor → ℕ) (t : Note → Bool) (h : List Event) → told_sum cl u t h ≤ noted_sum cl t h
told-noted cl u t [] = omega arith
told-noted cl u t (e ∷ p) =
    let before = told-noted cl u t p in
    let here = tally-implies (λ n. nat_lt (length p) (u n.by) && t n) t (notes cl e p) (λ x _ b. (and_parts (nat_lt (length p) (u x.by)) (t x) b).1) in
    omega arith

pub told-grows : (cl : Cluster) (u : Actor → ℕ) (t : Note → Bool) (q p : List Event) → told_sum cl u t p ≤ told_sum cl u t (q ++ p)
told-grows cl u t [] p = omega arith
told-grows cl u t (e ∷ q) p = let before = told-grows cl u t q p in omega arith

-- no note that passes the test is told from position k on
abbrev pub AreToldBelow : Cluster → (Actor → ℕ) → (Note → Bool) → ℕ → Type 0
AreToldBelow cl u t k =
    (e : Event) (p : List Event) (x : Note) → IsAmong x (notes cl e p) → t x ≡ true → u x.by ≤ k

-- where all is told, it stays so if the notes of the next event that pass the test are told
pub told-next : (cl : Cluster) (u : Actor → ℕ) (t : Note → Bool) (e : Event) (p : List Event) → ((x : Note) → IsAmong x (notes cl e p) → t x ≡ true → length p < u x.by) → told_sum cl u t p ≡ noted_sum cl t p → told_sum cl u t (e ∷ p) ≡ noted_sum cl t (e ∷ p)
told-next cl u t e p all before =
    let here = tally-implies t (λ n. nat_lt (length p) (u n.by) && t n) (notes cl e p)
    (λ x m s. and_from (nat_lt (length p) (u x.by)) (t x) (lt-ltb (length p) (u x.by) (all x m s)) s) in
    let most = told-noted cl u t (e ∷ p) in
    omega arith

-- where the horizons are no higher than the position, nothing more is told later
pub told-below : (cl : Cluster) (u : Actor → ℕ) (t : Note → Bool) (q p : List Event) → AreToldBelow cl u t (length p) → told_sum cl u t (q ++ p) ≡ told_sum cl u t p
told-below cl u t [] p below = refl
told-below cl u t (e ∷ q) p below =
    let before = told-below cl u t q p below in
    let longer = length-grows q p in
    let here = tally-none (λ n. nat_lt (length (q ++ p)) (u n.by) && t n) (notes cl e (q ++ p)) (λ x m. false_from_ne_true (nat_lt (length (q ++ p)) (u x.by) && t x) (λ b.
    let both = and_parts (nat_lt (length (q ++ p)) (u x.by)) (t x) b in
    let above = ltb-true (length (q ++ p)) (u x.by) both.0 in
    let low = below e (q ++ p) x m both.1 in
    absurd (omega arith))) in
    omega arith
  where
    length-grows : (r s : List Event) → length s ≤ length (r ++ s)
    length-grows [] s = omega arith
    length-grows (f ∷ r) s = let l = length-grows r s in omega arith

-- the sum depends on the horizons and the test only by what is told at each position of the history
pub told-same : (cl : Cluster) (u v : Actor → ℕ) (s t : Note → Bool) (h : List Event) → ((k : ℕ) → k < length h → (x : Note) → (nat_lt k (u x.by) && s x) ≡ (nat_lt k (v x.by) && t x)) → told_sum cl u s h ≡ told_sum cl v t h
told-same cl u v s t [] same = refl
told-same cl u v s t (e ∷ p) same =
    let before = told-same cl u v s t p (λ k l. same k (omega arith)) in
    let here = tally-same (λ n. nat_lt (length p) (u n.by) && s n) (λ n. nat_lt (length p) (v n.by) && t n) (notes cl e p) (λ x _. same (length p) (omega arith) x) in
    omega arith

-- what no note passes is not told
pub told-none : (cl : Cluster) (u : Actor → ℕ) (t : Note → Bool) (h : List Event) → ((x : Note) → t x ≡ false) → told_sum cl u t h ≡ 0
told-none cl u t [] none = refl
told-none cl u t (e ∷ p) none =
    let before = told-none cl u t p none in
    let here = tally-none (λ n. nat_lt (length p) (u n.by) && t n) (notes cl e p) (λ x _. ap (λ v. nat_lt (length p) (u x.by) && v) (none x) ∙ and-false (nat_lt (length p) (u x.by))) in
    omega arith

-- an event at or above all horizons tells nothing
pub told-later : (cl : Cluster) (u : Actor → ℕ) (t : Note → Bool) (e : Event) (p : List Event) → ((a : Actor) → u a ≤ length p) → told_sum cl u t (e ∷ p) ≡ told_sum cl u t p
told-later cl u t e p low = told-below cl u t (e ∷ []) p (λ _ _ x _ _. low x.by)

-- ---- who notes what

IsAmong-from_map : {X Y : Type 0} (f : X → Y) (y : Y) (xs : List X) → IsAmong y (map f xs) → (x : X) × IsAmong x xs × (y ≡ f x)
IsAmong-from_map f y [] h = absurd h
IsAmong-from_map f y (x ∷ xs) (inl e) = (x, inl refl, e)
IsAmong-from_map f y (x ∷ xs) (inr h) = (let found = IsAmong-from_map f y xs h in (found.0, inr found.1, found.2))

-- each note is of something sent, of a reference made, or of what its noter received or released
pub notes-kinds : (P : Note → Type 0) → ((x a : Actor) → P (note_by x (sent_to a))) → ((x b a : Actor) → P (note_by x (created b a))) → ((a : Actor) → P (note_by a (received a))) → ((b a : Actor) → P (note_by b (released b a))) → (cl : Cluster) (e : Event) (p : List Event) (x : Note) → IsAmong x (notes cl e p) → P x
notes-kinds P is_sent is_made is_taken is_gone cl e p x h = go e h
  where
    one : (y : Note) → P y → IsAmong x (y ∷ []) → P x
    one y holds m = elim m [ inl q ↦ subst P (sym q) holds | inr none ↦ absurd none ]

    go : (e : Event) → IsAmong x (notes cl e p) → P x
    go (Seed n) m = one (note_by (newborn n p) (created (newborn n p) (newborn n p))) (is_made (newborn n p) (newborn n p) (newborn n p)) m
    go (Tie o t) m = one (note_by t (created o t)) (is_made t o t) m
    go (Take a) m = one (note_by a (received a)) (is_taken a) m
    go (Spawn a) m =
        let c : Actor = newborn a.node p in
        let by_parent : (v : Bool) → IsAmong x (cond v (note_by a (created c a) ∷ []) []) → P x =
        elim [ true ↦ one (note_by a (created c a)) (is_made a c a) | false ↦ λ none. absurd none ] in
        elim m [
          | inl q ↦ subst P (sym q) (is_made c c c)
          | inr r ↦ elim r [ inl q ↦ subst P (sym q) (is_made c a c) | inr l ↦ by_parent (cl.version == 2) l ]
        ]
    go (Send f t refs) m =
        elim m [
          | inl q ↦ subst P (sym q) (is_sent f t)
          | inr r ↦ (
              let fact = IsAmong-from_map (note_by f) x (map (created t) refs) r in
              let ref = IsAmong-from_map (created t) fact.0 refs fact.1 in
              subst P (sym (fact.2 ∙ ap (note_by f) ref.2)) (is_made f t ref.0)
              )
        ]
    go (Drop a t) m = one (note_by a (released a t)) (is_gone a t) m
    go _ m = absurd m

-- the receiver notes what it received, and the owner what it released
pub noter-received : (cl : Cluster) (e : Event) (p : List Event) (a : Actor) (x : Note) → IsAmong x (notes cl e p) → is_received a x.fact ≡ true → x.by ≡ a
noter-received cl e p a =
    notes-kinds (λ x. is_received a x.fact ≡ true → x.by ≡ a) (λ _ _ t. absurd (false≢true t)) (λ _ _ _ t. absurd (false≢true t))
    (λ b. same_actor-equal b a) (λ _ _ t. absurd (false≢true t)) cl e p

pub noter-released : (cl : Cluster) (e : Event) (p : List Event) (b a : Actor) (x : Note) → IsAmong x (notes cl e p) → is_released b a x.fact ≡ true → x.by ≡ b
noter-released cl e p b a =
    notes-kinds (λ x. is_released b a x.fact ≡ true → x.by ≡ b) (λ _ _ t. absurd (false≢true t)) (λ _ _ _ t. absurd (false≢true t))
    (λ _ t. absurd (false≢true t)) (λ c d t. same_actor-equal c b (and_parts (same_actor c b) (same_actor d a) t).0) cl e p
