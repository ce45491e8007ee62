-- The dead of a sweep that leaves actors out, which are computed as a greatest set, are exactly the known actors not left
-- out that no pseudoroot reaches over actors that are not left out.
use Rattle.std.proofs.Common.{◌≡◌, ◌↔◌, ◌⊎◌, ◌&&◌, ◌||◌, ℕ, zero, suc, Bool, true, false, not, List, [], ◌∷◌, length, refl, sym, ◌∙◌, subst, inl, inr}
use Rattle.std.proofs.lemmas.Bool.{false≢true, or_parts, cases_Bool, not-false}
use Rattle.std.specs.List.{filter, list_all}
use Rattle.crgc_ids.specs.Actor.{Actor}
use Rattle.crgc_ids.specs.Greatest.{greatest, prune}
use Rattle.crgc_ids.specs.Members.{IsAmong}
use Rattle.crgc_ids.proofs.MembersLaws.{IsAmong-filter}
use Rattle.history_model.specs.Cluster.{Cluster}
use Rattle.history_model.specs.Folds.{Fold}
use Rattle.history_model.specs.Graph.{candidates, dead, dead_without, has_edge, holds_actor, is_pseudoroot, is_unreached, known_actors}
use Rattle.history_model.specs.Reached.{IsChain, IsReached, IsReachedWithout}
use Rattle.history_model.proofs.FoldSumsKnown.{holds-among}
use Rattle.history_model.proofs.FoldSumsDead.{candidate-among, dead_without-candidate, dead_without-closed}

list_all-false : {X : Type 0} (test : X → Bool) (xs : List X) → list_all test xs ≡ false → (x : X) × IsAmong x xs × (test x ≡ false)
list_all-false test [] e = absurd (false≢true (sym e))
list_all-false {X} test (y ∷ ys) e =
    let Found : Bool → Type 0 = λ v. test y ≡ v → (v && list_all test ys) ≡ false → (x : X) × IsAmong x (y ∷ ys) × (test x ≡ false) in
    let found : Found (test y) = elim (test y) as Found [
      | true ↦ λ _ r. (let later = list_all-false test ys r in (later.0, inr later.1, later.2))
      | false ↦ λ t _. (y, inl refl, t)
    ] in
    found refl e

module _ (cl : Cluster) (lost : ℕ → Bool) (out : Actor → Bool) (f : Fold) where
  -- a chain goes on by one more edge
  chain-next : (r b a : Actor) (bs : List Actor) → IsChain cl lost out f r bs b → out b ≡ false → has_edge cl lost f b a ≡ true
      → (cs : List Actor) × IsChain cl lost out f r cs a
  chain-next r b a [] e kept edge = (a ∷ [], subst (λ x. IsChain cl lost out f x (a ∷ []) a) (sym e) (kept, edge, refl))
  chain-next r b a (c ∷ cs) chain kept edge =
      let later = chain-next c b a cs chain.2 kept edge in
      (c ∷ later.0, (chain.0, chain.1, later.1))

  -- each known actor that is not left out is in the list, or a pseudoroot reaches it
  abbrev Covers : List Actor → Type 0
  Covers xs = (a : Actor) → IsAmong a (known_actors cl f) → out a ≡ false → IsAmong a xs ⊎ IsReachedWithout cl lost out f a

  covers-candidates : Covers (candidates cl lost out f)
  covers-candidates a known kept =
      elim (cases_Bool (is_pseudoroot cl lost f a)) [
        | inl root ↦ inr (a, [], root, refl)
        | inr none ↦ inl (candidate-among cl lost out f a (known, kept, none))
      ]

  -- what may not stay has a positive edge from an actor that is reached
  reached-outside : (xs : List Actor) → Covers xs → (a : Actor) → is_unreached cl lost out f xs a ≡ false → IsReachedWithout cl lost out f a
  reached-outside xs covers a e =
      let found = list_all-false (λ b. holds_actor xs b || (out b || not (has_edge cl lost f b a))) (known_actors cl f) e in
      let b : Actor = found.0 in
      let tests = or_parts (holds_actor xs b) (out b || not (has_edge cl lost f b a)) found.2 in
      let more = or_parts (out b) (not (has_edge cl lost f b a)) tests.1 in
      elim (covers b found.1 more.0) [
        | inl inside ↦ absurd (false≢true (sym tests.0 ∙ (holds-among xs b).1 inside))
        | inr reached ↦ (
            let next = chain-next reached.0 b a reached.1 reached.3 more.0 (not-false (has_edge cl lost f b a) more.1) in
            (reached.0, next.0, reached.2, next.1)
            )
      ]

  -- what is taken away is reached
  covers-filter : (xs : List Actor) → Covers xs → Covers (filter (is_unreached cl lost out f xs) xs)
  covers-filter xs covers a known kept =
      elim (cases_Bool (is_unreached cl lost out f xs a)) [
        | inl fit ↦ elim (covers a known kept) [ inl h ↦ inl (IsAmong-filter (is_unreached cl lost out f xs) a xs h fit) | inr reached ↦ inr reached ]
        | inr unfit ↦ inr (reached-outside xs covers a unfit)
      ]

  covers-prune : (n : ℕ) (xs : List Actor) → Covers xs → Covers (prune (is_unreached cl lost out f) n xs)
  covers-prune zero xs covers = covers
  covers-prune (suc n) xs covers = covers-prune n (filter (is_unreached cl lost out f xs) xs) (covers-filter xs covers)

  -- a known actor that is not left out is dead, or a pseudoroot reaches it
  pub dead-or_reached : (a : Actor) → IsAmong a (known_actors cl f) → out a ≡ false
      → IsAmong a (dead_without cl lost out f) ⊎ IsReachedWithout cl lost out f a
  unfolding greatest
  dead-or_reached = covers-prune (length (candidates cl lost out f)) (candidates cl lost out f) covers-candidates

  -- the dead are closed under chains backwards
  dead-chain : (r : Actor) (bs : List Actor) (a : Actor) → IsChain cl lost out f r bs a
      → IsAmong a (dead_without cl lost out f) → IsAmong r (dead_without cl lost out f)
  dead-chain r [] a e h = subst (λ x. IsAmong x (dead_without cl lost out f)) (sym e) h
  dead-chain r (b ∷ bs) a chain h = dead_without-closed cl lost out f r b (dead-chain b bs a chain.2 h) chain.1 chain.0

  -- and never both
  dead-not_reached : (a : Actor) → IsAmong a (dead_without cl lost out f) → ¬ IsReachedWithout cl lost out f a
  dead-not_reached a h reached =
      let start = dead_without-candidate cl lost out f reached.0 (dead-chain reached.0 reached.1 a reached.3 h) in
      false≢true (sym start.2 ∙ reached.2)

  -- so the dead are the known actors not left out that are not reached
  pub dead_without-unreached : (a : Actor) → IsAmong a (dead_without cl lost out f)
      ↔ (IsAmong a (known_actors cl f) × (out a ≡ false) × ¬ IsReachedWithout cl lost out f a)
  dead_without-unreached a = (
    λ h. (let c = dead_without-candidate cl lost out f a h in (c.0, c.1, dead-not_reached a h)),
    λ all. elim (dead-or_reached a all.0 all.1) [ inl h ↦ h | inr reached ↦ absurd (all.2 reached) ],
  )

-- the dead of a fold are those where the actors of lost nodes are left out
pub dead-unreached : (cl : Cluster) (lost : ℕ → Bool) (f : Fold) (a : Actor) → IsAmong a (dead cl lost f)
    ↔ (IsAmong a (known_actors cl f) × (lost a.node ≡ false) × ¬ IsReached cl lost f a)
unfolding dead
dead-unreached cl lost f = dead_without-unreached cl lost (λ b. lost b.node) f
