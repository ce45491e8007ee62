-- The actors at the marked places.
use Rattle.std.proofs.Common.{◌≡◌, ◌<◌, ◌+◌, ◌↔◌, ◌++◌, ℕ, true, false, List, [], ◌∷◌, length, sym, ◌∙◌, ap, subst, inl, inr, arith}
use Rattle.std.proofs.lemmas.Bool.{cases_eq, false≢true}
use Rattle.crgc_ids.proofs.MembersLaws.{IsAmong-append_cases, IsAmong-append_left, IsAmong-append_right}
use Rattle.crgc_ids.specs.Actor.{Actor}
use Rattle.crgc_ids.specs.Members.{IsAmong}
use Rattle.history_model.proofs.RisingActors.{among-decides}
use Rattle.place_marks.specs.Marks as places
use Rattle.place_marks.specs.Marks.{IsMarking, Marking}
use Rattle.shadow_graph.specs.Graph.{Graph}
use Rattle.shadow_graph.specs.Places.{ArePlaced, actor_of}
use Rattle.shadow_table.specs.Shadows.{is_named, place_in}
use Rattle.pseudoroot_trace.proofs.GraphLemmas.{is-or-not}
use Rattle.pseudoroot_trace.specs.Marked.{AreNamedBelow, IsReachedIn}
use Rattle.pseudoroot_trace.specs.Trace.{place_graph}

-- two places of one actor are one
one-place : (g : Graph) → ArePlaced g → (p k : ℕ) → p < length g.shadows.names → k < length g.shadows.names → actor_of g p ≡ actor_of g k → p ≡ k
one-place g placed p k in_p in_k same = sym ((placed.actor p in_p).1) ∙ ap (place_in g.shadows.names) same ∙ (placed.actor k in_k).1

pub named-none : (g : Graph) (m : Marking) → AreNamedBelow g m 0 []
named-none g m a = ((λ h. absurd h), (λ h. (let below = h.1 in absurd (omega arith))))

-- the actor at the next place is not named
pub not-named : (g : Graph) → ArePlaced g → (m : Marking) (n : ℕ) (actors : List Actor) → n < length g.shadows.names → AreNamedBelow g m n actors → is_named actors (actor_of g n) ≡ false
not-named g placed m n actors inside named =
    elim (is-or-not (is_named actors (actor_of g n))) [
      | inl t ↦ (
          let found = (named (actor_of g n)).0 ((among-decides actors (actor_of g n)).0 t) in
          let below = found.1 in
          let same = one-place g placed found.0 n (omega arith) inside found.3 in
          absurd (omega arith)
          )
      | inr e ↦ e
    ]

-- a marked place more
pub named-more : (g : Graph) (m : Marking) (n : ℕ) (actors new : List Actor) → AreNamedBelow g m n actors → places.is_marked m n ≡ true → new ≡ actors ++ actor_of g n ∷ [] → AreNamedBelow g m (n + 1) new
named-more g m n actors new named marked is a = (
  (λ h. elim (IsAmong-append_cases a actors (actor_of g n ∷ []) (subst (IsAmong a) is h)) [
    | inl before ↦ (let found = (named a).0 before in let below = found.1 in (found.0, omega arith, found.2, found.3))
    | inr last ↦ (n, omega arith, marked, sym (only last))
  ]),
  (λ h. subst (IsAmong a) (sym is) (elim (cases_eq h.0 n) [
    | inl same ↦ IsAmong-append_right a actors (actor_of g n ∷ []) (inl (sym h.3 ∙ ap (actor_of g) same))
    | inr other ↦ (let below = h.1 in IsAmong-append_left a actors (actor_of g n ∷ []) ((named a).1 (h.0, omega arith, h.2, h.3)))
  ])),
)
  where
    only : IsAmong a (actor_of g n ∷ []) → a ≡ actor_of g n
    only h = elim h [ inl e ↦ e | inr none ↦ absurd none ]

-- a place more that is not marked
pub named-skip : (g : Graph) (m : Marking) (n : ℕ) (actors : List Actor) → AreNamedBelow g m n actors → places.is_marked m n ≡ false → AreNamedBelow g m (n + 1) actors
named-skip g m n actors named unmarked a = (
  (λ h. (let found = (named a).0 h in let below = found.1 in (found.0, omega arith, found.2, found.3))),
  (λ h. elim (cases_eq h.0 n) [
    | inl same ↦ absurd (false≢true (sym unmarked ∙ ap (places.is_marked m) (sym same) ∙ h.2))
    | inr other ↦ (let below = h.1 in (named a).1 (h.0, omega arith, h.2, h.3))
  ]),
)

-- the actors at all marked places are those that marks reach
pub named-reached : (g : Graph) → ArePlaced g → (m : Marking) (actors : List Actor) → IsMarking (place_graph g) m → AreNamedBelow g m (length g.shadows.names) actors → (a : Actor) → (is_named actors a ≡ true) ↔ IsReachedIn g a
named-reached g placed m actors marking named a = (
  (λ t. (
      let found = (named a).0 ((among-decides actors a).0 t) in
      let at = placed.actor found.0 found.1 in
      let is_there = ap (is_named g.shadows.names) (sym found.3) ∙ at.0 in
      let place : found.0 ≡ place_in g.shadows.names a = sym at.1 ∙ ap (place_in g.shadows.names) found.3 in
      (is_there, (marking (place_in g.shadows.names a)).0 (ap (places.is_marked m) (sym place) ∙ found.2))
      )),
  (λ reached. (
      let place = placed.place a reached.0 in
      (among-decides actors a).1 ((named a).1 (place_in g.shadows.names a, place.0, (marking (place_in g.shadows.names a)).1 reached.1, place.1))
      )),
)
