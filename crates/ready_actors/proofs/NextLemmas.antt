-- The lowest actor from those of one node.
use Rattle.std.proofs.Common.{◌≡◌, ◌<◌, ◌≤◌, ◌+◌, ◌⊎◌, ℕ, true, List, Some, sym, ◌∙◌, ap, inl, inr, arith}
use Rattle.std.proofs.lemmas.Bool.{both_ways, cases_order}
use Rattle.crgc_ids.specs.Actor.{Actor}
use Rattle.ready_actors.specs.Ready.{IsAbove, IsFirstOnFrom, IsLowestOf, IsNoneOnFrom, IsOfNone, has_actor}

-- an actor is what its node and its serial make
pub read-at : (actors : List Actor) (n : ℕ) (a : Actor) → a.node ≡ n → has_actor actors (record { node = n; serial = a.serial }) ≡ has_actor actors a
read-at actors n a on = ap (λ (i : ℕ). has_actor actors (record { node = i; serial = a.serial })) (sym on)

pub first-lowest : (actors : List Actor) (n from : ℕ) (first : Actor) (P : Actor → Type 0) → IsFirstOnFrom actors n from first → P first
    → ((a : Actor) → has_actor actors a ≡ true → P a → (n < a.node) ⊎ ((a.node ≡ n) × (from ≤ a.serial))) → IsLowestOf actors P first
first-lowest actors n from first P found one others = record {
  there = sym (read-at actors n first found.on_node) ∙ found.first_of.there;
  one = one;
  lowest = λ a has within.
      let own = found.on_node in
      elim (others a has within) [
        | inl beyond ↦ inr (inl (omega arith))
        | inr here ↦ elim (cases_order first.serial a.serial) [
          | inl same ↦ inl (λ i. record { node = (found.on_node ∙ sym here.0) i; serial = same i })
          | inr other ↦ elim other [
            | inl above ↦ inr (inr (found.on_node ∙ sym here.0, above))
            | inr below ↦ absurd (both_ways (has_actor actors a) (sym (read-at actors n a here.0) ∙ found.first_of.lowest a.serial here.1 below) has)
          ]
        ]
      ];
}

-- none is above the actor where none is on its node from the next serial on, and none on a node beyond
pub none-above : (actors : List Actor) (after : Actor) (n from beyond : ℕ) → n ≡ after.node → from ≡ after.serial + 1 → beyond ≡ after.node + 1
    → IsNoneOnFrom actors n from → IsOfNone actors (λ a. beyond ≤ a.node) → IsOfNone actors (IsAbove (Some after))
none-above actors after n from beyond on next past here others a has above = elim above [
  | inl far ↦ others a has (omega arith)
  | inr same ↦
      let own = same.0 in
      let more = same.1 in
      both_ways (has_actor actors a) (sym (read-at actors n a (sym (on ∙ own))) ∙ here a.serial (omega arith)) has
]
