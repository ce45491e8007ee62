-- What a change of the map of piles says of the piles and of the count of messages.
use Rattle.std.proofs.Common.{◌≡◌, ◌≢◌, ◌≤◌, ℕ, false, List, Option, None, Some, refl, sym, ◌∙◌, ap, subst, arith}
use Rattle.std.proofs.lemmas.Bool.Decides.{nat_tests}
use Rattle.std.proofs.lemmas.Map.Entries.{sum_by-insert_entry, sum_by-remove_entry, sum_by-set_value}
use Rattle.std.specs.BTreeMap.{BTreeMap, WritesThrough, insert_entry, is_at}
use Rattle.std.specs.Cmp.{nat_cmp_total}
use Rattle.std.specs.List.Sorted.{IsStrictlySortedBy}
use Rattle.std.specs.Map.{keys_of, remove_entry}
use Rattle.std.specs.Option.{IsSome, option_map, unwrap_or}
use Rattle.std.specs.Ordering.{nat_cmp}
use Rattle.link_table.specs.declared.piles.Pile.{Pile}
use Rattle.link_table.specs.Piled.{ChangesPile, kept_count, pile_at, weight}

-- another number is at no place of this one
pub number-apart : (k j : ℕ) → j ≢ k → is_at (nat_cmp k) j ≡ false
number-apart k j apart = grind (arith, nat_tests)

-- what a look-up found weighs
weight-found : (found : Option Pile) → unwrap_or (option_map (λ p. weight (Some p)) found) 0 ≡ weight found
weight-found None = refl
weight-found (Some p) = refl

-- what a number has is one of the messages
pub weight-kept : (piles : List (ℕ × Pile)) (k : ℕ) → weight (pile_at piles k) ≤ kept_count piles
weight-kept piles k =
    let part = sum_by-remove_entry (λ p. weight (Some p)) (is_at (nat_cmp k)) piles in
    let found = weight-found (pile_at piles k) in
    omega arith

-- a map that has one number more
pub pile_put : (old new : List (ℕ × Pile)) (k : ℕ) (pile : Pile) → IsStrictlySortedBy nat_cmp (keys_of old) → pile_at old k ≡ None → new ≡ insert_entry nat_cmp old k pile →
    pile_at new k ≡ Some pile → ((j : ℕ) → is_at (nat_cmp k) j ≡ false → pile_at new j ≡ pile_at old j) → ChangesPile old new k (Some pile)
pile_put old new k pile sorted none put here there = record {
  changed = here;
  others = λ j apart. there j (number-apart k j apart);
  count =
      let all = sum_by-insert_entry (λ p. weight (Some p)) nat_cmp_total old k pile sorted in
      let found = weight-found (pile_at old k) in
      let same = ap kept_count put in
      omega arith;
}

-- a map whose pile of one number is written
pub pile_written : (old new : BTreeMap ℕ Pile) (k : ℕ) (was is : Pile) → Some was ≡ pile_at old.entries k → WritesThrough nat_cmp (nat_cmp k) old is new → ChangesPile old.entries new.entries k (Some is)
pile_written old new k was is found written =
    let updates = written.3 (subst IsSome found refl) in
    record {
      changed = updates.1;
      others = λ j apart. updates.2 j (number-apart k j apart);
      count =
          let all = sum_by-set_value (λ p. weight (Some p)) (is_at (nat_cmp k)) old.entries was is (sym found) in
          let before = ap weight found in
          let same = ap kept_count written.0 in
          omega arith;
    }

-- a map whose pile of one number is written as a function of what was there
pub pile_changed : (change : Option Pile → Option Pile) (old new : BTreeMap ℕ Pile) (k : ℕ) (was is : Pile) → Some was ≡ pile_at old.entries k → WritesThrough nat_cmp (nat_cmp k) old is new → change (Some was) ≡ Some is
    → ChangesPile old.entries new.entries k (change (pile_at old.entries k))
pile_changed change old new k was is found written same =
    subst (ChangesPile old.entries new.entries k) (sym same ∙ ap change found) (pile_written old new k was is found written)

-- a map that a number has left
pub pile_removed : (old new : List (ℕ × Pile)) (k : ℕ) → new ≡ remove_entry (is_at (nat_cmp k)) old →
    pile_at new k ≡ None → ((j : ℕ) → is_at (nat_cmp k) j ≡ false → pile_at new j ≡ pile_at old j) → ChangesPile old new k None
pile_removed old new k left here there = record {
  changed = here;
  others = λ j apart. there j (number-apart k j apart);
  count =
      let all = sum_by-remove_entry (λ p. weight (Some p)) (is_at (nat_cmp k)) old in
      let found = weight-found (pile_at old k) in
      let same = ap kept_count left in
      omega arith;
}

-- where nothing changes
pub pile_same : (old : List (ℕ × Pile)) (k : ℕ) (pile : Option Pile) → pile ≡ pile_at old k → ChangesPile old old k pile
pile_same old k pile same = record { changed = sym same; others = λ j apart. refl; count = (let weights = ap weight same in omega arith) }
