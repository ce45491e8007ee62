use Rattle.std.proofs.Common.{◌≡◌, ◌⊎◌, ◌<◌, ℕ, length, true}
use Rattle.kept_marks.specs.PlaceSet.{has_place}
use Rattle.kept_marks.proofs.steps.put_all.Given as goal

abbrev pub invariant-loop-place : goal.invariant-loop-place
invariant-loop-place l =
    (length l.set ≡ length l.initial.set)
    × ((a : ℕ) → has_place l.initial.set a ≡ true → has_place l.set a ≡ true)
    × ((a : ℕ) → a < l.place → has_place l.set a ≡ true)
    × ((a : ℕ) → has_place l.set a ≡ true → (has_place l.initial.set a ≡ true) ⊎ (a < l.place))
