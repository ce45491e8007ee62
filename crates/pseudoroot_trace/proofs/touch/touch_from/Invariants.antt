use Rattle.std.proofs.Common.{◌≡◌, ◌<◌, ◌≤◌, ℕ, true}
use Rattle.kept_marks.specs.PlaceSet.{has_place}
use Rattle.pseudoroot_trace.specs.Traced.{TouchesMore}
use Rattle.pseudoroot_trace.proofs.touch.touch_from.Given as goal

abbrev pub invariant-loop-place : goal.invariant-loop-place
invariant-loop-place l =
    TouchesMore l.to l.initial.kept l.kept × ((a : ℕ) → l.from ≤ a → a < l.place → has_place l.kept.touched a ≡ true)
