use Rattle.std.proofs.Common.{◌≡◌, vec_capacity}
use Rattle.place_marks.proofs.RoundLemmas.{IsListed}
use Rattle.place_marks.proofs.rounds.list_marked.Given as goal

abbrev pub invariant-loop-place : goal.invariant-loop-place
invariant-loop-place l =
    IsListed l.marks l.place l.order.items × (vec_capacity l.order ≡ vec_capacity l.initial.order)
