use Rattle.std.proofs.Common.{◌≡◌, ◌==◌}
use Rattle.std.specs.List.{filter, list_any}
use Rattle.crgc_ids.specs.Nodes.{nodes_below}
use Rattle.membership.specs.Noted.{links_of}
use Rattle.membership.proofs.finals.Finals.removed.Given as goal

abbrev pub invariant-loop-number : goal.invariant-loop-number
invariant-loop-number l = l.removed ≡ filter (λ s. list_any (λ k. s == k.0) (links_of l.self)) (nodes_below l.number)
