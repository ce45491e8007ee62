use Rattle.std.proofs.Common.{◌≡◌, ◌||◌, true}
use Rattle.std.specs.List.{list_all}
use Rattle.crgc_ids.specs.LostNodes.{has_link}
use Rattle.crgc_ids.specs.Nodes.{has_node, nodes_below}
use Rattle.membership.specs.Noted.{links_of}
use Rattle.membership.proofs.finals.Finals.is_cut_off.Given as goal

abbrev pub invariant-loop-number : goal.invariant-loop-number
invariant-loop-number l = list_all (λ d. has_node l.set d || has_link (links_of l.self) l.from d) (nodes_below l.number) ≡ true
