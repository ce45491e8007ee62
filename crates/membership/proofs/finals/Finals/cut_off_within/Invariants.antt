use Rattle.std.proofs.Common.{◌≡◌, ◌&&◌}
use Rattle.std.specs.List.{filter}
use Rattle.crgc_ids.specs.LostNodes.{is_cut_off}
use Rattle.crgc_ids.specs.Nodes.{has_node, nodes_below}
use Rattle.membership.specs.Noted.{links_of}
use Rattle.membership.proofs.finals.Finals.cut_off_within.Given as goal

abbrev pub invariant-loop-number : goal.invariant-loop-number
invariant-loop-number l = l.kept ≡ filter (λ s. has_node l.set s && is_cut_off l.self.nodes (links_of l.self) l.set s) (nodes_below l.number)
