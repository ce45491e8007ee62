use Rattle.std.proofs.Common.{◌≡◌, ◌≤◌, ◌+◌, ◌-◌, length}
use Rattle.ready_actors.specs.Members.{actors_from}
use Rattle.ready_actors.proofs.ready.reach.Given as goal

abbrev pub invariant-loop-alloc : goal.invariant-loop-alloc
invariant-loop-alloc l = (actors_from 0 l.nodes.items ≡ actors_from 0 l.fn.nodes.items) × (length l.fn.nodes.items ≤ 16 → length l.nodes.items ≤ 16)

abbrev pub decreases-loop-alloc : goal.decreases-loop-alloc
decreases-loop-alloc l = l.node + 1 - length l.nodes.items
