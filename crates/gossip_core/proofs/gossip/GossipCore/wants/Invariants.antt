use Rattle.std.proofs.Common.{◌<◌, ◌≤◌, ℕ, IsSome}
use Rattle.gossip_core.specs.Gossip.{count_at, kept_at}
use Rattle.gossip_core.proofs.gossip.GossipCore.wants.Given as goal

abbrev pub invariant-loop-number : goal.invariant-loop-number
invariant-loop-number l = (k : ℕ) → count_at l.self l.origin ≤ k → k < l.number → IsSome (kept_at l.self l.origin k)
