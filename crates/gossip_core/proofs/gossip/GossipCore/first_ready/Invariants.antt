use Rattle.std.proofs.Common.{◌≡◌, ◌<◌, ℕ, None}
use Rattle.gossip_core.specs.Gossip.{count_at, kept_at}
use Rattle.gossip_core.proofs.gossip.GossipCore.first_ready.Given as goal

abbrev pub invariant-loop-number : goal.invariant-loop-number
invariant-loop-number l = (o : ℕ) → o < l.number → kept_at l.self o (count_at l.self o) ≡ None
