use Rattle.std.proofs.Common.{◌≡◌, ◌<◌, ℕ, None, subst, sym}
use Rattle.gossip_core.specs.Gossip.{Gossip, count_at, kept_at}
use Rattle.gossip_core.proofs.OrderLemmas.{first_found}
use Rattle.gossip_core.proofs.gossip.GossipCore.first_ready.Goals as goal

pub returns-in-Some-clause-some : goal.returns-in-Some-clause-some
returns-in-Some-clause-some c =
    let g : Gossip = record { nodes = c.self.inside.nodes; cut = c.self.inside.cut; kept = c.self.inside.kept.entries } in
    let none = subst (λ (g : Gossip). (o : ℕ) → o < c.loop-number.number → kept_at g o (count_at g o) ≡ None) (sym c.self.view_is) c.loop-number.invariant in
    rw (← c.self.view_is) (first_found g c.node-origin.result c.at.result c.loop-number.number c.in-Some.b.now c.self.invariant c.node-origin.ensures c.at.ensures.value (c.in-Some.ensures.value) none)
