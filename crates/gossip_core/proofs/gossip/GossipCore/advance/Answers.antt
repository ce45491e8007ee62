use Rattle.std.proofs.Common.{refl, subst, sym}
use Rattle.std.specs.Option.{IsSome}
use Rattle.gossip_core.specs.Gossip.{Gossip, count_at, kept_at}
use Rattle.gossip_core.proofs.OrderLemmas.{IsWithout, in_order-without, takes_out, without}
use Rattle.gossip_core.proofs.gossip.GossipCore.advance.Goals as goal
use Rattle.gossip_core.proofs.gossip.GossipCore.advance.Goals.{Joined-remove}

abbrev before : Joined-remove → Gossip
before c = record { nodes = c.self.inside.nodes; cut = c.self.inside.cut; kept = c.self.inside.kept.entries }

abbrev between : Joined-remove → Gossip
between c = record { nodes = c.self.inside.nodes; cut = c.self.inside.cut; kept = c.remove.new.self.entries }

out : (c : Joined-remove) → IsWithout (before c) (between c) c.args.origin
out c = without (before c) (between c) c.args.origin c.at.result c.at.ensures.value refl refl c.remove.ensures.updates.1 c.remove.ensures.updates.2

has : (c : Joined-remove) → IsSome (kept_at (before c) c.args.origin (count_at (before c) c.args.origin))
has c = subst (λ g. IsSome (kept_at g c.args.origin (count_at g c.args.origin))) (sym c.self.view_is) c.requires

pub invariant_of-self : goal.invariant_of-self
invariant_of-self c = in_order-without (before c) (between c) c.args.origin c.self.invariant (out c)

pub pass-requires-clause-missing : goal.pass-requires-clause-missing
pass-requires-clause-missing c = (out (goal.at.pass-requires-clause-missing c).Joined-remove).here

pub returns : goal.returns
returns c =
    let j = (goal.at.returns c).Joined-remove in
    rw (← c.self.view_is)
    (takes_out (before j) (between j) c.pass.new.self c.args.origin c.at.result c.remove.result c.at.ensures.value (has j) c.remove.ensures.value c.remove.ensures.len (out j) c.pass.ensures)
