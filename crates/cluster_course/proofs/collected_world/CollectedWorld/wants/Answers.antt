use Rattle.std.proofs.Common.{◌≡◌, ◌<◌, true, sym, subst}
use Rattle.history_model.specs.State.{is_up}
use Rattle.history_model.specs.Story.{Story}
use Rattle.node_collectors.specs.Wanted.{IsFirstUnhanded}
use Rattle.cluster_course.proofs.collected_world.CollectedWorld.wants.Goals as goal

pub returns-in-Some : goal.returns-in-Some
returns-in-Some c =
    let s = c.self.inside.world in
    let stand = rw c.in-Some.is at c.self.invariant.collectors in
    subst (λ (x : Story). IsFirstUnhanded c.args.to c.args.origin x.past c.wants.result) c.self.view_is
    (c.wants.ensures s.cluster s.past stand (subst (λ (x : Story). c.args.origin < x.cluster.nodes) (sym c.self.view_is) c.requires.origin)
    (subst (λ (x : Story). is_up c.args.to x.past ≡ true) (sym c.self.view_is) c.requires.up))
