use Rattle.std.proofs.Common.{◌<◌, IsTrue, sym, ap, subst, arith}
use Rattle.history_model.specs.Cluster.{Cluster}
use Rattle.history_model.specs.State.{is_up}
use Rattle.cluster_round.proofs.HandLemmas.{hand-up}
use Rattle.cluster_round.proofs.handing.hand_next.Goals as goal

pub wants-requires-clause-to : goal.wants-requires-clause-to
wants-requires-clause-to c =
    let same = ap (λ (x : Cluster). x.nodes) c.in-Ok.ensures.cluster in
    omega (arith, same, c.requires.to)

pub wants-requires-clause-origin : goal.wants-requires-clause-origin
wants-requires-clause-origin c =
    let same = ap (λ (x : Cluster). x.nodes) c.in-Ok.ensures.cluster in
    omega (arith, same, c.requires.origin)

pub wants-requires-clause-up : goal.wants-requires-clause-up
wants-requires-clause-up c =
    let s = c.args.course.now in
    subst (λ g. IsTrue (is_up c.args.to g)) (sym c.in-Ok.ensures.ok)
    (hand-up s.cluster c.args.to c.args.to c.args.origin c.args.number s.past c.requires.up)
