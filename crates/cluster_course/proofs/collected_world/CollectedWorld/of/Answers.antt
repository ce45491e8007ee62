use Rattle.std.proofs.Common.{ap, arith, ◌∙◌}
use Rattle.evidence_report.specs.Stops.{stops_in}
use Rattle.evidence_report.proofs.Counting.{total-fits}
use Rattle.cluster_course.proofs.Courses.{course-made}
use Rattle.cluster_course.proofs.collected_world.CollectedWorld.of.Goals as goal

pub stopped_by_all-stopped-requires : goal.stopped_by_all-stopped-requires
stopped_by_all-stopped-requires c =
    let w = c.args.world in
    let fit = total-fits w.cluster w.past c.args.verdicts.items c.is_lawful.ensures.legal c.requires.verdicts in
    omega (arith, fit, ap stops_in c.as_slice.ensures.value, c.len-events.ensures, c.len-events.type_inv)

pub invariant_of-result : goal.invariant_of-result
invariant_of-result c =
    course-made c.args.world c.args.collectors c.args.verdicts.items c.stopped_by_all-stopped.result c.requires.within c.requires.collectors c.requires.verdicts
    (c.stopped_by_all-stopped.ensures ∙ ap stops_in c.as_slice.ensures.value)
