use Rattle.std.proofs.Common.{sym}
use Rattle.cluster_course.proofs.Courses.{course-begun}
use Rattle.cluster_course.proofs.collected_world.CollectedWorld.begin.Goals as goal

pub invariant_of-result : goal.invariant_of-result
invariant_of-result c =
    course-begun c.args.world c.in_ok-new.field-0 c.args.keeps_all c.new-2.result.items c.nodes-nodes.result c.requires (sym c.nodes-nodes.ensures.nodes) c.in_ok-new.ensures c.new-2.ensures.items
