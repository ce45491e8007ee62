use Rattle.std.proofs.Common.{◌≡◌, sym, ◌∙◌, subst}
use Rattle.history_model.specs.Story.{Story}
use Rattle.true_config.specs.Applying.{told_of}
use Rattle.true_config.specs.Steps.{Adds, MayFollow}
use Rattle.cluster_course.specs.Halting.{IsHalt}
use Rattle.cluster_course.proofs.Courses.{course-plain}
use Rattle.cluster_course.proofs.Outcomes.{is-halt, may-follow, on-done, tells}
use Rattle.cluster_course.proofs.collected_world.CollectedWorld.happen.Goals as goal

pub invariant_of-self : goal.invariant_of-self
invariant_of-self c =
    let e = c.args.event in
    let s = c.self.inside.world in
    let t = c.apply.new.self in
    let done = sym c.was_done.ensures ∙ c.in-Ok.is in
    let may = may-follow e s c.apply.result c.in-Ok.told c.apply.ensures.answer done in
    let adds = on-done c.apply.result c.in-Ok.told (Adds e s t) c.apply.ensures.done done in
    course-plain s t c.self.inside.collectors c.self.inside.keeps_all c.self.inside.verdicts.items c.forget.new.verdicts.items c.self.inside.stopped e c.self.invariant may adds c.requires.other c.forget.ensures.kept

pub returns-in-Ok-clause-told : goal.returns-in-Ok-clause-told
returns-in-Ok-clause-told c =
    subst (λ (x : Story). c.in-Ok.told ≡ told_of c.args.event x.past) c.self.view_is
    (tells c.args.event c.self.inside.world c.apply.result c.in-Ok.told c.apply.ensures.answer (sym c.was_done.ensures ∙ c.in-Ok.is))

pub returns-in-Ok-clause-may : goal.returns-in-Ok-clause-may
returns-in-Ok-clause-may c =
    subst (MayFollow c.args.event) c.self.view_is
    (may-follow c.args.event c.self.inside.world c.apply.result c.in-Ok.told c.apply.ensures.answer (sym c.was_done.ensures ∙ c.in-Ok.is))

pub returns-clause-halt : goal.returns-clause-halt
returns-clause-halt c =
    subst (λ (x : Story). IsHalt c.in-Err.halt c.args.event x) c.self.view_is
    (is-halt c.args.event c.self.inside.world c.apply.result c.in-Err.halt c.apply.ensures.answer (sym c.was_done.ensures ∙ c.in-Err.is))
