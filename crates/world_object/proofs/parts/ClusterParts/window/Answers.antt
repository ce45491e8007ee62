use Rattle.std.proofs.Common.{◌≡◌, ◌∙◌, option_map, refl, subst, sym, Some}
use Rattle.history_model.specs.declared.events.Event.TheVariants.{Window}
use Rattle.operation_model.specs.Answers.{AreLegal}
use Rattle.operation_model.specs.Courses.{next_window, with_added}
use Rattle.operation_model.specs.declared.operations.Op.TheVariants as ops
use Rattle.operation_model.specs.declared.replies.Reply.TheVariants as replies
use Rattle.world_object.proofs.Openings.{grants-legal}
use Rattle.world_object.proofs.parts.ClusterParts.window.Goals as goal

pub done-requires-clause-legal : goal.done-requires-clause-legal
done-requires-clause-legal c =
    let old = c.args.self.now in
    let s = old.script.value in
    let h = old.world.past in
    let next : next_window s c.args.at h ≡ Some c.unwrap-from.result = sym c.next_window.ensures ∙ c.unwrap-from.ensures in
    (subst (λ v. AreLegal s (with_added s (option_map (Window c.args.at) v) h) h) next (grants-legal old c.requires.stands (ops.Window c.args.at) replies.Done tt c.requires.may refl)).0
