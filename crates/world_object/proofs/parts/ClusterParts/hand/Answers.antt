use Rattle.std.proofs.Common.{[], ◌∷◌, refl, subst}
use Rattle.history_model.specs.Story.{Story}
use Rattle.history_model.specs.declared.events.Event.TheVariants.{Hand}
use Rattle.operation_model.specs.declared.operations.Op.TheVariants as ops
use Rattle.operation_model.specs.declared.replies.Reply.TheVariants as replies
use Rattle.world_object.specs.Answering.{HaltsBefore}
use Rattle.world_object.specs.Searching.{SpellsNumber}
use Rattle.world_object.proofs.Effects.{halts-before}
use Rattle.world_object.proofs.parts.ClusterParts.hand.Goals as goal

pub returns-in-Err-clause-halt : goal.returns-in-Err-clause-halt
returns-in-Err-clause-halt c =
    let old = c.args.self.now in
    let bytes = c.in-Ok.bytes in
    let spells = subst (λ (w : Story). SpellsNumber old.script.value w.past c.args.origin c.args.number bytes) c.keep_spelling.ensures c.in-Ok.ensures in
    let halts = subst (λ (w : Story). HaltsBefore (record old { world = w }) (Hand c.args.node c.args.origin c.args.number ∷ []) c.in-Err.halt) c.keep_spelling.ensures c.in-Err.ensures.halt in
    halts-before (ops.Hand c.args.node c.args.origin c.args.number) old (replies.Bytes bytes) (Hand c.args.node c.args.origin c.args.number ∷ []) c.in-Err.halt (bytes, spells.0, refl, spells.1, spells.2) refl halts
