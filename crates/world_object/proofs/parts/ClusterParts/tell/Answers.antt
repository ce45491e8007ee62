use Rattle.std.proofs.Common.{◌≡◌, ◌∙◌, ◌∷◌, ap, option_to_list, subst, sym, Some, None, if◌then◌else◌}
use Rattle.std.specs.Prelude.{IfErr, OnOk}
use Rattle.history_model.specs.declared.events.Event.TheVariants.{Flush, Publish}
use Rattle.run_model.specs.Follows.{added}
use Rattle.operation_model.specs.Answers.{AreLegal}
use Rattle.world_object.specs.Answering.{Happens, HaltsBefore}
use Rattle.world_object.proofs.parts.ClusterParts.tell.Goals as goal

pub make_both-requires-clause-legal : goal.make_both-requires-clause-legal
make_both-requires-clause-legal c =
    let old = c.args.self.now in
    let s = old.script.value in
    let h = old.world.past in
    let a = c.args.actor in
    let due : added s (Flush a) h ≡ Some (Publish c.node-node.result) = c.is_publish_due.ensures ∙ ap (λ v. if v then Some (Publish a.node) else None) c.if-is_publish_due.true ∙ ap (λ n. Some (Publish n)) (sym c.node-node.ensures) in
    subst (λ v. AreLegal s (Flush a ∷ option_to_list v) h) due c.requires.legal

pub returns-then-is_publish_due-clause-ok : goal.returns-then-is_publish_due-clause-ok
returns-then-is_publish_due-clause-ok c =
    let old = c.args.self.now in
    let s = old.script.value in
    let h = old.world.past in
    let a = c.args.actor in
    let due : added s (Flush a) h ≡ Some (Publish c.node-node.result) = c.is_publish_due.ensures ∙ ap (λ v. if v then Some (Publish a.node) else None) c.if-is_publish_due.true ∙ ap (λ n. Some (Publish n)) (sym c.node-node.ensures) in
    subst (λ v. OnOk c.make_both.result (Happens (Flush a ∷ option_to_list v) old c.make_both.new.self)) (sym due) c.make_both.ensures.ok

pub returns-then-is_publish_due-clause-halt : goal.returns-then-is_publish_due-clause-halt
returns-then-is_publish_due-clause-halt c =
    let old = c.args.self.now in
    let s = old.script.value in
    let h = old.world.past in
    let a = c.args.actor in
    let due : added s (Flush a) h ≡ Some (Publish c.node-node.result) = c.is_publish_due.ensures ∙ ap (λ v. if v then Some (Publish a.node) else None) c.if-is_publish_due.true ∙ ap (λ n. Some (Publish n)) (sym c.node-node.ensures) in
    subst (λ v. IfErr c.make_both.result (HaltsBefore old (Flush a ∷ option_to_list v))) (sym due) c.make_both.ensures.halt

pub returns-in-Ok-clause-ok : goal.returns-in-Ok-clause-ok
returns-in-Ok-clause-ok c =
    let old = c.args.self.now in
    let s = old.script.value in
    let h = old.world.past in
    let a = c.args.actor in
    let none : added s (Flush a) h ≡ None = c.is_publish_due.ensures ∙ ap (λ v. if v then Some (Publish a.node) else None) c.if-is_publish_due.false in
    subst (λ v. Happens (Flush a ∷ option_to_list v) old c.make.new.self) (sym none) c.in-Ok.ensures.ok
