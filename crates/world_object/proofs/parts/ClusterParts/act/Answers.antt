use Rattle.std.proofs.Common.{◌≡◌, Some, None, refl, subst, sym}
use Rattle.std.specs.Prelude.{IfErr}
use Rattle.behaviour_lang.specs.declared.act.Act.TheVariants as acts
use Rattle.run_model.specs.Doing.{event_of}
use Rattle.operation_model.specs.declared.operations.Op.TheVariants as ops
use Rattle.world_object.specs.Answering.{Halts, refused_by}
use Rattle.world_object.specs.Turns.{IsNext}
use Rattle.world_object.proofs.TurnEvents.{plain-act, plain-halts}
use Rattle.world_object.proofs.parts.ClusterParts.act.Goals as goal

pub act_plainly-requires-clause-plain : goal.act_plainly-requires-clause-plain
act_plainly-requires-clause-plain c =
    let old = c.args.self.now in
    let a = c.args.actor in
    let act = acts.Send c.in-Send.to c.in-Send.refs in
    let next = subst (λ x. IsNext old a (Some x)) c.in-Send.is c.requires.next in
    let may = subst (λ x. refused_by old (ops.Act a x) ≡ None) c.in-Send.is c.requires.may in
    plain-act old c.requires.stands a act (event_of a (Some act)) next tt refl may

pub act_plainly-requires-in-Drop-clause-plain : goal.act_plainly-requires-in-Drop-clause-plain
act_plainly-requires-in-Drop-clause-plain c =
    let old = c.args.self.now in
    let a = c.args.actor in
    let act = acts.Drop c.in-Drop.target in
    let next = subst (λ x. IsNext old a (Some x)) c.in-Drop.is c.requires.next in
    let may = subst (λ x. refused_by old (ops.Act a x) ≡ None) c.in-Drop.is c.requires.may in
    plain-act old c.requires.stands a act (event_of a (Some act)) next tt refl may

pub act_plainly-requires-in-Retire-clause-plain : goal.act_plainly-requires-in-Retire-clause-plain
act_plainly-requires-in-Retire-clause-plain c =
    let old = c.args.self.now in
    let a = c.args.actor in
    let act = acts.Retire in
    let next = subst (λ x. IsNext old a (Some x)) c.in-Retire.is c.requires.next in
    let may = subst (λ x. refused_by old (ops.Act a x) ≡ None) c.in-Retire.is c.requires.may in
    plain-act old c.requires.stands a act (event_of a (Some act)) next tt refl may

pub returns-in-Send-clause-halt : goal.returns-in-Send-clause-halt
returns-in-Send-clause-halt c =
    let old = c.args.self.now in
    let a = c.args.actor in
    let act = acts.Send c.in-Send.to c.in-Send.refs in
    let r = c.act_plainly.result in
    subst (λ x. IfErr r (Halts old (ops.Act a x))) (sym c.in-Send.is) (plain-halts old c.act_plainly.new.self a act (event_of a (Some act)) tt refl r c.act_plainly.ensures.halt)
