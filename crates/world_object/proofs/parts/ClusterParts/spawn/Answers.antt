use Rattle.std.specs.Prelude.{IfNone}
use Rattle.std.proofs.Common.{◌≡◌, ◌≤◌, ◌∙◌, ℕ, List, Some, ap, subst, sym}
use Rattle.crgc_ids.specs.Actor.{Actor}
use Rattle.history_model.specs.Cluster.{births}
use Rattle.behaviour_lang.specs.Bound.{local_names}
use Rattle.run_model.specs.Doing.{own_name}
use Rattle.script_actors.specs.Table.{AddsRow, IsHere, row}
use Rattle.world_object.specs.declared.parts.ClusterParts.{ClusterParts}
use Rattle.world_object.specs.Standing.{Stands}
use Rattle.world_object.proofs.Effects.{act-up}
use Rattle.behaviour_lang.specs.declared.act.Act.TheVariants as acts
use Rattle.world_object.proofs.TurnEvents.{ActsLeave, act-fits, born-here, born-stands, child-next, none-born, undone, was-ok}
use Rattle.world_object.proofs.parts.ClusterParts.spawn.Goals as goal

pub returns-in_default-clause-halt : goal.returns-in_default-clause-halt
returns-in_default-clause-halt c =
    let old = c.args.self.now in
    let a = c.args.actor in
    none-born old c.requires.stands a c.args.behaviour c.born.result c.requires.next (act-up old a (acts.Spawn c.args.behaviour) c.requires.may) (c.born.ensures ∙ ap (λ n. births n old.world.past) c.node-2.ensures) (subst (λ r. IfNone r (262144 ≤ c.born.result)) c.in_default.is c.new.ensures.none)

pub born-requires-2-clause-next : goal.born-requires-2-clause-next
born-requires-2-clause-next c =
    let old = c.args.self.now in
    child-next old c.requires.stands c.in-Some.child c.args.actor.node c.born.result (c.in-Some.ensures.some.0 ∙ c.node.ensures) c.in-Some.ensures.some.1 (c.born.ensures ∙ ap (λ n. births n old.world.past) c.node-2.ensures)

pub take_back-requires : goal.take_back-requires
take_back-requires c =
    let old = c.args.self.now in
    let stands = c.requires.stands in
    let child = c.in-Some.child in
    let next = child-next old stands child c.args.actor.node c.born.result (c.in-Some.ensures.some.0 ∙ c.node.ensures) c.in-Some.ensures.some.1 (c.born.ensures ∙ ap (λ n. births n old.world.past) c.node-2.ensures) in
    let born = was-ok c.born-2.result ((names : List (List ℕ × Actor)) × (local_names names ≡ own_name child) × AddsRow old.actors c.born-2.new.self child (row c.args.behaviour (Some names))) (sym c.is_err.ensures.value ∙ c.if-is_err.false) c.born-2.ensures.ok in
    subst (λ t. IsHere t child) (sym (ap (λ (p : ClusterParts). p.actors) c.in-Err.ensures.err)) (born-here old.actors c.born-2.new.self child c.args.behaviour (record { names = born.0; own = born.1; adds = born.2 }))

pub returns-in-Ok-clause-stands : goal.returns-in-Ok-clause-stands
returns-in-Ok-clause-stands c =
    let old = c.args.self.now in
    let stands = c.requires.stands in
    let child = c.in-Some.child in
    let next = child-next old stands child c.args.actor.node c.born.result (c.in-Some.ensures.some.0 ∙ c.node.ensures) c.in-Some.ensures.some.1 (c.born.ensures ∙ ap (λ n. births n old.world.past) c.node-2.ensures) in
    let born = was-ok c.born-2.result ((names : List (List ℕ × Actor)) × (local_names names ≡ own_name child) × AddsRow old.actors c.born-2.new.self child (row c.args.behaviour (Some names))) (sym c.is_err.ensures.value ∙ c.if-is_err.false) c.born-2.ensures.ok in
    let a = c.args.actor in
    let fits = act-fits old stands a (acts.Spawn c.args.behaviour) c.requires.next in
    let busy = c.requires.next in
    let rows = was-ok c.born-2.result _ (sym c.is_err.ensures.value ∙ c.if-is_err.false) c.born-2.ensures.born in
    let laws = c.acts_leave_the_actors.ensures in
    let leave : ActsLeave = record { sends = laws.sends; drops = laws.drops; retires = laws.retires } in
    let others = c.other_events_leave_the_progress.ensures in
    born-stands leave others.other old stands a c.make.new.self old c.born-2.new.self c.args.behaviour c.requires.next c.in-Ok.ensures.ok
    (rows old.script.value old.world.past a stands.actors (sym (c.in-Some.ensures.some.0 ∙ c.node.ensures)) busy.busy busy.due fits)

pub returns-clause-stands : goal.returns-clause-stands
returns-clause-stands c =
    let old = c.args.self.now in
    let stands = c.requires.stands in
    let child = c.in-Some.child in
    let next = child-next old stands child c.args.actor.node c.born.result (c.in-Some.ensures.some.0 ∙ c.node.ensures) c.in-Some.ensures.some.1 (c.born.ensures ∙ ap (λ n. births n old.world.past) c.node-2.ensures) in
    let born = was-ok c.born-2.result ((names : List (List ℕ × Actor)) × (local_names names ≡ own_name child) × AddsRow old.actors c.born-2.new.self child (row c.args.behaviour (Some names))) (sym c.is_err.ensures.value ∙ c.if-is_err.false) c.born-2.ensures.ok in
    subst Stands (sym (undone old c.make.new.self c.born-2.new.self c.take_back.new.self c.in-Err.ensures.err (c.take_back.ensures old.actors (row c.args.behaviour (Some born.0)) next (subst (λ t. AddsRow old.actors t child (row c.args.behaviour (Some born.0))) (sym (ap (λ (p : ClusterParts). p.actors) c.in-Err.ensures.err)) born.2)))) stands

pub returns-clause-err : goal.returns-clause-err
returns-clause-err c =
    let old = c.args.self.now in
    let stands = c.requires.stands in
    let child = c.in-Some.child in
    let next = child-next old stands child c.args.actor.node c.born.result (c.in-Some.ensures.some.0 ∙ c.node.ensures) c.in-Some.ensures.some.1 (c.born.ensures ∙ ap (λ n. births n old.world.past) c.node-2.ensures) in
    let born = was-ok c.born-2.result ((names : List (List ℕ × Actor)) × (local_names names ≡ own_name child) × AddsRow old.actors c.born-2.new.self child (row c.args.behaviour (Some names))) (sym c.is_err.ensures.value ∙ c.if-is_err.false) c.born-2.ensures.ok in
    undone old c.make.new.self c.born-2.new.self c.take_back.new.self c.in-Err.ensures.err (c.take_back.ensures old.actors (row c.args.behaviour (Some born.0)) next (subst (λ t. AddsRow old.actors t child (row c.args.behaviour (Some born.0))) (sym (ap (λ (p : ClusterParts). p.actors) c.in-Err.ensures.err)) born.2))
