use Rattle.std.proofs.Common.{[], ◌∷◌, subst, sym}
use Rattle.std.specs.Prelude.{IsSome}
use Rattle.history_model.specs.declared.events.Event.TheVariants.{Take}
use Rattle.behaviour_lang.specs.declared.act.List.TheVariants as lists
use Rattle.script_actors.specs.Standing.{AreActorsAt}
use Rattle.script_actors.specs.Table.{names_at}
use Rattle.script_progress.specs.Standing.{IsProgressAt}
use Rattle.true_config.specs.Applying.{first_refs}
use Rattle.history_model.specs.Messages.{waiting}
use Rattle.world_object.proofs.Effects.{happens-actors, happens-progress, may-take}
use Rattle.world_object.proofs.Openings.{names-there}
use Rattle.world_object.proofs.TurnEvents.{begun-stands, take-halts, taken-same, took}
use Rattle.world_object.proofs.parts.ClusterParts.take.Goals as goal

pub make-requires-clause-legal : goal.make-requires-clause-legal
make-requires-clause-legal c = (let may = may-take c.args.self.now c.requires.stands c.args.actor c.requires.may in may.legal)

pub begin_turn-requires : goal.begin_turn-requires
begin_turn-requires c =
    let old = c.args.self.now in
    let a = c.args.actor in
    let stands = c.requires.stands in
    let may = may-take old stands a c.requires.may in
    subst (λ t. IsSome (names_at t a)) (sym (happens-actors (Take a ∷ []) old c.make.new.self c.in-Ok.ensures.ok)) (names-there old.script.value old.world.past old.actors stands.actors a may.born may.idle)

pub returns-in-Ok-clause-stands : goal.returns-in-Ok-clause-stands
returns-in-Ok-clause-stands c =
    let old = c.args.self.now in
    let mid = c.make.new.self in
    let s = old.script.value in
    let h = old.world.past in
    let a = c.args.actor in
    let stands = c.requires.stands in
    let happens = c.in-Ok.ensures.ok in
    begun-stands old mid c.begin_turn.new.self (Take a) a lists.Message c.refs_in.result c.is_root-root.result c.takes.new.self c.begin_turn.result stands happens c.begin_turn.ensures
    (c.begin_turn.ensures.taken s h (subst (AreActorsAt s h) (sym (happens-actors (Take a ∷ []) old mid happens)) stands.actors))
    (c.takes.ensures.stands s h a (subst (IsProgressAt s h) (sym (happens-progress (Take a ∷ []) old mid happens)) stands.progress)) tt

pub returns-in-Ok-clause-ok : goal.returns-in-Ok-clause-ok
returns-in-Ok-clause-ok c =
    let old = c.args.self.now in
    let a = c.args.actor in
    took old c.make.new.self c.begin_turn.new.self a c.refs_in.result c.is_root-root.result c.takes.new.self c.begin_turn.result c.requires.stands c.in-Ok.ensures.ok c.begin_turn.ensures c.is_root-root.ensures
    (taken-same c.in-Ok.told c.refs_in.result (first_refs (waiting a old.world.past)) c.in-Ok.ensures.told c.refs_in.ensures)

pub returns-clause-halt : goal.returns-clause-halt
returns-clause-halt c =
    let old = c.args.self.now in
    let a = c.args.actor in
    let stands = c.requires.stands in
    let may = may-take old stands a c.requires.may in
    take-halts old a c.in-Err.halt (names-there old.script.value old.world.past old.actors stands.actors a may.born may.idle) c.in-Err.ensures.halt
