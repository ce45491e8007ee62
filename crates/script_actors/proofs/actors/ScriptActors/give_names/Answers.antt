use Rattle.std.proofs.Common.{None, subst}
use Rattle.script_actors.specs.Table.{SetsRow, row}
use Rattle.script_actors.proofs.Standings.{names-here, taken-stands, woken-stands}
use Rattle.script_actors.proofs.actors.ScriptActors.give_names.Goals as goal

pub returns-clause-woken : goal.returns-clause-woken
returns-clause-woken c = λ s h stands.
    woken-stands s h c.args.actor c.args.self.now c.take_names.new.self stands (names-here c.args.self.now c.args.actor c.requires)
    (subst (λ b. SetsRow c.args.self.now c.take_names.new.self c.args.actor (row b None)) c.behaviour-behaviour.ensures c.take_names.ensures.out)

pub returns-clause-taken : goal.returns-clause-taken
returns-clause-taken c = λ s h stands.
    taken-stands s h c.args.actor c.args.self.now c.take_names.new.self stands (names-here c.args.self.now c.args.actor c.requires)
    (subst (λ b. SetsRow c.args.self.now c.take_names.new.self c.args.actor (row b None)) c.behaviour-behaviour.ensures c.take_names.ensures.out)
