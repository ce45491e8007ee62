use Rattle.std.proofs.Common.{IsTrue, length, refl, sym, ◌∙◌, ap, subst, arith}
use Rattle.entry_records.specs.Log.{IsEntryOf}
use Rattle.actor_states.specs.State.{Flushes, flags_of, has_news}
use Rattle.node_actors.specs.Node.{NodeState, state_in}
use Rattle.roster.specs.Table.{Table}
use Rattle.roster.proofs.TableLemmas.{here-below, lift-changes, node-found, numbered-set}
use Rattle.roster.proofs.table.Roster.flush.Goals as goal

pub flush-requires-clause-due : goal.flush-requires-clause-due
flush-requires-clause-due c =
    let old = c.self.inside in
    let place = c.get.ensures.number ∙ c.node.ensures in
    let below = here-below c.args.self.now c.args.actor c.requires.here.born in
    let found = node-found old.version old.nodes.items c.args.self.now c.get.result c.args.actor.node c.index_mut.result.now c.self.view_is place below c.index_mut.ensures.value in
    subst (λ (n : NodeState). IsTrue (has_news (state_in n c.args.actor.serial))) (sym found) c.requires.due

pub invariant_of-self : goal.invariant_of-self
invariant_of-self c =
    let old = c.self.inside in
    let place = c.get.ensures.number ∙ c.node.ensures in
    let below = here-below c.args.self.now c.args.actor c.requires.here.born in
    let long = ap (λ (t : Table). length t.nodes) c.self.view_is in
    numbered-set old.nodes.items c.get.result c.index_mut.result.now c.flush.new.self c.self.invariant (omega (arith, below, place)) c.index_mut.ensures.value c.flush.ensures.after.node.0

pub returns-clause-entry : goal.returns-clause-entry
returns-clause-entry c =
    let old = c.self.inside in
    let place = c.get.ensures.number ∙ c.node.ensures in
    let below = here-below c.args.self.now c.args.actor c.requires.here.born in
    let found = node-found old.version old.nodes.items c.args.self.now c.get.result c.args.actor.node c.index_mut.result.now c.self.view_is place below c.index_mut.ensures.value in
    subst (λ (n : NodeState). IsEntryOf (state_in n c.args.actor.serial).log (flags_of (state_in n c.args.actor.serial)) c.flush.result) found c.flush.ensures.entry

pub returns-clause-after : goal.returns-clause-after
returns-clause-after c =
    let old = c.self.inside in
    let place = c.get.ensures.number ∙ c.node.ensures in
    let below = here-below c.args.self.now c.args.actor c.requires.here.born in
    lift-changes old.version old.nodes.items c.args.self.now c.get.result c.args.actor.node c.index_mut.result.now c.flush.new.self c.self.view_is place below c.index_mut.ensures.value c.args.actor Flushes refl c.flush.ensures.after
