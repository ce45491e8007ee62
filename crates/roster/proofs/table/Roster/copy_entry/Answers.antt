use Rattle.std.proofs.Common.{IfOk, IsTrue, sym, ◌∙◌, subst}
use Rattle.entry_records.specs.Log.{IsEntryOf}
use Rattle.actor_states.specs.State.{flags_of, has_news}
use Rattle.node_actors.specs.Node.{NodeState, state_in}
use Rattle.roster.proofs.TableLemmas.{here-below, node-found}
use Rattle.roster.proofs.table.Roster.copy_entry.Goals as goal

pub copy_entry-requires-clause-due : goal.copy_entry-requires-clause-due
copy_entry-requires-clause-due c =
    let old = c.self.inside in
    let place = c.get.ensures.number ∙ c.node.ensures in
    let below = here-below c.args.self.now c.args.actor c.requires.here.born in
    let found = node-found old.version old.nodes.items c.args.self.now c.get.result c.args.actor.node c.index.result.now c.self.view_is place below c.index.ensures in
    subst (λ (n : NodeState). IsTrue (has_news (state_in n c.args.actor.serial))) (sym found) c.requires.due

pub returns : goal.returns
returns c =
    let old = c.self.inside in
    let place = c.get.ensures.number ∙ c.node.ensures in
    let below = here-below c.args.self.now c.args.actor c.requires.here.born in
    let found = node-found old.version old.nodes.items c.args.self.now c.get.result c.args.actor.node c.index.result.now c.self.view_is place below c.index.ensures in
    subst (λ (n : NodeState). IfOk c.copy_entry.result (λ e. IsEntryOf (state_in n c.args.actor.serial).log (flags_of (state_in n c.args.actor.serial)) e)) found c.copy_entry.ensures
