use Rattle.std.proofs.Common.{◌≡◌, false, refl, ◌∙◌}
use Rattle.std.proofs.lemmas.Result.{on_ok_weaker}
use Rattle.actor_states.specs.State.{State}
use Rattle.roster.proofs.TableLemmas.{here-below, lift-changes}
use Rattle.roster.proofs.table.Roster.retire.Goals as goal

pub returns-clause-ok : goal.returns-clause-ok
returns-clause-ok c =
    let old = c.self.inside in
    let place = c.get.ensures.number ∙ c.node.ensures in
    let below = here-below c.args.self.now c.args.actor c.requires.born in
    on_ok_weaker c.retire.result (λ changes. lift-changes old.version old.nodes.items c.args.self.now c.get.result c.args.actor.node c.index_mut.result.now c.retire.new.self c.self.view_is place below c.index_mut.ensures.value c.args.actor (λ (s : State) t. t ≡ record s { root = false }) refl changes) c.retire.ensures.ok
