use Rattle.std.proofs.Common.{◌≡◌, [], ◌∷◌, refl, sym, ◌∙◌, subst}
use Rattle.std.proofs.lemmas.Result.{on_ok_weaker}
use Rattle.history_model.specs.Facts.{created}
use Rattle.actor_states.specs.State.{HasRoom, noting}
use Rattle.node_actors.specs.Node.{NodeState, state_in}
use Rattle.roster.proofs.TableLemmas.{here-below, lift-changes, node-found}
use Rattle.roster.proofs.table.Roster.note_created.Goals as goal

pub note_created-requires-clause-fits : goal.note_created-requires-clause-fits
note_created-requires-clause-fits c =
    let old = c.self.inside in
    let place = c.get.ensures.number ∙ c.node.ensures in
    let below = here-below c.args.self.now c.args.target c.requires.here.born in
    let found = node-found old.version old.nodes.items c.args.self.now c.get.result c.args.target.node c.index_mut.result.now c.self.view_is place below c.index_mut.ensures.value in
    subst (λ (n : NodeState). HasRoom (state_in n c.args.target.serial) 1) (sym found) c.requires.fits

pub returns-clause-ok : goal.returns-clause-ok
returns-clause-ok c =
    let old = c.self.inside in
    let place = c.get.ensures.number ∙ c.node.ensures in
    let below = here-below c.args.self.now c.args.target c.requires.here.born in
    on_ok_weaker c.note_created.result (λ changes. lift-changes old.version old.nodes.items c.args.self.now c.get.result c.args.target.node c.index_mut.result.now c.note_created.new.self c.self.view_is place below c.index_mut.ensures.value c.args.target (λ s t. t ≡ noting (created c.args.owner c.args.target ∷ []) s) refl changes) c.note_created.ensures.ok
