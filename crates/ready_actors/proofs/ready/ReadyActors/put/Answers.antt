use Rattle.std.proofs.Common.{◌≡◌, ◌||◌, not, true, refl, sym, ◌∙◌, ap}
use Rattle.std.proofs.lemmas.Bool.{lt-ltb}
use Rattle.std.proofs.lemmas.Result.{IfOk-weaker}
use Rattle.crgc_ids.specs.Actor.{same_actor}
use Rattle.ready_actors.specs.Flags.{has_flag}
use Rattle.ready_actors.specs.Members.{actors_from}
use Rattle.ready_actors.specs.Ready.{has_actor}
use Rattle.ready_actors.proofs.MemberLemmas.{has-found, or-cond, written-found}
use Rattle.ready_actors.proofs.ready.ReadyActors.put.Goals as goal

pub returns-clause-ok : goal.returns-clause-ok
returns-clause-ok c =
    let nodes = c.reach.new.nodes.items in
    let before = c.index_mut.result.now in
    let words = c.put.new.self in
    let actor = c.args.actor in
    let same = c.in_ok-reach.ensures.actors ∙ c.self.view_is in
    IfOk-weaker c.put.result _ _ (λ added flags a. written-found nodes c.get-node.result c.serial.result before words true actor (c.get-node.ensures.number ∙ c.node.ensures) c.serial.ensures.number c.in_ok-reach.ensures.ok c.index_mut.ensures.value flags a
    ∙ or-cond (same_actor actor a) (has_actor (actors_from 0 nodes) a) ∙ ap (λ actors. same_actor actor a || has_actor actors a) same)
    c.put.ensures.ok

pub returns-clause-added : goal.returns-clause-added
returns-clause-added c =
    let nodes = c.reach.new.nodes.items in
    let before = c.index_mut.result.now in
    let actor = c.args.actor in
    let same = c.in_ok-reach.ensures.actors ∙ c.self.view_is in
    let here : has_actor c.args.self.now actor ≡ has_flag before c.serial.result =
    ap (λ actors. has_actor actors actor) (sym same)
    ∙ has-found nodes nodes c.get-node.result before actor refl (c.get-node.ensures.number ∙ c.node.ensures) (sym (lt-ltb c.get-node.result _ c.in_ok-reach.ensures.ok)) c.index_mut.ensures.value
    ∙ ap (has_flag before) (sym c.serial.ensures.number) in
    IfOk-weaker c.put.result _ _ (λ added is. is ∙ ap not (sym here)) c.put.ensures.added
