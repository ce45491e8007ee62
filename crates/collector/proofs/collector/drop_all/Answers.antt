use Rattle.std.proofs.Common.{◌≡◌, ◌+◌, ◌++◌, ◌∷◌, ◌∙◌, [], ap, subst, sym, take, true}
use Rattle.std.proofs.lemmas.List.{take_all, take_more}
use Rattle.shadow_table.specs.Shadows.{is_named}
use Rattle.collector.specs.Traced.{DropsAll}
use Rattle.collector.proofs.DropLemmas.{drops-more, drops-none}
use Rattle.collector.proofs.SweepLemmas.{all-at}
use Rattle.collector.proofs.collector.drop_all.Goals as goal

pub loop-actor-init : goal.loop-actor-init
loop-actor-init c = drops-none c.args.graph.now

pub drop_actor-requires : goal.drop_actor-requires
drop_actor-requires c =
    let a = c.actor-item.result in
    ap (λ xs. is_named xs a) c.loop-actor.invariant.names ∙ ap (is_named c.args.graph.now.graph.shadows.names) c.actor-item.is
    ∙ all-at (λ b. is_named c.args.graph.now.graph.shadows.names b ≡ true) c.args.gone.now c.loop-actor.actor-index a c.requires c.loop-actor-test.true

pub loop-actor-preserved : goal.loop-actor-preserved
loop-actor-preserved c =
    let i = c.loop-actor.actor-index in
    let a = c.actor-item.result in
    let more : take (i + 1) c.args.gone.now ≡ take i c.args.gone.now ++ a ∷ [] =
    take_more c.args.gone.now i a c.loop-actor-test.true ∙ ap (λ x. take i c.args.gone.now ++ x ∷ []) (sym c.actor-item.is) in
    drops-more (take i c.args.gone.now) (take (i + 1) c.args.gone.now) a c.args.graph.now c.loop-actor.graph c.drop_actor.new.self more
    c.drop_actor.ensures.drops c.drop_actor.ensures.marks c.drop_actor.ensures.stands c.loop-actor.invariant

pub returns : goal.returns
returns c =
    subst (λ xs. DropsAll xs c.args.graph.now c.loop-actor.graph) (take_all c.loop-actor.actor-index c.args.gone.now c.loop-actor-test.false) c.loop-actor.invariant
