use Rattle.std.proofs.Common.{rules, subst, sym}
use Rattle.std.proofs.lemmas.Bool.{ne_eqb}
use Rattle.history_model.specs.declared.events.Event.TheVariants.{Sweep}
use Rattle.history_model.specs.Sweeps.{IsVerdict}
use Rattle.true_config.specs.Promises.{IsFoundBySweep}
use Rattle.node_collectors.specs.Standing.{SweepsOut}
use Rattle.node_collectors.proofs.StandLemmas.{if_ok-on, if_ok-then, row-at, row-changes, swept-at, swept-verdict}
use Rattle.node_collectors.proofs.collectors.NodeCollectors.sweep.Goals as goal

pub sweep_out-requires : goal.sweep_out-requires
sweep_out-requires c =
    let w = c.args.world.now in
    (row-at w.cluster w.past c.args.self.now c.self.inside.rows.items c.get.result c.args.node (search rules) c.get.ensures.number c.requires.stand c.index_mut.result.now c.requires.node c.requires.up c.index_mut.ensures.value).settled

pub returns-clause-verdict : goal.returns-clause-verdict
returns-clause-verdict c =
    let w = c.args.world.now in
    let was = c.index_mut.result.now in
    let at = row-at w.cluster w.past c.args.self.now c.self.inside.rows.items c.get.result c.args.node (search rules) c.get.ensures.number c.requires.stand was c.requires.node c.requires.up c.index_mut.ensures.value in
    if_ok-then (SweepsOut was c.sweep_out.new.collector) (IsVerdict w.cluster c.args.node w.past) c.sweep_out.result
    (λ v sweeps. swept-verdict w.cluster w.past c.args.node was c.sweep_out.new.collector v c.is_lawful.ensures.legal at sweeps) c.sweep_out.ensures.ok

pub returns-clause-found : goal.returns-clause-found
returns-clause-found c =
    let w = c.args.world.now in
    let was = c.index_mut.result.now in
    let at = row-at w.cluster w.past c.args.self.now c.self.inside.rows.items c.get.result c.args.node (search rules) c.get.ensures.number c.requires.stand was c.requires.node c.requires.up c.index_mut.ensures.value in
    if_ok-then (SweepsOut was c.sweep_out.new.collector) (IsFoundBySweep w) c.sweep_out.result
    (λ v sweeps legal. (
    let is = swept-verdict w.cluster w.past c.args.node was c.sweep_out.new.collector v c.is_lawful.ensures.legal at sweeps in
    subst (λ n. IsVerdict w.cluster n w.past v) (sym is.node) is
    )) c.sweep_out.ensures.ok

pub returns-clause-ok : goal.returns-clause-ok
returns-clause-ok c =
    let w = c.args.world.now in
    let was = c.index_mut.result.now in
    let items = c.self.inside.rows.items in
    let at = row-at w.cluster w.past c.args.self.now items c.get.result c.args.node (search rules) c.get.ensures.number c.requires.stand was c.requires.node c.requires.up c.index_mut.ensures.value in
    if_ok-on (SweepsOut was c.sweep_out.new.collector) _ c.sweep_out.result
    (λ v sweeps. row-changes w.cluster w.past c.args.self.now items c.get.result c.args.node (search rules) c.get.ensures.number c.requires.stand (Sweep c.args.node) c.sweep_out.new.collector
    (λ m apart. ne_eqb c.args.node m (λ e. apart (sym e)))
    (swept-at w.cluster w.past c.args.node was c.sweep_out.new.collector v c.is_lawful.ensures.legal at sweeps)) c.sweep_out.ensures.ok
