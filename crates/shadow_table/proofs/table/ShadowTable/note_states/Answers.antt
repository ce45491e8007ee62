use Rattle.std.proofs.Common.{◌∙◌, ap, arith, refl}
use Rattle.crgc_ids.specs.Actor.{same_actor}
use Rattle.crgc_ids.proofs.ActorLaws.{same_actor-decides}
use Rattle.history_model.specs.declared.records.StateRow.{StateRow}
use Rattle.shadow_table.specs.declared.table.Shadow.{Shadow}
use Rattle.shadow_table.proofs.RowLemmas.{total-fits}
use Rattle.shadow_table.proofs.ShadowLemmas.{states-more}
use Rattle.shadow_table.proofs.table.ShadowTable.note_states.Goals as goal

pub note_state-requires-clause-fits : goal.note_state-requires-clause-fits
note_state-requires-clause-fits c =
    let row = c.row-item.result in
    let so_far = ap (λ (s : Shadow). s.received) (c.loop-row.invariant.shadows row.actor) in
    let whole = c.requires.fits row.actor in
    let part = total-fits same_actor (λ (r : StateRow). r.actor) (λ (r : StateRow). r.received) c.args.rows.now c.loop-row.row-index row c.loop-row-test.true c.row-item.is ((same_actor-decides row.actor row.actor).1 refl) in
    omega arith

pub loop-row-preserved : goal.loop-row-preserved
loop-row-preserved c = record {
  names = c.note_state.ensures.names ∙ c.loop-row.invariant.names;
  shadows = λ a. states-more c.args.node a c.args.rows.now c.loop-row.row-index c.row-item.result _ _ _ c.loop-row-test.true c.row-item.is (c.loop-row.invariant.shadows a) (c.note_state.ensures.shadows a);
}
