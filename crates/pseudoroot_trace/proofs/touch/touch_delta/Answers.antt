use Rattle.std.proofs.Common.{subst}
use Rattle.history_model.specs.Ledgers.{delta_ledger}
use Rattle.crgc_ids.specs.declared.rising.ActorCount.{ActorCount}
use Rattle.crgc_ids.specs.declared.rising.PairCount.{PairCount}
use Rattle.history_model.specs.declared.records.StateRow.{StateRow}
use Rattle.kept_marks.specs.Kept.{Kept}
use Rattle.pseudoroot_trace.specs.Traced.{TouchesMore}
use Rattle.pseudoroot_trace.proofs.TouchLemmas.{AllLooked, looked-all, looked-ledger, room-stays, touches-more}
use Rattle.pseudoroot_trace.proofs.touch.touch_delta.Goals as goal
use Rattle.pseudoroot_trace.proofs.touch.touch_delta.Goals.{After-touch_targets-2}

pub touch_counts-requires : goal.touch_counts-requires
touch_counts-requires c = room-stays c.args.places c.args.places _ _ c.touch_states.ensures.touches c.requires

pub touch_targets-requires : goal.touch_targets-requires
touch_targets-requires c =
    room-stays c.args.places c.args.places _ _ (touches-more c.args.places _ _ _ c.touch_states.ensures.touches c.touch_counts.ensures.touches) c.requires

pub touch_targets-requires-2 : goal.touch_targets-requires-2
touch_targets-requires-2 c =
    room-stays c.args.places c.args.places _ _
    (touches-more c.args.places _ _ _ c.touch_states.ensures.touches (touches-more c.args.places _ _ _ c.touch_counts.ensures.touches c.touch_targets.ensures.touches))
    c.requires

-- what is touched from the first call on, from the second on, and from the third on
from_third : (c : After-touch_targets-2) → TouchesMore c.args.places c.touch_counts.new.kept c.touch_targets-2.new.kept
from_third c = touches-more c.args.places _ _ _ c.touch_targets.ensures.touches c.touch_targets-2.ensures.touches

from_second : (c : After-touch_targets-2) → TouchesMore c.args.places c.touch_states.new.kept c.touch_targets-2.new.kept
from_second c = touches-more c.args.places _ _ _ c.touch_counts.ensures.touches (from_third c)

pub returns-clause-touches : goal.returns-clause-touches
returns-clause-touches c = touches-more c.args.places _ _ _ c.touch_states.ensures.touches (from_second c)

pub returns-clause-actors : goal.returns-clause-actors
returns-clause-actors c =
    let g = c.args.graph.now in
    let n = c.args.places in
    let d = c.args.delta.now in
    let k : Kept = c.touch_targets-2.new.kept in
    looked-ledger g n k (delta_ledger d)
    (looked-all (λ (r : StateRow). r.actor) g n _ k d.states (from_second c)
    (subst (AllLooked (λ (r : StateRow). r.actor) g n c.touch_states.new.kept) c.as_slice-states.ensures.value c.touch_states.ensures.rows))
    (looked-all (λ (r : ActorCount). r.actor) g n _ k d.sent (from_third c)
    (subst (AllLooked (λ (r : ActorCount). r.actor) g n c.touch_counts.new.kept) c.as_slice-sent.ensures.value c.touch_counts.ensures.rows))
    (looked-all (λ (r : PairCount). r.target) g n _ k d.created c.touch_targets-2.ensures.touches
    (subst (AllLooked (λ (r : PairCount). r.target) g n c.touch_targets.new.kept) c.as_slice-created.ensures.value c.touch_targets.ensures.rows))
    (subst (AllLooked (λ (r : PairCount). r.target) g n k) c.as_slice-released.ensures.value c.touch_targets-2.ensures.rows)
