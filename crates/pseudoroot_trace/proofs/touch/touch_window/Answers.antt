use Rattle.std.proofs.Common.{◌∙◌, ap, subst, sym}
use Rattle.std.proofs.lemmas.Bool.{false≢true}
use Rattle.crgc_ids.specs.Nodes.{has_node}
use Rattle.crgc_ids.specs.declared.rising.ActorCount.{ActorCount}
use Rattle.crgc_ids.specs.declared.rising.PairCount.{PairCount}
use Rattle.history_model.specs.Ledgers.{window_ledger}
use Rattle.shadow_graph.proofs.KeptLemmas.{has-tells}
use Rattle.pseudoroot_trace.proofs.TouchLemmas.{AllLooked, looked-all, looked-ledger, room-stays, touches-more, touches-none}
use Rattle.pseudoroot_trace.proofs.touch.touch_window.Goals as goal

pub returns-then-not-counts-clause-touches : goal.returns-then-not-counts-clause-touches
returns-then-not-counts-clause-touches c = touches-none c.args.places c.args.kept.now

pub returns-then-not-counts-clause-actors : goal.returns-then-not-counts-clause-actors
returns-then-not-counts-clause-actors c = λ lost a hit.
    let w = c.args.window.now in
    let is = has-tells c.lost.result w.from c.contains-counts.result c.contains-counts.ensures.member ∙ ap (λ xs. has_node xs w.from) c.lost.ensures in
    absurd (false≢true (sym c.if-not-counts.true ∙ is ∙ lost))

pub touch_targets-requires : goal.touch_targets-requires
touch_targets-requires c = room-stays c.args.places c.args.places _ _ c.touch_counts.ensures.touches c.requires

pub returns-clause-touches : goal.returns-clause-touches
returns-clause-touches c = touches-more c.args.places _ _ _ c.touch_counts.ensures.touches c.touch_targets.ensures.touches

pub returns-clause-actors : goal.returns-clause-actors
returns-clause-actors c = λ lost.
    let g = c.args.graph.now in
    let n = c.args.places in
    let w = c.args.window.now in
    let k = c.touch_targets.new.kept in
    looked-ledger g n k (window_ledger w) tt
    (looked-all (λ (r : ActorCount). r.actor) g n _ k w.messages c.touch_targets.ensures.touches
    (subst (AllLooked (λ (r : ActorCount). r.actor) g n c.touch_counts.new.kept) c.as_slice-messages.ensures.value c.touch_counts.ensures.rows))
    (subst (AllLooked (λ (r : PairCount). r.target) g n k) c.as_slice-carried.ensures.value c.touch_targets.ensures.rows)
    tt
