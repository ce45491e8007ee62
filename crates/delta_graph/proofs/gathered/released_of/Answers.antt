use Rattle.std.proofs.Common.{◌<◌, ◌++◌, List, map, sym, ◌∙◌, ap, subst}
use Rattle.std.proofs.ByRecursion.{All-append}
use Rattle.std.specs.List.{AllByRecursion}
use Rattle.crgc_ids.specs.declared.rising.ActorCount.{ActorCount}
use Rattle.crgc_ids.specs.declared.rising.PairCount.{PairCount}
use Rattle.history_model.specs.Ledgers.{Ledger}
use Rattle.delta_graph.proofs.GatheredLemmas.{entries-more, own-stand, own_row}
use Rattle.delta_graph.proofs.gathered.released_of.Goals as goal

pub loop-entry-preserved : goal.loop-entry-preserved
loop-entry-preserved c =
    let e = c.entry-item.result in
    let own : List ActorCount → List PairCount = map (own_row e.actor) in
    let more = c.in_ok-push_pairs.ensures ∙ ap (λ (rows : List ActorCount). c.loop-entry.rows.items ++ own rows) c.as_slice.ensures.value in
    record {
      rows = more ∙ ap (λ (rows : List PairCount). rows ++ own e.released) c.loop-entry.invariant.rows
          ∙ sym (ap (λ (l : Ledger). l.released) (entries-more c.args.entries.now c.loop-entry.entry-index e c.loop-entry-test.true c.entry-item.is));
      stand = subst (AllByRecursion (λ r. 0 < r.count)) (sym more) (All-append (λ r. 0 < r.count) c.loop-entry.rows.items (own e.released) c.loop-entry.invariant.stand (own-stand e.actor e.released c.as_slice.ensures.stands));
    }
