use Rattle.std.proofs.Common.{◌≡◌, ◌<◌, ◌++◌, List, sym, ◌∙◌, ap, append_assoc, subst, take}
use Rattle.std.proofs.ByRecursion.{All-append}
use Rattle.std.proofs.lemmas.List.Elements.{filter-append}
use Rattle.std.specs.List.{AllByRecursion, filter}
use Rattle.crgc_ids.specs.declared.rising.PairCount.{PairCount}
use Rattle.history_model.specs.Ledgers.{Ledger, entries_ledger}
use Rattle.delta_graph.proofs.GatheredLemmas.{entries-more}
use Rattle.delta_graph.specs.Sums.{is_of_part}
use Rattle.delta_graph.proofs.gathered.push_created.Goals as goal

pub loop-entry-preserved : goal.loop-entry-preserved
loop-entry-preserved c =
    let e = c.entry-item.result in
    let was = c.args.rows.now.items in
    let part : List PairCount → List PairCount = filter (is_of_part c.args.to_itself) in
    let before = (entries_ledger (take c.loop-entry.entry-index c.args.entries.now)).created in
    let more = ap (λ (l : Ledger). l.created) (entries-more c.args.entries.now c.loop-entry.entry-index e c.loop-entry-test.true c.entry-item.is) in
    record {
      rows = c.in_ok-push_part.ensures
          ∙ ap (λ (rows : List PairCount). c.loop-entry.rows.items ++ part rows) c.as_slice.ensures.value
          ∙ ap (λ (rows : List PairCount). rows ++ part e.created) c.loop-entry.invariant.rows
          ∙ append_assoc was (part before) (part e.created)
          ∙ ap (λ (rows : List PairCount). was ++ rows) (sym (filter-append (is_of_part c.args.to_itself) before e.created))
          ∙ ap (λ (rows : List PairCount). was ++ part rows) (sym more);
      stand = subst (AllByRecursion (λ r. 0 < r.count)) (sym more) (All-append (λ r. 0 < r.count) before e.created c.loop-entry.invariant.stand c.as_slice.ensures.stands);
    }
