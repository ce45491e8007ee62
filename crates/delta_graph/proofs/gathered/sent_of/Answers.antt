use Rattle.std.proofs.Common.{◌≡◌, ◌<◌, true, ◌++◌, List, sym, ◌∙◌, ap, subst, rules}
use Rattle.std.proofs.ByRecursion.{All-append}
use Rattle.std.specs.List.{AllByRecursion}
use Rattle.std.specs.Result.{is_ok}
use Rattle.crgc_ids.specs.declared.rising.ActorCount.{ActorCount}
use Rattle.history_model.specs.Ledgers.{Ledger}
use Rattle.delta_graph.proofs.GatheredLemmas.{entries-more, grown}
use Rattle.delta_graph.proofs.gathered.sent_of.Goals as goal

pub loop-entry-preserved : goal.loop-entry-preserved
loop-entry-preserved c =
    let e = c.entry-item.result in
    let ok : is_ok c.extend_from_slice.result ≡ true = search rules in
    let more = grown (is_ok c.extend_from_slice.result) c.loop-entry.rows.items c.as_slice.result.now c.extend_from_slice.new.self.items ok c.extend_from_slice.ensures.items
    ∙ ap (λ (rows : List ActorCount). c.loop-entry.rows.items ++ rows) c.as_slice.ensures.value in
    record {
      rows = more ∙ ap (λ (rows : List ActorCount). rows ++ e.sent) c.loop-entry.invariant.rows
          ∙ sym (ap (λ (l : Ledger). l.sent) (entries-more c.args.entries.now c.loop-entry.entry-index e c.loop-entry-test.true c.entry-item.is));
      stand = subst (AllByRecursion (λ r. 0 < r.count)) (sym more) (All-append (λ r. 0 < r.count) c.loop-entry.rows.items e.sent c.loop-entry.invariant.stand c.as_slice.ensures.stands);
    }
