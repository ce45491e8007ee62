use Rattle.std.proofs.Common.{◌∷◌, ◌++◌, [], List, sym, ◌∙◌, ap, arith}
use Rattle.history_model.specs.declared.records.StateRow.{StateRow}
use Rattle.history_model.specs.Ledgers.{Ledger}
use Rattle.delta_graph.proofs.GatheredLemmas.{entries-more}
use Rattle.delta_graph.proofs.gathered.states_of.Goals as goal

pub loop-entry-preserved : goal.loop-entry-preserved
loop-entry-preserved c =
    let e = c.entry-item.result in
    let row : StateRow = record { actor = e.actor; received = e.received; busy = e.busy; root = e.root } in
    record {
      rows = c.push_reserved.ensures.items
          ∙ ap (λ (rows : List StateRow). rows ++ row ∷ []) c.loop-entry.invariant.rows
          ∙ sym (ap (λ (l : Ledger). l.states) (entries-more c.args.entries.now c.loop-entry.entry-index e c.loop-entry-test.true c.entry-item.is));
      len = omega arith;
      room = omega arith;
    }
