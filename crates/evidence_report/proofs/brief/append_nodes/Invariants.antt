use Rattle.std.proofs.Common.{◌≡◌, ◌++◌, map, sum_by}
use Rattle.crgc_ids.specs.Nodes.{nodes_below}
use Rattle.history_model.specs.Cluster.{births}
use Rattle.journal_model.specs.Lines.{spell, text_of}
use Rattle.journal_model.specs.Report.{node_words, stopped_on}
use Rattle.evidence_report.proofs.brief.append_nodes.Given as goal

abbrev pub invariant-loop-n : goal.invariant-loop-n
invariant-loop-n l = record {
  lines : l.text.items ≡ l.fn.text.items ++ text_of (map (λ n. spell (node_words l.world.cluster l.world.past n)) (nodes_below l.n));
  born : l.born ≡ sum_by (λ n. births n l.world.past) (nodes_below l.n);
  stopped : l.stopped ≡ sum_by (λ n. stopped_on l.world.cluster n l.world.past) (nodes_below l.n);
}
