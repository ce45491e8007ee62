use Rattle.std.proofs.Common.{◌≡◌, ◌+◌, ◌++◌, ℕ, List, [], ◌∷◌, codes, length, sum_by, ap, sym, ◌∙◌, arith}
use Rattle.std.specs.Fmt.{decimal}
use Rattle.crgc_ids.specs.Nodes.{nodes_below}
use Rattle.history_model.specs.Cluster.{births}
use Rattle.journal_model.specs.Lines.{line_of, spell}
use Rattle.journal_model.specs.Report.{node_words, stopped_on}
use Rattle.event_lines.proofs.MembersLaws.{made-same}
use Rattle.evidence_report.proofs.Stopping.{stopped-once}
use Rattle.evidence_report.proofs.Summing.{nodes-written, sum-more}
use Rattle.evidence_report.proofs.Totals.{births-within, stops-within}
use Rattle.evidence_report.proofs.brief.append_nodes.Goals as goal

pub overflow_add-born : goal.overflow_add-born
overflow_add-born c =
    let h = c.args.world.now in
    let here = c.from-born_here.ensures ∙ c.born.ensures ∙ ap (λ n. births n h.past) (made-same c.new.result c.unwrap-node.result c.loop-n.n c.unwrap-node.ensures c.new.ensures.some) in
    let sum = sum-more (λ n. births n h.past) c.loop-n.n in
    let all = births-within h.past (c.loop-n.n + 1) in
    omega (arith, c.loop-n.invariant.born, here, sum, all, c.len-events.ensures, c.len-events.type_inv)

pub overflow_add-stopped : goal.overflow_add-stopped
overflow_add-stopped c =
    let h = c.args.world.now in
    let node : c.unwrap-node.result ≡ c.loop-n.n = made-same c.new.result c.unwrap-node.result c.loop-n.n c.unwrap-node.ensures c.new.ensures.some in
    let here = c.from-stopped_here.ensures ∙ c.stopped.ensures ∙ sym (stopped-once h.cluster h.past c.unwrap-node.result c.is_lawful.ensures.legal) ∙ ap (λ n. stopped_on h.cluster n h.past) node in
    let sum = sum-more (λ n. stopped_on h.cluster n h.past) c.loop-n.n in
    let all = stops-within h.cluster h.past (c.loop-n.n + 1) c.is_lawful.ensures.legal in
    omega (arith, c.loop-n.invariant.stopped, here, sum, all, c.len-events.ensures, c.len-events.type_inv)

pub loop-n-preserved : goal.loop-n-preserved
loop-n-preserved c =
    let h = c.args.world.now in
    let node : c.unwrap-node.result ≡ c.loop-n.n = made-same c.new.result c.unwrap-node.result c.loop-n.n c.unwrap-node.ensures c.new.ensures.some in
    let here = c.from-born_here.ensures ∙ c.born.ensures in
    let gone = c.from-stopped_here.ensures ∙ c.stopped.ensures ∙ sym (stopped-once h.cluster h.past c.unwrap-node.result c.is_lawful.ensures.legal) in
    let words : ℕ → ℕ → ℕ → List (List ℕ) = λ n b s. codes "node" ∷ decimal n ∷ codes "born" ∷ decimal b ∷ codes "stopped" ∷ decimal s ∷ [] in
    let line : c.append_node.new.text.items ≡ c.loop-n.text.items ++ line_of (spell (node_words h.cluster h.past c.loop-n.n)) =
    c.in_ok-append_node.ensures ∙ ap (λ b. c.loop-n.text.items ++ line_of (spell (words c.unwrap-node.result b c.from-stopped_here.result))) here
    ∙ ap (λ s. c.loop-n.text.items ++ line_of (spell (words c.unwrap-node.result (births c.unwrap-node.result h.past) s))) gone
    ∙ ap (λ n. c.loop-n.text.items ++ line_of (spell (node_words h.cluster h.past n))) node in
    record {
      lines = nodes-written (λ n. spell (node_words h.cluster h.past n)) c.loop-n.n c.args.text.now.items c.loop-n.text.items c.append_node.new.text.items c.loop-n.invariant.lines line;
      born = ap (λ b. b + c.from-born_here.result) c.loop-n.invariant.born
          ∙ ap (λ b. sum_by (λ n. births n h.past) (nodes_below c.loop-n.n) + b) (here ∙ ap (λ n. births n h.past) node) ∙ sym (sum-more (λ n. births n h.past) c.loop-n.n);
      stopped = ap (λ s. s + c.from-stopped_here.result) c.loop-n.invariant.stopped
          ∙ ap (λ s. sum_by (λ n. stopped_on h.cluster n h.past) (nodes_below c.loop-n.n) + s) (gone ∙ ap (λ n. stopped_on h.cluster n h.past) node)
          ∙ sym (sum-more (λ n. stopped_on h.cluster n h.past) c.loop-n.n);
    }
