use Rattle.std.proofs.Common.{◌≡◌, ◌++◌, ap, ◌∙◌, arith}
use Rattle.history_model.specs.Cluster.{Cluster}
use Rattle.journal_model.specs.Lines.{end_words, header_line, line_of, spell}
use Rattle.evidence_report.proofs.Counting.{total-fits, total-stopped}
use Rattle.evidence_report.proofs.Following.{report-written}
use Rattle.evidence_report.proofs.full.full_report.Goals as goal

pub stopped_by_all-requires : goal.stopped_by_all-requires
stopped_by_all-requires c =
    let h = c.args.history.now in
    omega (arith, total-fits h.cluster h.past c.args.verdicts.now c.requires.legal c.requires.verdicts, c.len.ensures)

pub returns : goal.returns
returns c =
    let h = c.args.history.now in
    let cluster : (let made : Cluster = record { nodes = c.nodes.result; version = c.version.result } in made) ≡ h.cluster =
    λ i. record { nodes = c.nodes.ensures.nodes i; version = c.version.ensures.version i } in
    report-written h.cluster h.past c.stopped_by_all.result c.append_header.new.out.items c.append_events.new.text.items c.append_end.new.out.items
    (c.in_ok-append_header.ensures.ok ∙ ap (λ t. t ++ line_of (header_line (record { nodes = c.nodes.result; version = c.version.result }))) c.new-text.ensures.items ∙ ap (λ (x : Cluster). line_of (header_line x)) cluster)
    c.in_ok-append_events.ensures
    (c.stopped_by_all.ensures ∙ total-stopped h.cluster h.past c.args.verdicts.now c.requires.verdicts)
    (c.in_ok-append_end.ensures.ok ∙ ap (λ n. c.append_events.new.text.items ++ line_of (spell (end_words n c.stopped_by_all.result))) c.len.ensures)
