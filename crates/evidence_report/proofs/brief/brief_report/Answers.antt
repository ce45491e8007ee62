use Rattle.std.proofs.Common.{◌≡◌, ◌++◌, ap, sym, ◌∙◌}
use Rattle.history_model.specs.Cluster.{Cluster}
use Rattle.journal_model.specs.Lines.{header_line, line_of}
use Rattle.evidence_report.proofs.Summing.{brief-written}
use Rattle.evidence_report.proofs.Totals.{stopped-summed}
use Rattle.evidence_report.proofs.brief.brief_report.Goals as goal

pub returns : goal.returns
returns c =
    let h = c.args.world.now in
    let cluster : (let made : Cluster = record { nodes = c.nodes.result; version = c.version.result } in made) ≡ h.cluster =
    λ i. record { nodes = c.nodes.ensures.nodes i; version = c.version.ensures i } in
    brief-written h.cluster h.past c.in_ok-born.born c.in_ok-born.stopped c.append_header.new.out.items c.append_nodes.new.text.items c.append.new.text.items c.append_counts.new.text.items
    (c.in_ok-append_header.ensures.ok ∙ ap (λ t. t ++ line_of (header_line (record { nodes = c.nodes.result; version = c.version.result }))) c.new-text.ensures.items ∙ ap (λ (x : Cluster). line_of (header_line x)) cluster)
    c.in_ok-born.ensures.lines c.in_ok-append.ensures c.in_ok-born.ensures.born
    (c.in_ok-born.ensures.stopped ∙ sym (stopped-summed h.cluster h.past c.is_lawful.ensures.legal))
    c.in_ok-append_counts.ensures
