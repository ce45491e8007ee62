use Rattle.std.proofs.Common.{◌≡◌, ◌<◌, ◌-◌, suc, length, get_or, slice_get, Some, List, sym, ◌∙◌, ap, subst, arith}
use Rattle.history_model.specs.declared.records.Stop.{Stop}
use Rattle.cluster_course.specs.Due.{lines_of_verdict}
use Rattle.journal_player.proofs.DueLines.{stop-line}
use Rattle.journal_player.proofs.due.verdict_line.Goals as goal

pub returns-clause-line : goal.returns-clause-line
returns-clause-line c =
    let v = c.args.verdict.now in
    let s = c.in_ok-copy_of.field-0 in
    let k = c.args.place - 1 in
    let within : k < length v.stops = grind arith in
    let place : suc k ≡ c.args.place = grind arith in
    let copied : s ≡ c.index-stops-place.result = c.in_ok-copy_of.ensures in
    let there : c.index-stops-place.result ≡ get_or v.stops k c.index-stops-place.result =
    c.index-stops-place.is ∙ ap (λ (xs : List Stop). get_or xs k c.index-stops-place.result) c.as_slice-stops.ensures in
    let same : s ≡ get_or v.stops k s = subst (λ (x : Stop). x ≡ get_or v.stops k x) (sym copied) there in
    ap Some c.in_ok-print.ensures ∙ stop-line c.args.nodes v k s within same ∙ ap (λ n. slice_get (lines_of_verdict c.args.nodes v) n) place
