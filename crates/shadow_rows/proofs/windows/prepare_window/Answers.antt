use Rattle.std.proofs.Common.{[], arith, refl}
use Rattle.history_model.specs.Ledgers.{RowsRise, window_ledger}
use Rattle.delta_graph.specs.Sums.{CountsFit}
use Rattle.shadow_rows.specs.Tabled.{AreCounts}
use Rattle.shadow_rows.proofs.AddLemmas.{counts-fit, counts-same, noted-fits}
use Rattle.shadow_rows.proofs.windows.prepare_window.Goals as goal
use Rattle.shadow_rows.proofs.windows.prepare_window.Goals.{In_ok-grow}

fit : (c : In_ok-grow) → CountsFit (window_ledger c.args.window.now)
fit c =
    let d = c.args.window.now in
    let rows : AreCounts [] d.messages d.carried [] = counts-same [] [] _ d.messages _ d.carried [] [] refl c.as_slice-messages.ensures.value c.as_slice-carried.ensures.value refl c.in_ok-grow.ensures.fits in
    let up : RowsRise (window_ledger d) = record { states = tt; sent = c.as_slice-messages.ensures.rising; created = c.as_slice-carried.ensures.rising; released = tt } in
    counts-fit (window_ledger d) up rows

pub note_admitted-requires : goal.note_admitted-requires
note_admitted-requires c = λ owner target.
    let small = c.requires.small owner target in
    let noted = noted-fits (window_ledger c.args.window.now) (fit (goal.at.note_admitted-requires c).In_ok-grow) owner target in
    omega (arith, small, noted)

pub returns-in_ok-note_admitted-clause-fits : goal.returns-in_ok-note_admitted-clause-fits
returns-in_ok-note_admitted-clause-fits c = fit (goal.at.returns-in_ok-note_admitted-clause-fits c).In_ok-grow

pub returns-else-logs-clause-fits : goal.returns-else-logs-clause-fits
returns-else-logs-clause-fits c = fit (goal.at.returns-else-logs-clause-fits c).In_ok-grow
