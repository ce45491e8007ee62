use Rattle.std.proofs.Common.{arith}
use Rattle.history_model.specs.Ledgers.{RowsRise, delta_ledger}
use Rattle.delta_graph.specs.Sums.{CountsFit}
use Rattle.shadow_rows.specs.Tabled.{AreCounts}
use Rattle.shadow_rows.proofs.AddLemmas.{counts-fit, counts-same, noted-fits}
use Rattle.shadow_rows.proofs.add.prepare_delta.Goals as goal
use Rattle.shadow_rows.proofs.add.prepare_delta.Goals.{In_ok-grow}

fit : (c : In_ok-grow) → CountsFit (delta_ledger c.args.delta.now)
fit c =
    let d = c.args.delta.now in
    let rows : AreCounts d.states d.sent d.created d.released = counts-same _ d.states _ d.sent _ d.created _ d.released c.as_slice-states.ensures.value c.as_slice-sent.ensures.value c.as_slice-created.ensures.value c.as_slice-released.ensures.value c.in_ok-grow.ensures.fits in
    let up : RowsRise (delta_ledger d) = record { states = c.as_slice-states.ensures.rising; sent = c.as_slice-sent.ensures.rising; created = c.as_slice-created.ensures.rising; released = c.as_slice-released.ensures.rising } in
    counts-fit (delta_ledger d) up rows

pub note_told-requires : goal.note_told-requires
note_told-requires c = λ owner target.
    let small = c.requires.small owner target in
    let noted = noted-fits (delta_ledger c.args.delta.now) (fit (goal.at.note_told-requires c).In_ok-grow) owner target in
    omega (arith, small, noted)

pub returns-in_ok-note_told-clause-fits : goal.returns-in_ok-note_told-clause-fits
returns-in_ok-note_told-clause-fits c = fit (goal.at.returns-in_ok-note_told-clause-fits c).In_ok-grow

pub returns-else-logs-clause-fits : goal.returns-else-logs-clause-fits
returns-else-logs-clause-fits c = fit (goal.at.returns-else-logs-clause-fits c).In_ok-grow
