use Rattle.std.proofs.Common.{◌∙◌, subst}
use Rattle.script_progress.specs.Standing.{AreSeeded}
use Rattle.script_progress.proofs.Beginning.{progress-begun}
use Rattle.script_progress.proofs.progress.Progress.begin.Goals as goal

pub returns : goal.returns
returns c = λ s nodes seeds plan turns.
    let made = c.in_ok-rows.ensures in
    let filled = c.in_ok-add_seeds.ensures in
    progress-begun s c.add_seeds.new.rows.items c.args.nodes c.args.seeds.now c.args.plan c.args.turns nodes seeds plan turns
    (filled.count ∙ made.0) (subst (λ xs. AreSeeded xs c.add_seeds.new.rows.items) c.as_slice.ensures filled.seeded)
