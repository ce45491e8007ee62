use Rattle.std.proofs.Common.{◌≡◌, length, take}
use Rattle.script_progress.specs.Standing.{AreSeeded}
use Rattle.script_progress.proofs.begin.add_seeds.Given as goal

abbrev pub invariant-loop-seed : goal.invariant-loop-seed
invariant-loop-seed l = AreSeeded (take l.seed-index l.seeds) l.rows.items × (length l.rows.items ≡ length l.initial.rows.items)
