use Rattle.roster.proofs.TableSteps.{stands-seeded, stands-spawned}
use Rattle.roster.proofs.laws.births_are_stood_for.Goals as goal

pub returns-clause-seeded : goal.returns-clause-seeded
returns-clause-seeded c = stands-seeded

pub returns-clause-spawned : goal.returns-clause-spawned
returns-clause-spawned c = stands-spawned
