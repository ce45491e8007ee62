use Rattle.roster.proofs.TableSteps.{stands-crashed, stands-flushed}
use Rattle.roster.proofs.laws.flushes_and_crashes_are_stood_for.Goals as goal

pub returns-clause-flushed : goal.returns-clause-flushed
returns-clause-flushed c = stands-flushed

pub returns-clause-crashed : goal.returns-clause-crashed
returns-clause-crashed c = stands-crashed
