use Rattle.collected_calls.proofs.Downs.{told-down}
use Rattle.collected_calls.proofs.Standing.{stands-at}
use Rattle.collected_calls.proofs.laws.a_collector_stands_at_the_world.Goals as goal

pub returns-clause-stands : goal.returns-clause-stands
returns-clause-stands c = λ o h p c fresh course of_pass. stands-at o h p c fresh course of_pass

pub returns-clause-down : goal.returns-clause-down
returns-clause-down c = told-down
