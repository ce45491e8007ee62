use Rattle.link_table.proofs.StandingSteps.{admits, loses, repeats}
use Rattle.link_table.proofs.laws.copies_are_stood_for.Goals as goal

pub returns-clause-lost : goal.returns-clause-lost
returns-clause-lost c = λ cl s d k p l m moves legal stands. loses cl s d k p l m legal stands moves.0 moves.1

pub returns-clause-repeated : goal.returns-clause-repeated
returns-clause-repeated c = λ cl s d k p l m moves legal stands. repeats cl s d k p l m legal stands moves.0 moves.1

pub returns-clause-admitted : goal.returns-clause-admitted
returns-clause-admitted c = λ cl s d k p l m came legal stands. admits cl s d k p l m legal stands came
