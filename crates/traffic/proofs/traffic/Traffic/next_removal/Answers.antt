use Rattle.std.proofs.Common.{rules, None, Some}
use Rattle.traffic.proofs.SearchLemmas.{next-removal}
use Rattle.traffic.proofs.traffic.Traffic.next_removal.Goals as goal

pub returns-clause-stands : goal.returns-clause-stands
returns-clause-stands c = λ cl h stands. next-removal cl h c.args.self.now c.args.at None stands (search rules)

pub returns-then-may_remove-clause-stands : goal.returns-then-may_remove-clause-stands
returns-then-may_remove-clause-stands c = λ cl h stands. next-removal cl h c.args.self.now c.args.at (Some c.node-gone.result) stands (search rules)
