use Rattle.std.proofs.Common.{rules, None, Some}
use Rattle.traffic.proofs.SearchLemmas.{next-window}
use Rattle.traffic.proofs.traffic.Traffic.next_window.Goals as goal

pub returns-clause-stands : goal.returns-clause-stands
returns-clause-stands c = λ cl h stands. next-window cl h c.args.self.now c.args.at None stands (search rules)

pub returns-then-may_cut-clause-stands : goal.returns-then-may_cut-clause-stands
returns-then-may_cut-clause-stands c = λ cl h stands. next-window cl h c.args.self.now c.args.at (Some c.node-from.result) stands (search rules)
