use Rattle.std.proofs.Common.{◌≡◌, true, rules, subst}
use Rattle.std.proofs.lemmas.Option.{IfSome_then}
use Rattle.roster.specs.Table.{Table, node_in}
use Rattle.roster.proofs.TableLemmas.{next-flush}
use Rattle.roster.proofs.table.Roster.next_flush.Goals as goal

pub returns-clause-some : goal.returns-clause-some
returns-clause-some c =
    let n = c.args.node in
    let found : c.in_ok-row.row.now ≡ node_in c.args.self.now n = search rules in
    let number = subst (λ (t : Table). (node_in t n).number ≡ n) c.self.view_is (c.self.invariant.numbers n) in
    let up : c.in_ok-row.row.now.up ≡ true = search rules in
    IfSome_then c.next_due.result c.next_due.ensures.some (λ first next. next-flush c.args.self.now n c.in_ok-row.row.now c.args.after first found number up next)
