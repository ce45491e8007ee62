use Rattle.std.proofs.Common.{◌+◌, Some, None, ◌∙◌, ap, arith, sym, zero-add}
use Rattle.refob_counts.proofs.CountsLemmas.{changed_again, count_change, count_of-found, put_again}
use Rattle.refob_counts.proofs.strays.add_in.Goals as goal

pub overflow_add-held : goal.overflow_add-held
overflow_add-held c =
    let held = count_of-found c.args.counts.now.entries c.args.target (Some c.in-Ok-Some.held) (sym c.in-Ok-Some.field-0-is ∙ c.in-Ok-Some.ensures.old) in
    omega arith

pub returns-in-Ok-None-clause-ok : goal.returns-in-Ok-None-clause-ok
returns-in-Ok-None-clause-ok c =
    let counts = c.args.counts.now.entries in
    let none = count_of-found counts c.args.target None (sym c.in-Ok-None.field-0-is ∙ c.in-Ok-None.ensures.old) in
    let change = count_change counts c.insert.new.self.entries c.args.target _ c.in-Ok-None.ensures.updates.1 c.in-Ok-None.ensures.updates.2 in
    rw (ap (λ n. n + c.args.count) none ∙ zero-add c.args.count) change

pub returns-in-Ok-Some-clause-ok : goal.returns-in-Ok-Some-clause-ok
returns-in-Ok-Some-clause-ok c =
    let counts = c.args.counts.now.entries in
    let between = c.insert.new.self.entries in
    let after = c.insert-in-Ok-Some.new.self.entries in
    let held = count_of-found counts c.args.target (Some c.in-Ok-Some.held) (sym c.in-Ok-Some.field-0-is ∙ c.in-Ok-Some.ensures.old) in
    let change = count_change counts between c.args.target _ c.in-Ok-Some.ensures.updates.1 c.in-Ok-Some.ensures.updates.2 in
    let updates = put_again _ c.insert-in-Ok-Some.result between c.args.target _ c.in-Ok-Some.ensures.updates.1 c.insert-in-Ok-Some.ensures.absent c.insert-in-Ok-Some.ensures.updates in
    let again = count_change between after c.args.target _ updates.1 updates.2 in
    rw (ap (λ n. n + c.args.count) held) (changed_again counts between after c.args.target _ _ change again)
