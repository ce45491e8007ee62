use Rattle.std.proofs.Common.{◌≡◌, ◌≢◌, ◌%◌, ◌+◌, ℕ, List, arith, subst, sym, ◌∙◌}
use Rattle.std.proofs.lemmas.Bool.Decides.{nat_tests}
use Rattle.run_model.specs.declared.round_laws.TheConstants.{FLUSHES_PER_PUBLISH}
use Rattle.cluster_round.proofs.FlushLemmas.{due-published, due-published_halts, published-later}
use Rattle.cluster_round.proofs.flushing.publish_if_due.Goals as goal

pub returns-then-due-clause-ok : goal.returns-then-due-clause-ok
returns-then-due-clause-ok c =
    let s = c.args.course.now in
    let due : c.args.count % FLUSHES_PER_PUBLISH ≡ 0 = grind (arith, nat_tests) in
    due-published s.cluster c.args.node c.args.count s.past c.try_event.new.course.past c.try_event.result due c.try_event.ensures.ok

pub returns-then-due-clause-halt : goal.returns-then-due-clause-halt
returns-then-due-clause-halt c =
    let s = c.args.course.now in
    let due : c.args.count % FLUSHES_PER_PUBLISH ≡ 0 = grind (arith, nat_tests) in
    due-published_halts s.cluster c.args.node c.args.count s.past c.try_event.new.course.past c.try_event.result due c.try_event.ensures.halt

pub returns-clause-ok : goal.returns-clause-ok
returns-clause-ok c = λ past counted.
    let s = c.args.course.now in
    let later : c.args.count % FLUSHES_PER_PUBLISH ≢ 0 = grind (arith, nat_tests) in
    sym (published-later s.cluster c.args.node past c.args.count s.past counted later)
