use Rattle.std.proofs.Common.{◌+◌, ◌≢◌, ◌∙◌}
use Rattle.operation_model.specs.declared.operations.Op.TheVariants as ops
use Rattle.node_threads.specs.Pumping.{HasCarries}
use Rattle.node_threads.specs.Questions.{IsMade}
use Rattle.node_threads.proofs.PumpLemmas.{all-carried, carries-more, since-then}
use Rattle.node_threads.proofs.rounds.carry_all.Goals as goal
use Rattle.cluster_calls.proofs.Same.{same-then}

pub loop-number-preserved : goal.loop-number-preserved
loop-number-preserved g c =
    let n = c.args.at in
    let f = c.loop-number.number in (
      same-then c.args.pass.now c.loop-number.pass c.carry_from.new.pass c.loop-number.invariant.0 c.carry_from.ensures.same,
      since-then (HasCarries n f) (λ calls. f ≢ n → IsMade (ops.Carry f n) calls) (HasCarries n (f + 1)) (carries-more n f)
          c.args.pass.now.own c.loop-number.pass.own c.carry_from.new.pass.own c.loop-number.invariant.1 c.in-Ok.ensures.carry,
      c.carry_from.ensures.gives ∙ c.loop-number.invariant.2,
    )

pub returns-clause-carries : goal.returns-clause-carries
returns-clause-carries g c =
    all-carried c.args.at c.loop-number.number c.loop-number-test.false c.args.pass.now.own c.loop-number.pass.own c.loop-number.invariant.1
