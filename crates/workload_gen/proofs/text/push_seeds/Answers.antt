use Rattle.workload_gen.proofs.MakersLemmas.{seed_written}
use Rattle.workload_gen.proofs.text.push_seeds.Goals as goal

pub loop-i-preserved : goal.loop-i-preserved
loop-i-preserved c = seed_written _ _ _ c.args.makers.now c.loop-i.i _ c.loop-i-test.true c.loop-i.invariant c.in_ok-push_seed.ensures
