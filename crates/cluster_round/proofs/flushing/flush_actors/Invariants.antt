use Rattle.std.proofs.Common.{◌≡◌, ◌-◌}
use Rattle.history_model.specs.Cluster.{births}
use Rattle.cluster_round.proofs.FlushLemmas.{IsFlushedUpTo, next_of}
use Rattle.cluster_round.proofs.flushing.flush_actors.Given as goal

abbrev pub invariant-loop-actor : goal.invariant-loop-actor
invariant-loop-actor l = record {
  cluster : l.course.cluster ≡ l.fn.course.cluster;
  flushed : IsFlushedUpTo l.fn.course.cluster l.fn.node l.fn.course.past l.course.past l.after l.count;
}

abbrev pub decreases-loop-actor : goal.decreases-loop-actor
decreases-loop-actor l = births l.fn.node l.fn.course.past - next_of l.after
