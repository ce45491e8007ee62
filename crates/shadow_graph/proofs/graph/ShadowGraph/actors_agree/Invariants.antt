use Rattle.std.proofs.Common.{◌<◌, ℕ}
use Rattle.shadow_graph.specs.Places.{actor_of}
use Rattle.shadow_graph.specs.Same.{AgreeOn}
use Rattle.shadow_graph.proofs.graph.ShadowGraph.actors_agree.Given as goal

abbrev pub invariant-loop-place : goal.invariant-loop-place
invariant-loop-place l = (p : ℕ) → p < l.place → AgreeOn l.self l.other (actor_of l.self p)
