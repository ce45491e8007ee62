-- Where two markings of one graph differ.
use Rattle.std.specs.Prelude.{◌≡◌, ◌≢◌, ◌<◌, ℕ, length}
use Rattle.crgc_ids.specs.Actor.{Actor}
use Rattle.pseudoroot_trace.specs.Marked.{MarkedActors, is_marked}
use Rattle.shadow_graph.specs.Graph.{Graph}
use Rattle.shadow_graph.specs.Places.{actor_of}

-- both mark the same of the actors at the first so many places
abbrev pub AgreeBelow : Graph → MarkedActors → MarkedActors → ℕ → Type 0
AgreeBelow g one other n = (p : ℕ) → p < n → is_marked one (actor_of g p) ≡ is_marked other (actor_of g p)

-- only one of them marks the actor, and they agree on all that were named before
pub record IsFirstDifference (g : Graph) (one other : MarkedActors) (a : Actor) : Type 0 where
  pub place : ℕ
  pub within : place < length g.shadows.names
  pub actor : a ≡ actor_of g place
  pub differs : is_marked one a ≢ is_marked other a
  pub before : AgreeBelow g one other place
