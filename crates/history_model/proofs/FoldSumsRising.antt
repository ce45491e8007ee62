-- The known actors of a fold, the dead, the actors that a sweep stops, and the owners of a stopped actor rise by node, then
-- by serial. So none of these lists names an actor twice.
use Rattle.std.proofs.Common.{◌&&◌, ℕ, Bool, not, List, flat_map, sym, subst, ◌==◌}
use Rattle.crgc_ids.specs.Actor.{Actor, IsActorBelow}
use Rattle.crgc_ids.specs.Nodes.{nodes_below}
use Rattle.crgc_ids.specs.Rising.{IsRising}
use Rattle.crgc_ids.proofs.GreatestLaws.{greatest-filters}
use Rattle.crgc_ids.proofs.RisingLaws.{IsRising-filter}
use Rattle.history_model.specs.declared.events.Event.{Event}
use Rattle.history_model.specs.Cluster.{Cluster}
use Rattle.history_model.specs.Folds.{Fold, folded, is_lost}
use Rattle.history_model.specs.Graph.{candidates, dead, dead_without, has_edge, is_pseudoroot, is_unreached, known_actors, named_by, notice_facts}
use Rattle.history_model.proofs.RisingActors.{rising_actors-rise}
use Rattle.history_model.specs.Sweeps.{dead_at, is_stopped, stop_of, stopped_by}

pub known-rise : (cl : Cluster) (f : Fold) → IsRising IsActorBelow (known_actors cl f)
known-rise cl f = rising_actors-rise (flat_map named_by (flat_map (λ o. notice_facts (f o)) (nodes_below cl.nodes)))

pub dead_without-rise : (cl : Cluster) (lost : ℕ → Bool) (out : Actor → Bool) (f : Fold) → IsRising IsActorBelow (dead_without cl lost out f)
dead_without-rise cl lost out f =
    let test = greatest-filters (is_unreached cl lost out f) (candidates cl lost out f) in
    let fit = IsRising-filter IsActorBelow (λ a. not (out a) && not (is_pseudoroot cl lost f a)) (known_actors cl f) (known-rise cl f) in
    subst (IsRising IsActorBelow) (sym test.1) (IsRising-filter IsActorBelow test.0 (candidates cl lost out f) fit)

pub dead-rise : (cl : Cluster) (lost : ℕ → Bool) (f : Fold) → IsRising IsActorBelow (dead cl lost f)
unfolding dead
dead-rise cl lost f = dead_without-rise cl lost (λ b. lost b.node) f

pub stopped-rise : (cl : Cluster) (m : ℕ) (h : List Event) → IsRising IsActorBelow (stopped_by cl m h)
stopped-rise cl m h =
    IsRising-filter IsActorBelow (λ a. (a.node == m) && not (is_stopped cl a h)) (dead_at cl m h)
    (dead-rise cl (is_lost cl (folded cl m h)) (folded cl m h))

pub owners-rise : (cl : Cluster) (lost : ℕ → Bool) (f : Fold) (a : Actor) → IsRising IsActorBelow (stop_of cl lost f a).owners
owners-rise cl lost f a =
    IsRising-filter IsActorBelow (λ b. not (lost b.node) && has_edge cl lost f b a) (known_actors cl f) (known-rise cl f)
