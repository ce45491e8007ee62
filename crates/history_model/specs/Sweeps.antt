-- Sweeps: what the collector of a node stops, and which actors are stopped.
use Rattle.std.specs.Prelude.{ℕ, ◌≡◌, ◌<◌, ◌≤◌, ◌==◌, Bool, false, ◌&&◌, ◌||◌, not, List, [], ◌∷◌, map, slice_index}
use Rattle.std.specs.List.{filter}
use Rattle.crgc_ids.specs.Actor.{Actor}
use Rattle.history_model.specs.declared.events.Event.{Event}
use Rattle.history_model.specs.declared.events.Event.TheVariants.{Sweep}
use Rattle.history_model.specs.Cluster.{Cluster}
use Rattle.history_model.specs.declared.records.Stop.{Stop}
use Rattle.history_model.specs.declared.records.Verdict.{Verdict}
use Rattle.history_model.specs.Folds.{Fold, cut_at, lost_of, folded, is_lost}
use Rattle.history_model.specs.Graph.{received_count, told_count, admitted_count, has_edge, known_actors, dead, holds_actor}

-- the dead of a fold, where the nodes are lost that it shows as lost
abbrev pub dead_of : Cluster → Fold → List Actor
dead_of cl f = dead cl (is_lost cl f) f

-- the dead of what is folded at m
abbrev pub dead_at : Cluster → ℕ → List Event → List Actor
dead_at cl m h = dead_of cl (folded cl m h)

-- the sweep finds a: it is one of m's actors, and dead in what is folded at m
abbrev pub is_swept : Cluster → ℕ → List Event → Actor → Bool
is_swept cl m h a = (a.node == m) && holds_actor (dead_at cl m h) a

-- a was stopped by an earlier sweep
abbrev pub is_stopped : Cluster → Actor → List Event → Bool
is_stopped cl a [] = false
is_stopped cl a (Sweep m ∷ p) = is_swept cl m p a || is_stopped cl a p
is_stopped cl a (_ ∷ p) = is_stopped cl a p

-- the actors that a sweep by m stops, rising
abbrev pub stopped_by : Cluster → ℕ → List Event → List Actor
stopped_by cl m h = filter (λ a. (a.node == m) && not (is_stopped cl a h)) (dead_at cl m h)

-- one stopped actor with its evidence
abbrev pub stop_of : Cluster → (ℕ → Bool) → Fold → Actor → Stop
stop_of cl lost f a = record {
  actor = a;
  received = received_count cl f a;
  told = told_count cl lost f a;
  admitted = admitted_count cl lost f a;
  owners = filter (λ b. not (lost b.node) && has_edge cl lost f b a) (known_actors cl f);
}

-- the stops of a sweep by m, rising
abbrev pub stops_of : Cluster → ℕ → List Event → List Stop
stops_of cl m h = map (stop_of cl (is_lost cl (folded cl m h)) (folded cl m h)) (stopped_by cl m h)

-- the verdict of a sweep by m
pub record IsVerdict (cl : Cluster) (m : ℕ) (h : List Event) (v : Verdict) : Type 0 where
  pub node : v.node ≡ m
  pub cut : (o : ℕ) → o < cl.nodes → slice_index v.cut o ≡ cut_at cl m h o
  pub beyond : (o : ℕ) → cl.nodes ≤ o → slice_index v.cut o ≡ 0
  pub lost : v.lost ≡ lost_of cl (folded cl m h)
  pub stops : v.stops ≡ stops_of cl m h
