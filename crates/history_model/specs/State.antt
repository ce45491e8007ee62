-- The state of actors and nodes.
use Rattle.std.specs.Prelude.{ℕ, ◌==◌, Bool, true, false, not, if◌then◌else◌, List, [], ◌∷◌}
use Rattle.std.specs.List.{list_any}
use Rattle.crgc_ids.specs.Actor.{Actor}
use Rattle.history_model.specs.declared.events.Event.{Event}
use Rattle.history_model.specs.declared.events.Event.TheVariants.{Seed, Wake, Take, Retire, Rest, Crash}
use Rattle.history_model.specs.Cluster.{same_actor, newborn}

-- busy where the last of its wakes, takes and rests is no rest
abbrev pub is_busy : Actor → List Event → Bool
is_busy a [] = false
is_busy a (Wake b ∷ p) = if same_actor b a then true else is_busy a p
is_busy a (Take b ∷ p) = if same_actor b a then true else is_busy a p
is_busy a (Rest b ∷ p) = if same_actor b a then false else is_busy a p
is_busy a (_ ∷ p) = is_busy a p

-- a root where it was born by seed and did not retire
abbrev pub is_root : Actor → List Event → Bool
is_root a [] = false
is_root a (Seed n ∷ p) = if same_actor (newborn n p) a then true else is_root a p
is_root a (Retire b ∷ p) = if same_actor b a then false else is_root a p
is_root a (_ ∷ p) = is_root a p

abbrev pub is_crash : ℕ → Event → Bool
is_crash n (Crash m) = m == n
is_crash n _ = false

-- up where it has not crashed
abbrev pub is_up : ℕ → List Event → Bool
is_up n h = not (list_any (is_crash n) h)
