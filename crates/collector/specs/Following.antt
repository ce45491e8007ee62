-- How a collector follows the history of its node.
use Rattle.std.specs.Prelude.{◌==◌, ℕ, Bool, false}
use Rattle.history_model.specs.declared.events.Event.{Event}
use Rattle.history_model.specs.declared.events.Event.TheVariants.{Hand, Sweep}

-- whether the event is one of m's collector: a hand to m, or a sweep by m
abbrev pub is_own : ℕ → Event → Bool
is_own m (Hand y x k) = y == m
is_own m (Sweep n) = n == m
is_own m e = false
