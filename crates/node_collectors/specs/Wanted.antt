-- Which bulletin a node wants next.
use Rattle.std.specs.Prelude.{◌≡◌, ◌<◌, ℕ, true, false, List}
use Rattle.history_model.specs.declared.events.Event.{Event}
use Rattle.history_model.specs.Folds.{was_handed}

-- the first number, from 0 on, under which no bulletin of o was handed to m
pub record IsFirstUnhanded (m o : ℕ) (h : List Event) (number : ℕ) : Type 0 where
  pub missing : was_handed m o number h ≡ false
  pub handed : (k : ℕ) → k < number → was_handed m o k h ≡ true
