-- The pass that leads the callers of a lock.
use Rattle.std.specs.Prelude.{ℕ, ◌≡◌, ◌+◌, ◌<◌, ◌^◌, length}
use Rattle.turn_lock.specs.Known.{Known, Made}

-- the pass is the first one of the lock, and may split so many more
pub record MayLead (lock : Made ℕ) (callers : ℕ) (pass : Known ℕ ℕ ℕ) : Type 0 where
  pub lock_is : pass.origin ≡ lock.origin
  pub first : pass.number ≡ 0
  pub room : pass.split + callers < 2 ^ 32

-- so many passes more were split from it and are joined
pub record HasLed (callers : ℕ) (old new : Known ℕ ℕ ℕ) : Type 0 where
  pub lock_is : new.origin ≡ old.origin
  pub number : new.number ≡ old.number
  pub split : new.split ≡ old.split + callers
  pub joined : length new.joined ≡ length old.joined + callers
