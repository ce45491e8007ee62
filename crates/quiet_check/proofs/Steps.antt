-- Steps of loops: one more number, one more event.
use Rattle.std.proofs.Common.{◌≡◌, ◌+◌, ◌&&◌, ℕ, Bool, add-one, refl}
use Rattle.quiet_check.specs.Plain.{all_below}

-- one more number passes, or not
pub below_one_more : (test : ℕ → Bool) (k : ℕ) → all_below test (k + 1) ≡ (all_below test k && test k)
below_one_more test k = rw add-one refl
