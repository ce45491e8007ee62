-- What holds where a call succeeded.
use Rattle.std.proofs.Common.{◌≡◌, Result, Ok, Err, OnOk, refl}

-- what is so at a success, of a call that did not fail
pub at_success : {A E : Type 0} (P : Type 0) (r : Result A E) → ((e : E) → r ≡ Err e → ⊥) → OnOk r P → P
at_success P (Ok x) never p = p
at_success P (Err e) never p = absurd (never e refl)
