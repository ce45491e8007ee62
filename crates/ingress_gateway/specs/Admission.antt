-- What an admission answers and changes.
use Rattle.std.specs.Prelude.{◌≡◌, ◌==◌, ◌||◌, ◌++◌, ℕ, true, false, List, [], ◌∷◌, map}
use Rattle.crgc_ids.specs.Actor.{Actor}
use Rattle.ingress_gateway.specs.declared.ingress.Admit.{Admit}
use Rattle.ingress_gateway.specs.declared.ingress.Admit.TheVariants.{Admitted, Closed, Discarded}
use Rattle.ingress_gateway.specs.Gate.{Gate, is_admitted}

-- the number is admitted now, and the message with its references comes last in what was admitted
pub record Admits (old new : Gate) (number : ℕ) (to : Actor) (refs : List Actor) : Type 0 where
  pub link : (new.at ≡ old.at) × (new.from ≡ old.from) × (new.is_closed ≡ false)
  pub numbers : (k : ℕ) → is_admitted new k ≡ ((k == number) || is_admitted old k)
  pub messages : new.messages ≡ old.messages ++ to ∷ []
  pub carried : new.carried ≡ old.carried ++ map (λ a. (to, a)) refs

-- what each answer says of the gate before and after
abbrev pub Answered : Gate → Gate → ℕ → Actor → List Actor → Admit → Type 0
Answered old new number to refs Closed = (old.is_closed ≡ true) × (new ≡ old)
Answered old new number to refs Discarded = (old.is_closed ≡ false) × (is_admitted old number ≡ true) × (new ≡ old)
Answered old new number to refs Admitted = (old.is_closed ≡ false) × (is_admitted old number ≡ false) × Admits old new number to refs
