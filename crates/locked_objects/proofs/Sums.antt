-- What a counter comes to.
use Rattle.std.proofs.Common.{◌≡◌, ℕ, ◌+◌, ◌%◌, ◌^◌, ◌<◌, List, [], ◌∷◌, sym, ap, ◌∙◌, arith, add-zero}
use Rattle.std.proofs.Math.Nat.{mod-add-mod, mod-eq_of_lt}
use Rattle.turn_lock.specs.declared.object.Entry.{Entry}
use Rattle.locked_objects.specs.Counter.{IsSum, added}

pub sum_is : (start : ℕ) (history : List (Entry ℕ ℕ)) (sum : ℕ) → start < 2 ^ 64 → IsSum start history sum → sum ≡ (start + added history) % 2 ^ 64
sum_is start [] sum fits is = is ∙ sym (ap (λ (n : ℕ). n % 2 ^ 64) (add-zero start) ∙ mod-eq_of_lt fits)
sum_is start (e ∷ history) sum fits is =
    let before = sum_is start history is.0 fits is.1 in
    is.2 ∙ (ap (λ (n : ℕ). (n + e.op) % 2 ^ 64) before ∙ (mod-add-mod (start + added history) (2 ^ 64) e.op ∙ ap (λ (n : ℕ). n % 2 ^ 64) (omega arith)))
