-- What a counter's state stands for.
use Rattle.std.specs.Prelude.{◌≡◌, ℕ, ◌+◌, ◌%◌, ◌^◌, List, [], ◌∷◌, refl}
use Rattle.turn_lock.specs.Rule.{total}
use Rattle.turn_lock.specs.declared.object.Entry.{Entry}

-- each call added its number to the sum before, modulo 2^64, and was answered the new sum
abbrev pub IsSum : ℕ → List (Entry ℕ ℕ) → ℕ → Type 0
IsSum start [] sum = sum ≡ start
IsSum start (e ∷ earlier) sum = (before : ℕ) × IsSum start earlier before × (sum ≡ (before + e.op) % 2 ^ 64) × (e.reply ≡ sum)

pub sum_of_nothing : (start : ℕ) → IsSum start [] start
sum_of_nothing start = refl

-- all that the calls added
abbrev pub added : List (Entry ℕ ℕ) → ℕ
added calls = total (λ e. e.op) calls
