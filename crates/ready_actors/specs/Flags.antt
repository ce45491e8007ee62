-- Flags of numbers in words of 64, and what a word above them tells.
use Rattle.std.specs.Prelude.{ℕ, ◌≡◌, ◌<◌, ◌≤◌, ◌/◌, ◌%◌, ◌==◌, Bool, not, true, false, List, slice_index_or}
use Rattle.std.specs.Int.{bit_at}

-- whether the word has a one at this place
abbrev pub has_one : ℕ → ℕ → Bool
has_one word i = bit_at word i == 1

-- the word at this place; all are 0 beyond the last
abbrev pub word_at : List ℕ → ℕ → ℕ
word_at words g = slice_index_or words g 0

-- whether the flag of the number is set: each word has those of 64 numbers
abbrev pub has_flag : List ℕ → ℕ → Bool
has_flag words k = has_one (word_at words (k / 64)) (k % 64)

-- whether the word at this place has any flag
abbrev pub has_word : List ℕ → ℕ → Bool
has_word words g = not (word_at words g == 0)

-- flags that are set for the words that have any, and for no other
abbrev pub Summarizes : (ℕ → Bool) → List ℕ → Type 0
Summarizes above words = (g : ℕ) → above g ≡ has_word words g

-- the number is the first of which it is true, from this one on
pub record IsFirstOf (p : ℕ → Bool) (from first : ℕ) : Type 0 where
  pub there : p first ≡ true
  pub not_below : from ≤ first
  pub lowest : (k : ℕ) → from ≤ k → k < first → p k ≡ false

-- it is true of no number from this one on
abbrev pub IsNoneOf : (ℕ → Bool) → ℕ → Type 0
IsNoneOf p from = (k : ℕ) → from ≤ k → p k ≡ false

-- the first flag from this number on is in the word of the number, and it is that
pub record IsFirstIn (words : List ℕ) (from first : ℕ) : Type 0 where
  pub first_of : IsFirstOf (has_flag words) from first
  pub word : first / 64 ≡ from / 64

-- the word of the number has no flag from the number on
abbrev pub IsNoneIn : List ℕ → ℕ → Type 0
IsNoneIn words from = (k : ℕ) → from ≤ k → k / 64 ≡ from / 64 → has_flag words k ≡ false
