-- Runs of numbers: for some numbers, the one after the last of the run that they begin.
use Rattle.std.specs.Prelude.{◌≡◌, ◌⊎◌, ◌+◌, ◌<◌, ◌≤◌, ℕ, Option, Some, None}

-- a run begins at the first number and ends before the second
abbrev pub HasRun : (ℕ → Option ℕ) → ℕ → ℕ → Type 0
HasRun runs first end = runs first ≡ Some end

-- no run is empty, and between two runs some number is missing
pub record AreApart (runs : ℕ → Option ℕ) : Type 0 where
  pub some : (first end : ℕ) → HasRun runs first end → first < end
  pub apart : (first end later last : ℕ) → HasRun runs first end → HasRun runs later last → first < later → end < later

-- the run begins last of those that begin at or before the number
pub record IsLastRun (runs : ℕ → Option ℕ) (number : ℕ) (first end : ℕ) : Type 0 where
  pub there : HasRun runs first end
  pub before : first ≤ number
  pub last : (other after : ℕ) → HasRun runs other after → other ≤ number → other ≤ first

-- no run begins at or before the number
abbrev pub BeginLater : (ℕ → Option ℕ) → ℕ → Type 0
BeginLater runs number = (other after : ℕ) → HasRun runs other after → number < other

-- where the run begins that the number goes on, or the number itself where it goes on none
abbrev pub IsFirstWith : (ℕ → Option ℕ) → ℕ → ℕ → Type 0
IsFirstWith runs number first = HasRun runs first number ⊎ ((first ≡ number) × ((other : ℕ) → HasRun runs other number → ⊥))

-- where the run ends that begins after the number, or right after the number where none does
abbrev pub IsEndWith : (ℕ → Option ℕ) → ℕ → ℕ → Type 0
IsEndWith runs number end = HasRun runs (number + 1) end ⊎ ((end ≡ number + 1) × (runs (number + 1) ≡ None))
