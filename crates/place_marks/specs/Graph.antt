-- Graphs over places, and what is reached in them.
use Rattle.std.specs.Prelude.{ℕ, ◌≡◌, ◌<◌, Bool, true, List, [], ◌∷◌, Option, Some}
use Rattle.crgc_ids.specs.Members.{IsAmong}

-- The places are the numbers below a count, and each is a start or none. Edges have numbers: of each that is positive, the places
-- of its owner and of its target are told, and of any other number None.
pub record Graph : Type 0 where
  pub places : ℕ
  pub is_start : ℕ → Bool
  pub step : ℕ → Option (ℕ × ℕ)

-- a positive edge leads from b to a
abbrev pub IsStep : Graph → ℕ → ℕ → Type 0
IsStep g b a = (n : ℕ) × (g.step n ≡ Some (b, a))

-- positive edges lead between places
abbrev pub IsGraph : Graph → Type 0
IsGraph g = (b a : ℕ) → IsStep g b a → (b < g.places) × (a < g.places)

-- each positive edge from b is among these pairs of the place of its target and its number; those of them whose edge is positive
-- lead from b to the place told; and each tells a place
pub record AreFrom (g : Graph) (b : ℕ) (ends : List (ℕ × ℕ)) : Type 0 where
  pub all : (n a : ℕ) → g.step n ≡ Some (b, a) → IsAmong (a, n) ends
  pub alone : (a n c d : ℕ) → IsAmong (a, n) ends → g.step n ≡ Some (c, d) → (c ≡ b) × (d ≡ a)
  pub within : (a n : ℕ) → IsAmong (a, n) ends → a < g.places

-- each positive edge to a is among these pairs of the place of its owner and its number; those of them whose edge is positive
-- lead from the place told to a; and each tells a place
pub record AreTo (g : Graph) (a : ℕ) (ends : List (ℕ × ℕ)) : Type 0 where
  pub all : (n b : ℕ) → g.step n ≡ Some (b, a) → IsAmong (b, n) ends
  pub alone : (b n c d : ℕ) → IsAmong (b, n) ends → g.step n ≡ Some (c, d) → (c ≡ b) × (d ≡ a)
  pub within : (b n : ℕ) → IsAmong (b, n) ends → b < g.places

-- from r over the places of the list, each with a positive edge to the next, the last to a
abbrev pub IsChain : Graph → ℕ → List ℕ → ℕ → Type 0
IsChain g r [] a = r ≡ a
IsChain g r (b ∷ bs) a = IsStep g r b × IsChain g b bs a

-- some chain of positive edges leads from a start to a
abbrev pub IsReached : Graph → ℕ → Type 0
IsReached g a = (r : ℕ) × (bs : List ℕ) × (r < g.places) × (g.is_start r ≡ true) × IsChain g r bs a
