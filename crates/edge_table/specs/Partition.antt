-- Lists of edges, each by the place of its other end and its number, in which those that count stand first.
use Rattle.std.specs.Prelude.{◌≡◌, ◌≢◌, ◌<◌, ◌≤◌, ◌/◌, ◌%◌, ◌↔◌, ℕ, Bool, true, List, [], Option, None, Some, length, map, slice_index_or, slice_set}
use Rattle.std.specs.Box.{box_value}
use Rattle.std.specs.Global.{Box}
use Rattle.std.specs.List.{SwappedAt}
use Rattle.std.specs.Option.{option_map}
use Rattle.edge_table.specs.declared.pages.TheConstants.{PAGE}
use Rattle.edge_table.specs.declared.positive.TheConstants.{MANY}

-- the edges in an order, those that count first; for each of the order, at which place of the list it stands; for each of the list,
-- at which index of the order; how many count
pub record Parted : Type 0 where
  pub order : List (ℕ × ℕ)
  pub places : List ℕ
  pub indices : List ℕ
  pub front : ℕ

-- the k-th of the numbers
abbrev pub nth_of : List ℕ → ℕ → ℕ
nth_of numbers k = slice_index_or numbers k 0

-- the k-th of the edges
abbrev pub nth_end : List (ℕ × ℕ) → ℕ → ℕ × ℕ
nth_end ends k = slice_index_or ends k (0, 0)

-- the numbers of the edges
abbrev pub numbers_in : List (ℕ × ℕ) → List ℕ
numbers_in ends = map (λ e. e.1) ends

-- the order has each edge of the list at its index, and exactly those that count stand before the others
pub record IsParted (ends : List (ℕ × ℕ)) (counts : ℕ → Bool) (s : Parted) : Type 0 where
  pub long : length s.order ≡ length ends
  pub placed : length s.places ≡ length ends
  pub indexed : length s.indices ≡ length ends
  pub few : s.front ≤ length ends
  pub within : (k : ℕ) → k < length ends → nth_of s.indices k < length ends
  pub inside : (i : ℕ) → i < length ends → nth_of s.places i < length ends
  pub there : (k : ℕ) → k < length ends → nth_end s.order (nth_of s.indices k) ≡ nth_end ends k
  pub forth : (k : ℕ) → k < length ends → nth_of s.places (nth_of s.indices k) ≡ k
  pub back : (i : ℕ) → i < length ends → nth_of s.indices (nth_of s.places i) ≡ i
  pub first : (k : ℕ) → k < length ends → (nth_of s.indices k < s.front) ↔ (counts (nth_of (numbers_in ends) k) ≡ true)

-- each number is above those before it
abbrev pub AreRising : List ℕ → Type 0
AreRising numbers = (i j : ℕ) → i < j → j < length numbers → nth_of numbers i < nth_of numbers j

-- what stands at these two indices of the order changes places
pub record IsExchanged (old new : Parted) (i j : ℕ) : Type 0 where
  pub order : SwappedAt old.order new.order i j
  pub places : SwappedAt old.places new.places i j
  pub indices : new.indices ≡ slice_set (slice_set old.indices (nth_of old.places i) j) (nth_of old.places j) i
  pub front : new.front ≡ old.front

-- the tests agree, but at this number, of which the second says whether it counts
pub record CountsAt (old new : ℕ → Bool) (number : ℕ) (counts : Bool) : Type 0 where
  pub here : new number ≡ counts
  pub others : (n : ℕ) → n ≢ number → new n ≡ old n

-- what is kept of the places of a page, by index; of those beyond the end, nothing is
abbrev pub KeptPage : Type 0
KeptPage = List (Option (Box Parted))

-- what is kept of each place, page by page
abbrev pub Kept : Type 0
Kept = List KeptPage

-- what is kept of the place with this index in a page
abbrev pub kept_in : KeptPage → ℕ → Option Parted
kept_in page index = option_map box_value (slice_index_or page index None)

-- what is kept of a place
abbrev pub kept_of : Kept → ℕ → Option Parted
kept_of kept place = kept_in (slice_index_or kept (place / PAGE) []) (place % PAGE)

-- it is right for the place's list, which is not short
abbrev pub IsKeptOf : List (ℕ × ℕ) → (ℕ → Bool) → Option Parted → Type 0
IsKeptOf ends counts kept = (s : Parted) → kept ≡ Some s → (MANY < length ends) × IsParted ends counts s

-- so is what is kept of each place
abbrev pub AreParted : (ℕ → List (ℕ × ℕ)) → (ℕ → Bool) → Kept → Type 0
AreParted lists counts kept = (place : ℕ) → IsKeptOf (lists place) counts (kept_of kept place)
