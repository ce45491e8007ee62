-- The links between 16 nodes, from each to each other, as a list of 240.
use Rattle.std.specs.Prelude.{◌≡◌, ◌≢◌, ◌+◌, ◌-◌, ◌*◌, ◌/◌, ◌%◌, ◌<◌, ◌==◌, ℕ, true, false, if◌then◌else◌, nat_lt}
use Rattle.std.specs.Prelude.{List, [], get_or}
use Rattle.link_table.specs.LinkState.{LinkState, abandoned}

-- a link leads from one node to another
abbrev pub IsLink : ℕ → ℕ → Type 0
IsLink s d = (s < 16) × (d < 16) × (s ≢ d)

-- its place in the list: those from one node stand together, in the order of the nodes to which they lead
abbrev pub place : ℕ → ℕ → ℕ
place s d = s * 15 + (if nat_lt d s then d else d - 1)

-- the nodes between which the link at a place leads
abbrev pub source_of : ℕ → ℕ
source_of j = j / 15

abbrev pub end_of : ℕ → ℕ
end_of j = if nat_lt (j % 15) (j / 15) then j % 15 else j % 15 + 1

-- what stands at no place
abbrev pub blank : LinkState
blank = record {
  is_open = false;
  sent = 0;
  gate = record { at = 0; from = 0; is_closed = true; numbers = record { runs = [] }; messages = []; carried = [] };
  piles = [];
}

-- the link from s to d
abbrev pub link_at : List LinkState → ℕ → ℕ → LinkState
link_at links s d = get_or links (place s d) blank

-- the other links are as before
abbrev pub OthersStay : List LinkState → List LinkState → ℕ → ℕ → Type 0
OthersStay old new s d = (x y : ℕ) → IsLink x y → ((x ≡ s) × (y ≡ d) → ⊥) → link_at new x y ≡ link_at old x y

-- the link as its node's crash leaves it
abbrev pub after_crash : ℕ → List LinkState → ℕ → ℕ → LinkState
after_crash n links s d = if d == n then abandoned (link_at links s d) else link_at links s d
