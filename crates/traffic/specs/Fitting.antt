-- Counts that fit the 32 bits in which they are kept, and histories of which they do.
use Rattle.std.specs.Prelude.{◌≤◌, ◌+◌, ◌<◌, ◌^◌, ℕ, List, [], ◌∷◌, length}
use Rattle.history_model.specs.declared.events.Event.{Event}
use Rattle.history_model.specs.declared.events.Event.TheVariants.{Send}
use Rattle.link_table.specs.LinkState.{FitsGate}
use Rattle.link_table.specs.Piled.{copies_in}
use Rattle.link_table.specs.Table.{IsLink}
use Rattle.traffic.specs.Loads.{live_in}
use Rattle.traffic.specs.TrafficState.{TrafficState, link_of, message_on, pile_on}
use Rattle.crgc_ids.specs.declared.limits.TheConstants.{MOST_EVENTS}

-- each message that was sent carries at most 16 references
abbrev pub CarriesFew : List Event → Type 0
CarriesFew [] = Unit {0}
CarriesFew (Send f t refs ∷ p) = (length refs ≤ 16) × CarriesFew p
CarriesFew (_ ∷ p) = CarriesFew p

-- so, and it has at most 1,000,000 events
abbrev pub IsSmall : List Event → Type 0
IsSmall h = (length h ≤ MOST_EVENTS) × CarriesFew h

-- one message more fits on each link, and at each node
abbrev pub SentFits : TrafficState → Type 0
SentFits t = (s d : ℕ) → IsLink s d → (link_of t s d).sent + 1 < 2 ^ 32

abbrev pub LiveFits : TrafficState → Type 0
LiveFits t = (n : ℕ) → live_in t.loads n + 1 < 2 ^ 32

-- one copy more fits of each number
abbrev pub CopiesFit : TrafficState → Type 0
CopiesFit t = (s d k : ℕ) → IsLink s d → copies_in (pile_on t s d k) + 1 < 2 ^ 32

-- the counts of each next window fit with the message of each number
abbrev pub GatesFit : TrafficState → Type 0
GatesFit t = (s d k : ℕ) → IsLink s d → FitsGate (link_of t s d).gate (message_on t s d k)
