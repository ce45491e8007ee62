-- What each step tells: of the step, the seat before, the number found and the seat after.
use Rattle.std.specs.Prelude.{◌≡◌, ◌≢◌, ℕ, ◌+◌, ◌%◌, ◌^◌, List, [], ◌∷◌, ◌++◌, Some}
use Rattle.atomic_table.specs.Table.{Me, Step}
use Rattle.turn_lock.specs.declared.object.Entry.{Entry}
use Rattle.turn_lock.specs.declared.rule.Last.{Last}
use Rattle.turn_lock.specs.declared.rule.Room.{Room}
use Rattle.turn_lock.specs.declared.rule.View.{View}
use Rattle.turn_lock.specs.History.{calls_of, Begins, IsProper}
use Rattle.turn_lock.specs.Views.{numbered, ticketed, turned, called}

abbrev pub Sat : Type 0 → Type 0 → Type 0 → Type 0
Sat S P R = Me (Room S P R) (View S P R)

abbrev pub Told : Type 0 → Type 0 → Type 0 → Type 1
Told S P R = Step (Room S P R) → Sat S P R → ℕ → Sat S P R → Type 0

module _ {S P R : Type 0} where
  abbrev pub draws_number : Told S P R
  draws_number st m r n = (r ≡ m.0.given + 1) × (n ≡ (numbered m.0, m.1))

  -- the word counts tickets modulo 2^64
  abbrev pub draws_ticket : Told S P R
  draws_ticket st m r n = (ticket : ℕ) × (r ≡ ticket % 2 ^ 64) × (n ≡ (ticketed m.0 ticket, m.1))

  -- the call stands in the log, and the slot is given back
  abbrev pub hands_on : Told S P R
  hands_on st m r n = (room : Room S P R) (last : Last P R) → m.1 ≡ (0, room) ∷ [] → room.last ≡ Some last
      → n ≡ (called m.0 last.op.value last.reply.value, [])

  -- the seat is as before
  abbrev pub passes_door : Told S P R
  passes_door st m r n = n ≡ m

  -- of the two histories of the last join, one begins the other
  abbrev pub compares : Told S P R
  compares st m r n = (n ≡ m) × Begins m.0.heard m.0.seen

module _ {S P R : Type 0} (fits : S → List (Entry P R) → P → ℕ → Type 0) (stands : S → List (Entry P R) → S → Type 0) where
  -- the seat has the slot, whose state stands for all that it has now seen; none of the calls that came later is its own
  pub record Took (m n : Sat S P R) : Type 0 where
    pub start : S
    pub later : List (Entry P R)
    pub room : Room S P R
    pub is_start : m.0.start ≡ Some start
    pub after : n ≡ (turned m.0 later, (0, room) ∷ m.1)
    pub none_later : calls_of m.0.number later ≡ []
    pub own : calls_of m.0.number (later ++ m.0.seen) ≡ m.0.own
    pub proper : IsProper fits stands start (later ++ m.0.seen)
    pub stood : stands start (later ++ m.0.seen) room.state

  abbrev pub looks : Told S P R
  looks st m r n = (r ≡ m.0.ticket % 2 ^ 64 → Took m n) × (r ≢ m.0.ticket % 2 ^ 64 → n ≡ m)
