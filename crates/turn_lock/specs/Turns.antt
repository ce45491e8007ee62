-- A seat that waits for its turn, and one that has it.
use Rattle.std.specs.Prelude.{◌≡◌, ℕ, ◌%◌, ◌^◌, List, [], ◌∷◌, ◌++◌, Some}
use Rattle.turn_lock.specs.declared.object.Entry.{Entry}
use Rattle.turn_lock.specs.declared.rule.Last.{Last}
use Rattle.turn_lock.specs.declared.rule.Room.{Room}
use Rattle.turn_lock.specs.declared.rule.View.{View}
use Rattle.turn_lock.specs.History.{entry, calls_of, IsProper}
use Rattle.turn_lock.specs.Views.{ticketed, turned, called}
use Rattle.turn_lock.specs.Steps.{Answers}
use Rattle.turn_lock.specs.Plays.{Sat}

module _ {S P R : Type 0} where
  -- the seat has drawn this ticket, of which the low 64 bits are known
  pub record IsWaiting (ticket : ℕ) (me : Sat S P R) : Type 0 where
    pub held : me.1 ≡ []
    pub live : me.0.live ≡ 1
    pub waits : me.0.waits ≡ 1
    pub turn : me.0.turn ≡ 0
    pub drawn : ticket ≡ me.0.ticket % 2 ^ 64

  -- the seat has the slot, of which Q holds
  abbrev pub Holds : Sat S P R → (Room S P R → Type 0) → Type 0
  Holds me Q = (room : Room S P R) × (me.1 ≡ (0, room) ∷ []) × Q room

module _ {S P R : Type 0} (fits : S → List (Entry P R) → P → ℕ → Type 0) (stands : S → List (Entry P R) → S → Type 0) where
  -- the room keeps the call that was made last
  abbrev pub Answered : ℕ → P → R → Room S P R → Room S P R → Type 0
  Answered pass op reply before after =
      ((last : Last P R) × (after.last ≡ Some last) × (last.op.value ≡ op) × (last.reply.value ≡ reply))
      × Answers fits stands pass op reply before.state after.state

  -- the seat has made this call, after calls of others, and has given the slot back
  pub record Served (start : S) (pass : ℕ) (op : P) (reply : R) (v : View S P R) (n : Sat S P R) : Type 0 where
    pub ticket : ℕ
    pub later : List (Entry P R)
    pub after : n ≡ (called (turned (ticketed v ticket) later) op reply, [])
    pub none_later : calls_of pass later ≡ []
    pub own : calls_of pass (later ++ v.seen) ≡ v.own
    pub proper : IsProper fits stands start (entry pass op reply ∷ (later ++ v.seen))
