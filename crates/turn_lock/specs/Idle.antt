-- A pass between two calls.
use Rattle.std.specs.Prelude.{◌≡◌, ℕ, []}
use Rattle.atomic_table.specs.Table.{Me}
use Rattle.atomic_table.specs.Seated.{TableId}
use Rattle.turn_lock.specs.declared.rule.Room.{Room}
use Rattle.turn_lock.specs.declared.rule.View.{View}
use Rattle.turn_lock.specs.Known.{Known}

module _ {S P R : Type 0} where
  abbrev pub known : TableId → View S P R → Known S P R
  known table v = record {
    origin = record { table = table; start = v.start };
    number = v.number;
    split = v.given;
    joined = v.joined;
    seen = v.seen;
    own = v.own;
    gathered = v.gathered;
  }

  -- a pass of this number, which holds no slot and has no ticket
  pub record IsIdle (number : ℕ) (me : Me (Room S P R) (View S P R)) : Type 0 where
    pub held : me.1 ≡ []
    pub live : me.0.live ≡ 1
    pub number_is : me.0.number ≡ number
    pub drawn : me.0.drawn ≡ 0
    pub waits : me.0.waits ≡ 0
    pub turn : me.0.turn ≡ 0
