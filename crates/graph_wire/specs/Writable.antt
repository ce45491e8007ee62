-- What can be written, and that its numbers of rows have room in a form.
use Rattle.std.specs.Prelude.{◌≢◌, ◌<◌, ◌^◌, Bool, List, length}
use Rattle.crgc_ids.specs.Actor.{Actor, IsActorBelow}
use Rattle.crgc_ids.specs.Rising.{IsRising}
use Rattle.history_model.specs.declared.records.Bulletin.{Bulletin}
use Rattle.history_model.specs.declared.records.Bulletin.TheVariants as bulletins
use Rattle.history_model.specs.declared.records.Delta.{Delta}
use Rattle.history_model.specs.declared.records.Window.{Window}
use Rattle.wire_grammar.specs.Spelling.{index_len}

-- no section has more rows than four bytes count
pub record IsWritableDelta (d : Delta) : Type 0 where
  pub states : length d.states < 2 ^ 32
  pub sent : length d.sent < 2 ^ 32
  pub created : length d.created < 2 ^ 32
  pub released : length d.released < 2 ^ 32

-- a link leads to another node, and no section has more rows than four bytes count
pub record IsWritableWindow (w : Window) : Type 0 where
  pub link : w.from ≢ w.at
  pub messages : length w.messages < 2 ^ 32
  pub carried : length w.carried < 2 ^ 32

abbrev pub IsWritable : Bulletin → Type 0
IsWritable (bulletins.Delta d) = IsWritableDelta d
IsWritable (bulletins.Window w) = IsWritableWindow w
IsWritable (bulletins.Final w) = IsWritableWindow w

-- the numbers of the table's actors and of the rows have room in the form
pub record DeltaHasRoom (wide : Bool) (table : List Actor) (d : Delta) : Type 0 where
  pub rises : IsRising IsActorBelow table
  pub room : length table < 256 ^ index_len wide
  pub states : length d.states < 256 ^ index_len wide
  pub sent : length d.sent < 256 ^ index_len wide
  pub created : length d.created < 2 ^ 32
  pub released : length d.released < 2 ^ 32

pub record WindowHasRoom (wide : Bool) (table : List Actor) (w : Window) : Type 0 where
  pub rises : IsRising IsActorBelow table
  pub room : length table < 256 ^ index_len wide
  pub messages : length w.messages < 256 ^ index_len wide
  pub carried : length w.carried < 2 ^ 32
