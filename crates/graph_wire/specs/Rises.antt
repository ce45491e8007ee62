-- The sections of a bulletin whose rows have one actor each rise by it.
use Rattle.crgc_ids.specs.Actor.{IsActorBelow}
use Rattle.crgc_ids.specs.Rising.{IsRising}
use Rattle.crgc_ids.specs.declared.rising.ActorCount.{ActorCount}
use Rattle.history_model.specs.declared.records.Bulletin.{Bulletin}
use Rattle.history_model.specs.declared.records.Bulletin.TheVariants as bulletins
use Rattle.history_model.specs.declared.records.Delta.{Delta}
use Rattle.history_model.specs.declared.records.StateRow.{StateRow}
use Rattle.history_model.specs.declared.records.Window.{Window}
use Rattle.std.specs.Prelude.{List}

abbrev pub StatesRise : List StateRow → Type 0
StatesRise rows = IsRising (λ r s. IsActorBelow r.actor s.actor) rows

abbrev pub CountsRise : List ActorCount → Type 0
CountsRise rows = IsRising (λ r s. IsActorBelow r.actor s.actor) rows

abbrev pub DeltaRises : Delta → Type 0
DeltaRises d = StatesRise d.states × CountsRise d.sent

abbrev pub WindowRises : Window → Type 0
WindowRises w = CountsRise w.messages

abbrev pub KeysRise : Bulletin → Type 0
KeysRise (bulletins.Delta d) = DeltaRises d
KeysRise (bulletins.Window w) = WindowRises w
KeysRise (bulletins.Final w) = WindowRises w
