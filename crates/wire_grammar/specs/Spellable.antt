-- Which bulletins have a spelling.
use Rattle.std.specs.Prelude.{ℕ, ◌≡◌, ◌≢◌, ◌<◌, ◌^◌, List, ◌++◌, length}
use Rattle.std.specs.List.{AllByRecursion}
use Rattle.crgc_ids.specs.Actor.{IsActorBelow, IsPairBelow, IsActor}
use Rattle.crgc_ids.specs.Rising.{IsRising}
use Rattle.crgc_ids.specs.declared.rising.ActorCount.{ActorCount}
use Rattle.crgc_ids.specs.declared.rising.PairCount.{PairCount}
use Rattle.history_model.specs.declared.records.Bulletin.{Bulletin}
use Rattle.history_model.specs.declared.records.Bulletin.TheVariants as bulletins
use Rattle.history_model.specs.declared.records.Delta.{Delta}
use Rattle.history_model.specs.declared.records.StateRow.{StateRow}
use Rattle.history_model.specs.declared.records.Window.{Window}
use Rattle.wire_grammar.specs.Spelling.{spelled}

abbrev pub IsCount : ℕ → Type 0
IsCount n = (0 < n) × (n < 2 ^ 32)

abbrev pub IsStateRow : StateRow → Type 0
IsStateRow r = IsActor r.actor × (r.received < 2 ^ 32)

abbrev pub IsActorCount : ActorCount → Type 0
IsActorCount r = IsActor r.actor × IsCount r.count

abbrev pub IsPairCount : PairCount → Type 0
IsPairCount r = IsActor r.owner × IsActor r.target × IsCount r.count

-- rows that rise, each as it has to be, and not too many for their number to be spelled
pub record AreRows {X : Type 0} (below : X → X → Type 0) (IsRow : X → Type 0) (rows : List X) : Type 0 where
  pub rise : IsRising below rows
  pub stand : AllByRecursion IsRow rows
  pub fit : length rows < 2 ^ 32

abbrev pub AreStates : List StateRow → Type 0
AreStates = AreRows (λ r s. IsActorBelow r.actor s.actor) IsStateRow

abbrev pub AreCounts : List ActorCount → Type 0
AreCounts = AreRows (λ r s. IsActorBelow r.actor s.actor) IsActorCount

abbrev pub ArePairs : List PairCount → Type 0
ArePairs = AreRows (λ r s. IsPairBelow r.owner r.target s.owner s.target) IsPairCount

pub record IsDelta (d : Delta) : Type 0 where
  pub node : d.node < 16
  pub states : AreStates d.states
  pub sent : AreCounts d.sent
  pub created : ArePairs d.created
  pub released : ArePairs d.released

-- a window of a link between two nodes
pub record IsWindow (w : Window) : Type 0 where
  pub at_node : w.at < 16
  pub from_node : w.from < 16
  pub link : w.from ≢ w.at
  pub messages : AreCounts w.messages
  pub carried : ArePairs w.carried

abbrev pub IsSpellable : Bulletin → Type 0
IsSpellable (bulletins.Delta d) = IsDelta d
IsSpellable (bulletins.Window w) = IsWindow w
IsSpellable (bulletins.Final w) = IsWindow w

-- the bytes begin with the spelling of some bulletin
abbrev pub BeginsWithSpelling : List ℕ → Type 0
BeginsWithSpelling bytes = (b : Bulletin) × (rest : List ℕ) × (IsSpellable b × (bytes ≡ spelled b ++ rest))
