-- How often rows count something: the sums of the two numbers of its rows.
use Rattle.std.specs.Prelude.{◌≡◌, ◌&&◌, ◌<◌, ◌^◌, if◌then◌else◌, ℕ, List, Option}
use Rattle.std.specs.List.{sum_by}
use Rattle.crgc_ids.specs.Actor.{Actor, same_actor}
use Rattle.undo_log.specs.Keys.{same_owner}
use Rattle.undo_log.specs.declared.corrections.Correction.{Correction}

abbrev pub told_total : Option Actor → Actor → List Correction → ℕ
told_total owner target rows =
    sum_by (λ r. if same_owner owner r.owner && same_actor target r.target then r.told else 0) rows

abbrev pub admitted_total : Option Actor → Actor → List Correction → ℕ
admitted_total owner target rows =
    sum_by (λ r. if same_owner owner r.owner && same_actor target r.target then r.admitted else 0) rows

-- each sum has room in 63 bits
pub record HaveRoom (rows : List Correction) : Type 0 where
  pub told : (owner : Option Actor) (target : Actor) → told_total owner target rows < 2 ^ 63
  pub admitted : (owner : Option Actor) (target : Actor) → admitted_total owner target rows < 2 ^ 63

-- the rows count each thing as often as others do
pub record HaveTotalsOf (old new : List Correction) : Type 0 where
  pub told : (owner : Option Actor) (target : Actor) → told_total owner target new ≡ told_total owner target old
  pub admitted : (owner : Option Actor) (target : Actor) → admitted_total owner target new ≡ admitted_total owner target old
