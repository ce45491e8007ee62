-- The search for the actor that is woken next.
use Rattle.std.proofs.Common.{◌≡◌, ◌+◌, ◌-◌, ◌*◌, ◌&&◌, ℕ, Bool, true, false, nat_lt, min, Option, refl, sym, ◌∙◌, ap}
use Rattle.crgc_ids.specs.Actor.{Actor}
use Rattle.history_model.specs.State.{is_root, is_up}
use Rattle.run_model.specs.Planned.{next_wake, wakes_left}
use Rattle.script_progress.specs.Standing.{IsProgressAt, can_wake}
use Rattle.script_progress.specs.Used.{Used}
use Rattle.script_player.specs.declared.driver.Driver.{Driver}
use Rattle.script_player.specs.Standing.{IsBetween}

-- the driver is the first one, with another progress at the same history
abbrev pub IsSearchAt : Driver → Driver → Type 0
IsSearchAt first d = IsBetween d × (d ≡ record first { progress = d.progress })

pub search-on : (first d : Driver) (p : Used) → IsSearchAt first d → IsProgressAt d.script.value d.course.past p
    → IsSearchAt first (record d { progress = p })
search-on first d p ((stands, made), same) progress = (
  (
    record {
      script = stands.script;
      nodes = stands.nodes;
      code = stands.code;
      cluster = stands.cluster;
      within = stands.within;
      actors = stands.actors;
      progress = progress;
    },
    made,
  ),
  ap (λ (x : Driver). record x { progress = p }) same,
)

-- the first driver has the same next wake
pub search-wake : (first d : Driver) (v : Option Actor) → IsSearchAt first d → next_wake d.script.value d.course.past ≡ v
    → v ≡ next_wake first.script.value first.course.past
search-wake first d v (_, same) next = sym next ∙ ap (λ (x : Driver). next_wake x.script.value x.course.past) same

-- who is no root on a node that is up cannot be woken
pub no-wake : (d : Driver) (a : Actor) → (is_root a d.course.past && is_up a.node d.course.past) ≡ false
    → can_wake d.script.value a d.course.past ≡ false
no-wake d a none = rest (nat_lt 0 (wakes_left d.script.value a d.course.past)) (is_root a d.course.past && is_up a.node d.course.past) none
  where
    rest : (v w : Bool) → w ≡ false → (v && w) ≡ false
    rest true w fails = fails
    rest false w fails = refl

-- how many actors the search may still come to, where it is at this one: 262,145 places on each of 16 nodes
abbrev pub places_from : Actor → ℕ
places_from a = 4194320 - (a.node * 262145 + min a.serial 262144)
