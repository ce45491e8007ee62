-- What is promised of stopped actors.
use Rattle.std.specs.Prelude.{◌≡◌, ◌↔◌, ℕ, true, None}
use Rattle.crgc_ids.specs.Actor.{Actor}
use Rattle.crgc_ids.specs.Members.{IsAmong}
use Rattle.history_model.specs.declared.events.Event.TheVariants.{Sweep}
use Rattle.history_model.specs.declared.records.Stop.{Stop}
use Rattle.history_model.specs.declared.records.Verdict.{Verdict}
use Rattle.history_model.specs.Legal.{is_parent, refusal}
use Rattle.history_model.specs.Quiescent.{IsQuiescent, IsQuietPoint}
use Rattle.history_model.specs.Story.{Story}
use Rattle.history_model.specs.Sweeps.{IsVerdict, is_stopped}

-- where no rule refuses its sweep, the verdict is what a sweep of its node finds
abbrev pub IsFoundBySweep : Story → Verdict → Type 0
IsFoundBySweep s v = refusal s.cluster (Sweep v.node) s.past ≡ None → IsVerdict s.cluster v.node s.past v

-- soundness: each actor that the verdict stops is quiescent
abbrev pub StopsTheQuiescent : Story → Verdict → Type 0
StopsTheQuiescent s v = (stop : Stop) → IsAmong stop v.stops → IsQuiescent s.cluster s.past stop.actor

-- stability: each actor that was stopped is quiescent
abbrev pub StoppedAreQuiescent : Story → Type 0
StoppedAreQuiescent s = (a : Actor) → is_stopped s.cluster a s.past ≡ true → IsQuiescent s.cluster s.past a

-- completeness: if the old history is at a quiet point of the node, its stopped actors in the new one are exactly its quiescent
-- ones
abbrev pub StopsAllAtQuietPoint : ℕ → Story → Story → Type 0
StopsAllAtQuietPoint m old new =
    IsQuietPoint old.cluster m old.past
    → (a : Actor) → a.node ≡ m → (is_stopped new.cluster a new.past ≡ true) ↔ IsQuiescent new.cluster new.past a

-- supervision: in version 2, each child of a stopped actor is stopped
abbrev pub ChildrenAreStopped : Story → Type 0
ChildrenAreStopped s =
    s.cluster.version ≡ 2
    → (a b : Actor) → is_stopped s.cluster a s.past ≡ true → is_parent a b s.past ≡ true → is_stopped s.cluster b s.past ≡ true
