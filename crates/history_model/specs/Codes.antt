-- Events as a history keeps them: a code for each, and their further actors one after the other.
use Rattle.std.specs.Prelude.{ℕ, ◌+◌, List, [], ◌∷◌, drop, slice_index_or, take}
use Rattle.crgc_ids.specs.Actor.{Actor}
use Rattle.history_model.specs.declared.codes.Code.{Code}
use Rattle.history_model.specs.declared.codes.Code.TheVariants as codes
use Rattle.history_model.specs.declared.events.Event.{Event}
use Rattle.history_model.specs.declared.events.Event.TheVariants as events

-- how many further actors an event with this code has
abbrev pub further_count : Code → ℕ
further_count (codes.Tie b) = 1
further_count (codes.Send n a) = n + 1
further_count (codes.Drop a) = 1
further_count _ = 0

-- the first of these actors
abbrev pub first_of : List Actor → Actor
first_of actors = slice_index_or actors 0 (record { node = 0; serial = 0 })

-- the event with this code and these further actors
abbrev pub event_of : Code → List Actor → Event
event_of (codes.Seed n) further = events.Seed n
event_of (codes.Tie b) further = events.Tie b (first_of further)
event_of (codes.Wake a) further = events.Wake a
event_of (codes.Take a) further = events.Take a
event_of (codes.Spawn a) further = events.Spawn a
event_of (codes.Send n a) further = events.Send a (first_of further) (drop 1 further)
event_of (codes.Drop a) further = events.Drop a (first_of further)
event_of (codes.Retire a) further = events.Retire a
event_of (codes.Rest a) further = events.Rest a
event_of (codes.Flush a) further = events.Flush a
event_of (codes.Publish n) further = events.Publish n
event_of (codes.Window m s) further = events.Window m s
event_of (codes.Admit s d k) further = events.Admit s d k
event_of (codes.Lose s d k) further = events.Lose s d k
event_of (codes.Repeat s d k) further = events.Repeat s d k
event_of (codes.Crash n) further = events.Crash n
event_of (codes.Remove m s) further = events.Remove m s
event_of (codes.Hand m o k) further = events.Hand m o k
event_of (codes.Sweep n) further = events.Sweep n

-- the events with these codes and these further actors, in the same order
abbrev pub events_of : List Code → List Actor → List Event
events_of [] further = []
events_of (code ∷ rest) further =
    event_of code (take (further_count code) further) ∷ events_of rest (drop (further_count code) further)
