-- The events that were noted of a world.
use Rattle.std.specs.Prelude.{List}
use Rattle.crgc_ids.specs.Actor.{Actor}
use Rattle.history_model.specs.declared.events.Event.{Event}
use Rattle.history_model.specs.declared.events.Event.TheVariants.{Send}

-- the event, where it is a message with these references
abbrev pub carrying : List Actor → Event → Event
carrying refs (Send from to _) = Send from to refs
carrying refs e = e
