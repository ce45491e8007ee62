-- The references that actors hold.
use Rattle.std.specs.Prelude.{ℕ, ◌+◌, ◌-◌, Bool, false, ◌&&◌, List, [], ◌∷◌}
use Rattle.crgc_ids.specs.Actor.{Actor}
use Rattle.history_model.specs.declared.events.Event.{Event}
use Rattle.history_model.specs.declared.events.Event.TheVariants.{Send, Drop}
use Rattle.history_model.specs.Tally.{tally}
use Rattle.history_model.specs.Cluster.{Cluster, same_actor}
use Rattle.history_model.specs.Messages.{Message, taken}
use Rattle.history_model.specs.Facts.{Note, is_created, notes}

abbrev pub is_note_of : Actor → Actor → Note → Bool
is_note_of b a n = is_created b a n.fact

-- the notes of what the event gives at once. A send notes references that its recipient gets only with the message
abbrev pub given_at_once : Cluster → Event → List Event → List Note
given_at_once cl (Send f t refs) p = []
given_at_once cl e p = notes cl e p

-- references to a that births and ties gave b
abbrev pub gifts : Cluster → Actor → Actor → List Event → ℕ
gifts cl b a [] = 0
gifts cl b a (e ∷ p) = gifts cl b a p + tally (is_note_of b a) (given_at_once cl e p)

-- references to a that the messages carry; one that is carried twice counts twice
abbrev pub carried : Actor → List Message → ℕ
carried a [] = 0
carried a (m ∷ ms) = tally (same_actor a) m.refs + carried a ms

abbrev pub got : Cluster → Actor → Actor → List Event → ℕ
got cl b a h = gifts cl b a h + carried a (taken b h)

abbrev pub is_drop_of : Actor → Actor → Event → Bool
is_drop_of b a (Drop x y) = same_actor x b && same_actor y a
is_drop_of b a _ = false

abbrev pub gave : Actor → Actor → List Event → ℕ
gave b a h = tally (is_drop_of b a) h

-- how many references to a actor b holds
abbrev pub held : Cluster → Actor → Actor → List Event → ℕ
held cl b a h = got cl b a h - gave b a h
