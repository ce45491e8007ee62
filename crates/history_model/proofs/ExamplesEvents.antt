-- Events on worked moments: each rule refuses an event once, and what repeats, discarded admissions, windows and Finals do.
use Rattle.std.proofs.Common.{◌≡◌, true, List, [], ◌∷◌, refl, Some}
use Rattle.history_model.specs.declared.events.Event.{Event}
use Rattle.history_model.specs.declared.events.Event.TheVariants.{Seed, Tie, Wake, Take, Spawn, Send, Drop, Rest, Flush, Publish, Window, Admit, Lose, Repeat, Crash, Remove, Hand}
use Rattle.history_model.specs.declared.events.Rule.TheVariants.{NoNode, NoActor, Down, SameActor, SameNode, NotRoot, Busy, Idle, NoMail, NotHeld, Supervisor, Blank, EmptyQueue, Closed, NothingAdmitted, NotOnLink, NotCrashed, Removed, NoBulletin}
use Rattle.history_model.specs.Messages.{Message, admitted_by, copies, mail}
use Rattle.history_model.specs.Facts.{created, sent_to}
use Rattle.history_model.specs.Streams.{final_of, stream, window, window_of}
use Rattle.history_model.specs.Legal.{refusal}
use Rattle.history_model.specs.Rows.{actor, cluster, is_legal, onto}

-- ---- each rule refuses once

-- There is no node 1 in a cluster of one.
no_node-refused : refusal (cluster 1 1) (Seed 1) [] ≡ Some NoNode
no_node-refused = refl

-- Nobody was born.
no_actor-refused : refusal (cluster 1 1) (Wake (actor 0 0)) [] ≡ Some NoActor
no_actor-refused = refl

-- A crashed node bears nobody.
down-refused : refusal (cluster 1 1) (Seed 0) (Crash 0 ∷ []) ≡ Some Down
down-refused = refl

-- A root is not tied to itself, which it holds anyway.
same_actor-refused : refusal (cluster 1 1) (Tie (actor 0 0) (actor 0 0)) (Seed 0 ∷ []) ≡ Some SameActor
same_actor-refused = refl

-- No link leads from a node to itself.
same_node-refused : refusal (cluster 2 1) (Admit 0 0 0) [] ≡ Some SameNode
same_node-refused = refl

-- a root with a child, which has a message of it
abbrev child_with_mail : List Event
child_with_mail = onto [] (Seed 0 ∷ Wake (actor 0 0) ∷ Spawn (actor 0 0) ∷ Send (actor 0 0) (actor 0 1) [] ∷ [])

-- A child is no root, so it does not wake of itself.
not_root-refused : refusal (cluster 1 1) (Wake (actor 0 1)) child_with_mail ≡ Some NotRoot
not_root-refused = refl

-- Who is busy does not wake again.
busy-refused : refusal (cluster 1 1) (Wake (actor 0 0)) child_with_mail ≡ Some Busy
busy-refused = refl

-- Who is idle has nothing to rest from.
idle-refused : refusal (cluster 1 1) (Rest (actor 0 1)) child_with_mail ≡ Some Idle
idle-refused = refl

-- The child took its only message.
no_mail-refused : refusal (cluster 1 1) (Take (actor 0 1)) (Rest (actor 0 1) ∷ Take (actor 0 1) ∷ child_with_mail) ≡ Some NoMail
no_mail-refused = refl

-- A root does not hold another one that it was not tied to.
not_held-refused : refusal (cluster 1 1) (Drop (actor 0 0) (actor 0 1)) (Wake (actor 0 0) ∷ Seed 0 ∷ Seed 0 ∷ []) ≡ Some NotHeld
not_held-refused = refl

-- In version 2 a child keeps its last reference to its parent. In version 1 it has none.
supervisor-refused : refusal (cluster 1 2) (Drop (actor 0 1) (actor 0 0)) (Take (actor 0 1) ∷ child_with_mail) ≡ Some Supervisor
supervisor-refused = refl

supervisor-version_1 : refusal (cluster 1 1) (Drop (actor 0 1) (actor 0 0)) (Take (actor 0 1) ∷ child_with_mail) ≡ Some NotHeld
supervisor-version_1 = refl

-- Nothing happened to a root since its flush.
blank-refused : refusal (cluster 1 1) (Flush (actor 0 0)) (Flush (actor 0 0) ∷ Seed 0 ∷ []) ≡ Some Blank
blank-refused = refl

-- Nobody was flushed.
empty_queue-refused : refusal (cluster 1 1) (Publish 0) (Seed 0 ∷ []) ≡ Some EmptyQueue
empty_queue-refused = refl

-- Node 0 removed node 1, so nothing is admitted from it any more.
closed-refused : refusal (cluster 2 1) (Admit 1 0 0) (Remove 0 1 ∷ Crash 1 ∷ []) ≡ Some Closed
closed-refused = refl

-- Nothing was admitted on the link.
nothing_admitted-refused : refusal (cluster 2 1) (Window 0 1) [] ≡ Some NothingAdmitted
nothing_admitted-refused = refl

-- Nothing was sent on it.
not_on_link-refused : refusal (cluster 2 1) (Lose 0 1 0) [] ≡ Some NotOnLink
not_on_link-refused = refl

-- A node that is up is not removed.
not_crashed-refused : refusal (cluster 2 1) (Remove 0 1) [] ≡ Some NotCrashed
not_crashed-refused = refl

-- Nor is one that was removed before.
removed-refused : refusal (cluster 2 1) (Remove 0 1) (Remove 0 1 ∷ Crash 1 ∷ []) ≡ Some Removed
removed-refused = refl

-- Node 0 published nothing.
no_bulletin-refused : refusal (cluster 1 1) (Hand 0 0 0) (Seed 0 ∷ []) ≡ Some NoBulletin
no_bulletin-refused = refl

-- Where several rules are broken, the first in order is the refusal: nobody was born on the crashed node, and the busy root
-- has no mail.
no_actor-before_down : refusal (cluster 1 1) (Wake (actor 0 0)) (Crash 0 ∷ []) ≡ Some NoActor
no_actor-before_down = refl

busy-before_no_mail : refusal (cluster 1 1) (Take (actor 0 0)) child_with_mail ≡ Some Busy
busy-before_no_mail = refl

-- ---- a repeat, and a discarded admission

-- a message on a link, with two copies
abbrev two_copies : List Event
two_copies = onto [] (
    Seed 0 ∷ Seed 1 ∷ Tie (actor 0 0) (actor 1 0) ∷ Wake (actor 0 0)
    ∷ Send (actor 0 0) (actor 1 0) (actor 0 0 ∷ []) ∷ Repeat 0 1 0 ∷ []
    )

-- what 0.0 sent: a reference to itself
abbrev card : Message
card = record { from = actor 0 0; to = actor 1 0; refs = actor 0 0 ∷ [] }

two_copies-legal : is_legal (cluster 2 1) (Admit 0 1 0 ∷ Admit 0 1 0 ∷ two_copies) ≡ true
two_copies-legal = refl

-- A repeat adds a copy, and a loss or an admission takes one away.
two_copies-count : copies 0 1 0 two_copies ≡ 2
two_copies-count = refl

two_copies-lost : copies 0 1 0 (Lose 0 1 0 ∷ two_copies) ≡ 1
two_copies-lost = refl

-- The first admission admits the message, and the second one nothing: it is taken once.
first_copy-admits : admitted_by (Admit 0 1 0) two_copies ≡ card ∷ []
first_copy-admits = refl

second_copy-discarded : admitted_by (Admit 0 1 0) (Admit 0 1 0 ∷ two_copies) ≡ []
second_copy-discarded = refl

both_copies-mail : mail (actor 1 0) (Admit 0 1 0 ∷ Admit 0 1 0 ∷ two_copies) ≡ card ∷ []
both_copies-mail = refl

both_copies-taken : refusal (cluster 2 1) (Take (actor 1 0))
    (Rest (actor 1 0) ∷ Take (actor 1 0) ∷ Admit 0 1 0 ∷ Admit 0 1 0 ∷ two_copies) ≡ Some NoMail
both_copies-taken = refl

-- Then no copy is left.
third_copy-refused : refusal (cluster 2 1) (Admit 0 1 0) (Admit 0 1 0 ∷ Admit 0 1 0 ∷ two_copies) ≡ Some NotOnLink
third_copy-refused = refl

-- ---- a window, and a Final

-- after the first admission the window is cut, and then comes the other copy
abbrev window_cut : List Event
window_cut = onto two_copies (Admit 0 1 0 ∷ Window 1 0 ∷ Admit 0 1 0 ∷ [])

-- The window tells of the message and of the reference that it carries.
window_cut-told : stream (cluster 2 1) 1 window_cut ≡ window_of 0 (sent_to (actor 1 0) ∷ created (actor 1 0) (actor 0 0) ∷ []) ∷ []
window_cut-told = refl

-- The discarded copy adds nothing to the next one.
window_cut-next : window 0 1 window_cut ≡ []
window_cut-next = refl

window_cut-refused : refusal (cluster 2 1) (Window 1 0) window_cut ≡ Some NothingAdmitted
window_cut-refused = refl

-- The Final tells what was admitted since the last window: here nothing.
window_cut-final : stream (cluster 2 1) 1 (Remove 1 0 ∷ Crash 0 ∷ window_cut)
    ≡ window_of 0 (sent_to (actor 1 0) ∷ created (actor 1 0) (actor 0 0) ∷ []) ∷ final_of 0 [] ∷ []
window_cut-final = refl

-- Where no window was cut, it tells all.
no_window-final : stream (cluster 2 1) 1 (Remove 1 0 ∷ Crash 0 ∷ Admit 0 1 0 ∷ two_copies)
    ≡ final_of 0 (sent_to (actor 1 0) ∷ created (actor 1 0) (actor 0 0) ∷ []) ∷ []
no_window-final = refl
