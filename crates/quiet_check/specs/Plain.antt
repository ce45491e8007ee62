-- What the plain programs compute: a finite test for each part of a quiet point, and a greatest part for quiescence. The actors and the messages that a part
-- speaks of are found by going over the events.
use Rattle.std.specs.Prelude.{ℕ, zero, suc, ◌==◌, Bool, true, false, ◌&&◌, ◌||◌, not, nat_lt, if◌then◌else◌, List, [], ◌∷◌, ◌++◌, length, map, Option, Some, None}
use Rattle.std.specs.List.{filter, list_all, list_any}
use Rattle.crgc_ids.specs.Greatest.{greatest}
use Rattle.crgc_ids.specs.Actor.{Actor}
use Rattle.history_model.specs.declared.events.Event.{Event}
use Rattle.history_model.specs.declared.events.Event.TheVariants.{Seed, Tie, Take, Spawn, Send, Flush, Publish, Window, Lose, Remove}
use Rattle.history_model.specs.Tally.{tally}
use Rattle.history_model.specs.Cluster.{Cluster, newborn, is_born, same_actor}
use Rattle.history_model.specs.Graph.{holds_actor}
use Rattle.history_model.specs.Held.{held}
use Rattle.history_model.specs.Live.{is_under_way}
use Rattle.quiet_check.specs.declared.messages.Carrying.{Carrying}
use Rattle.history_model.specs.Messages.{Message, admitted_by, copies, is_admit, is_closed, mail, takes, was_admitted}
use Rattle.history_model.specs.State.{is_busy, is_root, is_up}
use Rattle.history_model.specs.Streams.{can_flush, is_blank, queue}
use Rattle.history_model.specs.Folds.{was_handed}

-- all numbers below n pass
abbrev pub all_below : (ℕ → Bool) → ℕ → Bool
all_below test zero = true
all_below test (suc n) = all_below test n && test n

-- some event passes, with the events before it
abbrev pub some_moment : (Event → List Event → Bool) → List Event → Bool
some_moment test [] = false
some_moment test (e ∷ p) = test e p || some_moment test p

-- ---- actors

-- the actors that the event brings into being, gives a reference or lets take a message
abbrev pub owners_by : Event → List Event → List Actor
owners_by (Seed n) p = newborn n p ∷ []
owners_by (Tie o t) p = o ∷ []
owners_by (Take a) p = a ∷ []
owners_by (Spawn a) p = a ∷ newborn a.node p ∷ []
owners_by _ p = []

abbrev pub owners : List Event → List Actor
owners [] = []
owners (e ∷ p) = owners p ++ owners_by e p

-- a was born, on a node that is up, and can be flushed
abbrev pub is_unflushed : Cluster → List Event → Actor → Bool
is_unflushed cl h a = is_born a h && (is_up a.node h && can_flush cl a h)

-- ---- nodes

-- k has removed n, if n has crashed and k has not
abbrev pub closes : List Event → ℕ → ℕ → Bool
closes h n k = is_up n h || (not (is_up k h) || is_closed n k h)

abbrev pub closes_all : ℕ → List Event → ℕ → Bool
closes_all nodes h n = all_below (closes h n) nodes

-- ---- streams

-- the event is a flush on a node that is up, whose queue is not empty
abbrev pub leaves_entry : Cluster → List Event → Event → Bool
leaves_entry cl h (Flush a) = is_up a.node h && not (is_blank (queue cl a.node h))
leaves_entry cl h _ = false

-- the event puts a bulletin into n's stream
abbrev pub is_told_by : ℕ → Event → Bool
is_told_by n (Publish m) = m == n
is_told_by n (Window d s) = d == n
is_told_by n (Remove d s) = d == n
is_told_by n _ = false

-- each bulletin of n was handed to m
abbrev pub is_handed_whole : ℕ → List Event → ℕ → Bool
is_handed_whole m h n = all_below (λ k. was_handed m n k h) (tally (is_told_by n) h)

abbrev pub is_folded : ℕ → List Event → ℕ → Bool
is_folded m h n = not (is_up n h) || is_handed_whole m h n

-- ---- links

-- the event sends a message from node s to node d
abbrev pub is_send_on : ℕ → ℕ → Event → Bool
is_send_on s d (Send f t refs) = (f.node == s) && (t.node == d)
is_send_on s d _ = false

-- the event takes a copy of number k from the link
abbrev pub is_departure : ℕ → ℕ → ℕ → Event → Bool
is_departure s d k (Lose x y n) = (x == s) && ((y == d) && (n == k))
is_departure s d k e = is_admit s d k e

-- number k of the link was admitted, or a copy of it is on the link
abbrev pub arrives : List Event → ℕ → ℕ → ℕ → Bool
arrives h s d k = was_admitted s d k h || nat_lt 0 (copies s d k h)

-- s and d, which differ, are up, and number k does not arrive
abbrev pub is_undelivered : List Event → ℕ → ℕ → ℕ → Bool
is_undelivered h s d k = not (s == d) && (is_up s h && (is_up d h && not (arrives h s d k)))

-- the event sends a message that is not delivered; its number is how many were sent on the link before
abbrev pub is_missing : List Event → Event → List Event → Bool
is_missing h (Send f t refs) p = is_undelivered h f.node t.node (tally (is_send_on f.node t.node) p)
is_missing h _ p = false

-- ---- quiet points

abbrev pub is_plain_quiet_point : Cluster → ℕ → List Event → Bool
is_plain_quiet_point cl m h =
    is_up m h
    && (all_below (closes_all cl.nodes h) cl.nodes
    && (not (list_any (is_unflushed cl h) (owners h))
    && (not (list_any (leaves_entry cl h) h)
    && (all_below (is_folded m h) cl.nodes && not (some_moment (is_missing h) h)))))

-- ---- messages

-- what a plain program keeps of a message, where it asks after actor a
abbrev pub carrying : Actor → Message → Carrying
carrying a m = record { to = m.to; refs = tally (same_actor a) m.refs }

-- it goes to a, or carries a
abbrev pub touches : Actor → Carrying → Bool
touches a c = same_actor c.to a || nat_lt 0 c.refs

-- how many messages to b it is
abbrev pub counts : Actor → Option Carrying → ℕ
counts b None = 0
counts b (Some c) = if same_actor c.to b then 1 else 0

-- a message to b that is admitted after p still waits at the moment h, on a node that is up
abbrev pub waits : List Event → List Event → Actor → Bool
waits h p b = is_up b.node h && not (nat_lt (length (mail b p)) (takes b h))

-- number k is on the link between two different nodes, the second of which is up
abbrev pub is_coming : List Event → ℕ → ℕ → ℕ → Bool
is_coming h s d k = not (s == d) && (is_up d h && is_under_way s d h k)

abbrev pub uses_waiting : List Event → Actor → List Event → Carrying → Bool
uses_waiting h a p c = touches a c && waits h p c.to

abbrev pub uses_coming : List Event → Actor → Event → List Event → Bool
uses_coming h a (Send f t refs) p =
    touches a (carrying a (record { from = f; to = t; refs = refs })) && is_coming h f.node t.node (tally (is_send_on f.node t.node) p)
uses_coming h a _ p = false

-- a message that the event admits or sends is live at the moment h, and goes to a or carries a
abbrev pub uses : List Event → Actor → Event → List Event → Bool
uses h a e p = list_any (uses_waiting h a p) (map (carrying a) (admitted_by e p)) || uses_coming h a e p

-- how many references a take of the message gives b, where n messages to b came before and b takes t
abbrev pub brings : Actor → ℕ → ℕ → Option Carrying → ℕ
brings b n t None = 0
brings b n t (Some c) = if same_actor c.to b && nat_lt n t then c.refs else 0

-- ---- quiescence

abbrev pub is_candidate : List Event → Actor → Bool
is_candidate h a = is_born a h && (not (is_busy a h) && (not (is_root a h) && not (some_moment (uses h a) h)))

-- b, on a node that is up, holds a
abbrev pub is_holder : Cluster → List Event → Actor → Actor → Bool
is_holder cl h a b = is_up b.node h && nat_lt 0 (held cl b a h)

-- all that hold a on nodes that are up are in the list
abbrev pub is_held_within : Cluster → List Event → List Actor → Actor → Bool
is_held_within cl h xs a = list_all (λ b. holds_actor xs b || not (is_holder cl h a b)) (owners h)

unfoldable pub plain_quiescent : Cluster → List Event → List Actor
plain_quiescent cl h = greatest (is_held_within cl h) (filter (is_candidate h) (owners h))
