-- Messages: what was sent on each link, what was admitted, what waits, and the copies under way.
use Rattle.std.specs.Prelude.{ℕ, ◌+◌, ◌-◌, ◌==◌, Bool, false, ◌&&◌, if◌then◌else◌, nat_lt, List, [], ◌∷◌, ◌++◌, length, take, drop, slice_get, option_to_list}
use Rattle.std.specs.List.{list_any, filter}
use Rattle.crgc_ids.specs.Actor.{Actor}
use Rattle.history_model.specs.declared.events.Event.{Event}
use Rattle.history_model.specs.declared.events.Event.TheVariants.{Take, Send, Admit, Lose, Repeat, Remove}
use Rattle.history_model.specs.Tally.{tally}
use Rattle.history_model.specs.Cluster.{same_actor}

pub record Message : Type 0 where
  pub from : Actor
  pub to : Actor
  pub refs : List Actor

-- the messages sent from node s to node d, in order; the number of a message is its place
abbrev pub sent : ℕ → ℕ → List Event → List Message
sent s d [] = []
sent s d (Send f t refs ∷ p) =
    if (f.node == s) && (t.node == d)
    then sent s d p ++ record { from = f; to = t; refs = refs } ∷ []
    else sent s d p
sent s d (_ ∷ p) = sent s d p

-- message number k from s to d, as a list of at most one
abbrev pub message_at : ℕ → ℕ → ℕ → List Event → List Message
message_at s d k h = option_to_list (slice_get (sent s d h) k)

abbrev pub is_admit : ℕ → ℕ → ℕ → Event → Bool
is_admit s d k (Admit x y n) = (x == s) && ((y == d) && (n == k))
is_admit s d k _ = false

abbrev pub is_lose : ℕ → ℕ → ℕ → Event → Bool
is_lose s d k (Lose x y n) = (x == s) && ((y == d) && (n == k))
is_lose s d k _ = false

abbrev pub is_repeat : ℕ → ℕ → ℕ → Event → Bool
is_repeat s d k (Repeat x y n) = (x == s) && ((y == d) && (n == k))
is_repeat s d k _ = false

-- node d has removed node s
abbrev pub is_removal : ℕ → ℕ → Event → Bool
is_removal s d (Remove y x) = (x == s) && (y == d)
is_removal s d _ = false

abbrev pub is_take_by : Actor → Event → Bool
is_take_by a (Take b) = same_actor b a
is_take_by a _ = false

-- whether number k of the link was admitted
abbrev pub was_admitted : ℕ → ℕ → ℕ → List Event → Bool
was_admitted s d k h = list_any (is_admit s d k) h

-- the messages that the event admits: one on one node at once, one of a link at the first admission of its number. No other
-- form hands a message to its recipient's node
abbrev pub admitted_by : Event → List Event → List Message
admitted_by (Send f t refs) p =
    if f.node == t.node then record { from = f; to = t; refs = refs } ∷ [] else []
admitted_by (Admit s d k) p = if was_admitted s d k p then [] else message_at s d k p
admitted_by _ p = []

abbrev pub is_to : Actor → Message → Bool
is_to a m = same_actor m.to a

-- the admitted messages to actor a, in the order of their admission
abbrev pub mail : Actor → List Event → List Message
mail a [] = []
mail a (e ∷ p) = mail a p ++ filter (is_to a) (admitted_by e p)

-- how many messages actor a took; it takes its mail in order
abbrev pub takes : Actor → List Event → ℕ
takes a h = tally (is_take_by a) h

abbrev pub taken : Actor → List Event → List Message
taken a h = take (takes a h) (mail a h)

abbrev pub waiting : Actor → List Event → List Message
waiting a h = drop (takes a h) (mail a h)

-- how many copies of number k are on the link: one once it was sent, one more a repeat, one less a loss or an admission
abbrev pub copies : ℕ → ℕ → ℕ → List Event → ℕ
copies s d k h =
    ((if nat_lt k (length (sent s d h)) then 1 else 0) + tally (is_repeat s d k) h)
    - (tally (is_lose s d k) h + tally (is_admit s d k) h)

abbrev pub is_closed : ℕ → ℕ → List Event → Bool
is_closed s d h = list_any (is_removal s d) h
