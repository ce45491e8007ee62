-- What a link stands for: what is true of it in a history.
use Rattle.std.specs.Prelude.{◌≡◌, ◌==◌, ◌&&◌, not, if◌then◌else◌, nat_lt, slice_get, length, ℕ, Bool, false}
use Rattle.std.specs.Prelude.{List, ◌∷◌, Option, Some, None}
use Rattle.std.specs.Option.{option_map}
use Rattle.crgc_ids.specs.Actor.{Actor}
use Rattle.history_model.specs.declared.events.Event.{Event}
use Rattle.history_model.specs.declared.events.Event.TheVariants.{Admit, Crash, Lose, Remove, Repeat, Send, Window}
use Rattle.history_model.specs.declared.records.Window as records
use Rattle.history_model.specs.Cluster.{Cluster}
use Rattle.history_model.specs.Legal.{IsLegal}
use Rattle.history_model.specs.Live.{under_way}
use Rattle.history_model.specs.Messages.{Message, copies, is_closed, sent, was_admitted}
use Rattle.history_model.specs.State.{is_up}
use Rattle.history_model.specs.Tells.{CountsMessages, admitted_since, message_pairs, message_recipients}
use Rattle.ingress_gateway.specs.Gate.{is_admitted}
use Rattle.link_table.specs.declared.piles.Envelope.{Envelope}
use Rattle.link_table.specs.declared.piles.Pile.{Pile}
use Rattle.link_table.specs.LinkState.{LinkState, SendsTo}
use Rattle.link_table.specs.Piled.{kept_count, pile_at}

-- d has not crashed and has not removed s: what is on the link from s to d can be admitted
abbrev pub is_link_open : ℕ → ℕ → List Event → Bool
is_link_open s d h = is_up d h && not (is_closed s d h)

-- what a message brings to its recipient
abbrev pub envelope_of : Message → Envelope
envelope_of m = record { to = m.to; refs = m.refs }

-- what message number k brings, until the number is admitted
abbrev pub envelope_at : ℕ → ℕ → List Event → ℕ → Option Envelope
envelope_at s d h k = if was_admitted s d k h then None else option_map envelope_of (slice_get (sent s d h) k)

-- a pile of these copies, on a link that is open, if there is one
abbrev pub pile_with : Bool → ℕ → Option Envelope → Option Pile
pile_with is_open count message = if is_open && nat_lt 0 count then Some (record { copies = count; message = message }) else None

-- the pile of number k: its copies, as long as the link is open
abbrev pub pile_of : ℕ → ℕ → List Event → ℕ → Option Pile
pile_of s d h k = pile_with (is_link_open s d h) (copies s d k h) (envelope_at s d h k)

-- the link is as the history says of the link from s to d
pub record StandsFor (s d : ℕ) (h : List Event) (l : LinkState) : Type 0 where
  pub ends : (l.gate.from ≡ s) × (l.gate.at ≡ d)
  pub opened : l.is_open ≡ is_link_open s d h
  pub stamped : l.sent ≡ length (sent s d h)
  pub piled : (k : ℕ) → pile_at l.piles k ≡ pile_of s d h k
  pub counted : kept_count l.piles ≡ (if is_link_open s d h then under_way s d h else 0)
  pub admitted : (k : ℕ) → is_admitted l.gate k ≡ was_admitted s d k h
  pub messages : l.gate.messages ≡ message_recipients (admitted_since s d h)
  pub carried : l.gate.carried ≡ message_pairs (admitted_since s d h)

-- the link that stood for the history stands, as it is now, for the history with the event, if that is legal
abbrev pub StandsAfter : Cluster → ℕ → ℕ → Event → List Event → LinkState → LinkState → Type 0
StandsAfter cl s d e p old new = IsLegal cl (e ∷ p) → StandsFor s d p old → StandsFor s d (e ∷ p) new

-- so the link on which a message was sent stands
abbrev pub SendsAreStoodFor : Cluster → Type 0
SendsAreStoodFor cl =
    (f t : Actor) (refs : List Actor) (p : List Event) (old new : LinkState)
    → SendsTo old new t refs → StandsAfter cl f.node t.node (Send f t refs) p old new

-- the window is that of the link, and counts the messages that were admitted since the last one
abbrev pub CountsSince : ℕ → ℕ → List Event → records.Window → Type 0
CountsSince s d h w = (w.at ≡ d) × (w.from ≡ s) × CountsMessages w (admitted_since s d h)

-- the event is of the link from s to d: it sends on it, moves what is there, cuts its window, or closes its end
abbrev pub is_of_link : ℕ → ℕ → Event → Bool
is_of_link s d (Send f t refs) = (f.node == s) && (t.node == d)
is_of_link s d (Window y x) = (x == s) && (y == d)
is_of_link s d (Admit x y k) = (x == s) && (y == d)
is_of_link s d (Lose x y k) = (x == s) && (y == d)
is_of_link s d (Repeat x y k) = (x == s) && (y == d)
is_of_link s d (Crash n) = n == d
is_of_link s d (Remove y x) = (x == s) && (y == d)
is_of_link s d _ = false
