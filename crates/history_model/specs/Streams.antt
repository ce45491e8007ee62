-- Logs, entries, windows, and the streams of bulletins.
use Rattle.std.specs.Prelude.{ℕ, ◌==◌, Bool, true, false, ◌&&◌, ◌||◌, not, if◌then◌else◌, List, [], ◌∷◌, ◌++◌, Option, Some, None, flat_map}
use Rattle.std.specs.Bool.{beq}
use Rattle.crgc_ids.specs.Actor.{Actor}
use Rattle.history_model.specs.declared.events.Event.{Event}
use Rattle.history_model.specs.declared.events.Event.TheVariants.{Flush, Publish, Window, Admit, Remove}
use Rattle.history_model.specs.Cluster.{Cluster, same_actor}
use Rattle.history_model.specs.Messages.{admitted_by}
use Rattle.history_model.specs.State.{is_busy, is_root}
use Rattle.history_model.specs.Facts.{Flags, Fact, flagged, message_facts, Note, notes}

-- the facts among the notes that stand in a's log
abbrev pub facts_by : Actor → List Note → List Fact
facts_by a [] = []
facts_by a (n ∷ ns) = if same_actor n.by a then n.fact ∷ facts_by a ns else facts_by a ns

abbrev pub is_flush_of : Actor → Event → Bool
is_flush_of a (Flush b) = same_actor b a
is_flush_of a _ = false

-- what a noted since its last flush
abbrev pub log : Cluster → Actor → List Event → List Fact
log cl a [] = []
log cl a (e ∷ p) = if is_flush_of a e then [] else log cl a p ++ facts_by a (notes cl e p)

abbrev pub flags_at : Actor → List Event → Flags
flags_at a h = record { busy = is_busy a h; root = is_root a h }

-- a's flags at its last flush
abbrev pub flushed_flags : Actor → List Event → Option Flags
flushed_flags a [] = None
flushed_flags a (Flush b ∷ p) = if same_actor b a then Some (flags_at a p) else flushed_flags a p
flushed_flags a (_ ∷ p) = flushed_flags a p

abbrev pub are_flags : Option Flags → Flags → Bool
are_flags None g = false
are_flags (Some f) g = beq f.busy g.busy && beq f.root g.root

abbrev pub is_blank : List Fact → Bool
is_blank [] = true
is_blank (_ ∷ _) = false

-- a can be flushed: its log is not blank, or it was not yet flushed, or its flags differ from those of its last flush
abbrev pub can_flush : Cluster → Actor → List Event → Bool
can_flush cl a h = not (is_blank (log cl a h)) || not (are_flags (flushed_flags a h) (flags_at a h))

-- what a flush of a moves to the queue
abbrev pub entry : Cluster → Actor → List Event → List Fact
entry cl a h = flagged a (flags_at a h) ∷ log cl a h

-- the entries of n's actors since n's last publish, added up
abbrev pub queue : Cluster → ℕ → List Event → List Fact
queue cl n [] = []
queue cl n (Flush a ∷ p) = if a.node == n then queue cl n p ++ entry cl a p else queue cl n p
queue cl n (Publish m ∷ p) = if m == n then [] else queue cl n p
queue cl n (_ ∷ p) = queue cl n p

-- what d admitted from s since the last window of that link
abbrev pub window : ℕ → ℕ → List Event → List Fact
window s d [] = []
window s d (Admit x y k ∷ p) =
    if (x == s) && (y == d) then window s d p ++ flat_map message_facts (admitted_by (Admit x y k) p) else window s d p
window s d (Window y x ∷ p) = if (x == s) && (y == d) then [] else window s d p
window s d (Remove y x ∷ p) = if (x == s) && (y == d) then [] else window s d p
window s d (_ ∷ p) = window s d p

-- what one bulletin tells; a window and a final name the node from which was admitted
pub data Notice : Type 0 where
  delta : List Fact → Notice
  window_of : ℕ → List Fact → Notice
  final_of : ℕ → List Fact → Notice

-- the bulletins of node n, in order
abbrev pub stream : Cluster → ℕ → List Event → List Notice
stream cl n [] = []
stream cl n (Publish m ∷ p) = if m == n then stream cl n p ++ delta (queue cl n p) ∷ [] else stream cl n p
stream cl n (Window d s ∷ p) = if d == n then stream cl n p ++ window_of s (window s d p) ∷ [] else stream cl n p
stream cl n (Remove d s ∷ p) = if d == n then stream cl n p ++ final_of s (window s d p) ∷ [] else stream cl n p
stream cl n (_ ∷ p) = stream cl n p
