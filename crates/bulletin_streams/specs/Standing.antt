-- What queues and streams stand for: what is true of them in a history.
use Rattle.std.specs.Prelude.{◌≡◌, ◌≢◌, ◌+◌, ◌<◌, ◌≤◌, ◌^◌, ◌==◌, if◌then◌else◌, ℕ, Bool, true, false, List, [], ◌∷◌, Some, length, slice_get}
use Rattle.history_model.specs.declared.events.Event.{Event}
use Rattle.history_model.specs.declared.events.Event.TheVariants.{Flush, Publish, Remove, Window}
use Rattle.history_model.specs.declared.records.Bulletin.{Bulletin}
use Rattle.history_model.specs.declared.records.Bulletin.TheVariants as bulletins
use Rattle.history_model.specs.declared.records.Entry.{Entry}
use Rattle.history_model.specs.declared.records.Window as windows
use Rattle.history_model.specs.Cluster.{Cluster}
use Rattle.history_model.specs.Graph.{rising_actors}
use Rattle.history_model.specs.Ledgers.{Ledger, ledger_names}
use Rattle.history_model.specs.Legal.{IsLegal}
use Rattle.history_model.specs.Streams.{Notice, entry, queue, stream, window}
use Rattle.history_model.specs.Tells.{TellEntries, Tells, TellsEntry, TellsWindow, bulletin_ledger}
use Rattle.journal_model.specs.Limits.{passes_delta}
use Rattle.journal_model.specs.Lines.{AreWithinRanges}
use Rattle.bulletin_streams.specs.StreamState.{StreamState, stream_at}
use Rattle.crgc_ids.specs.declared.limits.TheConstants.{MOST_EVENTS, MOST_NAMED}

-- how many entries node n has queued since its last publish
abbrev pub queued : ℕ → List Event → ℕ
queued n [] = 0
queued n (Flush a ∷ p) = if a.node == n then queued n p + 1 else queued n p
queued n (Publish m ∷ p) = if m == n then 0 else queued n p
queued n (_ ∷ p) = queued n p

-- the bulletins of node o are as many as the notices, and each tells the one at its place
abbrev pub AreTold : ℕ → List Bulletin → List Notice → Type 0
AreTold o [] [] = Unit {0}
AreTold o (b ∷ bs) (n ∷ ns) = Tells o b n × AreTold o bs ns
AreTold o _ _ = ⊥

-- what node n keeps is what the history says: one entry for each flush since its last publish, which add up to its queue, and
-- the bulletins of its stream
pub record IsStreamOf (cl : Cluster) (n : ℕ) (h : List Event) (s : StreamState) : Type 0 where
  pub entries : TellEntries s.entries (queue cl n h)
  pub count : length s.entries ≡ queued n h
  pub bulletins : AreTold n s.bulletins (stream cl n h)

-- so it is for each of the 16 nodes that there may be
abbrev pub AreStreamsOf : Cluster → List Event → List StreamState → Type 0
AreStreamsOf cl h streams = (n : ℕ) → n < 16 → IsStreamOf cl n h (stream_at streams n)

-- the streams that stood for the history stand, as they are now, for the history with the event
abbrev pub StandAfter : Cluster → Event → List Event → List StreamState → List StreamState → Type 0
StandAfter cl e p old new = AreStreamsOf cl p old → AreStreamsOf cl (e ∷ p) new

-- whether the next publish of node n passes the limit of names, in each history for which the streams stand
abbrev pub SaysLimit : List StreamState → ℕ → Bool → Type 0
SaysLimit streams n answer = (cl : Cluster) (h : List Event) → AreStreamsOf cl h streams → passes_delta cl (Publish n) h ≡ answer

-- the entry tells what a flush of its actor moves to the queue
abbrev pub TellsFlush : Cluster → List Event → Entry → Type 0
TellsFlush cl p e = TellsEntry e.actor e (entry cl e.actor p)

-- the window tells what its node admitted on its link since the last one
abbrev pub TellsLink : List Event → windows.Window → Type 0
TellsLink p w = TellsWindow w.at w.from w (window w.from w.at p)

-- the event moves nothing to a queue or a stream
abbrev pub is_silent : Event → Bool
is_silent (Flush a) = false
is_silent (Publish n) = false
is_silent (Window d s) = false
is_silent (Remove d s) = false
is_silent _ = true

-- the bulletin tells notice number k of node o's stream
abbrev pub TellsNumber : Cluster → List Event → ℕ → ℕ → Bulletin → Type 0
TellsNumber cl h o k b = (n : Notice) × (slice_get (stream cl o h) k ≡ Some n) × Tells o b n

-- no bulletin names more actors than one may
abbrev pub KeepsDeltaLimit : Cluster → List Event → Type 0
KeepsDeltaLimit cl [] = Unit {0}
KeepsDeltaLimit cl (e ∷ p) = (passes_delta cl e p ≡ false) × KeepsDeltaLimit cl p

-- the history is legal, its numbers are in their ranges, and it passed no limit
pub record IsWithinLimits (cl : Cluster) (h : List Event) : Type 0 where
  pub legal : IsLegal cl h
  pub ranges : AreWithinRanges h
  pub names : KeepsDeltaLimit cl h
  pub events : length h ≤ MOST_EVENTS

-- no section has more rows than four bytes count
pub record HasFewRows (l : Ledger) : Type 0 where
  pub states : length l.states < 2 ^ 32
  pub sent : length l.sent < 2 ^ 32
  pub created : length l.created < 2 ^ 32
  pub released : length l.released < 2 ^ 32

-- a window and a Final are of a link from another node
abbrev pub IsOfTwoNodes : Bulletin → Type 0
IsOfTwoNodes (bulletins.Delta d) = Unit {0}
IsOfTwoNodes (bulletins.Window w) = w.from ≢ w.at
IsOfTwoNodes (bulletins.Final w) = w.from ≢ w.at

-- the bulletin has a spelling: its link leads from another node, its rows are few enough, and it names at most 200,000 actors
pub record FitsWire (b : Bulletin) : Type 0 where
  pub ends : IsOfTwoNodes b
  pub rows : HasFewRows (bulletin_ledger b)
  pub names : length (rising_actors (ledger_names (bulletin_ledger b))) ≤ MOST_NAMED
