-- What bulletins and entries tell: how the records that are written, read and kept stand to the facts of a history.
use Rattle.std.specs.Prelude.{◌≡◌, ◌≢◌, ◌==◌, ◌&&◌, ◌++◌, if◌then◌else◌, ℕ, List, [], ◌∷◌, None, count_by, map}
use Rattle.std.specs.List.{flat_map}
use Rattle.crgc_ids.specs.Actor.{Actor, same_actor}
use Rattle.history_model.specs.declared.records.Bulletin.{Bulletin}
use Rattle.history_model.specs.declared.records.Bulletin.TheVariants as bulletins
use Rattle.history_model.specs.declared.records.Delta.{Delta}
use Rattle.history_model.specs.declared.records.Entry.{Entry}
use Rattle.history_model.specs.declared.records.Window as windows
use Rattle.history_model.specs.declared.events.Event.{Event}
use Rattle.history_model.specs.declared.events.Event.TheVariants.{Admit, Remove, Window}
use Rattle.history_model.specs.Tally.{tally}
use Rattle.history_model.specs.Facts.{Fact, Flags, is_created, is_received, is_released, is_sent_to, message_facts}
use Rattle.history_model.specs.Messages.{Message, admitted_by}
use Rattle.history_model.specs.Graph.{last_flags, named_by}
use Rattle.history_model.specs.Streams.{Notice, delta, window_of, final_of}
use Rattle.history_model.specs.Ledgers.{CountAlike, IsInOrder, Ledger, actor_total, fact_counts, ledger_counts, pair_total}
use Rattle.history_model.specs.Ledgers.{delta_ledger, entries_ledger, entry_ledger, window_ledger}

-- the rows count what the facts say
abbrev pub IsLedgerOf : List Fact → Ledger → Type 0
IsLedgerOf facts l = CountAlike (ledger_counts l) (fact_counts facts)

-- the actors that facts name, each as often as it is named
abbrev pub fact_names : List Fact → List Actor
fact_names facts = flat_map named_by facts

-- the facts of a notice
abbrev pub facts_in : Notice → List Fact
facts_in (delta facts) = facts
facts_in (window_of s facts) = facts
facts_in (final_of s facts) = facts

-- the node that published the bulletin
abbrev pub origin_of : Bulletin → ℕ
origin_of (bulletins.Delta d) = d.node
origin_of (bulletins.Window w) = w.at
origin_of (bulletins.Final w) = w.at

-- the rows of a bulletin
abbrev pub bulletin_ledger : Bulletin → Ledger
bulletin_ledger (bulletins.Delta d) = delta_ledger d
bulletin_ledger (bulletins.Window w) = window_ledger w
bulletin_ledger (bulletins.Final w) = window_ledger w

-- its rows rise, and none counts 0, as their types keep
abbrev pub IsOrdered : Bulletin → Type 0
IsOrdered b = IsInOrder (bulletin_ledger b)

-- the Delta is node o's, and its rows count what the facts say
abbrev pub TellsDelta : ℕ → Delta → List Fact → Type 0
TellsDelta o d facts = (d.node ≡ o) × IsLedgerOf facts (delta_ledger d)

-- the window is node o's, of its link from s, and its rows count what the facts say
abbrev pub TellsWindow : ℕ → ℕ → windows.Window → List Fact → Type 0
TellsWindow o s w facts = (w.at ≡ o) × (w.from ≡ s) × IsLedgerOf facts (window_ledger w)

-- the bulletin is node o's, and of the notice's kind and link, and its rows count what the notice's facts say
abbrev pub Tells : ℕ → Bulletin → Notice → Type 0
Tells o (bulletins.Delta d) (delta facts) = TellsDelta o d facts
Tells o (bulletins.Window w) (window_of s facts) = TellsWindow o s w facts
Tells o (bulletins.Final w) (final_of s facts) = TellsWindow o s w facts
Tells o b n = ⊥

-- the entry is a's, and its rows count what the facts say
abbrev pub TellsEntry : Actor → Entry → List Fact → Type 0
TellsEntry a e facts = (e.actor ≡ a) × IsLedgerOf facts (entry_ledger e)

-- the facts are such as an actor notes: of what it took and gave up itself, and of no flags
pub record AreNotedBy (a : Actor) (facts : List Fact) : Type 0 where
  pub received : (b : Actor) → b ≢ a → tally (is_received b) facts ≡ 0
  pub released : (b t : Actor) → b ≢ a → tally (is_released b t) facts ≡ 0
  pub flags : (b : Actor) → last_flags b facts ≡ None

-- the entry is a's, with these flags, and counts the facts of its log
pub record CountsLog (a : Actor) (e : Entry) (g : Flags) (facts : List Fact) : Type 0 where
  pub actor : e.actor ≡ a
  pub busy : e.busy ≡ g.busy
  pub root : e.root ≡ g.root
  pub received : e.received ≡ tally (is_received a) facts
  pub sent : (t : Actor) → actor_total t e.sent ≡ tally (is_sent_to t) facts
  pub created : (b t : Actor) → pair_total b t e.created ≡ tally (is_created b t) facts
  pub released : (t : Actor) → actor_total t e.released ≡ tally (is_released a t) facts

-- all the entries, one after another, count what the facts say
abbrev pub TellEntries : List Entry → List Fact → Type 0
TellEntries entries facts = IsLedgerOf facts (entries_ledger entries)

-- the Delta is the node's, and the sum of the entries: of each actor's flags the last stand
abbrev pub IsDeltaOf : ℕ → List Entry → Delta → Type 0
IsDeltaOf o entries d = (d.node ≡ o) × CountAlike (ledger_counts (delta_ledger d)) (ledger_counts (entries_ledger entries))

-- ---- links

-- the recipients of messages, in order
abbrev pub message_recipients : List Message → List Actor
message_recipients ms = map (λ m. m.to) ms

-- the pairs of a recipient and a reference carried to it, in order
abbrev pub message_pairs : List Message → List (Actor × Actor)
message_pairs ms = flat_map (λ m. map (λ a. (m.to, a)) m.refs) ms

-- the facts of all the messages
abbrev pub messages_facts : List Message → List Fact
messages_facts ms = flat_map message_facts ms

-- the window counts the messages' recipients, and the pairs that they carry
pub record CountsMessages (w : windows.Window) (ms : List Message) : Type 0 where
  pub messages : (a : Actor) → actor_total a w.messages ≡ count_by (same_actor a) (message_recipients ms)
  pub carried : (b a : Actor) → pair_total b a w.carried ≡ count_by (λ p. same_actor b p.0 && same_actor a p.1) (message_pairs ms)

-- the messages that d admitted from s since the last window of that link, or since its Final: their facts are its window
abbrev pub admitted_since : ℕ → ℕ → List Event → List Message
admitted_since s d [] = []
admitted_since s d (Admit x y k ∷ p) =
    if (x == s) && (y == d) then admitted_since s d p ++ admitted_by (Admit x y k) p else admitted_since s d p
admitted_since s d (Window y x ∷ p) = if (x == s) && (y == d) then [] else admitted_since s d p
admitted_since s d (Remove y x ∷ p) = if (x == s) && (y == d) then [] else admitted_since s d p
admitted_since s d (_ ∷ p) = admitted_since s d p
