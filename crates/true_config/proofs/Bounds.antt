-- How large the parts of a world become in a history of at most 1,000,000 events.
use Rattle.std.proofs.Common.{◌≡◌, ◌+◌, ◌-◌, ◌^◌, ◌≤◌, ◌<◌, ℕ, true, false, cond, List, [], ◌∷◌, None, Some, inl, length, map, nat_lt, refl, sym, ◌∙◌, ap, slice_get, subst, arith}
use Rattle.crgc_ids.specs.Actor.{Actor}
use Rattle.crgc_ids.specs.Members.{IsAmong}
use Rattle.history_model.specs.declared.events.Event.{Event}
use Rattle.history_model.specs.declared.events.Event.TheVariants.{Repeat, Send}
use Rattle.history_model.specs.Cluster.{Cluster}
use Rattle.history_model.specs.Ledgers.{entries_ledger}
use Rattle.history_model.specs.Messages.{Message, copies, is_admit, is_lose, is_repeat, sent, waiting}
use Rattle.history_model.specs.Streams.{queue, stream}
use Rattle.history_model.specs.Tally.{tally}
use Rattle.history_model.specs.Legal.{checks, refusal}
use Rattle.history_model.proofs.AccountsBirths.{mail-among, waiting-among}
use Rattle.history_model.proofs.Basics.{first_broken-none}
use Rattle.journal_model.specs.Lines.{AreWithinRanges}
use Rattle.delta_graph.specs.Sums.{CountsFit}
use Rattle.delta_graph.proofs.FitLemmas.{fit-facts, tally-length}
use Rattle.link_table.specs.Piled.{copies_in}
use Rattle.mailboxes.specs.Mail.{mail_of}
use Rattle.traffic.specs.Standing.{IsTrafficOf}
use Rattle.traffic.specs.TrafficState.{TrafficState, link_of, pile_on}
use Rattle.traffic.proofs.KeepingLinks.{is-link, link-legal}
use Rattle.traffic.proofs.ReadingLemmas.{copies-read}
use Rattle.actor_states.specs.State.{HasRoom}
use Rattle.roster.specs.Standing.{IsRosterOf, SendsAreShort}
use Rattle.roster.specs.Table.{Table, state_at}
use Rattle.roster.proofs.Bounds.{room-left, sent-short}
use Rattle.bulletin_streams.specs.Standing.{AreStreamsOf, IsWithinLimits}
use Rattle.bulletin_streams.specs.StreamState.{StreamState, stream_at}
use Rattle.bulletin_streams.proofs.BoundLemmas.{queue-few, stream-short}
use Rattle.bulletin_streams.proofs.StandingLemmas.{told-length}

-- a number has one copy, and one more for each repeat
pub copies-few : (s d k : ℕ) (h : List Event) → copies s d k h ≤ length h + 1
copies-few s d k h =
    let repeats = tally-length (is_repeat s d k) h in
    elim (nat_lt k (length (sent s d h))) as (λ v. (cond v 1 0 + tally (is_repeat s d k) h) - (tally (is_lose s d k) h + tally (is_admit s d k) h) ≤ length h + 1) [ true ↦ omega arith | false ↦ omega arith ]

-- so a repeat may follow
pub repeat-fits : (cl : Cluster) (h : List Event) (t : TrafficState) (s d k : ℕ) → IsWithinLimits cl h → IsTrafficOf cl h t → refusal cl (Repeat s d k) h ≡ None → copies_in (pile_on t s d k) + 1 < 2 ^ 32
repeat-fits cl h t s d k within is legal =
    let kept = first_broken-none (checks cl (Repeat s d k) h) legal in
    let rules = link-legal cl s d h kept.0 kept.1.0 kept.1.1.0 kept.1.1.1.0 kept.1.1.1.1.0 in
    let read = copies-read s d k h (link_of t s d) (is.links s d (is-link cl s d is.few rules.source rules.end rules.apart)) rules.opened in
    let few = copies-few s d k h in
    let events = within.events in
    omega arith

sends-short : (h : List Event) → AreWithinRanges h → SendsAreShort h
sends-short [] ranges = tt
sends-short (Send f t refs ∷ p) ranges = (ranges.0.3, sends-short p ranges.1)
sends-short (_ ∷ p) ranges = sends-short p ranges.1

-- the counts of an actor fit 32 bits with as many more as one event may bring
pub actor-has_room : (cl : Cluster) (h : List Event) (r : Table) (a : Actor) (k : ℕ) → IsWithinLimits cl h → IsRosterOf cl h r → k ≤ 17 → HasRoom (state_at r a) k
actor-has_room cl h r a k within is small =
    let events = within.events in
    room-left cl h r a k (sends-short h within.ranges) is (omega arith)

-- the first message that is kept for the actor is the first one that waits
pub first-waits : (cl : Cluster) (h : List Event) (t : TrafficState) (a : Actor) (refs : List Actor) → IsTrafficOf cl h t → slice_get (mail_of t.boxes a) 0 ≡ Some refs → slice_get (map (λ (m : Message). m.refs) (waiting a h)) 0 ≡ Some refs
first-waits cl h t a refs stands first = sym (ap (λ ms. slice_get ms 0) (stands.mail a)) ∙ first

first-short : (ms : List Message) (refs : List Actor) → ((m : Message) → IsAmong m ms → length m.refs ≤ 16) → slice_get (map (λ (m : Message). m.refs) ms) 0 ≡ Some refs → length refs ≤ 16
first-short [] refs short first = absurd (cc)
first-short (m ∷ ms) refs short first = (let same : m.refs ≡ refs = cc in subst (λ rs. length rs ≤ 16) same (short m (inl refl)))

-- the first message that waits carries 16 references at most
pub taken-short : (a : Actor) (h : List Event) (refs : List Actor) → AreWithinRanges h → slice_get (map (λ (m : Message). m.refs) (waiting a h)) 0 ≡ Some refs → length refs ≤ 16
taken-short a h refs ranges first = first-short (waiting a h) refs (λ m among. sent-short h (sends-short h ranges) m (mail-among a h m (waiting-among a h m among)).0) first

-- the counts of the entries of a queue fit 32 bits
pub queue-fits : (cl : Cluster) (h : List Event) (s : List StreamState) (n : ℕ) → IsWithinLimits cl h → AreStreamsOf cl h s → n < 16 → CountsFit (entries_ledger (stream_at s n).entries)
queue-fits cl h s n within stands low =
    let events = within.events in
    let few = queue-few cl n h within.ranges in
    fit-facts (entries_ledger (stream_at s n).entries) (queue cl n h) (stands n low).entries (omega arith)

-- 32 bits count the bulletins of a stream
pub stream-fits : (cl : Cluster) (h : List Event) (s : List StreamState) (n : ℕ) → IsWithinLimits cl h → AreStreamsOf cl h s → n < 16 → length (stream_at s n).bulletins < 2 ^ 32
stream-fits cl h s n within stands low =
    let events = within.events in
    let same = told-length n (stream_at s n).bulletins (stream cl n h) (stands n low).bulletins in
    let short = stream-short cl n h in
    omega arith
