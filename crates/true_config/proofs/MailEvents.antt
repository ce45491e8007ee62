-- Messages that come, and messages that are sent.
use Rattle.std.proofs.Common.{◌+◌, ◌^◌, ◌++◌, subst, ◌≡◌, ◌<◌, ◌∷◌, not, nat_lt, ℕ, Bool, true, false, cond, IfSome, List, [], Option, Some, None, length, slice_get, refl, ◌∙◌, ap, inl, inr, arith}
use Rattle.std.proofs.lemmas.Bool.{cond-true, lt-ltb, ltb-true}
use Rattle.std.proofs.lemmas.Option.{slice_get_cases}
use Rattle.std.specs.Option.{is_some, option_map}
use Rattle.crgc_ids.specs.Actor.{Actor, IsActor}
use Rattle.history_model.specs.declared.events.Event.{Event}
use Rattle.history_model.specs.declared.events.Event.TheVariants.{Admit, Send}
use Rattle.history_model.specs.Cluster.{Cluster, births}
use Rattle.history_model.specs.Legal.{IsLegal, checks, refusal}
use Rattle.history_model.specs.Messages.{Message, copies, sent, was_admitted}
use Rattle.history_model.proofs.Basics.{first_broken-none}
use Rattle.history_model.proofs.States.{legal-send}
use Rattle.history_model.specs.Story.{Story}
use Rattle.journal_model.specs.Lines.{AreActors, AreWithinRanges, IsWithinRanges}
use Rattle.link_table.specs.declared.piles.Envelope.{Envelope}
use Rattle.link_table.specs.declared.piles.Pile.{Pile}
use Rattle.link_table.specs.LinkState.{FitsGate}
use Rattle.link_table.specs.Piled.{message_in}
use Rattle.link_table.specs.Standing.{envelope_at, envelope_of, pile_with}
use Rattle.traffic.specs.Fitting.{CarriesFew, IsSmall}
use Rattle.link_table.specs.Table.{IsLink}
use Rattle.traffic.specs.Changes.{IsAsBefore}
use Rattle.traffic.specs.Loads.{live_in}
use Rattle.traffic.specs.Standing.{IsTrafficOf, KeepsIfTold, TellsIdle}
use Rattle.traffic.specs.TrafficState.{TrafficState, link_of, message_on, recipient_on}
use Rattle.traffic.proofs.Beginning.{as-before}
use Rattle.traffic.proofs.FittingCounts.{gate-fits, sent-short}
use Rattle.traffic.proofs.FittingWaits.{live-bound}
use Rattle.traffic.proofs.KeepingLinks.{is-link, link-legal}
use Rattle.traffic.proofs.KeepingMessages.{admission}
use Rattle.roster.specs.Standing.{IsRosterOf}
use Rattle.actor_states.specs.State.{Sends, unsent}
use Rattle.roster.specs.Table.{Changes, IsHere, Table, state_at}
use Rattle.roster.proofs.SendLemmas.{send-taken_back}
use Rattle.roster.proofs.TableSteps.{stands-alike, stands-sent}
use Rattle.bulletin_streams.specs.Standing.{IsWithinLimits}
use Rattle.bulletin_streams.specs.StreamState.{StreamState}
use Rattle.bulletin_streams.proofs.StandingLemmas.{silent-stands}
use Rattle.true_config.specs.Keeping.{IsWorldOf}
use Rattle.true_config.specs.Steps.{Adds, MayFollow}
use Rattle.true_config.proofs.Growing.{grows, stays}

carries-few : (h : List Event) → AreWithinRanges h → CarriesFew h
carries-few [] ranges = tt
carries-few (Send f t refs ∷ p) ranges = (ranges.0.3, carries-few p ranges.1)
carries-few (_ ∷ p) ranges = carries-few p ranges.1

-- a history within the limits is small
pub small : (cl : Cluster) (h : List Event) → IsWithinLimits cl h → IsSmall h
small cl h within = (within.events, carries-few h within.ranges)

-- so the counts of the next window fit with the message that comes
pub admission-fits : (cl : Cluster) (h : List Event) (t : TrafficState) (s d k : ℕ) → IsWithinLimits cl h → IsTrafficOf cl h t → refusal cl (Admit s d k) h ≡ None → FitsGate (link_of t s d).gate (message_on t s d k)
admission-fits cl h t s d k within is legal =
    let kept = first_broken-none (checks cl (Admit s d k) h) legal in
    let rules = link-legal cl s d h kept.0 kept.1.0 kept.1.1.0 kept.1.1.1.0 kept.1.1.1.1.0 in
    gate-fits s d k h (link_of t s d) (small cl h within) (is.links s d (is-link cl s d is.few rules.source rules.end rules.apart))

-- the table tells whether the actor is idle, if there is one
pub idle-told : (cl : Cluster) (h : List Event) (r : Table) (to : Option Actor) (idle : Bool) → IsRosterOf cl h r → IfSome to (λ a. idle ≡ not (state_at r a).busy) → TellsIdle idle to h
idle-told cl h r None idle is some = tt
idle-told cl h r (Some a) idle is some = some ∙ ap not (is.states a).busy

-- a copy goes to someone exactly where none of its number was admitted before
pub first-admitted : (cl : Cluster) (h : List Event) (t : TrafficState) (s d k : ℕ) → IsTrafficOf cl h t → IsLegal cl (Admit s d k ∷ h) → is_some (recipient_on t s d k) ≡ not (was_admitted s d k h)
first-admitted cl h t s d k is legal =
    let comes = admission cl s d k h legal in
    let stands = is.links s d (is-link cl s d is.few comes.link.source comes.link.end comes.link.apart) in
    let count = copies s d k h in
    let envelope = envelope_at s d h k in
    let pile : Pile = record { copies = count; message = envelope } in
    ap (λ o. is_some (option_map (λ (m : Envelope). m.to) (message_in o)))
    (stands.piled k ∙ ap (λ o. pile_with o count envelope) comes.link.opened ∙ cond-true (nat_lt 0 count) (Some pile) None (lt-ltb 0 count comes.some))
    ∙ goes (was_admitted s d k h) (sent s d h) comes.below
  where
    goes : (v : Bool) (ms : List Message) → k < length ms → is_some (option_map (λ (m : Envelope). m.to) (cond v None (option_map envelope_of (slice_get ms k)))) ≡ not v
    goes true ms below = refl
    goes false ms below = elim (slice_get_cases ms k).1 [
      | inl found ↦ ap (λ o. is_some (option_map (λ (m : Envelope). m.to) (option_map envelope_of o))) found.2
      | inr past ↦ (let beyond = past.0 in absurd (omega (arith, below, beyond)))
    ]

-- ---- a message is sent

-- its sender was born, on a node that is up
pub sender-here : (cl : Cluster) (h : List Event) (r : Table) (from to : Actor) (refs : List Actor) → IsRosterOf cl h r → IsLegal cl (Send from to refs ∷ h) → IsHere r from
sender-here cl h r from to refs is legal =
    let sends = legal-send cl from to refs h legal in
    record {
      born = (let born = ltb-true from.serial (births from.node h) (sends.born from (inl refl)) in let same = is.births from.node in omega arith);
      up = is.up from.node ∙ sends.up;
    }

-- one message more fits on each link, and at each node
pub sent-fits : (cl : Cluster) (h : List Event) (t : TrafficState) (s d : ℕ) → IsWithinLimits cl h → IsTrafficOf cl h t → IsLink s d → (link_of t s d).sent + 1 < 2 ^ 32
sent-fits cl h t s d within is link =
    let stamped = (is.links s d link).stamped in
    let short = sent-short s d h in
    let few = within.events in
    omega arith

pub live-fits : (cl : Cluster) (h : List Event) (t : TrafficState) (n : ℕ) → IsWithinLimits cl h → IsTrafficOf cl h t → live_in t.loads n + 1 < 2 ^ 32
live-fits cl h t n within is =
    let live = is.live n in
    let most = live-bound cl h within.legal n in
    let few = within.events in
    omega arith

-- the world in which its sender noted the message, and the message waits or is under way
pub grows-sent : (old new : Story) (t u : TrafficState) (r q : Table) (s : List StreamState) (from to : Actor) (refs noted carried : List Actor) (idle : Bool)
    → Adds (Send from to refs) old new
    → MayFollow (Send from to refs) old
    → IsWithinRanges (Send from to refs)
    → IsWorldOf old.cluster old.past t r s
    → noted ≡ refs
    → carried ≡ refs
    → idle ≡ not (state_at r to).busy
    → Changes r q from (Sends to noted)
    → KeepsIfTold idle (Some to) (Send from to carried) t u
    → IsWorldOf new.cluster new.past u q s
grows-sent old new t u r q s from to refs noted carried idle adds may ranges is same_noted same_carried told changes kept =
    let e = Send from to refs in
    let sends = subst (λ rs. Changes r q from (Sends to rs)) same_noted changes in
    let keeps = subst (λ rs. KeepsIfTold idle (Some to) (Send from to rs) t u) same_carried kept in
    grows e old new t u r q s s adds may ranges is
    (keeps old.cluster old.past (told ∙ ap not (is.roster.states to).busy)) (stands-sent old.cluster from old.past r q to refs sends) (silent-stands old.cluster e old.past s refl)

-- the world in which the sender noted it, and took that back
pub stays-unsent : (old new : Story) (t u : TrafficState) (r q z : Table) (s : List StreamState) (from to : Actor) (noted : List Actor) (count : ℕ)
    → new ≡ old
    → IsWorldOf old.cluster old.past t r s
    → IsAsBefore t u
    → Changes r q from (Sends to noted)
    → count ≡ length noted
    → Changes q z from (λ x y. y ≡ unsent count x)
    → IsWorldOf new.cluster new.past u z s
stays-unsent old new t u r q z s from to noted count same is traffic changes long back =
    let undone = subst (λ n. Changes q z from (λ x y. y ≡ unsent n x)) long back in
    stays old new t u r z s s same is (as-before old.cluster old.past t u traffic) (stands-alike old.cluster old.past r z (send-taken_back r q z from to noted changes undone)) (λ stand. stand)

-- ---- references in their ranges

pub actors-push : (as_ : List Actor) (a : Actor) → AreActors as_ → IsActor a → AreActors (as_ ++ a ∷ [])
actors-push [] a are is = (is, tt)
actors-push (x ∷ xs) a are is = (are.0, actors-push xs a are.1 is)
