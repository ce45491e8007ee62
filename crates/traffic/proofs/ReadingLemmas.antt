-- What readers answer of a history for which the traffic stands.
use Rattle.std.proofs.Common.{◌≡◌, ◌&&◌, ℕ, nat_lt, true, IfNone, IfSome, List, [], ◌∷◌, Option, Some, None, count_by, length, map, slice_get, sum_by, refl, sym, ◌∙◌, ap, subst, inl, inr, arith}
use Rattle.std.proofs.lemmas.Bool.{cases_Bool, cases_lt, cond-false, cond-true, false≢true, le-ltb, lt-ltb}
use Rattle.std.specs.Option.{IsSome, option_map}
use Rattle.crgc_ids.specs.Actor.{Actor, same_actor}
use Rattle.crgc_ids.specs.Nodes.{nodes_below}
use Rattle.history_model.specs.declared.events.Event.{Event}
use Rattle.history_model.specs.declared.records.Window as records
use Rattle.history_model.specs.Cluster.{Cluster}
use Rattle.history_model.specs.Graph.{rising_actors}
use Rattle.history_model.specs.Live.{live_at, live_count}
use Rattle.history_model.specs.Messages.{Message, copies, waiting}
use Rattle.history_model.specs.Streams.{window}
use Rattle.history_model.specs.Tells.{admitted_since, fact_names}
use Rattle.history_model.proofs.LinksSums.{sum_by-same}
use Rattle.history_model.proofs.TellsWindows.{window-messages}
use Rattle.ingress_gateway.specs.Gate.{IsWindowOf}
use Rattle.ingress_gateway.specs.Pending.{named_count}
use Rattle.ingress_gateway.proofs.TellsLemmas.{messages-named}
use Rattle.link_table.specs.declared.piles.Envelope.{Envelope}
use Rattle.link_table.specs.LinkState.{LinkState}
use Rattle.link_table.specs.Piled.{IsLowest, copies_in, pile_at}
use Rattle.link_table.specs.Standing.{CountsSince, StandsFor, envelope_at, is_link_open, pile_of, pile_with}
use Rattle.mailboxes.specs.Mail.{mail_of}
use Rattle.ready_actors.specs.Ready.{IsAbove, IsLowestOf, IsOfNone}
use Rattle.traffic.specs.Loads.{live_in}
use Rattle.traffic.specs.Readings.{IsHead, IsNextReady, IsOnOpenLink}
use Rattle.traffic.specs.Standing.{IsTrafficOf}
use Rattle.traffic.specs.TrafficState.{TrafficState}

-- ---- copies

-- an open link has the copies of each number
pub copies-read : (s d k : ℕ) (h : List Event) (l : LinkState) → StandsFor s d h l → is_link_open s d h ≡ true → copies_in (pile_at l.piles k) ≡ copies s d k h
copies-read s d k h l stands opened =
    ap copies_in (stands.piled k ∙ ap (λ o. pile_with o (copies s d k h) (envelope_at s d h k)) opened) ∙ counted (copies s d k h) (envelope_at s d h k)
  where
    counted : (n : ℕ) (m : Option Envelope) → copies_in (pile_with true n m) ≡ n
    counted n m = elim (cases_lt 0 n) [
      | inl some ↦ ap copies_in (cond-true (nat_lt 0 n) (Some (record { copies = n; message = m })) None (lt-ltb 0 n some))
      | inr none ↦ ap copies_in (cond-false (nat_lt 0 n) (Some (record { copies = n; message = m })) None (le-ltb 0 n none)) ∙ omega arith
    ]

-- a number has a pile exactly where a copy of it can be admitted
pile-of_open : (s d k : ℕ) (h : List Event) → IsOnOpenLink s d h k → IsSome (pile_of s d h k)
pile-of_open s d k h on =
    subst IsSome (sym (ap (λ o. pile_with o (copies s d k h) (envelope_at s d h k)) on.0 ∙ cond-true (nat_lt 0 (copies s d k h)) (Some (record { copies = copies s d k h; message = envelope_at s d h k })) None (lt-ltb 0 (copies s d k h) on.1))) refl

open-of_pile : (s d k : ℕ) (h : List Event) → IsSome (pile_of s d h k) → IsOnOpenLink s d h k
open-of_pile s d k h some =
    elim (cases_Bool (is_link_open s d h)) [
      | inr shut ↦ absurd (false≢true (subst IsSome (ap (λ o. pile_with o (copies s d k h) (envelope_at s d h k)) shut) some))
      | inl opened ↦ elim (cases_lt 0 (copies s d k h)) [
        | inl there ↦ (opened, there)
        | inr none ↦ absurd (false≢true (subst IsSome (ap (λ o. pile_with o (copies s d k h) (envelope_at s d h k)) opened
            ∙ cond-false (nat_lt 0 (copies s d k h)) (Some (record { copies = copies s d k h; message = envelope_at s d h k })) None (le-ltb 0 (copies s d k h) none)) some))
      ]
    ]

pub head-read : (s d : ℕ) (h : List Event) (l : LinkState) (answer : Option ℕ) → StandsFor s d h l → IfSome answer (IsLowest l.piles) → IfNone answer ((k : ℕ) → pile_at l.piles k ≡ None) → IsHead s d h answer
head-read s d h l None stands some none = λ k on. absurd (false≢true (subst IsSome (sym (stands.piled k) ∙ none k) (pile-of_open s d k h on)))
head-read s d h l (Some n) stands some none = (
  open-of_pile s d n h (subst IsSome (stands.piled n) some.there),
  λ k on. some.lowest k (subst IsSome (sym (stands.piled k)) (pile-of_open s d k h on)),
)

-- ---- windows

-- the window counts what was admitted since the last one
pub window-read : (s d : ℕ) (h : List Event) (l : LinkState) (w : records.Window) → StandsFor s d h l → IsWindowOf l.gate w → CountsSince s d h w
window-read s d h l w stands is = (
  is.nodes.0 ∙ stands.ends.1,
  is.nodes.1 ∙ stands.ends.0,
  record {
    messages = λ a. is.messages a ∙ ap (λ as_. count_by (same_actor a) as_) stands.messages;
    carried = λ b a. is.carried b a ∙ ap (λ ps. count_by (λ p. same_actor b p.0 && same_actor a p.1) ps) stands.carried;
  },
)

-- it names the actors that its facts name
pub named-read : (s d : ℕ) (h : List Event) (l : LinkState) → StandsFor s d h l → named_count l.gate.messages l.gate.carried ≡ length (rising_actors (fact_names (window s d h)))
named-read s d h l stands =
    messages-named l.gate (admitted_since s d h) (stands.messages, stands.carried)
    ∙ ap (λ facts. length (rising_actors (fact_names facts))) (sym (window-messages s d h))

-- ---- mail, counts, and who may take

pub mail-read : (cl : Cluster) (h : List Event) (t : TrafficState) (a : Actor) → IsTrafficOf cl h t → length (mail_of t.boxes a) ≡ length (waiting a h)
mail-read cl h t a stands = ap length (stands.mail a) ∙ mapped (waiting a h)
  where
    mapped : (ms : List Message) → length (map (λ (m : Message). m.refs) ms) ≡ length ms
    mapped [] = refl
    mapped (m ∷ ms) = (let later = mapped ms in omega arith)

pub first-read : (cl : Cluster) (h : List Event) (t : TrafficState) (a : Actor) → IsTrafficOf cl h t → slice_get (mail_of t.boxes a) 0 ≡ option_map (λ (m : Message). m.refs) (slice_get (waiting a h) 0)
first-read cl h t a stands = ap (λ ms. slice_get ms 0) (stands.mail a) ∙ mapped (waiting a h)
  where
    mapped : (ms : List Message) → slice_get (map (λ (m : Message). m.refs) ms) 0 ≡ option_map (λ (m : Message). m.refs) (slice_get ms 0)
    mapped [] = refl
    mapped (m ∷ ms) = refl

pub live-read : (cl : Cluster) (h : List Event) (t : TrafficState) → IsTrafficOf cl h t → sum_by (λ n. live_in t.loads n) (nodes_below t.nodes) ≡ live_count cl h
live-read cl h t stands =
    ap (λ n. sum_by (λ k. live_in t.loads k) (nodes_below n)) stands.nodes
    ∙ sum_by-same (λ n. live_in t.loads n) (λ n. live_at cl n h) (nodes_below cl.nodes) (λ n _. stands.live n)

pub next-read : (cl : Cluster) (h : List Event) (t : TrafficState) (after answer : Option Actor) → IsTrafficOf cl h t → IfSome answer (IsLowestOf t.ready (IsAbove after)) → IfNone answer (IsOfNone t.ready (IsAbove after))
    → IsNextReady h after answer
next-read cl h t after None stands some none = λ a ready above. none a (stands.ready a ∙ ready) above
next-read cl h t after (Some n) stands some none = (sym (stands.ready n) ∙ some.there, some.one, λ a ready above. some.lowest a (stands.ready a ∙ ready) above)
