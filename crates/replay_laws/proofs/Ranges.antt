-- The numbers of a legal history within the limits are in their ranges.
use Rattle.std.proofs.Common.{◌≡◌, ◌<◌, ◌≤◌, ◌^◌, ◌&&◌, ◌==◌, ℕ, true, false, cond, List, [], ◌∷◌, ◌++◌, length, length-append, nat_lt, refl, sym, inl, inr, arith}
use Rattle.std.proofs.lemmas.Bool.{ltb-true}
use Rattle.std.specs.Prelude.{IsTrue}
use Rattle.crgc_ids.specs.Actor.{Actor, IsActor}
use Rattle.crgc_ids.specs.Members.{IsAmong}
use Rattle.crgc_ids.proofs.MembersLaws.{all-from_members}
use Rattle.history_model.specs.declared.events.Event.{Event}
use Rattle.history_model.specs.declared.events.Event.TheVariants.{Seed, Tie, Wake, Take, Spawn, Send, Drop, Retire, Rest, Flush, Publish, Window, Admit, Lose, Repeat, Crash, Remove, Hand, Sweep}
use Rattle.history_model.specs.Cluster.{Cluster, is_born}
use Rattle.history_model.specs.Legal.{IsLegal}
use Rattle.history_model.specs.Messages.{Message, copies, sent}
use Rattle.history_model.specs.Streams.{stream}
use Rattle.history_model.proofs.AccountsCopies.{copies-was_sent}
use Rattle.history_model.proofs.Basics.{legal-kept}
use Rattle.history_model.proofs.States.{legal-send}
use Rattle.journal_model.specs.Lines.{AreWithinRanges, IsNodeNumber, IsWithinRanges}
use Rattle.bulletin_streams.proofs.BoundLemmas.{stream-short}
use Rattle.run_model.specs.Schedule.{IsWithinLimits}
use Rattle.replay_laws.specs.Tellable.{IsClusterInRange}
use Rattle.replay_laws.proofs.LimitLemmas.{born-named, events-few}

-- no more messages were sent on a link than there are events
sent-short : (s d : ℕ) (h : List Event) → length (sent s d h) ≤ length h
sent-short s d [] = omega arith
sent-short s d (Send f t refs ∷ p) =
    let before = sent-short s d p in
    let joined = length-append (sent s d p) ((let m : Message = record { from = f; to = t; refs = refs } in m) ∷ []) in
    elim ((f.node == s) && (t.node == d)) as (λ v. length (cond v (sent s d p ++ (let m : Message = record { from = f; to = t; refs = refs } in m) ∷ []) (sent s d p)) ≤ length (Send f t refs ∷ p)) [
      | true ↦ omega arith
      | false ↦ omega arith
    ]
sent-short s d (e ∷ p) = omega (arith, sent-short s d p)

module _ (cl : Cluster) (p : List Event) (range : IsClusterInRange cl) (legal : IsLegal cl p) (within : IsWithinLimits cl p) where
  named : (a : Actor) → IsTrue (is_born a p) → IsActor a
  named a born = born-named cl p a range legal within born

  -- a number of a message whose copy is on its link
  sent-number : (s d k : ℕ) → 0 < copies s d k p → k < 2 ^ 32
  sent-number s d k some = omega (arith, copies-was_sent cl p legal s d k some, sent-short s d p, events-few cl p within)

  -- a number of a bulletin
  told-number : (o k : ℕ) → k < length (stream cl o p) → k < 2 ^ 32
  told-number o k there = omega (arith, there, stream-short cl o p, events-few cl p within)

node-number : (cl : Cluster) (n : ℕ) → IsClusterInRange cl → nat_lt n cl.nodes ≡ true → IsNodeNumber n
node-number cl n range below = omega (arith, ltb-true n cl.nodes below, range.nodes)

-- the numbers of the next event
event-ranges : (cl : Cluster) (e : Event) (p : List Event) → IsClusterInRange cl → IsLegal cl (e ∷ p) → IsWithinLimits cl p → ((f t : Actor) (refs : List Actor) → e ≡ Send f t refs → length refs ≤ 16) → IsWithinRanges e
event-ranges cl (Seed n) p range legal within few = node-number cl n range (legal-kept cl (Seed n) p legal).0
event-ranges cl (Tie a b) p range legal within few =
    let kept = legal-kept cl (Tie a b) p legal in
    (named cl p range legal.1 within a kept.0, named cl p range legal.1 within b kept.1.0)
event-ranges cl (Wake a) p range legal within few = named cl p range legal.1 within a (legal-kept cl (Wake a) p legal).0
event-ranges cl (Take a) p range legal within few = named cl p range legal.1 within a (legal-kept cl (Take a) p legal).0
event-ranges cl (Spawn a) p range legal within few = named cl p range legal.1 within a (legal-kept cl (Spawn a) p legal).0
event-ranges cl (Send a b refs) p range legal within few =
    let born = (legal-send cl a b refs p legal).born in (
      named cl p range legal.1 within a (born a (inl refl)),
      named cl p range legal.1 within b (born b (inr (inl refl))),
      all-from_members IsActor refs (λ r among. named cl p range legal.1 within r (born r (inr (inr among)))),
      few a b refs refl,
    )
event-ranges cl (Drop a b) p range legal within few =
    let kept = legal-kept cl (Drop a b) p legal in
    (named cl p range legal.1 within a kept.0, named cl p range legal.1 within b kept.1.0)
event-ranges cl (Retire a) p range legal within few = named cl p range legal.1 within a (legal-kept cl (Retire a) p legal).0
event-ranges cl (Rest a) p range legal within few = named cl p range legal.1 within a (legal-kept cl (Rest a) p legal).0
event-ranges cl (Flush a) p range legal within few = named cl p range legal.1 within a (legal-kept cl (Flush a) p legal).0
event-ranges cl (Publish n) p range legal within few = node-number cl n range (legal-kept cl (Publish n) p legal).0
event-ranges cl (Window d s) p range legal within few =
    let kept = legal-kept cl (Window d s) p legal in
    (node-number cl d range kept.0, node-number cl s range kept.1.0)
event-ranges cl (Admit s d k) p range legal within few =
    let kept = legal-kept cl (Admit s d k) p legal in
    (node-number cl s range kept.0, node-number cl d range kept.1.0, sent-number cl p range legal.1 within s d k (ltb-true 0 (copies s d k p) kept.1.1.1.1.1.0))
event-ranges cl (Lose s d k) p range legal within few =
    let kept = legal-kept cl (Lose s d k) p legal in
    (node-number cl s range kept.0, node-number cl d range kept.1.0, sent-number cl p range legal.1 within s d k (ltb-true 0 (copies s d k p) kept.1.1.1.1.1.0))
event-ranges cl (Repeat s d k) p range legal within few =
    let kept = legal-kept cl (Repeat s d k) p legal in
    (node-number cl s range kept.0, node-number cl d range kept.1.0, sent-number cl p range legal.1 within s d k (ltb-true 0 (copies s d k p) kept.1.1.1.1.1.0))
event-ranges cl (Crash n) p range legal within few = node-number cl n range (legal-kept cl (Crash n) p legal).0
event-ranges cl (Remove m n) p range legal within few =
    let kept = legal-kept cl (Remove m n) p legal in
    (node-number cl m range kept.0, node-number cl n range kept.1.0)
event-ranges cl (Hand m o k) p range legal within few =
    let kept = legal-kept cl (Hand m o k) p legal in
    (node-number cl m range kept.0, node-number cl o range kept.1.0, told-number cl p range legal.1 within o k (ltb-true k (length (stream cl o p)) kept.1.1.1.0))
event-ranges cl (Sweep m) p range legal within few = node-number cl m range (legal-kept cl (Sweep m) p legal).0

-- the numbers of all events
pub history-ranges : (cl : Cluster) (h : List Event) → IsClusterInRange cl → IsLegal cl h → IsWithinLimits cl h → ((f t : Actor) (refs : List Actor) → IsAmong (Send f t refs) h → length refs ≤ 16) → AreWithinRanges h
history-ranges cl [] range legal within few = tt
history-ranges cl (e ∷ p) range legal within few = (
  event-ranges cl e p range legal within.1 (λ f t refs same. few f t refs (inl (sym same))),
  history-ranges cl p range legal.1 within.1 (λ f t refs among. few f t refs (inr among)),
)
