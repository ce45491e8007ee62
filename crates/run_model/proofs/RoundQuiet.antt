-- The law of the round: it is legal, each of its sweeps stands at a quiet point of its node where nothing was lost between nodes
-- that are up, and after it the stopped actors of nodes that are up are exactly the quiescent ones.
use Rattle.std.proofs.Common.{◌≡◌, ◌<◌, ◌↔◌, ◌==◌, ℕ, true, List, [], ◌∷◌, ◌++◌, length, nat_lt, Some, None, refl, ◌∙◌, ap, subst, arith, IsTrue, IsFalse, length-append}
use Rattle.std.proofs.lemmas.Bool.{and_from, lt-ltb, ltb-true, or_left, or_right, cond-true}
use Rattle.std.specs.List.{list_all}
use Rattle.crgc_ids.specs.Actor.{Actor}
use Rattle.crgc_ids.specs.Members.{IsAmong}
use Rattle.history_model.specs.declared.events.Event.{Event}
use Rattle.history_model.specs.declared.events.Event.TheVariants.{Flush, Publish, Window, Remove, Hand, Sweep}
use Rattle.history_model.specs.declared.events.Rule.TheVariants.{NoNode, Down}
use Rattle.history_model.specs.Cluster.{Cluster}
use Rattle.history_model.specs.Graph.{holds_actor}
use Rattle.history_model.specs.Legal.{IsLegal, checks, refusal}
use Rattle.history_model.specs.Messages.{is_closed}
use Rattle.history_model.specs.Quiescent.{IsDelivered, IsQuiescent, IsQuietPoint}
use Rattle.history_model.specs.State.{is_up}
use Rattle.history_model.specs.Sweeps.{dead_at, is_stopped, is_swept}
use Rattle.history_model.proofs.AccountsBirths.{born-on_node}
use Rattle.history_model.proofs.Basics.{eqb-refl, first_broken-none}
use Rattle.history_model.proofs.Completeness.{completeness}
use Rattle.history_model.proofs.FoldSumsKnown.{holds-among}
use Rattle.history_model.proofs.Stopped.{stopped-quiescent}
use Rattle.run_model.specs.Round.{flushes, is_of_round, removals, round, tried, windows}
use Rattle.run_model.proofs.RoundSteps.{IsKept, Keeps, each-makes, flushes-keep, hands-keep, prepared, prepared-keeps, removals-keep, round-keeps, sweeps-keep, tried-keeps, tried-makes, windows-keep}
use Rattle.run_model.proofs.RoundStages.{AllTold, flushes-tell, hand-keeps_told, hands-fold, removals-close, sweep-keeps_told}

-- ---- what no event of a round changes

kept-legal : (cl : Cluster) → IsKept cl (IsLegal cl)
kept-legal cl = record {
  remove = λ _ _ _ none legal. (none, legal);
  window = λ _ _ _ none legal. (none, legal);
  flush = λ _ _ none legal. (none, legal);
  publish = λ _ _ none legal. (none, legal);
  hand = λ _ _ _ _ none legal. (none, legal);
}

pub round-legal : (cl : Cluster) (h : List Event) → IsLegal cl h → IsLegal cl (round cl h)
round-legal cl = round-keeps (IsLegal cl) cl (kept-legal cl) (λ _ _ none legal. (none, legal))

-- who is up
abbrev IsUpAs : ℕ → List Event → List Event → Type 0
IsUpAs n before h = is_up n h ≡ is_up n before

kept-up : (cl : Cluster) (n : ℕ) (before : List Event) → IsKept cl (IsUpAs n before)
kept-up cl n before = record {
  remove = λ _ _ _ _ same. same;
  window = λ _ _ _ _ same. same;
  flush = λ _ _ _ same. same;
  publish = λ _ _ _ same. same;
  hand = λ _ _ _ _ _ same. same;
}

pub round-up : (cl : Cluster) (h : List Event) (n : ℕ) → is_up n (round cl h) ≡ is_up n h
round-up cl h n = round-keeps (IsUpAs n h) cl (kept-up cl n h) (λ _ _ _ same. same) h refl

-- what is sent, admitted or under way
kept-delivered : (cl : Cluster) → IsKept cl IsDelivered
kept-delivered cl = record {
  remove = λ _ _ _ _ all. all;
  window = λ _ _ _ _ all. all;
  flush = λ _ _ _ all. all;
  publish = λ _ _ _ all. all;
  hand = λ _ _ _ _ _ all. all;
}

-- the history is h, with events of the forms of a round after it
abbrev IsMore : List Event → List Event → Type 0
IsMore h after = (q : List Event) × (after ≡ q ++ h) × (list_all is_of_round q ≡ true)

more-one : (h : List Event) (e : Event) (after : List Event) → is_of_round e ≡ true → IsMore h after → IsMore h (e ∷ after)
more-one h e after form more = (e ∷ more.0, ap (λ g. e ∷ g) more.1, and_from (is_of_round e) (list_all is_of_round more.0) form more.2)

kept-more : (cl : Cluster) (h : List Event) → IsKept cl (IsMore h)
kept-more cl h = record {
  remove = λ m n g _. more-one h (Remove m n) g refl;
  window = λ m s g _. more-one h (Window m s) g refl;
  flush = λ a g _. more-one h (Flush a) g refl;
  publish = λ m g _. more-one h (Publish m) g refl;
  hand = λ m o k g _. more-one h (Hand m o k) g refl;
}

more-sweep : (cl : Cluster) (h : List Event) (m : ℕ) → Keeps (IsMore h) cl (Sweep m)
more-sweep cl h m g _ = more-one h (Sweep m) g refl

pub round-more : (cl : Cluster) (h : List Event) → IsMore h (round cl h)
round-more cl h = round-keeps (IsMore h) cl (kept-more cl h) (more-sweep cl h) h ([], refl, refl)

-- ---- quiet points

-- it is a quiet point of each node that is up
abbrev AllQuiet : Cluster → List Event → Type 0
AllQuiet cl h = (m : ℕ) → m < cl.nodes → IsTrue (is_up m h) → IsQuietPoint cl m h

-- before its sweeps a round has come to a quiet point
prepared-quiet : (cl : Cluster) (h : List Event) → IsLegal cl h → IsDelivered h → AllQuiet cl (prepared cl h)
prepared-quiet cl h legal delivered m node up =
    let removed = removals cl h in
    let told = windows cl removed in
    let Closed : List Event → Type 0 = λ g. (n k : ℕ) → n < cl.nodes → k < cl.nodes → IsFalse (is_up n g) → IsTrue (is_up k g) → IsTrue (is_closed n k g) in
    let closed =
    hands-keep Closed cl (λ _ _ _ _ _ all. all) (flushes cl told)
    (flushes-keep Closed cl (λ _ _ _ all. all) (λ _ _ _ all. all) told (windows-keep Closed cl (λ _ _ _ _ all. all) removed (removals-close cl h))) in
    let step = kept-legal cl in
    let legal_after = flushes-keep (IsLegal cl) cl step.flush step.publish told (windows-keep (IsLegal cl) cl step.window removed (removals-keep (IsLegal cl) cl step.remove h legal)) in
    let all_told = hands-keep (AllTold cl) cl (λ x o k g _. hand-keeps_told cl x o k g) (flushes cl told) (flushes-tell cl told legal_after) in
    record {
      up = up;
      closed = closed;
      flushed = all_told.0;
      published = all_told.1;
      folded = λ n below _. hands-fold cl (flushes cl told) m n node below up;
      delivered = prepared-keeps IsDelivered cl (kept-delivered cl) h delivered;
    }

-- it stays one after a sweep
quiet-sweep : (cl : Cluster) (k : ℕ) → Keeps (AllQuiet cl) cl (Sweep k)
quiet-sweep cl k h _ all m node up =
    let quiet = all m node up in
    let told = sweep-keeps_told cl k h (quiet.flushed, quiet.published) in
    record { up = quiet.up; closed = quiet.closed; flushed = told.0; published = told.1; folded = quiet.folded; delivered = quiet.delivered }

-- ---- the sweeps

-- each sweep that was added to h stands at a quiet point of its node
abbrev SweepsQuietly : Cluster → List Event → List Event → Type 0
SweepsQuietly cl h after = (q r : List Event) (m : ℕ) → after ≡ q ++ Sweep m ∷ (r ++ h) → IsQuietPoint cl m (r ++ h)

-- nothing was added
sweeps-none : (cl : Cluster) (h : List Event) → SweepsQuietly cl h h
sweeps-none cl h q r m same =
    let lengths = ap length same ∙ length-append q (Sweep m ∷ (r ++ h)) in
    absurd (omega (arith, lengths, length-append r h))

-- one event more that is no sweep
sweeps-other : (cl : Cluster) (h : List Event) (e : Event) (after : List Event) → ((m : ℕ) → e ≡ Sweep m → ⊥) → SweepsQuietly cl h after → SweepsQuietly cl h (e ∷ after)
sweeps-other cl h e after other quietly [] r m same = (let first : e ≡ Sweep m = cc in absurd (other m first))
sweeps-other cl h e after other quietly (x ∷ q) r m same = (let rest : after ≡ q ++ Sweep m ∷ (r ++ h) = cc in quietly q r m rest)

kept-quietly : (cl : Cluster) (h : List Event) → IsKept cl (SweepsQuietly cl h)
kept-quietly cl h = record {
  remove = λ m n g _. sweeps-other cl h (Remove m n) g (λ _ e. cc);
  window = λ m s g _. sweeps-other cl h (Window m s) g (λ _ e. cc);
  flush = λ a g _. sweeps-other cl h (Flush a) g (λ _ e. cc);
  publish = λ m g _. sweeps-other cl h (Publish m) g (λ _ e. cc);
  hand = λ m o k g _. sweeps-other cl h (Hand m o k) g (λ _ e. cc);
}

-- one sweep more, at a quiet point of all nodes that are up
sweeps-one : (cl : Cluster) (h : List Event) (k : ℕ) (after : List Event) → refusal cl (Sweep k) after ≡ None → SweepsQuietly cl h after → AllQuiet cl after → SweepsQuietly cl h (Sweep k ∷ after)
sweeps-one cl h k after none quietly quiet [] r m same =
    let kept = first_broken-none (checks cl (Sweep k) after) none in
    let node : k ≡ m = cc in
    let before : after ≡ r ++ h = cc in
    let here : IsQuietPoint cl k after = quiet k (ltb-true k cl.nodes kept.0) kept.1.0 in
    subst (λ g. IsQuietPoint cl m g) before (subst (λ n. IsQuietPoint cl n after) node here)
sweeps-one cl h k after none quietly quiet (x ∷ q) r m same = (let rest : after ≡ q ++ Sweep m ∷ (r ++ h) = cc in quietly q r m rest)

pub round-quietly : (cl : Cluster) (q r h : List Event) (m : ℕ) → IsLegal cl h → IsDelivered h → round cl h ≡ q ++ Sweep m ∷ (r ++ h) → IsQuietPoint cl m (r ++ h)
round-quietly cl q r h m legal delivered same =
    let all = sweeps-keep (λ g. SweepsQuietly cl h g × AllQuiet cl g) cl
    (λ k g none both. (sweeps-one cl h k g none both.0 both.1, quiet-sweep cl k g none both.1)) (prepared cl h)
    (prepared-keeps (SweepsQuietly cl h) cl (kept-quietly cl h) h (sweeps-none cl h), prepared-quiet cl h legal delivered) in
    all.0 q r m same

-- ---- who sweeps

sweep-allowed : (cl : Cluster) (m : ℕ) (h : List Event) → m < cl.nodes → IsTrue (is_up m h) → refusal cl (Sweep m) h ≡ None
sweep-allowed cl m h node up = cond-true (nat_lt m cl.nodes) _ (Some NoNode) (lt-ltb m cl.nodes node) ∙ cond-true (is_up m h) None (Some Down) up

-- m, if it is up, swept in what was added to h
abbrev HasSwept : Cluster → List Event → ℕ → List Event → Type 0
HasSwept cl h m after = m < cl.nodes → IsTrue (is_up m after) → (q : List Event) × (r : List Event) × (after ≡ q ++ Sweep m ∷ (r ++ h))

swept-makes : (cl : Cluster) (h : List Event) (m : ℕ) (after : List Event) → IsMore h after → HasSwept cl h m (tried cl (Sweep m) after)
swept-makes cl h m after more =
    tried-makes (HasSwept cl h m) cl (Sweep m) after (λ _ _ _. ([], more.0, ap (λ g. Sweep m ∷ g) more.1)) (λ refused node up. absurd (refused (sweep-allowed cl m after node up)))

swept-stays : (cl : Cluster) (h : List Event) (m k : ℕ) → Keeps (HasSwept cl h m) cl (Sweep k)
swept-stays cl h m k g _ swept node up = (let found = swept node up in (Sweep k ∷ found.0, found.1, ap (λ f. Sweep k ∷ f) found.2))

pub round-sweeps : (cl : Cluster) (h : List Event) (m : ℕ) → m < cl.nodes → IsTrue (is_up m h) → (q : List Event) × (r : List Event) × (round cl h ≡ q ++ Sweep m ∷ (r ++ h))
round-sweeps cl h m node up =
    each-makes (IsMore h) (HasSwept cl h) (λ n. tried cl (Sweep n)) (λ n g. tried-keeps (IsMore h) cl (Sweep n) g (more-sweep cl h n g)) (swept-makes cl h)
    (λ k j g _ _. tried-keeps (HasSwept cl h j) cl (Sweep k) g (swept-stays cl h j k g))
    cl.nodes (prepared cl h) (prepared-keeps (IsMore h) cl (kept-more cl h) h ([], refl, refl)) m node node (round-up cl h m ∙ up)

-- ---- stopped actors

-- whoever is dead in what is folded at m, if that is up, was stopped
abbrev HasStopped : Cluster → Actor → ℕ → List Event → Type 0
HasStopped cl a m h = m < cl.nodes → IsTrue (is_up m h) → a.node ≡ m → IsAmong a (dead_at cl m h) → IsTrue (is_stopped cl a h)

stopped-makes : (cl : Cluster) (a : Actor) (m : ℕ) (h : List Event) → HasStopped cl a m (tried cl (Sweep m) h)
stopped-makes cl a m h =
    tried-makes (HasStopped cl a m) cl (Sweep m) h
    (λ _ _ _ on dead.
    let own : (a.node == m) ≡ true = ap (λ n. n == m) on ∙ eqb-refl m in
    or_left (is_swept cl m h a) (is_stopped cl a h) (and_from (a.node == m) (holds_actor (dead_at cl m h) a) own ((holds-among (dead_at cl m h) a).1 dead)))
    (λ refused node up. absurd (refused (sweep-allowed cl m h node up)))

stopped-stays : (cl : Cluster) (a : Actor) (m k : ℕ) → Keeps (HasStopped cl a m) cl (Sweep k)
stopped-stays cl a m k g _ stopped node up on dead = or_right (is_swept cl k g a) (is_stopped cl a g) (stopped node up on dead)

pub round-stopped : (cl : Cluster) (h : List Event) (a : Actor) → IsLegal cl h → IsDelivered h → IsTrue (is_up a.node h) → (is_stopped cl a (round cl h) ≡ true) ↔ IsQuiescent cl (round cl h) a
round-stopped cl h a legal delivered up =
    let after = round cl h in
    let legal_after = round-legal cl h legal in
    let up_after : IsTrue (is_up a.node after) = round-up cl h a.node ∙ up in
    let quiet = sweeps-keep (AllQuiet cl) cl (quiet-sweep cl) (prepared cl h) (prepared-quiet cl h legal delivered) in (
      stopped-quiescent cl after a legal_after,
      λ quiescent.
          let node = born-on_node cl after legal_after a (quiescent.2.born a quiescent.1) in
          let dead = completeness cl a.node after a legal_after (quiet a.node node up_after) refl quiescent in
          each-makes (λ _. Unit {0}) (HasStopped cl a) (λ m. tried cl (Sweep m)) (λ _ _ _. tt) (λ m g _. stopped-makes cl a m g)
          (λ k j g _ _. tried-keeps (HasStopped cl a j) cl (Sweep k) g (stopped-stays cl a j k g)) cl.nodes (prepared cl h) tt a.node node node up_after refl dead,
    )
