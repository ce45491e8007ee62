-- What is kept at each call of a course, and what a call changes of it.
use Rattle.std.proofs.Common.{◌≡◌, ◌==◌, ◌||◌, ◌++◌, ℕ, Bool, true, false, cond, List, [], ◌∷◌, Option, Some, None, refl, sym, ◌∙◌, ap}
use Rattle.std.proofs.lemmas.Bool.{false≢true}
use Rattle.crgc_ids.specs.Actor.{Actor}
use Rattle.behaviour_lang.specs.Bound.{Names}
use Rattle.turn_lock.specs.History.{calls_of, entry}
use Rattle.history_model.specs.declared.events.Event.{Event}
use Rattle.history_model.specs.Legal.{refusal}
use Rattle.history_model.proofs.Basics.{eqb-refl, eqb-sym}
use Rattle.run_model.specs.Doing.{cluster_of}
use Rattle.run_model.specs.Follows.{begins_operation, is_allowed}
use Rattle.script_reader.specs.Valid.{Scripted}
use Rattle.operation_model.specs.declared.operations.Op.{Op}
use Rattle.operation_model.specs.declared.replies.Reply.{Reply}
use Rattle.operation_model.specs.Courses.{behaviour_after, behaviour_at, claim_after, claim_at, names_after, names_at, verdict_of, verdicts}
use Rattle.operation_model.specs.Deeds.{Deed, acted, claimed, deed_of, handed, rested, swept, took, woke}
use Rattle.operation_model.specs.Hands.{given, given_by, given_since, given_since_by, has_claimed, is_claim_of, own_stopped, stops_actor}
use Rattle.operation_model.specs.Kept.{KeepsTurns, KeepsHands, hands_of, open_turns}
use Rattle.operation_model.specs.Openings.{Opening}
use Rattle.operation_model.specs.Turns.{Calls, Open, open_turn, turn_after}
use Rattle.operation_model.proofs.Claims.{ChangesHands, HandsNothing, hands-event, hands-same}
use Rattle.operation_model.proofs.Keeping.{ChangesTurn}
use Rattle.operation_model.proofs.Passes.{same-by_pass}

-- an operation may begin with the event
abbrev pub Goes : Scripted → Event → List Event → Type 0
Goes s e w = (is_allowed s e w ≡ true) × (begins_operation s e w ≡ true)

-- what the first event of a call must show, where h are the calls with it, and w is the world before; where there is none, what
-- is kept at once
abbrev pub IsStep : Opening → Calls → List Event → Option Event → Type 0
IsStep o h w None =
    KeepsTurns o.script w (open_turns h) (names_at o h) (behaviour_at o h) × KeepsHands (cluster_of o.script) w (claim_at o h) (hands_of h)
IsStep o h w (Some e) =
    refusal (cluster_of o.script) e w ≡ None
    → Goes o.script e w
    × KeepsTurns o.script (e ∷ w) (open_turns h) (names_at o h) (behaviour_at o h)
    × KeepsHands (cluster_of o.script) (e ∷ w) (claim_at o h) (hands_of h)

-- whether a deed changes turns, names or behaviours; and claims or hands
abbrev pub changes_turns : Deed → Bool
changes_turns (woke b) = true
changes_turns (took b) = true
changes_turns (acted a act child) = true
changes_turns (rested a locals) = true
changes_turns d = false

abbrev pub changes_hands : Deed → Bool
changes_hands (claimed n) = true
changes_hands (handed n o k bytes) = true
changes_hands (swept v) = true
changes_hands d = false

pub record LeavesTurns (d : Deed) : Type 0 where
  pub turn : (t : Option Open) → turn_after d t ≡ t
  pub names : (a : Actor) (before : Names) → names_after d a before ≡ before
  pub behaviours : (a : Actor) (before : ℕ) → behaviour_after d a before ≡ before

pub record LeavesHands (d : Deed) : Type 0 where
  pub claim : (p n : ℕ) (before : Option ℕ) → claim_after d p n before ≡ before
  pub claim_of : (n : ℕ) → is_claim_of n d ≡ false
  pub given : (n o k : ℕ) (before : Option (List ℕ)) → given_by n o k d before ≡ before
  pub since : (n : ℕ) (before : Bool) → given_since_by n d before ≡ before
  pub stops : (a : Actor) → stops_actor a d ≡ false
  pub verdict : verdict_of d ≡ []

pub leaves-turns : (d : Deed) → changes_turns d ≡ false → LeavesTurns d
leaves-turns (woke b) no_change = absurd (false≢true (sym no_change))
leaves-turns (took b) no_change = absurd (false≢true (sym no_change))
leaves-turns (acted a act child) no_change = absurd (false≢true (sym no_change))
leaves-turns (rested a locals) no_change = absurd (false≢true (sym no_change))
leaves-turns d no_change = record { turn = λ t. refl; names = λ a b. refl; behaviours = λ a b. refl }

pub leaves-hands : (d : Deed) → changes_hands d ≡ false → LeavesHands d
leaves-hands (claimed n) no_change = absurd (false≢true (sym no_change))
leaves-hands (handed n o k bytes) no_change = absurd (false≢true (sym no_change))
leaves-hands (swept v) no_change = absurd (false≢true (sym no_change))
leaves-hands d no_change = record { claim = λ p n b. refl; claim_of = λ n. refl; given = λ n o k b. refl; since = λ n b. refl; stops = λ a. refl; verdict = refl }

module _ (p : ℕ) (op : Op) (r : Reply) (h : Calls) where
  own-calls : calls_of p (entry p op r ∷ h) ≡ entry p op r ∷ calls_of p h
  own-calls = ap (λ v. cond v (entry p op r ∷ calls_of p h) (calls_of p h)) (eqb-refl p)

  other-calls : (q : ℕ) → (q == p) ≡ false → calls_of q (entry p op r ∷ h) ≡ calls_of q h
  other-calls q differ = ap (λ v. cond v (entry p op r ∷ calls_of q h) (calls_of q h)) (eqb-sym p q ∙ differ)

  pub changes-turn : ChangesTurn p (open_turns h) (open_turns (entry p op r ∷ h)) (turn_after (deed_of op r) (open_turns h p))
  changes-turn = record { own = ap open_turn own-calls; others = λ q differ. ap open_turn (other-calls q differ) }

  pub changes-hands : ChangesHands p (deed_of op r) (hands_of h) (hands_of (entry p op r ∷ h))
  changes-hands = record {
    own_claim = λ n. ap (has_claimed n) own-calls;
    own_given = λ n o k. ap (given n o k) own-calls;
    own_since = λ n. ap (given_since n) own-calls;
    own_stops = λ a. ap (λ calls. own_stopped calls a) own-calls;
    all_verdicts = refl;
    other_claim = λ q n differ. ap (has_claimed n) (other-calls q differ);
    other_given = λ q n o k differ. ap (given n o k) (other-calls q differ);
    other_since = λ q n differ. ap (given_since n) (other-calls q differ);
    other_stops = λ q a differ. ap (λ calls. own_stopped calls a) (other-calls q differ);
  }

  pub same-turns : LeavesTurns (deed_of op r) → (q : ℕ) → open_turns (entry p op r ∷ h) q ≡ open_turns h q
  same-turns leaves = same-by_pass p (open_turns (entry p op r ∷ h)) (open_turns h) (changes-turn.own ∙ leaves.turn (open_turns h p)) changes-turn.others

  pub same-hands : (o : Opening) (w : List Event) → LeavesHands (deed_of op r) → KeepsHands (cluster_of o.script) w (claim_at o h) (hands_of h) → KeepsHands (cluster_of o.script) w (claim_at o (entry p op r ∷ h)) (hands_of (entry p op r ∷ h))
  same-hands o w leaves k =
      hands-same (cluster_of o.script) w (claim_at o h) (claim_at o (entry p op r ∷ h)) (hands_of h) (hands_of (entry p op r ∷ h)) k
      (λ n. leaves.claim p n (claim_at o h n))
      (λ q n. same-by_pass p (λ x. has_claimed n (calls_of x (entry p op r ∷ h))) (λ x. has_claimed n (calls_of x h)) (changes-hands.own_claim n ∙ ap (λ v. v || has_claimed n (calls_of p h)) (leaves.claim_of n)) (λ x differ. changes-hands.other_claim x n differ) q)
      (λ q n a j. same-by_pass p (λ x. given n a j (calls_of x (entry p op r ∷ h))) (λ x. given n a j (calls_of x h)) (changes-hands.own_given n a j ∙ leaves.given n a j (given n a j (calls_of p h))) (λ x differ. changes-hands.other_given x n a j differ) q)
      (λ q n. same-by_pass p (λ x. given_since n (calls_of x (entry p op r ∷ h))) (λ x. given_since n (calls_of x h)) (changes-hands.own_since n ∙ leaves.since n (given_since n (calls_of p h))) (λ x differ. changes-hands.other_since x n differ) q)
      (λ q a. same-by_pass p (λ x. own_stopped (calls_of x (entry p op r ∷ h)) a) (λ x. own_stopped (calls_of x h) a) (changes-hands.own_stops a ∙ ap (λ v. v || own_stopped (calls_of p h) a) (leaves.stops a)) (λ x differ. changes-hands.other_stops x a differ) q)
      (ap (λ vs. vs ++ verdicts h) leaves.verdict)

  -- claims and hands, where an event hands nothing and sweeps nothing
  pub hands-left : (o : Opening) (w : List Event) (e : Event) → LeavesHands (deed_of op r) → HandsNothing (cluster_of o.script) e w → KeepsHands (cluster_of o.script) w (claim_at o h) (hands_of h) → KeepsHands (cluster_of o.script) (e ∷ w) (claim_at o (entry p op r ∷ h)) (hands_of (entry p op r ∷ h))
  hands-left o w e leaves none k =
      hands-event (cluster_of o.script) w (claim_at o (entry p op r ∷ h)) (claim_at o h) (hands_of (entry p op r ∷ h)) (hands_of h) (same-hands o w leaves k) e none
