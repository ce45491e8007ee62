-- The collector of a pass that claimed its node stands at the world's history.
use Rattle.std.proofs.Common.{◌≡◌, ◌==◌, ◌||◌, ℕ, Bool, true, false, List, Option, Some, None, refl, sym, ◌∙◌, subst, arith}
use Rattle.std.specs.Option.{is_some}
use Rattle.std.proofs.lemmas.Bool.{and_parts, eqb-true, false≢true}
use Rattle.std.proofs.lemmas.Option.{none-some, same_Some}
use Rattle.turn_lock.specs.History.{calls_of}
use Rattle.history_model.specs.declared.events.Event.{Event}
use Rattle.history_model.specs.Cluster.{Cluster}
use Rattle.history_model.specs.Compaction.{AreStopped}
use Rattle.history_model.specs.Folds.{was_handed}
use Rattle.history_model.specs.Streams.{stream}
use Rattle.shadow_graph.specs.Seen.{is_dropped}
use Rattle.gossip_core.specs.Gossip.{kept_at}
use Rattle.run_model.specs.Doing.{cluster_of}
use Rattle.operation_model.specs.Answers.{IsCourse}
use Rattle.operation_model.specs.Courses.{claim_at, world}
use Rattle.operation_model.specs.Hands.{given, has_claimed}
use Rattle.operation_model.specs.Kept.{KeepsHands, hands_of}
use Rattle.operation_model.specs.Openings.{IsNew, Opening}
use Rattle.operation_model.specs.Turns.{Calls}
use Rattle.operation_model.proofs.CourseLaws.{kept-course}
use Rattle.collector.specs.Collected.{Collected, IsCollectorAt, cut_of, flag_at, was_stopped}
use Rattle.collector.proofs.NumberLemmas.{is-from}
use Rattle.collected_calls.specs.Collecting.{IsCollectorOf}

-- the test is true exactly where the value is there
same-test : {A : Type 0} (t : Bool) (v : Option A) → ((a : A) → v ≡ Some a → t ≡ true) → (t ≡ true → (a : A) × (v ≡ Some a)) → is_some v ≡ t
same-test true None there found = (let at = found refl in absurd (none-some at.0 at.1))
same-test true (Some a) there found = refl
same-test false None there found = refl
same-test false (Some a) there found = absurd (false≢true (there a refl))

-- none is there, where it would make no difference
none-more : {A : Type 0} (t : Bool) (v : Option A) → t ≡ false → (t || is_some v) ≡ t → v ≡ None
none-more t None low same = refl
none-more true (Some a) low same = absurd (false≢true (sym low))
none-more false (Some a) low same = absurd (false≢true (sym same))

module _ (o : Opening) (h : Calls) (p : ℕ) (c : Collected) (fresh : IsNew o) (course : IsCourse o h) (of_pass : IsCollectorOf (cluster_of o.script) (calls_of p h) c) where
  abbrev cl : Cluster
  cl = cluster_of o.script

  abbrev own : Calls
  own = calls_of p h

  abbrev w : List Event
  w = world o h

  hands : KeepsHands cl w (claim_at o h) (hands_of h)
  hands = (let kept = kept-course o fresh h course in kept.hands)

  claimed : has_claimed c.node own ≡ true
  claimed = (let collected = of_pass.collected in collected.claimed)

  -- the pass was given what was handed to the node
  given-handed : (x k : ℕ) → is_some (given c.node x k own) ≡ was_handed c.node x k w
  given-handed x k = same-test (was_handed c.node x k w) (given c.node x k own)
      (λ bytes is. (let handed = hands.given_is p c.node x k bytes is in handed.was))
      (λ was.
      let by = hands.handed_by c.node x k was in
      let same : by.0 ≡ p = same_Some by.0 p (sym by.1 ∙ hands.claimed_by p c.node claimed) in
      (by.2.0, subst (λ q. given c.node x k (calls_of q h) ≡ Some by.2.0) same by.2.1))

  settled : (x : ℕ) → kept_at c.order x (cut_of c x) ≡ None
  settled x =
      let collected = of_pass.collected in
      none-more _ (kept_at c.order x (cut_of c x)) (is-from (cut_of c x) (cut_of c x) (omega arith)) (collected.none_waits x (cut_of c x))

  pub stands-at : AreStopped (is_dropped c.graph) (was_stopped c) → IsCollectorAt cl w c.node c
  stands-at were =
      let collected = of_pass.collected in
      record {
        node = refl;
        fed = collected.fed (λ x. stream cl x w) (λ x k bytes is. (let handed = hands.given_is p c.node x k bytes is in (handed.notice, handed.stands, handed.spells)));
        handed = λ x k _. collected.none_waits x k ∙ collected.folded x k ∙ given-handed x k;
        settled = settled;
        stops = record {
          exact = λ a here. of_pass.stopped a here ∙ hands.stops_are p a (subst (λ n. has_claimed n own ≡ true) (sym here) claimed);
          own = λ a went. eqb-true a.node c.node (and_parts (a.node == c.node) (flag_at c.stopped a.serial) (were a went)).0;
          were = were;
        };
      }
