-- What each deed keeps of claims, hands and stops: who has claimed a node hands to it alone and sweeps for it alone, and so knows
-- what was handed there and who was stopped.
use Rattle.std.proofs.Common.{◌≡◌, ◌==◌, ◌&&◌, ◌||◌, ◌++◌, ℕ, zero, suc, Bool, true, false, not, List, [], ◌∷◌, map, slice_get, Option, Some, None, refl, sym, ◌∙◌, ap, subst, if◌then◌else◌}
use Rattle.std.specs.List.{filter, list_any}
use Rattle.std.proofs.lemmas.Bool.{and_parts, eqb-true, false≢true, false_from_ne_true}
use Rattle.std.proofs.lemmas.Map.Views.{any-filter_same}
use Rattle.std.proofs.lemmas.Option.{none-some, same_Some}
use Rattle.crgc_ids.specs.Actor.{Actor, same_actor}
use Rattle.history_model.specs.declared.events.Event.{Event}
use Rattle.history_model.specs.declared.events.Event.TheVariants.{Hand, Sweep}
use Rattle.history_model.specs.declared.records.Stop.{Stop}
use Rattle.history_model.specs.declared.records.Verdict.{Verdict}
use Rattle.history_model.specs.Cluster.{Cluster}
use Rattle.history_model.specs.Folds.{is_lost, folded, was_handed}
use Rattle.history_model.specs.Graph.{holds_actor}
use Rattle.history_model.specs.Streams.{Notice, stream}
use Rattle.history_model.specs.Sweeps.{IsVerdict, dead_at, is_stopped, is_swept, stop_of}
use Rattle.history_model.proofs.Basics.{eqb-refl, same_actor-equal}
use Rattle.history_model.proofs.LinksStreams.{stream-grows}
use Rattle.journal_model.specs.Verdicts.{AreVerdicts}
use Rattle.run_model.specs.Follows.{handed_since}
use Rattle.operation_model.specs.Courses.{verdict_of}
use Rattle.operation_model.specs.Deeds.{Deed, claimed, handed, swept}
use Rattle.operation_model.specs.Hands.{Spells, given_by, given_since_by, is_claim_of, is_stop_of, stops_actor}
use Rattle.operation_model.specs.Kept.{Hands, IsHanded, KeepsHands}
use Rattle.operation_model.proofs.Passes.{by_pass, by_test, same-by_pass}

-- the deed of a pass changes what that pass has done, and nothing of the others
pub record ChangesHands (p : ℕ) (d : Deed) (x y : Hands) : Type 0 where
  pub own_claim : (n : ℕ) → y.has_claimed p n ≡ (is_claim_of n d || x.has_claimed p n)
  pub own_given : (n o k : ℕ) → y.given p n o k ≡ given_by n o k d (x.given p n o k)
  pub own_since : (n : ℕ) → y.given_since p n ≡ given_since_by n d (x.given_since p n)
  pub own_stops : (a : Actor) → y.has_stopped p a ≡ (stops_actor a d || x.has_stopped p a)
  pub all_verdicts : y.verdicts ≡ verdict_of d ++ x.verdicts
  pub other_claim : (q n : ℕ) → (q == p) ≡ false → y.has_claimed q n ≡ x.has_claimed q n
  pub other_given : (q n o k : ℕ) → (q == p) ≡ false → y.given q n o k ≡ x.given q n o k
  pub other_since : (q n : ℕ) → (q == p) ≡ false → y.given_since q n ≡ x.given_since q n
  pub other_stops : (q : ℕ) (a : Actor) → (q == p) ≡ false → y.has_stopped q a ≡ x.has_stopped q a

-- ---- events

abbrev pub is_of_collector : Event → Bool
is_of_collector (Hand m o k) = true
is_of_collector (Sweep m) = true
is_of_collector e = false

-- an event that hands nothing and sweeps nothing
pub record HandsNothing (cl : Cluster) (e : Event) (w : List Event) : Type 0 where
  pub handed_is : (n o k : ℕ) → was_handed n o k (e ∷ w) ≡ was_handed n o k w
  pub since_is : (n : ℕ) → handed_since n (e ∷ w) ≡ handed_since n w
  pub stopped_is : (a : Actor) → is_stopped cl a (e ∷ w) ≡ is_stopped cl a w
  pub verdicts_are : (vs : List Verdict) → AreVerdicts cl w vs → AreVerdicts cl (e ∷ w) vs

pub hands-nothing : (cl : Cluster) (e : Event) (w : List Event) → is_of_collector e ≡ false → HandsNothing cl e w
hands-nothing cl (Hand m o k) w is = absurd (false≢true (sym is))
hands-nothing cl (Sweep m) w is = absurd (false≢true (sym is))
hands-nothing cl e w is = record { handed_is = λ n o k. refl; since_is = λ n. refl; stopped_is = λ a. refl; verdicts_are = λ vs are. are }

-- what stands in a list stands in a longer one
slice_get-longer : {A : Type 0} (xs more : List A) (k : ℕ) (x : A) → slice_get xs k ≡ Some x → slice_get (xs ++ more) k ≡ Some x
slice_get-longer [] more k x is = absurd (none-some x is)
slice_get-longer (y ∷ ys) more zero x is = is
slice_get-longer (y ∷ ys) more (suc k) x is = slice_get-longer ys more k x is

-- a bulletin stays in its stream
pub stands-longer : (cl : Cluster) (e : Event) (w : List Event) (o k : ℕ) (m : Notice) → slice_get (stream cl o w) k ≡ Some m → slice_get (stream cl o (e ∷ w)) k ≡ Some m
stands-longer cl e w o k m is =
    let grows = stream-grows cl o (e ∷ []) w in
    subst (λ xs. slice_get xs k ≡ Some m) (sym grows.1) (slice_get-longer (stream cl o w) grows.0 k m is)

handed-longer : (cl : Cluster) (e : Event) (w : List Event) (n o k : ℕ) (bytes : List ℕ) → was_handed n o k (e ∷ w) ≡ true → IsHanded cl w n o k bytes → IsHanded cl (e ∷ w) n o k bytes
handed-longer cl e w n o k bytes was h = record { was = was; notice = h.notice; stands = stands-longer cl e w o k h.notice h.stands; spells = h.spells }

either-right : (u v : Bool) → v ≡ true → (u || v) ≡ true
either-right true v is = refl
either-right false v is = is

module _ (cl : Cluster) (w : List Event) (claims claims' : ℕ → Option ℕ) (x y : Hands) (k : KeepsHands cl w claims x) where
  -- nothing of it changes
  pub hands-same : ((n : ℕ) → claims' n ≡ claims n) → ((q n : ℕ) → y.has_claimed q n ≡ x.has_claimed q n) → ((q n o j : ℕ) → y.given q n o j ≡ x.given q n o j) → ((q n : ℕ) → y.given_since q n ≡ x.given_since q n)
      → ((q : ℕ) (a : Actor) → y.has_stopped q a ≡ x.has_stopped q a) → y.verdicts ≡ x.verdicts → KeepsHands cl w claims' y
  hands-same same_claims same_claimed same_given same_since same_stops same_verdicts = record {
    claimed_by = λ q n is. same_claims n ∙ k.claimed_by q n (sym (same_claimed q n) ∙ is);
    handed_by = λ n o j is. (let h = k.handed_by n o j is in (h.0, same_claims n ∙ h.1, (h.2.0, same_given h.0 n o j ∙ h.2.1)));
    given_is = λ q n o j bytes is. k.given_is q n o j bytes (sym (same_given q n o j) ∙ is);
    since = λ q n is given. k.since q n (sym (same_claimed q n) ∙ is) (sym (same_since q n) ∙ given);
    stops_are = λ q a is. same_stops q a ∙ k.stops_are q a (sym (same_claimed q a.node) ∙ is);
    none_stopped = λ a free. k.none_stopped a (sym (same_claims a.node) ∙ free);
    stops_own = λ q a is. same_claimed q a.node ∙ k.stops_own q a (sym (same_stops q a) ∙ is);
    verdicts_are = subst (AreVerdicts cl w) (sym same_verdicts) k.verdicts_are;
  }

  pub hands-event : (e : Event) → HandsNothing cl e w → KeepsHands cl (e ∷ w) claims x
  hands-event e none = record {
    claimed_by = k.claimed_by;
    handed_by = λ n o j is. k.handed_by n o j (sym (none.handed_is n o j) ∙ is);
    given_is = λ q n o j bytes is. (let h = k.given_is q n o j bytes is in handed-longer cl e w n o j bytes (none.handed_is n o j ∙ h.was) h);
    since = λ q n is given. none.since_is n ∙ k.since q n is given;
    stops_are = λ q a is. k.stops_are q a is ∙ sym (none.stopped_is a);
    none_stopped = λ a free. none.stopped_is a ∙ k.none_stopped a free;
    stops_own = k.stops_own;
    verdicts_are = none.verdicts_are x.verdicts k.verdicts_are;
  }

  -- a node that nobody had claimed is claimed
  module _ (p n : ℕ) (free : claims n ≡ None) (changes : ChangesHands p (claimed n) x y) (new : (m : ℕ) → claims' m ≡ (if n == m then Some p else claims m)) where
    -- who had claimed a node had not claimed this one
    claimed-other : (m q : ℕ) → claims m ≡ Some q → (n == m) ≡ false
    claimed-other m q is = by_test (n == m) ((n == m) ≡ false)
        (λ match. absurd (none-some q (sym (subst (λ r. claims r ≡ None) (eqb-true n m match) free) ∙ is)))
        (λ differ. differ)

    own-before : (m : ℕ) → (n == m) ≡ false → y.has_claimed p m ≡ true → x.has_claimed p m ≡ true
    own-before m differ is = sym (changes.own_claim m ∙ rw differ refl) ∙ is

    given-still : (q m o j : ℕ) → y.given q m o j ≡ x.given q m o j
    given-still q m o j = same-by_pass p (λ r. y.given r m o j) (λ r. x.given r m o j) (changes.own_given m o j) (λ r other. changes.other_given r m o j other) q

    stops-still : (q : ℕ) (a : Actor) → y.has_stopped q a ≡ x.has_stopped q a
    stops-still q a = same-by_pass p (λ r. y.has_stopped r a) (λ r. x.has_stopped r a) (changes.own_stops a) (λ r other. changes.other_stops r a other) q

    still-claimed : (m q : ℕ) → claims m ≡ Some q → claims' m ≡ Some q
    still-claimed m q is = new m ∙ rw (claimed-other m q is) is

    free-before : (m : ℕ) → claims' m ≡ None → claims m ≡ None
    free-before m none = by_test (n == m) (claims m ≡ None)
        (λ match. absurd (none-some p (sym none ∙ (new m ∙ rw match refl))))
        (λ differ. sym (new m ∙ rw differ refl) ∙ none)

    -- nobody of the node was stopped
    stops-new : (a : Actor) → (n == a.node) ≡ true → x.has_stopped p a ≡ is_stopped cl a w
    stops-new a match =
        let unclaimed = subst (λ r. claims r ≡ None) (eqb-true n a.node match) free in
        let none = false_from_ne_true (x.has_stopped p a) (λ is. none-some p (sym unclaimed ∙ k.claimed_by p a.node (k.stops_own p a is))) in
        none ∙ sym (k.none_stopped a unclaimed)

    pub hands-claimed : KeepsHands cl w claims' y
    hands-claimed = record {
      claimed_by = λ q m is. by_pass p q (claims' m ≡ Some q)
          (λ same. subst (λ r. claims' m ≡ Some r) (sym same) (by_test (n == m) (claims' m ≡ Some p)
          (λ match. new m ∙ rw match refl)
          (λ differ. still-claimed m p (k.claimed_by p m (own-before m differ (subst (λ r. y.has_claimed r m ≡ true) same is))))))
          (λ other. still-claimed m q (k.claimed_by q m (sym (changes.other_claim q m other) ∙ is)));
      handed_by = λ m o j is. (let h = k.handed_by m o j is in (h.0, still-claimed m h.0 h.1, (h.2.0, given-still h.0 m o j ∙ h.2.1)));
      given_is = λ q m o j bytes is. k.given_is q m o j bytes (sym (given-still q m o j) ∙ is);
      since = λ q m is given. by_pass p q (handed_since m w ≡ true)
          (λ same. by_test (n == m) (handed_since m w ≡ true)
          (λ match. absurd (false≢true (sym (changes.own_since m ∙ rw match refl) ∙ subst (λ r. y.given_since r m ≡ true) same given)))
          (λ differ. k.since p m (own-before m differ (subst (λ r. y.has_claimed r m ≡ true) same is)) (sym (changes.own_since m ∙ rw differ refl) ∙ subst (λ r. y.given_since r m ≡ true) same given)))
          (λ other. k.since q m (sym (changes.other_claim q m other) ∙ is) (sym (changes.other_since q m other) ∙ given));
      stops_are = λ q a is. stops-still q a ∙ by_pass p q (x.has_stopped q a ≡ is_stopped cl a w)
          (λ same. subst (λ r. x.has_stopped r a ≡ is_stopped cl a w) (sym same) (by_test (n == a.node) (x.has_stopped p a ≡ is_stopped cl a w)
          (stops-new a)
          (λ differ. k.stops_are p a (own-before a.node differ (subst (λ r. y.has_claimed r a.node ≡ true) same is)))))
          (λ other. k.stops_are q a (sym (changes.other_claim q a.node other) ∙ is));
      none_stopped = λ a none. k.none_stopped a (free-before a.node none);
      stops_own = λ q a is.
          let before = k.stops_own q a (sym (stops-still q a) ∙ is) in
          by_pass p q (y.has_claimed q a.node ≡ true)
          (λ same. subst (λ r. y.has_claimed r a.node ≡ true) (sym same) (changes.own_claim a.node ∙ either-right (n == a.node) (x.has_claimed p a.node) (subst (λ r. x.has_claimed r a.node ≡ true) same before)))
          (λ other. changes.other_claim q a.node other ∙ before);
      verdicts_are = subst (AreVerdicts cl w) (sym changes.all_verdicts) k.verdicts_are;
    }

  -- a bulletin is handed by the pass that has claimed the node
  module _ (p n o j : ℕ) (bytes : List ℕ) (own : x.has_claimed p n ≡ true) (m : Notice) (stands : slice_get (stream cl o w) j ≡ Some m) (spells : Spells o bytes m) (changes : ChangesHands p (handed n o j bytes) x y) (same_claims : (r : ℕ) → claims' r ≡ claims r) where
    same-claimed : (q r : ℕ) → y.has_claimed q r ≡ x.has_claimed q r
    same-claimed q r = same-by_pass p (λ z. y.has_claimed z r) (λ z. x.has_claimed z r) (changes.own_claim r) (λ z other. changes.other_claim z r other) q

    same-stops : (q : ℕ) (a : Actor) → y.has_stopped q a ≡ x.has_stopped q a
    same-stops q a = same-by_pass p (λ z. y.has_stopped z a) (λ z. x.has_stopped z a) (changes.own_stops a) (λ z other. changes.other_stops z a other) q

    abbrev Matches : ℕ → ℕ → ℕ → Bool
    Matches r a i = (n == r) && ((o == a) && (j == i))

    given-before : (q r a i : ℕ) → Matches r a i ≡ false → y.given q r a i ≡ x.given q r a i
    given-before q r a i differ = same-by_pass p (λ z. y.given z r a i) (λ z. x.given z r a i) (changes.own_given r a i ∙ rw differ refl) (λ z other. changes.other_given z r a i other) q

    earlier : (u v : Bool) → u ≡ false → (u || v) ≡ true → v ≡ true
    earlier true v e is = absurd (false≢true (sym e))
    earlier false v e is = is

    -- the new bulletin is the one that is handed
    new-handed : (r a i : ℕ) (found : List ℕ) → Matches r a i ≡ true → y.given p r a i ≡ Some found → IsHanded cl (Hand n o j ∷ w) r a i found
    new-handed r a i found match is =
        let same : bytes ≡ found = same_Some bytes found (sym (changes.own_given r a i ∙ rw match refl) ∙ is) in
        let parts = and_parts (n == r) ((o == a) && (j == i)) match in
        let rest = and_parts (o == a) (j == i) parts.1 in
        let origin = eqb-true o a rest.0 in
        record {
          was = rw match refl;
          notice = m;
          stands = stands-longer cl (Hand n o j) w a i m (subst (λ z. slice_get (stream cl z w) i ≡ Some m) origin (subst (λ z. slice_get (stream cl o w) z ≡ Some m) (eqb-true j i rest.1) stands));
          spells = subst (λ z. Spells z found m) origin (subst (λ b. Spells o b m) same spells);
        }

    given-handed : (q r a i : ℕ) (found : List ℕ) → y.given q r a i ≡ Some found → IsHanded cl (Hand n o j ∷ w) r a i found
    given-handed q r a i found is =
        let old = λ (before : x.given q r a i ≡ Some found). (let h = k.given_is q r a i found before in handed-longer cl (Hand n o j) w r a i found (either-right (Matches r a i) (was_handed r a i w) h.was) h) in
        by_pass p q (IsHanded cl (Hand n o j ∷ w) r a i found)
        (λ same. by_test (Matches r a i) (IsHanded cl (Hand n o j ∷ w) r a i found)
        (λ match. new-handed r a i found match (subst (λ z. y.given z r a i ≡ Some found) same is))
        (λ differ. old (sym (given-before q r a i differ) ∙ is)))
        (λ other. old (sym (changes.other_given q r a i other) ∙ is))

    pub hands-handed : KeepsHands cl (Hand n o j ∷ w) claims' y
    hands-handed = record {
      claimed_by = λ q r is. same_claims r ∙ k.claimed_by q r (sym (same-claimed q r) ∙ is);
      handed_by = λ r a i is. by_test (Matches r a i) ((z : ℕ) × (claims' r ≡ Some z) × ((b : List ℕ) × (y.given z r a i ≡ Some b)))
          (λ match. (p, same_claims r ∙ subst (λ z. claims z ≡ Some p) (eqb-true n r (and_parts (n == r) ((o == a) && (j == i)) match).0) (k.claimed_by p n own), (bytes, changes.own_given r a i ∙ rw match refl)))
          (λ differ.
          let h = k.handed_by r a i (earlier (Matches r a i) (was_handed r a i w) differ is) in
          (h.0, same_claims r ∙ h.1, (h.2.0, given-before h.0 r a i differ ∙ h.2.1)));
      given_is = given-handed;
      since = λ q r is given. by_pass p q (((n == r) || handed_since r w) ≡ true)
          (λ same. by_test (n == r) (((n == r) || handed_since r w) ≡ true)
          (λ match. rw match refl)
          (λ differ. rw differ (k.since p r (sym (same-claimed p r) ∙ subst (λ z. y.has_claimed z r ≡ true) same is) (sym (changes.own_since r ∙ rw differ refl) ∙ subst (λ z. y.given_since z r ≡ true) same given))))
          (λ other. either-right (n == r) (handed_since r w) (k.since q r (sym (same-claimed q r) ∙ is) (sym (changes.other_since q r other) ∙ given)));
      stops_are = λ q a is. same-stops q a ∙ k.stops_are q a (sym (same-claimed q a.node) ∙ is);
      none_stopped = λ a none. k.none_stopped a (sym (same_claims a.node) ∙ none);
      stops_own = λ q a is. same-claimed q a.node ∙ k.stops_own q a (sym (same-stops q a) ∙ is);
      verdicts_are = subst (AreVerdicts cl w) (sym changes.all_verdicts) k.verdicts_are;
    }

  -- the pass that has claimed a node sweeps for it
  module _ (p : ℕ) (v : Verdict) (own : x.has_claimed p v.node ≡ true) (verdict : IsVerdict cl v.node w v) (changes : ChangesHands p (swept v) x y) (same_claims : (m : ℕ) → claims' m ≡ claims m) where
    same-claimed' : (q r : ℕ) → y.has_claimed q r ≡ x.has_claimed q r
    same-claimed' q r = same-by_pass p (λ z. y.has_claimed z r) (λ z. x.has_claimed z r) (changes.own_claim r) (λ z other. changes.other_claim z r other) q

    given-still' : (q m a i : ℕ) → y.given q m a i ≡ x.given q m a i
    given-still' q m a i = same-by_pass p (λ z. y.given z m a i) (λ z. x.given z m a i) (changes.own_given m a i) (λ z other. changes.other_given z m a i other) q

    since-before : (q m : ℕ) → (v.node == m) ≡ false → y.given_since q m ≡ x.given_since q m
    since-before q m differ = same-by_pass p (λ z. y.given_since z m) (λ z. x.given_since z m) (changes.own_since m ∙ rw differ refl) (λ z other. changes.other_since z m other) q

    -- no other pass has claimed the node
    only-own : (q m : ℕ) → (v.node == m) ≡ true → (q == p) ≡ false → y.has_claimed q m ≡ true → ⊥
    only-own q m match other is =
        let by_q = k.claimed_by q m (sym (same-claimed' q m) ∙ is) in
        let by_p = subst (λ r. claims r ≡ Some p) (eqb-true v.node m match) (k.claimed_by p v.node own) in
        let same = same_Some q p (sym by_q ∙ by_p) in
        false≢true (sym other ∙ ap (λ r. r == p) same ∙ eqb-refl p)

    -- the pass has been given nothing since
    swept-own : (q m : ℕ) → (v.node == m) ≡ true → y.has_claimed q m ≡ true → y.given_since q m ≡ true → ⊥
    swept-own q m match is given = by_pass p q ⊥
        (λ same. false≢true (sym (changes.own_since m ∙ rw match refl) ∙ subst (λ r. y.given_since r m ≡ true) same given))
        (λ other. only-own q m match other is)

    -- whom the verdict stops
    any-mapped : (a : Actor) (f : Actor → Stop) → ((b : Actor) → is_stop_of a (f b) ≡ same_actor b a) → (xs : List Actor) → list_any (is_stop_of a) (map f xs) ≡ holds_actor xs a
    any-mapped a f same [] = refl
    any-mapped a f same (b ∷ bs) = rw (same b) (ap (λ rest. same_actor b a || rest) (any-mapped a f same bs))

    stops-of : (a : Actor) → list_any (is_stop_of a) v.stops ≡ (((a.node == v.node) && not (is_stopped cl a w)) && holds_actor (dead_at cl v.node w) a)
    stops-of a =
        let f = folded cl v.node w in
        let kept : Actor → Bool = λ b. (b.node == v.node) && not (is_stopped cl b w) in
        ap (list_any (is_stop_of a)) verdict.stops
        ∙ any-mapped a (stop_of cl (is_lost cl f) f) (λ b. refl) (filter kept (dead_at cl v.node w))
        ∙ any-filter_same (λ b. same_actor b a) kept (kept a) (λ b same. ap kept (same_actor-equal b a same)) (dead_at cl v.node w)

    -- they are stopped from then on
    stopped-now : (a : Actor) → (v.node == a.node) ≡ true → x.has_stopped p a ≡ is_stopped cl a w → ((v.node == a.node) && list_any (is_stop_of a) v.stops || x.has_stopped p a) ≡ (is_swept cl v.node w a || is_stopped cl a w)
    stopped-now a match before =
        let here : (a.node == v.node) ≡ true = ap (λ n. a.node == n) (eqb-true v.node a.node match) ∙ eqb-refl a.node in
        rw (match, before, stops-of a, here) (tests (is_stopped cl a w) (holds_actor (dead_at cl v.node w) a))
      where
        tests : (s d : Bool) → ((not s && d) || s) ≡ (d || s)
        tests true true = refl
        tests true false = refl
        tests false true = refl
        tests false false = refl

    -- on other nodes nobody is
    stopped-other : (a : Actor) → (v.node == a.node) ≡ false → is_stopped cl a (Sweep v.node ∷ w) ≡ is_stopped cl a w
    stopped-other a differ =
        let away : (a.node == v.node) ≡ false = false_from_ne_true (a.node == v.node) (λ same. false≢true (sym differ ∙ ap (λ n. v.node == n) (eqb-true a.node v.node same) ∙ eqb-refl v.node)) in
        rw away refl

    own-stops_other : (q : ℕ) (a : Actor) → (v.node == a.node) ≡ false → y.has_stopped q a ≡ x.has_stopped q a
    own-stops_other q a differ = same-by_pass p (λ z. y.has_stopped z a) (λ z. x.has_stopped z a) (changes.own_stops a ∙ rw differ refl) (λ z other. changes.other_stops z a other) q

    swept-stops : (q : ℕ) (a : Actor) → y.has_claimed q a.node ≡ true → y.has_stopped q a ≡ is_stopped cl a (Sweep v.node ∷ w)
    swept-stops q a is =
        let before = sym (same-claimed' q a.node) ∙ is in
        by_test (v.node == a.node) (y.has_stopped q a ≡ is_stopped cl a (Sweep v.node ∷ w))
        (λ match. by_pass p q (y.has_stopped q a ≡ is_stopped cl a (Sweep v.node ∷ w))
        (λ same. subst (λ r. y.has_stopped r a ≡ is_stopped cl a (Sweep v.node ∷ w)) (sym same)
        (changes.own_stops a ∙ stopped-now a match (k.stops_are p a (subst (λ r. x.has_claimed r a.node ≡ true) same before))))
        (λ other. absurd (only-own q a.node match other is)))
        (λ differ. own-stops_other q a differ ∙ k.stops_are q a before ∙ sym (stopped-other a differ))

    swept-own_stops : (q : ℕ) (a : Actor) → y.has_stopped q a ≡ true → y.has_claimed q a.node ≡ true
    swept-own_stops q a is =
        let before = λ (b : x.has_stopped q a ≡ true). same-claimed' q a.node ∙ k.stops_own q a b in
        by_test (v.node == a.node) (y.has_claimed q a.node ≡ true)
        (λ match. by_pass p q (y.has_claimed q a.node ≡ true)
        (λ same. same-claimed' q a.node ∙ subst (λ r. x.has_claimed r a.node ≡ true) (sym same) (subst (λ n. x.has_claimed p n ≡ true) (eqb-true v.node a.node match) own))
        (λ other. before (sym (changes.other_stops q a other) ∙ is)))
        (λ differ. before (sym (own-stops_other q a differ) ∙ is))

    pub hands-swept : KeepsHands cl (Sweep v.node ∷ w) claims' y
    hands-swept = record {
      claimed_by = λ q m is. same_claims m ∙ k.claimed_by q m (sym (same-claimed' q m) ∙ is);
      handed_by = λ m a i is. (let h = k.handed_by m a i is in (h.0, same_claims m ∙ h.1, (h.2.0, given-still' h.0 m a i ∙ h.2.1)));
      given_is = λ q m a i found is. (let h = k.given_is q m a i found (sym (given-still' q m a i) ∙ is) in handed-longer cl (Sweep v.node) w m a i found h.was h);
      since = λ q m is given. by_test (v.node == m) ((if v.node == m then false else handed_since m w) ≡ true)
          (λ match. absurd (swept-own q m match is given))
          (λ differ. rw differ (k.since q m (sym (same-claimed' q m) ∙ is) (sym (since-before q m differ) ∙ given)));
      stops_are = swept-stops;
      none_stopped = λ a none. by_test (v.node == a.node) (is_stopped cl a (Sweep v.node ∷ w) ≡ false)
          (λ match. absurd (none-some p (sym (sym (same_claims a.node) ∙ none) ∙ subst (λ r. claims r ≡ Some p) (eqb-true v.node a.node match) (k.claimed_by p v.node own))))
          (λ differ. stopped-other a differ ∙ k.none_stopped a (sym (same_claims a.node) ∙ none));
      stops_own = swept-own_stops;
      verdicts_are = subst (AreVerdicts cl (Sweep v.node ∷ w)) (sym changes.all_verdicts) (verdict, k.verdicts_are);
    }
