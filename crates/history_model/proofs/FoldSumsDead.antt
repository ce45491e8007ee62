-- The dead of a sweep that leaves actors out: what holds of each, that they are closed under positive edges from actors
-- that are not left out, and that they are the greatest such set. The dead of a fold are those where the actors of lost
-- nodes are left out; `Compaction` leaves out those who are gone as well.
use Rattle.std.proofs.Common.{◌≡◌, ◌+◌, ◌&&◌, ◌||◌, ℕ, Bool, true, false, not, List, refl, sym, ap}
use Rattle.std.proofs.lemmas.Bool.{and_from, eqb-true, false≢true, or_parts, and_parts, not-true, not-false}
use Rattle.std.specs.Prelude.{Option, Some, None}
use Rattle.crgc_ids.specs.Actor.{Actor}
use Rattle.crgc_ids.specs.Greatest.{IsMonotone}
use Rattle.crgc_ids.specs.Members.{IsAmong, IsPart}
use Rattle.crgc_ids.proofs.GreatestLaws.{greatest-contains, greatest-fit, greatest-part}
use Rattle.crgc_ids.proofs.MembersLaws.{IsAmong-filter, IsAmong-from_filter, list_all-members, list_all-true}
use Rattle.history_model.specs.Cluster.{Cluster}
use Rattle.history_model.specs.Facts.{Flags}
use Rattle.history_model.specs.Folds.{Fold}
use Rattle.history_model.specs.Graph.{admitted_count, candidates, dead, dead_without, has_edge, holds_actor, is_balanced, is_pseudoroot, is_unreached, known_actors, may_act, own_flags, received_count, told_count}
use Rattle.history_model.proofs.FoldSumsKnown.{edge-known, holds-among}
use Rattle.history_model.specs.Sweeps.{stop_of}

-- the test of one actor b for one that may stay: b is inside, or left out, or has no positive edge to it
excused : (inside out edge : Bool) → (edge ≡ true → out ≡ false → inside ≡ true) → (inside || (out || not edge)) ≡ true
excused true out edge h = refl
excused false true edge h = refl
excused false false true h = h refl refl
excused false false false h = refl

not_excused : (inside out edge : Bool) → (inside || (out || not edge)) ≡ true → edge ≡ true → out ≡ false → inside ≡ true
not_excused true out edge t e o = refl
not_excused false true edge t e o = absurd (false≢true (sym o))
not_excused false false true t e o = t
not_excused false false false t e o = e

module _ (cl : Cluster) (lost : ℕ → Bool) (out : Actor → Bool) (f : Fold) where
  -- ---- candidates

  -- a candidate is known, not left out, and no pseudoroot
  abbrev pub IsCandidateWithout : Actor → Type 0
  IsCandidateWithout a = IsAmong a (known_actors cl f) × (out a ≡ false) × (is_pseudoroot cl lost f a ≡ false)

  pub candidate-from : (a : Actor) → IsAmong a (candidates cl lost out f) → IsCandidateWithout a
  candidate-from a h =
      let kept = IsAmong-from_filter (λ b. not (out b) && not (is_pseudoroot cl lost f b)) a (known_actors cl f) h in
      let both = and_parts (not (out a)) (not (is_pseudoroot cl lost f a)) kept.1 in
      (kept.0, not-true (out a) both.0, not-true (is_pseudoroot cl lost f a) both.1)

  pub candidate-among : (a : Actor) → IsCandidateWithout a → IsAmong a (candidates cl lost out f)
  candidate-among a c =
      IsAmong-filter (λ b. not (out b) && not (is_pseudoroot cl lost f b)) a (known_actors cl f) c.0
      (and_from (not (out a)) (not (is_pseudoroot cl lost f a)) (ap not c.1) (ap not c.2))

  -- so is each of the dead
  pub dead_without-candidate : (a : Actor) → IsAmong a (dead_without cl lost out f) → IsCandidateWithout a
  dead_without-candidate a h = candidate-from a (greatest-part (is_unreached cl lost out f) (candidates cl lost out f) a h)

  -- ---- closed lists

  -- no actor outside the list that is not left out has a positive edge to a member
  abbrev pub AreClosedWithout : List Actor → Type 0
  AreClosedWithout xs = (b a : Actor) → IsAmong a xs → has_edge cl lost f b a ≡ true → out b ≡ false → IsAmong b xs

  -- a may stay among xs exactly where what has a positive edge to it is inside or left out
  unreached-closed : (xs : List Actor) (a : Actor) → is_unreached cl lost out f xs a ≡ true
      → (b : Actor) → has_edge cl lost f b a ≡ true → out b ≡ false → IsAmong b xs
  unreached-closed xs a t b edge kept =
      let test : Actor → Bool = λ c. holds_actor xs c || (out c || not (has_edge cl lost f c a)) in
      let passed = list_all-true test b (known_actors cl f) t (edge-known cl lost f b a edge).0 in
      (holds-among xs b).0 (not_excused (holds_actor xs b) (out b) (has_edge cl lost f b a) passed edge kept)

  closed-unreached : (xs : List Actor) (a : Actor) → ((b : Actor) → has_edge cl lost f b a ≡ true → out b ≡ false → IsAmong b xs)
      → is_unreached cl lost out f xs a ≡ true
  closed-unreached xs a closed =
      list_all-members (λ b. holds_actor xs b || (out b || not (has_edge cl lost f b a))) (known_actors cl f)
      (λ b _. excused (holds_actor xs b) (out b) (has_edge cl lost f b a) (λ edge kept. (holds-among xs b).1 (closed b edge kept)))

  unreached-monotone : IsMonotone (is_unreached cl lost out f)
  unreached-monotone xs ys a part t =
      closed-unreached ys a (λ b edge kept. part b (unreached-closed xs a t b edge kept))

  -- what has a positive edge to one of the dead is one of them, unless it is left out
  pub dead_without-closed : AreClosedWithout (dead_without cl lost out f)
  dead_without-closed b a h edge kept =
      unreached-closed (dead_without cl lost out f) a (greatest-fit (is_unreached cl lost out f) (candidates cl lost out f) a h) b edge kept

  -- each closed list of candidates lies within them
  pub dead_without-greatest : (xs : List Actor) → ((a : Actor) → IsAmong a xs → IsCandidateWithout a)
      → AreClosedWithout xs → IsPart xs (dead_without cl lost out f)
  dead_without-greatest xs fit closed =
      greatest-contains (is_unreached cl lost out f) unreached-monotone (candidates cl lost out f) xs
      (λ a h. candidate-among a (fit a h))
      (λ a h. closed-unreached xs a (λ b edge kept. closed b a h edge kept))

-- ---- the dead of a fold

-- candidates and closed lists where the actors of lost nodes are left out
abbrev pub IsCandidate : Cluster → (ℕ → Bool) → Fold → Actor → Type 0
IsCandidate cl lost f a = IsCandidateWithout cl lost (λ b. lost b.node) f a

abbrev pub AreCandidates : Cluster → (ℕ → Bool) → Fold → List Actor → Type 0
AreCandidates cl lost f xs = (a : Actor) → IsAmong a xs → IsCandidate cl lost f a

abbrev pub AreClosed : Cluster → (ℕ → Bool) → Fold → List Actor → Type 0
AreClosed cl lost f xs = AreClosedWithout cl lost (λ b. lost b.node) f xs

-- a dead actor is known, its node is not lost, its own entry says neither busy nor root, and its balance is 0
pub record IsDeadActor (cl : Cluster) (lost : ℕ → Bool) (f : Fold) (a : Actor) : Type 0 where
  pub known : IsAmong a (known_actors cl f)
  pub not_lost : lost a.node ≡ false
  pub flags : (g : Flags) × (own_flags f a ≡ Some g) × (g.busy ≡ false) × (g.root ≡ false)
  pub balanced : received_count cl f a ≡ told_count cl lost f a + admitted_count cl lost f a

quiet-flags : (o : Option Flags) → may_act o ≡ false → (g : Flags) × (o ≡ Some g) × (g.busy ≡ false) × (g.root ≡ false)
quiet-flags None e = absurd (false≢true (sym e))
quiet-flags (Some g) e = (let both = or_parts g.busy g.root e in (g, refl, both.0, both.1))

pub dead-candidate : (cl : Cluster) (lost : ℕ → Bool) (f : Fold) → AreCandidates cl lost f (dead cl lost f)
unfolding dead
dead-candidate cl lost f = dead_without-candidate cl lost (λ b. lost b.node) f

pub dead-member : (cl : Cluster) (lost : ℕ → Bool) (f : Fold) (a : Actor) → IsAmong a (dead cl lost f) → IsDeadActor cl lost f a
dead-member cl lost f a h =
    let c = dead-candidate cl lost f a h in
    let tests = or_parts (may_act (own_flags f a)) (not (is_balanced cl lost f a)) c.2 in record {
      known = c.0;
      not_lost = c.1;
      flags = quiet-flags (own_flags f a) tests.0;
      balanced = eqb-true (received_count cl f a) (told_count cl lost f a + admitted_count cl lost f a) (not-false (is_balanced cl lost f a) tests.1);
    }

-- what has a positive edge to a dead actor is dead, unless its node is lost
pub dead-closed : (cl : Cluster) (lost : ℕ → Bool) (f : Fold) → AreClosed cl lost f (dead cl lost f)
unfolding dead
dead-closed cl lost f = dead_without-closed cl lost (λ b. lost b.node) f

-- so the owners of a dead actor are dead
pub dead-owners : (cl : Cluster) (lost : ℕ → Bool) (f : Fold) (a b : Actor) → IsAmong a (dead cl lost f) → IsAmong b (stop_of cl lost f a).owners → IsAmong b (dead cl lost f)
dead-owners cl lost f a b h owner =
    let kept = IsAmong-from_filter (λ c. not (lost c.node) && has_edge cl lost f c a) b (known_actors cl f) owner in
    let both = and_parts (not (lost b.node)) (has_edge cl lost f b a) kept.1 in
    dead-closed cl lost f b a h both.1 (not-true (lost b.node) both.0)

-- each closed list of candidates lies within the dead
pub dead-greatest : (cl : Cluster) (lost : ℕ → Bool) (f : Fold) (xs : List Actor) → AreCandidates cl lost f xs → AreClosed cl lost f xs → IsPart xs (dead cl lost f)
unfolding dead
dead-greatest cl lost f = dead_without-greatest cl lost (λ b. lost b.node) f
