-- A sweep that leaves out the gone finds the dead that are not gone, where the gone are dead; and this is so for whoever was
-- stopped before, or dropped after an earlier sweep of the kind.
use Rattle.std.proofs.Common.{◌≡◌, ◌↔◌, ◌⊎◌, ◌&&◌, ◌||◌, ◌==◌, ℕ, Bool, true, false, not, List, ◌++◌, filter, length, map, refl, sym, ◌∙◌, ap, ap₂, subst, inl, inr}
use Rattle.std.proofs.Math.Bool.{and-false}
use Rattle.std.proofs.lemmas.Bool.{cases_Bool, eqb-true, false≢true, not-true, or_parts}
use Rattle.std.proofs.lemmas.List.{length-take-le}
use Rattle.crgc_ids.specs.Actor.{Actor, IsActorBelow}
use Rattle.crgc_ids.specs.Members.{IsAmong}
use Rattle.crgc_ids.proofs.MembersLaws.{IsAmong-append_cases, IsAmong-append_left, IsAmong-append_right, IsAmong-filter, IsAmong-from_filter, filter_twice}
use Rattle.crgc_ids.proofs.RisingLaws.{IsRising-filter, rising-same}
use Rattle.history_model.specs.declared.events.Event.{Event}
use Rattle.history_model.specs.declared.records.Verdict.{Verdict}
use Rattle.history_model.specs.Cluster.{Cluster}
use Rattle.history_model.specs.Compaction.{AreOwnStops, AreRightlyGone, AreStopped, IsCompactedVerdict, IsFoldOf, IsMarked, IsWithin, compacted_dead, compacted_stops, is_left_out, nobody}
use Rattle.history_model.specs.Folds.{Fold, cut_at, folded, is_lost}
use Rattle.history_model.specs.Graph.{dead, known_actors}
use Rattle.history_model.specs.Legal.{IsLegal}
use Rattle.history_model.specs.Streams.{stream}
use Rattle.history_model.specs.Sweeps.{IsVerdict, dead_at, dead_of, is_stopped, stop_of, stops_of}
use Rattle.history_model.proofs.CompactionDead.{dead-stays, kept-before, stopped-dead}
use Rattle.history_model.proofs.CompactionGrowth.{within-trans}
use Rattle.history_model.proofs.FoldSumsDead.{AreClosed, dead-candidate, dead-closed, dead-greatest, dead_without-candidate, dead_without-closed, dead_without-greatest}
use Rattle.history_model.proofs.FoldSumsKnown.{holds-among}
use Rattle.history_model.proofs.FoldSumsReached.{dead-or_reached, dead_without-unreached}
use Rattle.history_model.proofs.FoldSumsRising.{dead-rise, dead_without-rise}
use Rattle.history_model.proofs.LinksStreams.{cut-bounded}
use Rattle.crgc_ids.proofs.ActorLaws.{IsActorBelow-apart, IsActorBelow-trans}

-- ---- the dead that are left

-- where nobody is gone, nobody more is left out
pub compacted-nobody : (cl : Cluster) (lost : ℕ → Bool) (f : Fold) → compacted_dead cl lost nobody f ≡ dead cl lost f
unfolding compacted_dead dead
compacted-nobody cl lost f = refl

module _ (cl : Cluster) (lost : ℕ → Bool) (gone : Actor → Bool) (f : Fold) where
  abbrev left_out : Actor → Bool
  left_out a = is_left_out lost gone a

  abbrev is_left : Actor → Bool
  is_left a = not (gone a)

  -- the dead of the sweep are the actors that it does not leave out or mark
  pub compacted-unmarked : (a : Actor) → IsAmong a (compacted_dead cl lost gone f)
      ↔ (IsAmong a (known_actors cl f) × (is_left_out lost gone a ≡ false) × ¬ IsMarked cl lost gone f a)
  unfolding compacted_dead
  compacted-unmarked a =
      let unreached = dead_without-unreached cl lost left_out f a in (
        λ member. (let c = unreached.0 member in (c.0, c.1, λ marked. c.2 marked.2)),
        λ all. unreached.1 (all.0, all.1, λ reached. all.2 (all.0, all.1, reached)),
      )

  pub dead-or_marked : (a : Actor) → IsAmong a (known_actors cl f) → is_left_out lost gone a ≡ false
      → IsAmong a (compacted_dead cl lost gone f) ⊎ IsMarked cl lost gone f a
  unfolding compacted_dead
  dead-or_marked a known left =
      elim (dead-or_reached cl lost left_out f a known left) [ inl member ↦ inl member | inr reached ↦ inr (known, left, reached) ]

  -- whoever is gone and not on a lost node is dead
  abbrev pub GoneAreDead : Type 0
  GoneAreDead = (a : Actor) → gone a ≡ true → lost a.node ≡ false → IsAmong a (dead cl lost f)

  -- with the gone, the dead of the sweep are closed
  compacted-dead : GoneAreDead → (a : Actor) → IsAmong a (compacted_dead cl lost gone f) → IsAmong a (dead cl lost f)
  unfolding compacted_dead
  compacted-dead right a member =
      let xs = compacted_dead cl lost gone f in
      let ys = dead cl lost f in
      let closed : AreClosed cl lost f (xs ++ ys) = λ b e among edge out. elim (IsAmong-append_cases e xs ys among) [
        | inl left ↦ elim (cases_Bool (gone b)) [
          | inl went ↦ IsAmong-append_right b xs ys (right b went out)
          | inr stayed ↦ IsAmong-append_left b xs ys (dead_without-closed cl lost left_out f b e left edge (ap₂ ◌||◌ stayed out))
        ]
        | inr all ↦ IsAmong-append_right b xs ys (dead-closed cl lost f b e all edge out)
      ] in
      dead-greatest cl lost f (xs ++ ys)
      (λ b among. elim (IsAmong-append_cases b xs ys among) [
        | inl left ↦ (let c = dead_without-candidate cl lost left_out f b left in (c.0, (or_parts (gone b) (lost b.node) c.1).1, c.2))
        | inr all ↦ dead-candidate cl lost f b all
      ])
      closed a (IsAmong-append_left a xs ys member)

  compacted-left : (a : Actor) → IsAmong a (compacted_dead cl lost gone f) → gone a ≡ false
  unfolding compacted_dead
  compacted-left a member = (or_parts (gone a) (lost a.node) (dead_without-candidate cl lost left_out f a member).1).0

  -- the dead that are not gone are dead for the sweep
  left-compacted : (a : Actor) → IsAmong a (filter is_left (dead cl lost f)) → IsAmong a (compacted_dead cl lost gone f)
  unfolding compacted_dead
  left-compacted =
      dead_without-greatest cl lost left_out f (filter is_left (dead cl lost f))
      (λ a among.
      let both = IsAmong-from_filter is_left a (dead cl lost f) among in
      let c = dead-candidate cl lost f a both.0 in
      (c.0, ap₂ ◌||◌ (not-true (gone a) both.1) c.1, c.2))
      (λ b a among edge out.
      let both = IsAmong-from_filter is_left a (dead cl lost f) among in
      let parts = or_parts (gone b) (lost b.node) out in
      IsAmong-filter is_left b (dead cl lost f) (dead-closed cl lost f b a both.0 edge parts.1) (ap not parts.0))

  -- so the sweep finds the dead that are not gone
  pub compacted-rest : GoneAreDead → compacted_dead cl lost gone f ≡ filter is_left (dead cl lost f)
  unfolding compacted_dead
  compacted-rest right =
      rising-same IsActorBelow IsActorBelow-apart IsActorBelow-trans (compacted_dead cl lost gone f) (filter is_left (dead cl lost f))
      (dead_without-rise cl lost left_out f) (IsRising-filter IsActorBelow is_left (dead cl lost f) (dead-rise cl lost f))
      (λ a member. IsAmong-filter is_left a (dead cl lost f) (compacted-dead right a member) (ap not (compacted-left a member)))
      left-compacted

-- ---- verdicts

-- a test of what is left is a test of all, in which the gone count as stopped
rest-tests : (here stopped gone : Bool) → (not gone && (here && not stopped)) ≡ (here && not (stopped || gone))
rest-tests here true true = sym (and-false here)
rest-tests here false true = sym (and-false here)
rest-tests here true false = refl
rest-tests here false false = refl

-- tests that agree on m's actors
here-tests : (m : ℕ) (a : Actor) (s t : Bool) → (a.node ≡ m → s ≡ t) → ((a.node == m) && not s) ≡ ((a.node == m) && not t)
here-tests m a s t agree =
    (elim (a.node == m) as (λ v. (a.node == m) ≡ v → (v && not s) ≡ (v && not t)) [
      | true ↦ λ here. ap not (agree (eqb-true a.node m here))
      | false ↦ λ _. refl
    ]) refl

module _ (cl : Cluster) (m : ℕ) (gone stopped : Actor → Bool) (f : Fold) (right : GoneAreDead cl (is_lost cl f) gone f) where
  -- the stops of a sweep of what is left are those of a sweep of all, less the gone
  pub compacted-stops : compacted_stops cl m gone stopped f ≡ compacted_stops cl m nobody (λ a. stopped a || gone a) f
  compacted-stops =
      let all = dead_of cl f in
      let own : Actor → Bool = λ a. (a.node == m) && not (stopped a) in
      let rest : Actor → Bool = λ a. (a.node == m) && not (stopped a || gone a) in
      ap (λ xs. map (stop_of cl (is_lost cl f) f) (filter own xs)) (compacted-rest cl (is_lost cl f) gone f right)
      ∙ ap (map (stop_of cl (is_lost cl f) f))
      (filter_twice (λ a. not (gone a)) own all ∙ (λ i. filter (λ a. rest-tests (a.node == m) (stopped a) (gone a) i) all)
      ∙ sym (ap (filter rest) (compacted-nobody cl (is_lost cl f) f)))

  -- where the gone were stopped, the verdicts are the same
  pub compacted-verdict : AreStopped gone stopped → (v : Verdict)
      → IsCompactedVerdict cl m gone stopped f v ↔ IsCompactedVerdict cl m nobody stopped f v
  compacted-verdict were v =
      let same = compacted-stops ∙ (λ i. compacted_stops cl m nobody (λ a. stopped-too (stopped a) (gone a) (were a) i) f) in (
        λ it. record { node = it.node; cut = it.cut; beyond = it.beyond; lost = it.lost; stops = it.stops ∙ same },
        λ it. record { node = it.node; cut = it.cut; beyond = it.beyond; lost = it.lost; stops = it.stops ∙ sym same },
      )
    where
      stopped-too : (s g : Bool) → (g ≡ true → s ≡ true) → (s || g) ≡ s
      stopped-too true g were = refl
      stopped-too false true were = sym (were refl)
      stopped-too false false were = refl

-- where nobody is gone, the verdict at what is folded at m is that of the history
nobody-verdict : (cl : Cluster) (m : ℕ) (h : List Event) (stopped : Actor → Bool)
    → ((a : Actor) → a.node ≡ m → stopped a ≡ is_stopped cl a h) → (v : Verdict)
    → IsCompactedVerdict cl m nobody stopped (folded cl m h) v ↔ IsVerdict cl m h v
nobody-verdict cl m h stopped agree v =
    let f = folded cl m h in
    let tests : (a : Actor) → ((a.node == m) && not (stopped a)) ≡ ((a.node == m) && not (is_stopped cl a h)) =
    λ a. here-tests m a (stopped a) (is_stopped cl a h) (agree a) in
    let stops : compacted_stops cl m nobody stopped f ≡ stops_of cl m h =
    ap (λ xs. map (stop_of cl (is_lost cl f) f) (filter (λ a. (a.node == m) && not (stopped a)) xs)) (compacted-nobody cl (is_lost cl f) f)
    ∙ (λ i. map (stop_of cl (is_lost cl f) f) (filter (λ a. tests a i) (dead_of cl f))) in
    let cut : (o : ℕ) → length (f o) ≡ cut_at cl m h o = λ o. length-take-le (cut_at cl m h o) (stream cl o h) (cut-bounded cl m h o) in (
      λ it. record {
        node = it.node;
        cut = λ o below. it.cut o below ∙ cut o;
        beyond = it.beyond;
        lost = it.lost;
        stops = it.stops ∙ stops;
      },
      λ it. record {
        node = it.node;
        cut = λ o below. it.cut o below ∙ sym (cut o);
        beyond = it.beyond;
        lost = it.lost;
        stops = it.stops ∙ sym stops;
      },
    )

-- ---- who may be gone

-- in a legal history, whoever is rightly gone is dead
pub gone-dead : (cl : Cluster) (gone : Actor → Bool) (f : Fold) (h : List Event) → IsLegal cl h → IsFoldOf cl h f
    → AreRightlyGone cl gone f → GoneAreDead cl (is_lost cl f) gone f
gone-dead cl gone f h legal fold right a went kept = (holds-among (dead_of cl f) a).0 (right h legal fold a went kept)

pub nobody-gone : (cl : Cluster) (f : Fold) → AreRightlyGone cl nobody f
nobody-gone cl f h legal fold a went kept = absurd (false≢true went)

-- whoever was dead in some fold within this one may be gone
pub once_dead-gone : (cl : Cluster) (gone : Actor → Bool) (f : Fold)
    → ((a : Actor) → gone a ≡ true → (g : Fold) × IsWithin g f × IsAmong a (dead_of cl g)) → AreRightlyGone cl gone f
once_dead-gone cl gone f were h legal fold a went kept =
    let before = were a went in
    (holds-among (dead_of cl f) a).1 (dead-stays cl h before.0 f legal fold before.1 a before.2 kept)

-- whoever is gone stays so as more is folded
pub gone-stays : (cl : Cluster) (gone : Actor → Bool) (g f : Fold) → IsWithin g f → AreRightlyGone cl gone g → AreRightlyGone cl gone f
gone-stays cl gone g f within right h legal fold a went kept =
    let fold_before = within-trans g f (λ o. stream cl o h) within fold in
    let before = gone-dead cl gone g h legal fold_before right a went (kept-before cl h g f fold within a.node kept) in
    (holds-among (dead_of cl f) a).1 (dead-stays cl h g f legal fold within a before kept)

-- and so may fewer be
pub fewer-gone : (cl : Cluster) (gone stopped : Actor → Bool) (f : Fold) → AreStopped gone stopped
    → AreRightlyGone cl stopped f → AreRightlyGone cl gone f
fewer-gone cl gone stopped f were right h legal fold a went = right h legal fold a (were a went)

-- whom a sweep of what is left finds dead may go too
pub more-gone : (cl : Cluster) (gone stopped more : Actor → Bool) (f : Fold) → AreStopped gone stopped → AreRightlyGone cl stopped f
    → ((a : Actor) → more a ≡ true → (stopped a ≡ true) ⊎ IsAmong a (compacted_dead cl (is_lost cl f) gone f))
    → AreRightlyGone cl more f
more-gone cl gone stopped more f were right joined h legal fold a went kept =
    let gone_right = gone-dead cl gone f h legal fold (fewer-gone cl gone stopped f were right) in
    elim (joined a went) [
      | inl before ↦ right h legal fold a before kept
      | inr now ↦ (holds-among (dead_of cl f) a).1 (compacted-dead cl (is_lost cl f) gone f gone_right a now)
    ]

-- ---- in a history

-- m's own actors that were stopped are dead at m
stopped-gone : (cl : Cluster) (m : ℕ) (h : List Event) (gone stopped : Actor → Bool)
    → IsLegal cl h → AreOwnStops cl m h gone stopped → GoneAreDead cl (is_lost cl (folded cl m h)) gone (folded cl m h)
stopped-gone cl m h gone stopped legal stops a went kept =
    let here = stops.own a went in
    subst (λ n. is_lost cl (folded cl n h) a.node ≡ false → IsAmong a (dead_at cl n h)) here
    (stopped-dead cl h a legal (sym (stops.exact a here) ∙ stops.were a went)) kept

-- so the verdict of a collector that forgot some of them is that of the history
pub own-verdict : (cl : Cluster) (m : ℕ) (h : List Event) (gone stopped : Actor → Bool)
    → IsLegal cl h → AreOwnStops cl m h gone stopped → (v : Verdict)
    → IsCompactedVerdict cl m gone stopped (folded cl m h) v ↔ IsVerdict cl m h v
own-verdict cl m h gone stopped legal stops v =
    let rest = compacted-verdict cl m gone stopped (folded cl m h) (stopped-gone cl m h gone stopped legal stops) stops.were v in
    let all = nobody-verdict cl m h stopped stops.exact v in
    (λ it. all.0 (rest.0 it), λ it. rest.1 (all.1 it))
