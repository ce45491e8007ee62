-- Nobody is left whom a sweep would stop and does not look at, and how a sweep finds all others.
use Rattle.std.proofs.Common.{◌≡◌, ◌==◌, ◌&&◌, ◌||◌, ◌<◌, ◌≤◌, ◌++◌, not, ℕ, Bool, true, false, List, [], ◌∷◌, length, refl, sym, ◌∙◌, ap, subst, inl, inr, arith}
use Rattle.std.proofs.Math.ListN.{set}
use Rattle.std.proofs.lemmas.Bool.{and_parts, cases_eq, cases_lt, false≢true}
use Rattle.std.specs.List.{filter, list_any}
use Rattle.std.specs.Option.{is_some}
use Rattle.crgc_ids.specs.Actor.{Actor, IsActorBelow}
use Rattle.crgc_ids.specs.Members.{IsAmong}
use Rattle.crgc_ids.specs.Nodes.{has_node}
use Rattle.crgc_ids.proofs.ActorLaws.{IsActorBelow-apart, IsActorBelow-trans}
use Rattle.crgc_ids.proofs.MembersLaws.{IsAmong-append_cases, IsAmong-append_left, IsAmong-append_right, list_any-member}
use Rattle.crgc_ids.proofs.RisingLaws.{rising-same}
use Rattle.history_model.specs.Graph.{rising_actors}
use Rattle.history_model.proofs.RisingActors.{among-decides, rising-among, rising_actors-rise}
use Rattle.kept_marks.specs.Kept.{IsEmpty, is_supported}
use Rattle.kept_marks.specs.PlaceSet.{has_place}
use Rattle.kept_marks.proofs.StepLemmas.{in-other, shrink}
use Rattle.shadow_table.specs.Shadows.{is_named, place_in}
use Rattle.shadow_graph.specs.Graph.{Graph, lost_in}
use Rattle.shadow_graph.specs.Places.{ArePlaced, actor_of}
use Rattle.shadow_graph.specs.Seen.{is_dropped}
use Rattle.pseudoroot_trace.proofs.GraphLemmas.{is-or-not}
use Rattle.pseudoroot_trace.specs.Traced.{IsSweptGraph, KeepsMarks, MayFall, TakesFallen, Traced, is_marked_in}
use Rattle.collector.specs.Collected.{flag_at}
use Rattle.collector.specs.Sweeping.{SetsFlags, falls}
use Rattle.collector.specs.Traced.{FindsAt, HasFound, HaveFallen, NoneIsLeft, TakesSome, falls_at}
use Rattle.collector.proofs.SweepLemmas.{Falls, eqb-is, falls-from, falls-parts, found, found-falls, found-there}

-- ---- marks by place

-- the actor at a place is marked where the place is
pub marked-at : (t : Traced) → ArePlaced t.graph → (p : ℕ) → p < length t.graph.shadows.names → is_marked_in t (actor_of t.graph p) ≡ is_supported t.kept.supports p
marked-at t placed p inside =
    let at = placed.actor p inside in
    λ i. at.0 i && is_supported t.kept.supports (at.1 i)

-- the actor at a place was named
pub named-at : (g : Graph) → ArePlaced g → (p : ℕ) → p < length g.shadows.names → IsAmong (actor_of g p) g.shadows.names
named-at g placed p inside = (among-decides g.shadows.names (actor_of g p)).0 (placed.actor p inside).0

-- ---- as the graph changes

module _ (t u : Traced) (node : ℕ) (stopped : List Bool) (keeps : KeepsMarks t u)
    (same : (p : ℕ) → p < length t.graph.shadows.names → actor_of u.graph p ≡ actor_of t.graph p)
    (longer : length t.graph.shadows.names ≤ length u.graph.shadows.names)
    (dropped : (a : Actor) → is_dropped u.graph a ≡ false → is_dropped t.graph a ≡ false) where
  -- whoever would be stopped then would have been stopped before
  fell-before : lost_in u.graph ≡ lost_in t.graph → (p : ℕ) → p < t.places → falls_at u node stopped p ≡ true → falls_at t node stopped p ≡ true
  fell-before lost p inside is =
      let seen = keeps.seen in
      let in_t : p < length t.graph.shadows.names = omega arith in
      let in_u : p < length u.graph.shadows.names = (let up = longer in omega arith) in
      let a = actor_of t.graph p in
      let at_a : falls u.graph (is_marked_in u) node stopped a ≡ true = ap (falls u.graph (is_marked_in u) node stopped) (sym (same p in_t)) ∙ is in
      let parts = falls-parts u.graph (is_marked_in u) node stopped a at_a in
      let left = (and_parts (is_named u.graph.shadows.names a) (not (is_dropped u.graph a)) parts.known).1 in
      let marks : is_marked_in u a ≡ is_marked_in t a =
      ap (is_marked_in u) (sym (same p in_t)) ∙ marked-at u keeps.placed.1 p in_u ∙ ap is_some (keeps.supports p) ∙ sym (marked-at t keeps.placed.0 p in_t) in
      falls-from t.graph (is_marked_in t) node stopped a (record {
        here = parts.here;
        fresh = parts.fresh;
        known = known-of (is_named t.graph.shadows.names a) (is_dropped t.graph a) (keeps.placed.0.actor p in_t).0 (dropped a (not-true (is_dropped u.graph a) left));
        kept = ap (λ ns. has_node ns a.node) (sym lost) ∙ parts.kept;
        unmarked = sym marks ∙ parts.unmarked;
      })
    where
      not-true : (b : Bool) → not b ≡ true → b ≡ false
      not-true true e = absurd (false≢true e)
      not-true false e = refl

      known-of : (named gone : Bool) → named ≡ true → gone ≡ false → (named && not gone) ≡ true
      known-of named gone n g = λ i. n i && not (g i)

  pub left-kept : NoneIsLeft t node stopped → NoneIsLeft u node stopped
  left-kept left fresh p inside free =
      let before = keeps.fresh fresh in
      let in_t : p < t.places = subst (λ n. p < n) keeps.places inside in
      let was = left before.0 p in_t (shrink (has_place t.kept.touched p) (has_place u.kept.touched p) (keeps.touched p) free) in
      elim (is-or-not (falls_at u node stopped p)) [
        | inl falls_then ↦ absurd (false≢true (sym was ∙ fell-before before.1 p in_t falls_then))
        | inr none ↦ none
      ]

-- ---- a sweep

-- whomever it stops has fallen
pub fallen-all : (t u : Traced) (node : ℕ) (stopped : List Bool) → ArePlaced u.graph → IsSweptGraph t u → NoneIsLeft t node stopped → HaveFallen u node stopped
fallen-all t u node stopped placed swept left p inside is =
    elim (swept.fallen p in_u may) [
      | inl marked ↦ absurd (false≢true (sym unmarked ∙ marked-at u placed p inside ∙ marked))
      | inr fallen ↦ fallen
    ]
  where
    in_u : p < u.places
    in_u = (let places = swept.places in omega arith)

    parts : Falls u.graph (is_marked_in u) node stopped (actor_of u.graph p)
    parts = falls-parts u.graph (is_marked_in u) node stopped (actor_of u.graph p) is

    unmarked : is_marked_in u (actor_of u.graph p) ≡ false
    unmarked = parts.unmarked

    -- at a place that it does not look at, it would have been stopped before
    seen : (fresh : t.is_stale ≡ false) → p < t.places → has_place t.kept.touched p ≡ false → is_supported t.kept.supports p ≡ false → ⊥
    seen fresh less free bare =
        let over : Traced = record t { graph = u.graph } in
        let was : falls u.graph (is_marked_in over) node stopped (actor_of u.graph p) ≡ false =
        subst (λ (g : Graph). falls g (is_marked_in (record t { graph = g })) node stopped (actor_of g p) ≡ false) (sym swept.graph) (left fresh p less free) in
        let then_ = falls-from u.graph (is_marked_in over) node stopped (actor_of u.graph p) (record {
          here = parts.here;
          fresh = parts.fresh;
          known = parts.known;
          kept = parts.kept;
          unmarked = marked-at over placed p inside ∙ bare;
        }) in
        false≢true (sym was ∙ then_)

    may : MayFall t.places t.is_stale t.kept p
    may = elim (is-or-not t.is_stale) [
      | inl stale ↦ inl stale
      | inr fresh ↦ elim (cases_lt p t.places) [
        | inl less ↦ elim (is-or-not (has_place t.kept.touched p)) [
          | inl hit ↦ inr (inr (inr (inl hit)))
          | inr free ↦ elim (is-or-not (is_supported t.kept.supports p)) [
            | inl marked ↦ inr (inr (inl marked))
            | inr bare ↦ absurd (seen fresh less free bare)
          ]
        ]
        | inr more ↦ inr (inl more)
      ]
    ]

-- once whom it stops counts as stopped, it would stop nobody again
pub left-swept : (t : Traced) (node : ℕ) (stopped now : List Bool) → ArePlaced t.graph → t.places ≤ length t.graph.shadows.names
    → SetsFlags (found t.graph (is_marked_in t) node stopped) stopped now → NoneIsLeft t node now
left-swept t node stopped now placed seen sets fresh p inside free =
    elim (is-or-not (falls_at t node now p)) [
      | inl is ↦ absurd (again is)
      | inr none ↦ none
    ]
  where
    a : Actor
    a = actor_of t.graph p

    or-false-parts : (b c : Bool) → (b || c) ≡ false → (b ≡ false) × (c ≡ false)
    or-false-parts true c e = absurd (false≢true (sym e))
    or-false-parts false c e = (refl, e)

    again : falls_at t node now p ≡ true → ⊥
    again is =
        let parts = falls-parts t.graph (is_marked_in t) node now a is in
        let flags = or-false-parts (flag_at stopped a.serial) (list_any (λ b. b.serial == a.serial) (found t.graph (is_marked_in t) node stopped)) (sym (sets a.serial) ∙ parts.fresh) in
        let before = falls-from t.graph (is_marked_in t) node stopped a (record { here = parts.here; fresh = flags.0; known = parts.known; kept = parts.kept; unmarked = parts.unmarked }) in
        let there = found-there t.graph (is_marked_in t) node stopped a (named-at t.graph placed p (omega arith)) before in
        false≢true (sym flags.1 ∙ list_any-member (λ b. b.serial == a.serial) a (found t.graph (is_marked_in t) node stopped) there (eqb-is a.serial a.serial refl))

-- ---- fallen places are taken out

-- one fallen place is
pub takes-one : (t u : Traced) (p : ℕ) → TakesFallen t u p → TakesSome t u
takes-one t u p is = is ∙ (λ i. record t { kept = record t.kept { fallen = ap (λ (x : Traced). x.kept.fallen) (sym is) i } })

pub takes-more : (t u v : Traced) → TakesSome t u → TakesSome u v → TakesSome t v
takes-more t u v first then_ = then_ ∙ (λ i. record (first i) { kept = record ((first i).kept) { fallen = v.kept.fallen } })

-- what is found does not depend on them
pub finds-back : (t u : Traced) (node : ℕ) (stopped : List Bool) (p : ℕ) (xs ys : List Actor) → TakesSome t u → FindsAt u node stopped p xs ys → FindsAt t node stopped p xs ys
finds-back t u node stopped p xs ys takes at =
    let there = subst (λ (x : Traced). FindsAt x node stopped p xs ys) takes at in
    record { kept = there.kept; only = there.only; here = there.here }

module _ (t : Traced) (node : ℕ) (stopped : List Bool) where
  pub found-none : HasFound t node stopped t.kept.fallen []
  found-none = record { only = λ a m. absurd m; all = λ p fallen. inl fallen }

  pub found-next : (fallen fallen' : List Bool) (p : ℕ) (xs ys : List Actor) → fallen' ≡ set fallen p false → FindsAt t node stopped p xs ys
      → HasFound t node stopped fallen xs → HasFound t node stopped fallen' ys
  found-next fallen fallen' p xs ys is at before = record {
    only = λ a m. elim (at.only a m) [ inl was ↦ before.only a was | inr now ↦ now ];
    all = λ q fell. elim (before.all q fell) [
      | inl still ↦ elim (cases_eq q p) [
        | inl same ↦ inr (subst (λ x. x < length t.graph.shadows.names → falls_at t node stopped x ≡ true → IsAmong (actor_of t.graph x) ys) (sym same) at.here)
        | inr other ↦ inl (in-other fallen fallen' p q false is other ∙ still)
      ]
      | inr done ↦ inr (λ inside falls_there. at.kept (actor_of t.graph q) (done inside falls_there))
    ];
  }

  pub found-all : ArePlaced t.graph → (fallen : List Bool) (xs : List Actor) → HaveFallen t node stopped → IsEmpty fallen → HasFound t node stopped fallen xs
      → rising_actors xs ≡ found t.graph (is_marked_in t) node stopped
  found-all placed fallen xs have empty all =
      let names = t.graph.shadows.names in
      let test = falls t.graph (is_marked_in t) node stopped in
      rising-same IsActorBelow IsActorBelow-apart IsActorBelow-trans (rising_actors xs) (found t.graph (is_marked_in t) node stopped)
      (rising_actors-rise xs) (rising_actors-rise (filter test names))
      (λ a m. (
      let is = all.only a ((rising-among a xs).0 m) in
      found-there t.graph (is_marked_in t) node stopped a is.0 is.1
      ))
      (λ a m. (
      let is = found-falls t.graph (is_marked_in t) node stopped a m in
      let place = placed.place a ((among-decides names a).1 is.0) in
      let p = place_in names a in
      let falls_there : falls_at t node stopped p ≡ true = ap test place.1 ∙ falls-from t.graph (is_marked_in t) node stopped a is.1 in
      let fell = have p place.0 falls_there in
      (rising-among a xs).1 (elim (all.all p fell) [
        | inl still ↦ absurd (false≢true (sym (empty p) ∙ still))
        | inr done ↦ subst (λ b. IsAmong b xs) place.1 (done place.0 falls_there)
      ])
      ))

  -- ---- the actor at one place

  pub finds-none : (p : ℕ) (xs ys : List Actor) → ys ≡ xs → (p < length t.graph.shadows.names → falls_at t node stopped p ≡ true → ⊥) → FindsAt t node stopped p xs ys
  finds-none p xs ys same none = record {
    kept = λ a m. subst (IsAmong a) (sym same) m;
    only = λ a m. inl (subst (IsAmong a) same m);
    here = λ inside is. absurd (none inside is);
  }

  pub finds-one : ArePlaced t.graph → (p : ℕ) (xs ys : List Actor) → p < length t.graph.shadows.names → falls_at t node stopped p ≡ true
      → ys ≡ xs ++ actor_of t.graph p ∷ [] → FindsAt t node stopped p xs ys
  finds-one placed p xs ys inside is more = record {
    kept = λ a m. subst (IsAmong a) (sym more) (IsAmong-append_left a xs (actor_of t.graph p ∷ []) m);
    only = λ a m. elim (IsAmong-append_cases a xs (actor_of t.graph p ∷ []) (subst (IsAmong a) more m)) [
      | inl before ↦ inl before
      | inr last ↦ inr (subst (λ b. IsAmong b t.graph.shadows.names × (falls t.graph (is_marked_in t) node stopped b ≡ true)) (sym (only-one a last)) (named-at t.graph placed p inside, is))
    ];
    here = λ _ _. subst (IsAmong (actor_of t.graph p)) (sym more) (IsAmong-append_right (actor_of t.graph p) xs (actor_of t.graph p ∷ []) (inl refl));
  }
    where
      only-one : (a : Actor) → IsAmong a (actor_of t.graph p ∷ []) → a ≡ actor_of t.graph p
      only-one a m = elim m [ inl e ↦ e | inr none ↦ absurd none ]
