-- Whom a collector stopped is dropped.
use Rattle.std.proofs.Common.{◌≡◌, ◌==◌, ◌&&◌, ◌||◌, ◌⊎◌, ◌≤◌, ◌++◌, ℕ, Bool, true, false, cond, List, [], ◌∷◌, length, slice_index_or, refl, sym, ◌∙◌, ap, subst, inl, inr, arith}
use Rattle.crgc_ids.specs.Actor.{Actor, same_actor}
use Rattle.crgc_ids.specs.Members.{IsAmong}
use Rattle.crgc_ids.proofs.ActorLaws.{same_actor-decides}
use Rattle.crgc_ids.proofs.MembersLaws.{IsAmong-append_cases, IsAmong-append_left, IsAmong-append_right, list_any-member, list_any-true}
use Rattle.history_model.specs.Cluster.{Cluster}
use Rattle.history_model.specs.Folds.{Fold}
use Rattle.history_model.specs.Graph.{holds_actor}
use Rattle.history_model.proofs.Basics.{same_actor-sym}
use Rattle.shadow_table.specs.Shadows.{as_dropped, is_named, shadow_at}
use Rattle.gossip_core.specs.Gossip.{count_at, kept_at}
use Rattle.shadow_rows.specs.Tabled.{no_actor}
use Rattle.shadow_graph.specs.Graph.{Graph}
use Rattle.shadow_graph.specs.Seen.{Drops, is_dropped}
use Rattle.shadow_graph.specs.Stands.{IsGraphOf}
use Rattle.pseudoroot_trace.specs.Traced.{KeepsMarks, Traced}
use Rattle.collector.specs.Collected.{Collected, flag_at, was_stopped}
use Rattle.collector.specs.Kept.{IsKept}
use Rattle.collector.specs.Refusals.{IsFit}
use Rattle.collector.specs.Sweeping.{Compacts}
use Rattle.collector.specs.Traced.{AreGone, DropsAll, NoneIsLeft}
use Rattle.collector.proofs.LeftLemmas.{left-kept}
use Rattle.collector.proofs.NumberLemmas.{or-false, or-left, or-right}
use Rattle.collector.proofs.SweepLemmas.{any-push, same-tests}

-- ---- one after another

-- whether an actor is dropped after one more is
dropped-then : (g h : Graph) (a : Actor) → Drops a g h → (b : Actor) → is_dropped h b ≡ (is_dropped g b || same_actor a b)
dropped-then g h a drops b =
    let Goal : Bool → Type 0 = λ v. (cond v (as_dropped (shadow_at g.shadows b)) (shadow_at g.shadows b)).dropped ≡ (is_dropped g b || v) in
    let goal : Goal (same_actor b a) = elim (same_actor b a) as Goal [
      | true ↦ sym (or-right (is_dropped g b) true refl)
      | false ↦ sym (or-false (is_dropped g b))
    ] in
    ap (λ s. s.dropped) (drops.shadows.shadows b) ∙ goal ∙ ap (λ v. is_dropped g b || v) (same_actor-sym b a)

or-three : (a b c : Bool) → ((a || b) || c) ≡ (a || (b || c))
or-three true b c = refl
or-three false b c = refl

pub drops-none : (t : Traced) → DropsAll [] t t
drops-none t = record {
  dropped = λ a. sym (or-false (is_dropped t.graph a));
  names = refl;
  finals = refl;
  cut = refl;
  stands = λ cl f stands. stands;
  left = λ node stopped left. left;
}

or-left-false : (a b : Bool) → (a || b) ≡ false → a ≡ false
or-left-false true b e = e
or-left-false false b e = refl

-- where an actor is dropped, nobody is left who was not
left-dropped : (a : Actor) (u v : Traced) → Drops a u.graph v.graph → KeepsMarks u v → (node : ℕ) (stopped : List Bool) → NoneIsLeft u node stopped → NoneIsLeft v node stopped
left-dropped a u v drops keeps node stopped left =
    let names = drops.shadows.names in
    let long : length v.graph.shadows.names ≡ length u.graph.shadows.names = ap (λ (xs : List Actor). length xs) names in
    left-kept u v node stopped keeps (λ p inside. ap (λ (xs : List Actor). slice_index_or xs p no_actor) names) (omega (arith, long))
    (λ b alive. or-left-false (is_dropped u.graph b) (same_actor a b) (sym (dropped-then u.graph v.graph a drops b) ∙ alive)) left

pub drops-more : (actors more : List Actor) (a : Actor) (t u v : Traced) → more ≡ actors ++ a ∷ [] → Drops a u.graph v.graph → KeepsMarks u v
    → ((cl : Cluster) (f : Fold) → IsGraphOf cl f u.graph → IsGraphOf cl f v.graph) → DropsAll actors t u → DropsAll more t v
drops-more actors more a t u v is drops keeps stands all = record {
  dropped = λ b.
      dropped-then u.graph v.graph a drops b ∙ ap (λ x. x || same_actor a b) (all.dropped b)
      ∙ or-three (is_dropped t.graph b) (holds_actor actors b) (same_actor a b)
      ∙ ap (λ x. is_dropped t.graph b || x) (sym (any-push (λ x. same_actor x b) actors a) ∙ ap (λ xs. holds_actor xs b) (sym is));
  names = drops.shadows.names ∙ all.names;
  finals = drops.finals ∙ all.finals;
  cut = drops.cut ∙ all.cut;
  stands = λ cl f was. stands cl f (all.stands cl f was);
  left = λ node stopped left. left-dropped a u v drops keeps node stopped (all.left node stopped left);
}

-- ---- all of them

holds-among : (xs : List Actor) (a : Actor) → holds_actor xs a ≡ true → IsAmong a xs
holds-among xs a e =
    let one = list_any-true (λ b. same_actor b a) xs e in
    subst (λ b. IsAmong b xs) ((same_actor-decides one.0 a).0 one.2) one.1

among-holds : (xs : List Actor) (a : Actor) → IsAmong a xs → holds_actor xs a ≡ true
among-holds xs a m = list_any-member (λ b. same_actor b a) a xs m ((same_actor-decides a a).1 refl)

or-cases : (a b : Bool) → (a || b) ≡ true → (a ≡ true) ⊎ (b ≡ true)
or-cases true b t = inl refl
or-cases false b t = inr t

-- exactly whom the collector stopped is dropped then
pub dropped-is : (c : Collected) (gone : List Actor) (t u : Traced) → c.graph ≡ t.graph → IsKept c → AreGone c gone → DropsAll gone t u
    → (a : Actor) → is_dropped u.graph a ≡ was_stopped c a
dropped-is c gone t u graph kept are all a =
    all.dropped a ∙ ap (λ (g : Graph). is_dropped g a || holds_actor gone a) (sym graph)
    ∙ same-tests (is_dropped c.graph a || holds_actor gone a) (was_stopped c a)
    (λ e. elim (or-cases (is_dropped c.graph a) (holds_actor gone a) e) [
      | inl dropped ↦ kept.dropped a dropped
      | inr held ↦ are.only a (holds-among gone a held)
    ])
    (λ was. elim (are.stopped a was) [
      | inl dropped ↦ or-left (is_dropped c.graph a) (holds_actor gone a) dropped
      | inr m ↦ or-right (is_dropped c.graph a) (holds_actor gone a) (among-holds gone a m)
    ])

module _ (old new : Collected) (gone : List Actor) (t u : Traced) (was : old.graph ≡ t.graph) (is : new.graph ≡ u.graph) (kept : IsKept old)
    (are : AreGone old gone) (all : DropsAll gone t u) (node : new.node ≡ old.node) (order : new.order ≡ old.order) (stopped : new.stopped ≡ old.stopped) where
  same-stopped : (a : Actor) → was_stopped new a ≡ was_stopped old a
  same-stopped a = λ i. (a.node == node i) && flag_at (stopped i) a.serial

  dropped-now : (a : Actor) → is_dropped new.graph a ≡ was_stopped old a
  dropped-now a = ap (λ (g : Graph). is_dropped g a) is ∙ dropped-is old gone t u was kept are all a

  pub drops-compacts : Compacts old new
  drops-compacts = record {
    dropped = dropped-now;
    stands = λ cl f stands. subst (IsGraphOf cl f) (sym is) (all.stands cl f (subst (IsGraphOf cl f) was stands));
    node = node;
    order = order;
    stopped = stopped;
  }

  pub drops-kept : IsKept new
  drops-kept =
      let nodes = ap (λ o. o.nodes) order in
      record {
        node = (let below = kept.node in omega arith);
        nodes = ap (λ (g : Graph). g.finals.nodes) is ∙ ap (λ n. n.nodes) all.finals ∙ ap (λ (g : Graph). g.finals.nodes) (sym was) ∙ kept.nodes ∙ sym nodes;
        cut = ap (λ (g : Graph). g.cut) is ∙ all.cut ∙ ap (λ (g : Graph). g.cut) (sym was) ∙ kept.cut ∙ ap (λ o. o.cut) (sym order);
        few = subst (λ n. n ≤ 16) (sym nodes) kept.few;
        long = ap (λ o. length o.cut) order ∙ kept.long;
        counts = λ o. subst (λ n. n ≤ 1000000) (ap (λ r. count_at r o) (sym order)) (kept.counts o);
        beyond = λ o far. ap (λ r. count_at r o) order ∙ kept.beyond o (subst (λ n. n ≤ o) nodes far);
        fit = λ o k b some. subst (λ n. IsFit n o b) (sym nodes) (kept.fit o k b (ap (λ r. kept_at r o k) (sym order) ∙ some));
        named = λ a w. ap (λ (g : Graph). is_named g.shadows.names a) is ∙ ap (λ xs. is_named xs a) all.names
            ∙ ap (λ (g : Graph). is_named g.shadows.names a) (sym was) ∙ kept.named a (sym (same-stopped a) ∙ w);
        dropped = λ a d. same-stopped a ∙ sym (dropped-now a) ∙ d;
      }

  pub gone-none : AreGone new []
  gone-none = record {
    stopped = λ a w. inl (dropped-now a ∙ sym (same-stopped a) ∙ w);
    only = λ a m. absurd m;
  }

-- those that a sweep stops are to be dropped too
pub gone-more : (old new : Collected) (gone more actors : List Actor) → new.graph ≡ old.graph
    → ((a : Actor) → was_stopped new a ≡ (was_stopped old a || holds_actor actors a)) → more ≡ gone ++ actors → AreGone old gone → AreGone new more
gone-more old new gone more actors graph stopped is are = record {
  stopped = λ a w. elim (or-cases (was_stopped old a) (holds_actor actors a) (sym (stopped a) ∙ w)) [
    | inl before ↦ elim (are.stopped a before) [
      | inl dropped ↦ inl (ap (λ (g : Graph). is_dropped g a) graph ∙ dropped)
      | inr m ↦ inr (subst (IsAmong a) (sym is) (IsAmong-append_left a gone actors m))
    ]
    | inr held ↦ inr (subst (IsAmong a) (sym is) (IsAmong-append_right a gone actors (holds-among actors a held)))
  ];
  only = λ a m. stopped a ∙ (elim (IsAmong-append_cases a gone actors (subst (IsAmong a) is m)) [
    | inl before ↦ or-left (was_stopped old a) (holds_actor actors a) (are.only a before)
    | inr now ↦ or-right (was_stopped old a) (holds_actor actors a) (among-holds actors a now)
  ]);
}

-- and stay so, where nobody else is stopped or dropped
pub gone-same : (old new : Collected) (gone : List Actor) → ((a : Actor) → was_stopped new a ≡ was_stopped old a)
    → ((a : Actor) → is_dropped new.graph a ≡ is_dropped old.graph a) → AreGone old gone → AreGone new gone
gone-same old new gone stopped dropped are = record {
  stopped = λ a w. elim (are.stopped a (sym (stopped a) ∙ w)) [ inl d ↦ inl (dropped a ∙ d) | inr m ↦ inr m ];
  only = λ a m. stopped a ∙ are.only a m;
}
