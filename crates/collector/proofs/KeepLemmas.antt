-- What a bulletin that is kept makes of a collector.
use Rattle.std.proofs.Common.{◌≡◌, ◌==◌, ◌&&◌, ◌≤◌, ◌||◌, ℕ, Bool, true, false, Some, length, ltb, slice_get, slice_index, take, refl, sym, ap, subst, ◌∙◌, arith}
use Rattle.std.proofs.lemmas.Option.{same_Some}
use Rattle.std.specs.Option.{is_some, unwrap_or}
use Rattle.crgc_ids.specs.Actor.{Actor}
use Rattle.history_model.specs.declared.records.Bulletin.{Bulletin}
use Rattle.history_model.specs.Cluster.{Cluster}
use Rattle.history_model.specs.Folds.{Fold}
use Rattle.history_model.specs.Streams.{Notice}
use Rattle.history_model.specs.Tells.{Tells}
use Rattle.gossip_core.specs.Gossip.{kept_at, same_key}
use Rattle.shadow_graph.specs.Seen.{is_dropped}
use Rattle.shadow_graph.specs.Stands.{IsGraphOf}
use Rattle.shadow_table.specs.Shadows.{is_named}
use Rattle.collector.specs.Collected.{Collected, IsFedBy, cut_of, folded_of, has_number, was_stopped}
use Rattle.collector.specs.Kept.{IsKept}
use Rattle.collector.specs.Refusals.{IsFit}
use Rattle.collector.specs.Taking.{GoesOn, Keeps}
use Rattle.collector.proofs.NumberLemmas.{below-of, from-of, none-of, one-key, or-false, or-left, or-none, or-right, or-true, some-of}

module _ (old new : Collected) (o k : ℕ) (b : Bulletin) (keeps : Keeps old new o k b) where
  pub cut-stays : (x : ℕ) → cut_of new x ≡ cut_of old x
  cut-stays x = ap (λ c. slice_index c x) keeps.order.cut

  pub keeps-going_on : GoesOn old new
  keeps-going_on = record {
    node = keeps.node;
    nodes = keeps.order.nodes;
    stopped = keeps.stopped;
    dropped = λ a. ap (λ g. is_dropped g a) keeps.graph;
    named = λ a is. ap (λ g. is_named g.shadows.names a) keeps.graph ∙ is;
    rises = λ x. (let is = cut-stays x in omega arith);
  }

  -- the bulletin's number is there
  pub kept-there : has_number new o k ≡ true
  kept-there =
      let Goal : Bool → Type 0 = λ v. ltb k (cut_of old o) ≡ v → has_number new o k ≡ true in
      let goal : Goal (ltb k (cut_of old o)) = elim (ltb k (cut_of old o)) as Goal [
        | true ↦ λ less. or-left (ltb k (cut_of new o)) (is_some (kept_at new.order o k)) (ap (ltb k) (cut-stays o) ∙ less)
        | false ↦ λ more. (
            let here = keeps.order.here (from-of k (cut_of old o) more) in
            or-right (ltb k (cut_of new o)) (is_some (kept_at new.order o k)) (ap is_some here)
            )
      ] in
      goal refl

  -- and whichever others were
  pub kept-others : (x y : ℕ) → same_key (o, k) (x, y) ≡ false → has_number new x y ≡ has_number old x y
  kept-others x y apart = (λ i. ltb y (cut-stays x i) || is_some (keeps.order.others x y apart i))

  pub kept-numbers : (x y : ℕ) → has_number new x y ≡ (has_number old x y || same_key (o, k) (x, y))
  kept-numbers x y =
      let Goal : Bool → Type 0 = λ v. same_key (o, k) (x, y) ≡ v → has_number new x y ≡ (has_number old x y || v) in
      let goal : Goal (same_key (o, k) (x, y)) = elim (same_key (o, k) (x, y)) as Goal [
        | true ↦ λ same. (
            let one = one-key o k x y same in
            (λ i. has_number new (one.0 i) (one.1 i)) ∙ kept-there ∙ sym (or-true (has_number old x y))
            )
        | false ↦ λ apart. kept-others x y apart ∙ sym (or-false (has_number old x y))
      ] in
      goal refl

  -- what waits under the number then waited before, where one of it was there
  was-there : (c : Bulletin) → has_number old o k ≡ true → kept_at new.order o k ≡ Some c → kept_at old.order o k ≡ Some c
  was-there c had there =
      let Goal : Bool → Type 0 = λ v. ltb k (cut_of old o) ≡ v → kept_at old.order o k ≡ Some c in
      let goal : Goal (ltb k (cut_of old o)) = elim (ltb k (cut_of old o)) as Goal [
        | true ↦ λ less. ap (λ g. kept_at g o k) (sym (keeps.order.before (below-of k (cut_of old o) less))) ∙ there
        | false ↦ λ more. (
            let some = some-of (kept_at old.order o k) b (ap (λ t. t || is_some (kept_at old.order o k)) (sym more) ∙ had) in
            some ∙ sym (keeps.order.here (from-of k (cut_of old o) more)) ∙ there
            )
      ] in
      goal refl

  -- else it is the bulletin
  is-it : (c : Bulletin) → has_number old o k ≡ false → kept_at new.order o k ≡ Some c → b ≡ c
  is-it c new_one there =
      let parts = or-none (ltb k (cut_of old o)) (is_some (kept_at old.order o k)) new_one in
      let none = none-of (kept_at old.order o k) parts.1 in
      same_Some b c (sym (keeps.order.here (from-of k (cut_of old o) parts.0) ∙ ap (λ w. Some (unwrap_or w b)) none) ∙ there)

  -- whatever waits then waited before, or is the bulletin, of which none of its number was there
  pub kept-cases : (P : ℕ → ℕ → Bulletin → Type 0) → ((x y : ℕ) (c : Bulletin) → kept_at old.order x y ≡ Some c → P x y c)
      → (has_number old o k ≡ false → P o k b) → (x y : ℕ) (c : Bulletin) → kept_at new.order x y ≡ Some c → P x y c
  kept-cases P before here x y c some =
      let Here : Bool → Type 0 = λ v. has_number old o k ≡ v → kept_at new.order o k ≡ Some c → P o k c in
      let at_key : Here (has_number old o k) = elim (has_number old o k) as Here [
        | true ↦ λ had there. before o k c (was-there c had there)
        | false ↦ λ new_one there. subst (P o k) (is-it c new_one there) (here new_one)
      ] in
      let Goal : Bool → Type 0 = λ v. same_key (o, k) (x, y) ≡ v → P x y c in
      let goal : Goal (same_key (o, k) (x, y)) = elim (same_key (o, k) (x, y)) as Goal [
        | true ↦ λ same. (
            let one = one-key o k x y same in
            let there : kept_at new.order o k ≡ Some c = (λ i. kept_at new.order (sym one.0 i) (sym one.1 i)) ∙ some in
            subst (λ z. P z y c) (sym one.0) (subst (λ z. P o z c) (sym one.1) (at_key refl there))
            )
        | false ↦ λ apart. before x y c (sym (keeps.order.others x y apart) ∙ some)
      ] in
      goal refl

  -- fed by the same streams, where they have the bulletin
  pub keeps-fed : (cl : Cluster) (streams : Fold)
      → (has_number old o k ≡ false → (n : Notice) × (slice_get (streams o) k ≡ Some n) × Tells o b n)
      → IsFedBy cl streams old → IsFedBy cl streams new
  keeps-fed cl streams tells fed = record {
    nodes = keeps.order.nodes ∙ fed.nodes;
    graph = (
        let same : folded_of old streams ≡ folded_of new streams = (λ i x. take (sym (cut-stays x) i) (streams x)) in
        subst (λ f. IsGraphOf cl f new.graph) same (subst (IsGraphOf cl (folded_of old streams)) (sym keeps.graph) fed.graph)
        );
    long = λ x. (let is = cut-stays x in let long = fed.long x in omega arith);
    beyond = λ x out. cut-stays x ∙ fed.beyond x out;
    waiting = kept-cases (λ x y c. (n : Notice) × (slice_get (streams x) y ≡ Some n) × Tells x c n) fed.waiting tells;
  }

  -- what the collector keeps of its parts
  pub keeps-kept : IsFit old.order.nodes o b → IsKept old → IsKept new
  keeps-kept fit kept =
      let nodes = keeps.order.nodes in
      let stopped : (a : Actor) → was_stopped new a ≡ was_stopped old a = λ a. (λ i. (a.node == keeps.node i) && unwrap_or (slice_get (keeps.stopped i) a.serial) false) in
      record {
        node = (let node = keeps.node in let node_below = kept.node in omega (arith, node, nodes, node_below));
        nodes = ap (λ g. g.finals.nodes) keeps.graph ∙ kept.nodes ∙ sym nodes;
        cut = ap (λ g. g.cut) keeps.graph ∙ kept.cut ∙ sym keeps.order.cut;
        few = subst (λ n. n ≤ 16) (sym nodes) kept.few;
        long = ap length keeps.order.cut ∙ kept.long;
        counts = λ x. subst (λ n. n ≤ 1000000) (sym (cut-stays x)) (kept.counts x);
        beyond = λ x out. cut-stays x ∙ kept.beyond x (subst (λ n. n ≤ x) nodes out);
        fit = kept-cases (λ x y c. IsFit new.order.nodes x c) (λ x y c some. subst (λ n. IsFit n x c) (sym nodes) (kept.fit x y c some))
            (λ _. subst (λ n. IsFit n o b) (sym nodes) fit);
        named = λ a is. ap (λ g. is_named g.shadows.names a) keeps.graph ∙ kept.named a (sym (stopped a) ∙ is);
        dropped = λ a is. stopped a ∙ kept.dropped a (ap (λ g. is_dropped g a) (sym keeps.graph) ∙ is);
      }
