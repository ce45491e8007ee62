-- What a bulletin that is folded makes of a collector.
use Rattle.std.proofs.Common.{◌≡◌, ◌≢◌, ◌==◌, ◌&&◌, ◌+◌, ◌<◌, ◌≤◌, ◌||◌, ℕ, Bool, true, false, cond, [], ◌∷◌, ◌++◌, Some, None, get_or, get_or-set_other, get_or-set_same, length, ltb, slice_get, slice_index, slice_set, sum, take, refl, sym, ap, subst, ◌∙◌, inl, inr, arith}
use Rattle.std.proofs.lemmas.Bool.{cases_eq, eqb-true, false≢true}
use Rattle.std.proofs.lemmas.Bool.Decides.{nat_tests}
use Rattle.std.proofs.lemmas.List.{length-set}
use Rattle.std.proofs.lemmas.List.Sums.{sum_by-set}
use Rattle.std.specs.List.{list_any}
use Rattle.std.specs.Option.{is_some, unwrap_or}
use Rattle.crgc_ids.specs.Actor.{Actor, same_actor}
use Rattle.history_model.specs.declared.records.Bulletin.{Bulletin}
use Rattle.history_model.specs.Cluster.{Cluster}
use Rattle.history_model.specs.Folds.{Fold}
use Rattle.history_model.specs.Ledgers.{ledger_names}
use Rattle.history_model.specs.MoreFolded.{with_notice}
use Rattle.history_model.specs.Streams.{Notice}
use Rattle.history_model.specs.Tells.{bulletin_ledger}
use Rattle.gossip_core.specs.Gossip.{TakesOut, kept_at, same_key}
use Rattle.shadow_graph.specs.Stands.{IsGraphOf}
use Rattle.shadow_graph.specs.Taken.{FoldsIn}
use Rattle.shadow_table.specs.Shadows.{is_named}
use Rattle.collector.specs.Collected.{Collected, IsFedBy, cut_of, folded_of, has_number, node_count, was_stopped}
use Rattle.collector.specs.Kept.{IsKept}
use Rattle.collector.specs.Refusals.{IsFit}
use Rattle.collector.specs.Taking.{Folds, GoesOn}
use Rattle.collector.proofs.NumberLemmas.{is-below, one-key, or-left, or-right, place-below, take-one}

-- a test of numbers below, where one more is counted that is not this one
below-more : (y c : ℕ) → y ≢ c → ltb y (c + 1) ≡ ltb y c
below-more y c apart = grind (arith, nat_tests)

key-other : (o k y : ℕ) → y ≢ k → same_key (o, k) (o, y) ≡ false
key-other o k y apart = grind (arith, nat_tests)

key-is : (o k y : ℕ) → same_key (o, k) (o, y) ≡ false → y ≢ k
key-is o k y e same = grind (arith, nat_tests)

module _ (old new : Collected) (o : ℕ) (b : Bulletin) (kept : IsKept old) (ready : kept_at old.order o (cut_of old o) ≡ Some b)
    (node_below : o < node_count old) (fewer : cut_of old o < 1000000) (out : TakesOut old.order new.order o) (folds : FoldsIn o b old.graph new.graph)
    (node : new.node ≡ old.node) (stopped : new.stopped ≡ old.stopped) where
  inside : o < length old.order.cut
  inside = (let len = kept.long in let few = kept.few in let less = node_below in omega arith)

  cut-here : cut_of new o ≡ cut_of old o + 1
  cut-here = ap (λ c. get_or c o 0) out.cut ∙ get_or-set_same old.order.cut o (cut_of old o + 1) 0 inside

  cut-there : (x : ℕ) → x ≢ o → cut_of new x ≡ cut_of old x
  cut-there x apart = ap (λ c. get_or c x 0) out.cut ∙ get_or-set_other old.order.cut o x (cut_of old o + 1) 0 apart

  cut-rises : (x : ℕ) → cut_of old x ≤ cut_of new x
  cut-rises x = elim (cases_eq x o) [
    | inl same ↦ (let is = ap (cut_of new) same in let was = ap (cut_of old) same in let here = cut-here in omega arith)
    | inr apart ↦ (let is = cut-there x apart in omega arith)
  ]

  pub folds-sum : sum new.order.cut ≡ sum old.order.cut + 1
  folds-sum = (let more = sum_by-set (λ n. n) old.order.cut o (cut_of old o + 1) 0 inside in ap sum out.cut ∙ omega arith)

  pub folds-going_on : GoesOn old new
  folds-going_on = record {
    node = node;
    nodes = out.nodes;
    stopped = stopped;
    dropped = folds.dropped;
    named = λ a is. folds.names a ∙ or-left (is_named old.graph.shadows.names a) (list_any (same_actor a) (ledger_names (bulletin_ledger b))) is;
    rises = cut-rises;
  }

  folds-numbers : (x y : ℕ) → has_number new x y ≡ has_number old x y
  folds-numbers x y =
      let Goal : Bool → Type 0 = λ v. same_key (o, cut_of old o) (x, y) ≡ v → has_number new x y ≡ has_number old x y in
      let goal : Goal (same_key (o, cut_of old o) (x, y)) = elim (same_key (o, cut_of old o) (x, y)) as Goal [
        | true ↦ λ same. (
            let one = one-key o (cut_of old o) x y same in
            (λ i. has_number new (one.0 i) (one.1 i))
            ∙ or-left (ltb (cut_of old o) (cut_of new o)) (is_some (kept_at new.order o (cut_of old o))) (let here = cut-here in is-below (cut_of old o) (cut_of new o) (omega arith))
            ∙ sym (or-right (ltb (cut_of old o) (cut_of old o)) (is_some (kept_at old.order o (cut_of old o))) (ap is_some ready))
            ∙ (λ i. has_number old (sym one.0 i) (sym one.1 i))
            )
        | false ↦ λ apart. (
            let below : ltb y (cut_of new x) ≡ ltb y (cut_of old x) = elim (cases_eq x o) [
              | inl same ↦ (
                  let other : y ≢ cut_of old o = key-is o (cut_of old o) y (subst (λ z. same_key (o, cut_of old o) (z, y) ≡ false) same apart) in
                  subst (λ z. ltb y (cut_of new z) ≡ ltb y (cut_of old z)) (sym same) (ap (ltb y) cut-here ∙ below-more y (cut_of old o) other)
                  )
              | inr differ ↦ ap (ltb y) (cut-there x differ)
            ] in
            λ i. below i || is_some (out.others x y apart i)
            )
      ] in
      goal refl

  -- whatever waits then waited before
  waited : (x y : ℕ) (c : Bulletin) → kept_at new.order x y ≡ Some c → kept_at old.order x y ≡ Some c
  waited x y c some =
      let Goal : Bool → Type 0 = λ v. same_key (o, cut_of old o) (x, y) ≡ v → kept_at old.order x y ≡ Some c in
      let goal : Goal (same_key (o, cut_of old o) (x, y)) = elim (same_key (o, cut_of old o) (x, y)) as Goal [
        | true ↦ λ same. (
            let one = one-key o (cut_of old o) x y same in
            let none : kept_at new.order x y ≡ None = (λ i. kept_at new.order (one.0 i) (one.1 i)) ∙ out.here in
            absurd (false≢true (ap is_some (sym none ∙ some)))
            )
        | false ↦ λ apart. sym (out.others x y apart) ∙ some
      ] in
      goal refl

  -- the graph stands for one bulletin more of the origin
  more-folded : (streams : Fold) (n : Notice) → slice_get (streams o) (cut_of old o) ≡ Some n
      → with_notice o n (folded_of old streams) ≡ folded_of new streams
  more-folded streams n next =
      let each : (x : ℕ) → with_notice o n (folded_of old streams) x ≡ folded_of new streams x = λ x.
      let Goal : Bool → Type 0 = λ v. (x == o) ≡ v → cond v (take (cut_of old x) (streams x) ++ n ∷ []) (take (cut_of old x) (streams x)) ≡ take (cut_of new x) (streams x) in
      let goal : Goal (x == o) = elim (x == o) as Goal [
        | true ↦ λ same. (
            let is = eqb-true x o same in
            subst (λ z. take (cut_of old z) (streams z) ++ n ∷ [] ≡ take (cut_of new z) (streams z)) (sym is)
            (sym (take-one (cut_of old o) (streams o) n next) ∙ ap (λ k. take k (streams o)) (sym cut-here))
            )
        | false ↦ λ differ. (let apart : x ≢ o = grind (arith, nat_tests) in ap (λ k. take k (streams x)) (sym (cut-there x apart)))
      ] in
      goal refl in
      λ i x. each x i

  folds-fed : (cl : Cluster) (streams : Fold) → IsFedBy cl streams old → IsFedBy cl streams new
  folds-fed cl streams fed =
      let told = fed.waiting o (cut_of old o) b ready in
      let next = told.1 in
      record {
        nodes = out.nodes ∙ fed.nodes;
        graph = subst (λ f. IsGraphOf cl f new.graph) (more-folded streams told.0 next) (folds.stands cl (folded_of old streams) told.0 told.2 fed.graph);
        long = λ x. elim (cases_eq x o) [
          | inl same ↦ (
              let less = place-below (cut_of old o) (streams o) told.0 next in
              let here = cut-here in
              subst (λ z. cut_of new z ≤ length (streams z)) (sym same) (omega arith)
              )
          | inr apart ↦ (let is = cut-there x apart in let long = fed.long x in omega arith)
        ];
        beyond = λ x far. (
            let nodes = fed.nodes in
            let less = node_below in
            let apart : x ≢ o = (λ same. absurd (omega arith)) in
            cut-there x apart ∙ fed.beyond x far
            );
        waiting = λ x y c some. fed.waiting x y c (waited x y c some);
      }

  pub folds-one : Folds old new
  folds-one = record { goes_on = folds-going_on; numbers = folds-numbers; fed = folds-fed }

  pub folds-kept : IsKept new
  folds-kept =
      let nodes = out.nodes in
      let same_stopped : (a : Actor) → was_stopped new a ≡ was_stopped old a = λ a. (λ i. (a.node == node i) && unwrap_or (slice_get (stopped i) a.serial) false) in
      record {
        node = (let below = kept.node in omega arith);
        nodes = folds.nodes ∙ kept.nodes ∙ sym nodes;
        cut = folds.cut ∙ ap (λ c. slice_set c o (slice_index c o + 1)) kept.cut ∙ sym out.cut;
        few = subst (λ n. n ≤ 16) (sym nodes) kept.few;
        long = ap length out.cut ∙ length-set old.order.cut o (cut_of old o + 1) ∙ kept.long;
        counts = λ x. elim (cases_eq x o) [
          | inl same ↦ (let is = ap (cut_of new) same in let here = cut-here in let below = fewer in omega arith)
          | inr apart ↦ subst (λ n. n ≤ 1000000) (sym (cut-there x apart)) (kept.counts x)
        ];
        beyond = λ x far. (
            let less = node_below in
            let apart : x ≢ o = (λ same. absurd (omega arith)) in
            cut-there x apart ∙ kept.beyond x (subst (λ n. n ≤ x) nodes far)
            );
        fit = λ x y c some. subst (λ n. IsFit n x c) (sym nodes) (kept.fit x y c (waited x y c some));
        named = λ a is. folds-going_on.named a (kept.named a (sym (same_stopped a) ∙ is));
        dropped = λ a is. same_stopped a ∙ kept.dropped a (sym (folds.dropped a) ∙ is);
      }

-- ---- folds one after another

pub folds-none : (c : Collected) → Folds c c
folds-none c = record {
  goes_on = record {
    node = refl;
    nodes = refl;
    stopped = refl;
    dropped = λ a. refl;
    named = λ a is. is;
    rises = λ o. omega arith;
  };
  numbers = λ o k. refl;
  fed = λ cl streams fed. fed;
}

pub goes_on-more : (a b c : Collected) → GoesOn a b → GoesOn b c → GoesOn a c
goes_on-more a b c first then_ = record {
  node = then_.node ∙ first.node;
  nodes = then_.nodes ∙ first.nodes;
  stopped = then_.stopped ∙ first.stopped;
  dropped = λ x. then_.dropped x ∙ first.dropped x;
  named = λ x is. then_.named x (first.named x is);
  rises = λ o. (let less = first.rises o in let more = then_.rises o in omega arith);
}

pub folds-more : (a b c : Collected) → Folds a b → Folds b c → Folds a c
folds-more a b c first then_ = record {
  goes_on = goes_on-more a b c first.goes_on then_.goes_on;
  numbers = λ o k. then_.numbers o k ∙ first.numbers o k;
  fed = λ cl streams fed. then_.fed cl streams (first.fed cl streams fed);
}
