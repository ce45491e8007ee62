-- More nodes are lost, one after another.
use Rattle.std.proofs.Common.{◌≡◌, ◌≢◌, ◌+◌, ◌<◌, ◌≤◌, ◌&&◌, ◌||◌, ◌==◌, ℕ, Bool, true, false, not, ltb, List, Option, Some, None, length, get_or, take, refl, sym, ◌∙◌, ap, subst, inl, inr, arith}
use Rattle.std.proofs.lemmas.Bool.{cases_eq, eq-eqb, false≢true, lt-ltb, ltb-true, ne_eqb}
use Rattle.std.proofs.lemmas.Int.{ints}
use Rattle.std.proofs.lemmas.List.FromFn.{get_or-range_with_len}
use Rattle.std.proofs.lemmas.List.{length-take}
use Rattle.std.proofs.lemmas.List.Sums.{count_by-le-length, count_by_more_no, count_by_more_yes}
use Rattle.crgc_ids.specs.Actor.{Actor}
use Rattle.crgc_ids.specs.Members.{IsAmong, IsPart}
use Rattle.crgc_ids.specs.Nodes.{has_node, nodes_below}
use Rattle.crgc_ids.proofs.NodesLaws.{has_node-from_true, has_node-member}
use Rattle.history_model.specs.Cluster.{Cluster}
use Rattle.history_model.specs.Folds.{Fold}
use Rattle.history_model.specs.MoreFolded.{IsLostToo}
use Rattle.edge_table.specs.Table.{Edges}
use Rattle.shadow_table.specs.Shadows.{Shadows}
use Rattle.shadow_table.specs.declared.table.Shadow.{Shadow}
use Rattle.undo_log.specs.Told.{admitted_from, told_by}
use Rattle.undo_log.specs.declared.corrections.Correction.{Correction}
use Rattle.shadow_rows.specs.Rows.{Settles}
use Rattle.shadow_rows.specs.Losing.{Corrects, gain_before, is_newly_lost, lost_so_far}
use Rattle.shadow_rows.specs.Folded.{CountsFold, LogsFold}
use Rattle.shadow_rows.proofs.StandsLemmas.{counts-moved}

-- what a step of the way does: it settles the node where it is newly lost, and else leaves all as it is
pub record IsTurn (log : List (List Correction)) (before after : List ℕ) (i : ℕ) (s t : Shadows) (e f : Edges) : Type 0 where
  pub settles : IsAmong i after → ¬ IsAmong i before → Settles i log s t e f
  pub was_before : IsAmong i before → (t ≡ s) × (f ≡ e)
  pub is_not_lost : ¬ IsAmong i after → (t ≡ s) × (f ≡ e)

not_among : (xs : List ℕ) (k : ℕ) → has_node xs k ≡ false → ¬ IsAmong k xs
not_among xs k none m = false≢true (sym none ∙ has_node-member xs k m)

-- of the nodes below i + 1, node i is the last
so_far-here : (before after : List ℕ) (i : ℕ) → lost_so_far before after (i + 1) i ≡ (has_node before i || has_node after i)
so_far-here before after i = ap (λ v. has_node before i || (v && has_node after i)) (lt-ltb i (i + 1) (omega arith))

so_far-there : (before after : List ℕ) (i k : ℕ) → k ≢ i → lost_so_far before after (i + 1) k ≡ lost_so_far before after i k
so_far-there before after i k apart =
    let Case : Bool → Type 0 = λ v. ltb k i ≡ v → ltb k (i + 1) ≡ v in
    let case : Case (ltb k i) = elim (ltb k i) as Case [
      | true ↦ λ t. (let less = ltb-true k i t in lt-ltb k (i + 1) (omega arith))
      | false ↦ λ f. not_below k (i + 1) (λ less. false≢true (sym f ∙ lt-ltb k i (omega arith)))
    ] in
    ap (λ v. has_node before k || (v && has_node after k)) (case refl)
  where
    not_below : (k n : ℕ) → (k < n → ⊥) → ltb k n ≡ false
    not_below k n h =
        let Case : Bool → Type 0 = λ v. ltb k n ≡ v → v ≡ false in
        let case : Case (ltb k n) = elim (ltb k n) as Case [ true ↦ λ t. absurd (h (ltb-true k n t)) | false ↦ λ _. refl ] in
        case refl

so_far-not_yet : (before after : List ℕ) (i : ℕ) → lost_so_far before after i i ≡ has_node before i
so_far-not_yet before after i =
    let Case : Bool → Type 0 = λ v. ltb i i ≡ v → (has_node before i || (v && has_node after i)) ≡ has_node before i in
    let case : Case (ltb i i) = elim (ltb i i) as Case [
      | true ↦ λ t. (let less = ltb-true i i t in absurd (omega arith))
      | false ↦ λ _. or-false (has_node before i)
    ] in
    case refl
  where
    or-false : (b : Bool) → (b || false) ≡ b
    or-false true = refl
    or-false false = refl

-- where nodes are lost alike, so are the counts
lost-alike : (cl : Cluster) (f : Fold) (lost more : ℕ → Bool) (s t : Shadows) (d e : Edges) → ((k : ℕ) → lost k ≡ more k) → t ≡ s → e ≡ d → CountsFold cl lost f s d → CountsFold cl more f t e
lost-alike cl f lost more s t d e alike same same' counts =
    let lost_is : lost ≡ more = λ i k. alike k i in
    subst (λ l. CountsFold cl l f t e) lost_is (subst (λ x. CountsFold cl lost f x e) (sym same) (subst (CountsFold cl lost f s) (sym same') counts))

pub turn-counts : (cl : Cluster) (f : Fold) (log : List (List Correction)) (before after : List ℕ) (i : ℕ) (s t : Shadows) (d e : Edges) → ((k : ℕ) → has_node after k ≡ true → k < cl.nodes) → LogsFold cl f log → IsTurn log before after i s t d e → CountsFold cl (lost_so_far before after i) f s d → CountsFold cl (lost_so_far before after (i + 1)) f t e
turn-counts cl f log before after i s t d e below logs turn counts =
    let so_far = lost_so_far before after i in
    let next = lost_so_far before after (i + 1) in
    let stays : (same : (t ≡ s) × (e ≡ d)) → (has_node before i || has_node after i) ≡ has_node before i → CountsFold cl next f t e = λ same here.
    lost-alike cl f so_far next s t d e (λ k. elim (cases_eq k i) [
      | inl is ↦ subst (λ j. so_far j ≡ next j) (sym is) (so_far-not_yet before after i ∙ sym (so_far-here before after i ∙ here))
      | inr apart ↦ sym (so_far-there before after i k apart)
    ]) same.0 same.1 counts in
    let Before : Bool → Type 0 = λ v. has_node before i ≡ v → CountsFold cl next f t e in
    let After : Bool → Type 0 = λ v. has_node after i ≡ v → has_node before i ≡ false → CountsFold cl next f t e in
    let on_after : After (has_node after i) = elim (has_node after i) as After [
      | true ↦ λ now was. (
          let too : IsLostToo i so_far next = record {
            outside = so_far-not_yet before after i ∙ was;
            grown = λ k. elim (cases_eq k i) [
              | inl is ↦ subst (λ j. next j ≡ ((j == i) || so_far j)) (sym is) (so_far-here before after i ∙ ap (λ v. v || has_node after i) was ∙ now ∙ sym (ap (λ v. v || so_far i) (eq-eqb i i refl)))
              | inr apart ↦ so_far-there before after i k apart ∙ sym (ap (λ v. v || so_far k) (ne_eqb k i apart))
            ];
          } in
          counts-moved cl i so_far next f log s t d e (below i now) too logs counts (turn.settles (has_node-from_true after i now) (not_among before i was))
          )
      | false ↦ λ none was. stays (turn.is_not_lost (not_among after i none)) (ap (λ v. has_node before i || v) none ∙ or-false (has_node before i))
    ] in
    let on_before : Before (has_node before i) = elim (has_node before i) as Before [
      | true ↦ λ was. stays (turn.was_before (has_node-from_true before i was)) (ap (λ v. v || has_node after i) was ∙ sym was)
      | false ↦ λ was. on_after refl was
    ] in
    on_before refl
  where
    or-false : (b : Bool) → (b || false) ≡ b
    or-false true = refl
    or-false false = refl

-- ---- the first and the last step

pub first-counts : (cl : Cluster) (f : Fold) (before after : List ℕ) (s : Shadows) (d : Edges) → CountsFold cl (has_node before) f s d → CountsFold cl (lost_so_far before after 0) f s d
first-counts cl f before after s d counts = lost-alike cl f (has_node before) (lost_so_far before after 0) s s d d (λ k. first (has_node before k) k) refl refl counts
  where
    first : (b : Bool) (k : ℕ) → b ≡ (b || (ltb k 0 && has_node after k))
    first true k = refl
    first false k =
        let Case : Bool → Type 0 = λ v. ltb k 0 ≡ v → false ≡ (v && has_node after k) in
        let case : Case (ltb k 0) = elim (ltb k 0) as Case [ true ↦ λ t. (let less = ltb-true k 0 t in absurd (omega arith)) | false ↦ λ _. refl ] in
        case refl

pub last-counts : (cl : Cluster) (f : Fold) (before after : List ℕ) (s : Shadows) (d : Edges) → cl.nodes ≤ 16 → IsPart before after → ((k : ℕ) → has_node after k ≡ true → k < cl.nodes) → CountsFold cl (lost_so_far before after 16) f s d → CountsFold cl (has_node after) f s d
last-counts cl f before after s d few part below counts = lost-alike cl f (lost_so_far before after 16) (has_node after) s s d d alike refl refl counts
  where
    alike : (k : ℕ) → lost_so_far before after 16 k ≡ has_node after k
    alike k =
        let Before : Bool → Type 0 = λ v. has_node before k ≡ v → (v || (ltb k 16 && has_node after k)) ≡ has_node after k in
        let After : Bool → Type 0 = λ v. has_node after k ≡ v → (ltb k 16 && v) ≡ v in
        let on_after : After (has_node after k) = elim (has_node after k) as After [
          | true ↦ λ now. (let inside = below k now in ap (λ v. v && true) (lt-ltb k 16 (omega arith)))
          | false ↦ λ _. and-false (ltb k 16)
        ] in
        let on_before : Before (has_node before k) = elim (has_node before k) as Before [
          | true ↦ λ was. sym (has_node-member after k (part k (has_node-from_true before k was)))
          | false ↦ λ _. on_after refl
        ] in
        on_before refl
      where
        and-false : (b : Bool) → (b && false) ≡ false
        and-false true = refl
        and-false false = refl

-- ---- how much changes

-- no more than 16 nodes are lost
pub gain-few : (before after : List ℕ) (n : ℕ) → gain_before before after n ≤ 16
gain-few before after n =
    let few = count_by-le-length (is_newly_lost before after) (take n (nodes_below 16)) in
    let first = length-take n (nodes_below 16) in
    omega (arith, few, first)

pub corrects-none : (before after : List ℕ) (s : Shadows) (e : Edges) → Corrects (gain_before before after 0) s s e e
corrects-none before after s e = record { received = λ a. refl; told = λ a. omega arith; admitted = λ a. omega arith; count = λ b a. (omega (arith, ints), omega (arith, ints)); dropped = λ a. refl }

pub turn-corrects : (log : List (List Correction)) (before after : List ℕ) (i : ℕ) (r s t : Shadows) (c d e : Edges) → i < 16 → ((n : ℕ) (owner : Option Actor) (target : Actor) → told_by log n owner target ≤ 72057594037927936) → ((n : ℕ) (owner : Option Actor) (target : Actor) → admitted_from log n owner target ≤ 72057594037927936) → IsTurn log before after i s t d e → Corrects (gain_before before after i) r s c d → Corrects (gain_before before after (i + 1)) r t c e
turn-corrects log before after i r s t c d e inside small_told small turn so_far =
    let at : get_or (nodes_below 16) i 0 ≡ i = get_or-range_with_len 0 16 i 0 inside ∙ (let e : 0 + i ≡ i = omega arith in e) in
    let long : i < length (nodes_below 16) = inside in
    let newly : Bool = is_newly_lost before after i in
    let same_gain : newly ≡ false → gain_before before after (i + 1) ≡ gain_before before after i = λ n. count_by_more_no (is_newly_lost before after) (nodes_below 16) i 0 long (ap (is_newly_lost before after) at ∙ n) in
    let more_gain : newly ≡ true → gain_before before after (i + 1) ≡ gain_before before after i + 1 = λ y. count_by_more_yes (is_newly_lost before after) (nodes_below 16) i 0 long (ap (is_newly_lost before after) at ∙ y) in
    let stays : (t ≡ s) × (e ≡ d) → newly ≡ false → Corrects (gain_before before after (i + 1)) r t c e = λ same n.
    subst (λ g. Corrects g r t c e) (sym (same_gain n)) (subst (λ x. Corrects (gain_before before after i) r x c e) (sym same.0) (subst (Corrects (gain_before before after i) r s c) (sym same.1) so_far)) in
    let Before : Bool → Type 0 = λ v. has_node before i ≡ v → Corrects (gain_before before after (i + 1)) r t c e in
    let After : Bool → Type 0 = λ v. has_node after i ≡ v → has_node before i ≡ false → Corrects (gain_before before after (i + 1)) r t c e in
    let on_after : After (has_node after i) = elim (has_node after i) as After [
      | true ↦ λ now was. settled (more_gain (ap (λ v. v && not (has_node before i)) now ∙ ap not was)) (turn.settles (has_node-from_true after i now) (not_among before i was))
      | false ↦ λ none was. stays (turn.is_not_lost (not_among after i none)) (ap (λ v. v && not (has_node before i)) none)
    ] in
    let on_before : Before (has_node before i) = elim (has_node before i) as Before [
      | true ↦ λ was. stays (turn.was_before (has_node-from_true before i was)) (ap (λ v. has_node after i && not v) was ∙ and-false (has_node after i))
      | false ↦ λ was. on_after refl was
    ] in
    on_before refl
  where
    and-false : (b : Bool) → (b && false) ≡ false
    and-false true = refl
    and-false false = refl

    settled : gain_before before after (i + 1) ≡ gain_before before after i + 1 → Settles i log s t d e → Corrects (gain_before before after (i + 1)) r t c e
    settled more moves = record {
      received = λ a. ap (λ (x : Shadow). x.received) (moves.shadows a) ∙ so_far.received a;
      told = λ a. (let new = ap (λ (x : Shadow). x.told) (moves.shadows a) in let old = so_far.told a in omega (arith, new, old));
      admitted = λ a. (
          let new = ap (λ (x : Shadow). x.admitted) (moves.shadows a) in
          let old = so_far.admitted a in
          let one = small i None a in
          omega (arith, new, old, one, more)
          );
      count = λ b a. (
          let new = moves.count b a in
          let low = (so_far.count b a).0 in
          let high = (so_far.count b a).1 in
          let taken = small_told i (Some b) a in
          let put_in = small i (Some b) a in
          (omega (arith, ints, new, low, taken, more), omega (arith, ints, new, high, put_in, more))
          );
      dropped = λ a. ap (λ (x : Shadow). x.dropped) (moves.shadows a) ∙ so_far.dropped a;
    }
