-- The counts of a fold of a legal history are sums of the notes below the horizons. From here on soundness speaks of horizons
-- alone, and no more of flushes, publishes and streams.
use Rattle.std.proofs.Common.{◌≡◌, ◌≤◌, ◌+◌, ◌&&◌, ◌||◌, ℕ, zero, suc, Bool, true, false, cond, not, List, [], ◌∷◌, length, refl, sym, ◌∙◌, ap, inl, inr, arith}
use Rattle.std.proofs.lemmas.Bool.{and_right, cases_lt, false_from_ne_true, le-ltb, ltb-true, cases_Bool, eqb-true}
use Rattle.std.specs.List.{flat_map, range_with_len}
use Rattle.std.specs.Prelude.{◌==◌, nat_lt}
use Rattle.crgc_ids.specs.Actor.{Actor}
use Rattle.crgc_ids.specs.Nodes.{has_node, nodes_below}
use Rattle.crgc_ids.proofs.MembersLaws.{IsAmong-from_range, IsAmong-range}
use Rattle.crgc_ids.proofs.NodesLaws.{has_node-from_true, has_node-member}
use Rattle.history_model.specs.declared.events.Event.{Event}
use Rattle.history_model.specs.declared.events.Event.TheVariants.{Publish}
use Rattle.history_model.specs.Tally.{tally}
use Rattle.history_model.specs.Cluster.{Cluster}
use Rattle.history_model.specs.Facts.{Fact, Flags, Note, flagged, is_received, is_sent_to, is_created, is_released, notes}
use Rattle.history_model.specs.Folds.{fold_to}
use Rattle.history_model.specs.Graph.{received_count, told_count, created_count, released_count, delta_facts, told_facts}
use Rattle.history_model.specs.Legal.{IsLegal}
use Rattle.history_model.specs.Streams.{stream}
use Rattle.history_model.proofs.Basics.{legal-kept}
use Rattle.history_model.proofs.Sums.{flush_horizon, publish_horizon, told_horizon, told_sum}
use Rattle.history_model.proofs.FoldSumsNotes.{told-none, told-same}
use Rattle.history_model.proofs.FoldSumsHorizons.{flush_horizon-below}
use Rattle.history_model.proofs.FoldSumsStreams.{deltas-told}
use Rattle.history_model.proofs.Lists.{tally-append, tally-one}

-- ---- nodes outside the cluster publish nothing

publish_horizon-outside : (cl : Cluster) (o n : ℕ) (h : List Event) → IsLegal cl h → cl.nodes ≤ o → publish_horizon cl o n h ≡ 0
publish_horizon-outside cl o n [] legal l = refl
publish_horizon-outside cl o n (Publish m ∷ p) legal l =
    let inside = ltb-true m cl.nodes (legal-kept cl (Publish m) p legal).0 in
    let before = publish_horizon-outside cl o n p legal.1 l in
    elim (cases_Bool (m == o)) [
      | inl same ↦ (let e = eqb-true m o same in absurd (omega arith))
      | inr other ↦ ap (λ v. cond (v && nat_lt (length (stream cl o p)) n) (length p) (publish_horizon cl o n p)) other ∙ before
    ]
publish_horizon-outside cl o n (e ∷ p) legal l = publish_horizon-outside cl o n p legal.1 l

-- so what their actors note is not told
told_horizon-outside : (cl : Cluster) (h : List Event) (c : ℕ → ℕ) (a : Actor) → IsLegal cl h → cl.nodes ≤ a.node → told_horizon cl c h a ≡ 0
told_horizon-outside cl h c a legal l =
    let none = publish_horizon-outside cl a.node (c a.node) h legal l in
    let low = flush_horizon-below a (publish_horizon cl a.node (c a.node) h) h in
    omega arith

-- ---- sums over the nodes of the cluster

-- where each item passes as often as the two tests together, so do all
tally-split : {X : Type 0} (r s t : X → Bool) (xs : List X) → ((x : X) → cond (r x) 1 0 ≡ cond (s x) 1 0 + cond (t x) 1 0) → tally r xs ≡ tally s xs + tally t xs
tally-split r s t [] e = omega arith
tally-split r s t (x ∷ xs) e =
    let later = tally-split r s t xs e in
    let more = tally-one r x xs in
    let first = tally-one s x xs in
    let second = tally-one t x xs in
    let here = e x in
    omega arith

told-split : (cl : Cluster) (u : Actor → ℕ) (r s t : Note → Bool) (h : List Event) → ((x : Note) → cond (r x) 1 0 ≡ cond (s x) 1 0 + cond (t x) 1 0) → told_sum cl u r h ≡ told_sum cl u s h + told_sum cl u t h
told-split cl u r s t [] e = omega arith
told-split cl u r s t (f ∷ p) e =
    let before = told-split cl u r s t p e in
    let told : (Note → Bool) → Note → Bool = λ test x. nat_lt (length p) (u x.by) && test x in
    let here = tally-split (told r) (told s) (told t) (notes cl f p) (λ x.
    elim (nat_lt (length p) (u x.by)) as (λ v. cond (v && r x) 1 0 ≡ cond (v && s x) 1 0 + cond (v && t x) 1 0) [ true ↦ e x | false ↦ omega arith ]) in
    omega arith

-- one of two tests that exclude each other
either_step : (c d s : Bool) → (c ≡ true → d ≡ false) → cond ((c || d) && s) 1 0 ≡ cond (c && s) 1 0 + cond (d && s) 1 0
either_step true d s none =
    let one : ℕ = cond s 1 0 in
    let alone : one ≡ one + 0 = omega arith in
    alone ∙ ap (λ v. one + cond (v && s) 1 0) (sym (none refl))
either_step false d s none = omega arith

-- no node of the range after a is a
apart : (a n k : ℕ) → (k == a) ≡ true → has_node (range_with_len (a + 1) n) k ≡ false
apart a n k same =
    false_from_ne_true (has_node (range_with_len (a + 1) n) k) (λ later.
    let above = IsAmong-from_range k (a + 1) n (has_node-from_true (range_with_len (a + 1) n) k later) in
    let first = eqb-true k a same in
    absurd (omega arith))

module _ (cl : Cluster) (u : Actor → ℕ) (h : List Event) (t : Fact → Bool) (s : Note → Bool) (pieces : ℕ → List Fact) where
  -- what one node tells of the notes that pass, for each node
  abbrev IsEach : Type 0
  IsEach = (o : ℕ) → tally t (pieces o) ≡ told_sum cl u (λ x. (x.by.node == o) && s x) h

  told-range : IsEach → (a n : ℕ) → tally t (flat_map pieces (range_with_len a n)) ≡ told_sum cl u (λ x. has_node (range_with_len a n) x.by.node && s x) h
  told-range each a zero = sym (told-none cl u (λ x. false) h (λ x. refl))
  told-range each a (suc n) =
      let here = each a in
      let later = told-range each (a + 1) n in
      let rest : List ℕ = range_with_len (a + 1) n in
      let both = tally-append t (pieces a) (flat_map pieces rest) in
      let split = told-split cl u (λ x. ((x.by.node == a) || has_node rest x.by.node) && s x) (λ x. (x.by.node == a) && s x) (λ x. has_node rest x.by.node && s x) h
      (λ x. either_step (x.by.node == a) (has_node rest x.by.node) (s x) (apart a n x.by.node)) in
      omega arith

-- ---- counts

module _ (cl : Cluster) (h : List Event) (c : ℕ → ℕ) (lost : ℕ → Bool) (t : Fact → Bool) where
  -- a note of an actor outside the lost nodes
  abbrev counts : Note → Bool
  counts x = not (lost x.by.node) && t x.fact

  abbrev piece : ℕ → List Fact
  piece o = cond (lost o) [] (delta_facts (fold_to cl c h o))

  -- a lost node tells nothing that counts
  piece-lost : (o : ℕ) → lost o ≡ true → tally t (piece o) ≡ told_sum cl (told_horizon cl c h) (λ x. (x.by.node == o) && counts x) h
  piece-lost o gone =
      let none : (x : Note) → ((x.by.node == o) && counts x) ≡ false = λ x.
      elim (cases_Bool (x.by.node == o)) [
        | inl on ↦ and_right (x.by.node == o) (counts x) (ap (λ v. not v && t x.fact) (ap lost (eqb-true x.by.node o on) ∙ gone))
        | inr off ↦ ap (λ v. v && counts x) off
      ] in
      ap (λ v. tally t (cond v [] (delta_facts (fold_to cl c h o)))) gone
      ∙ sym (told-none cl (told_horizon cl c h) (λ x. (x.by.node == o) && counts x) h none)

  -- of an actor of node o, o's horizon is its own
  same-horizon : (o k : ℕ) (x : Note) → lost o ≡ false → (nat_lt k (flush_horizon x.by (publish_horizon cl o (c o) h) h) && ((x.by.node == o) && t x.fact)) ≡ (nat_lt k (told_horizon cl c h x.by) && ((x.by.node == o) && counts x))
  same-horizon o k x out =
      elim (cases_Bool (x.by.node == o)) [
        | inl on ↦ (
            let node = eqb-true x.by.node o on in
            ap (λ n. nat_lt k (flush_horizon x.by (publish_horizon cl n (c n) h) h) && ((x.by.node == o) && t x.fact)) (sym node)
            ∙ ap (λ v. nat_lt k (told_horizon cl c h x.by) && ((x.by.node == o) && (not v && t x.fact))) (sym (ap lost node ∙ out))
            )
        | inr off ↦
            and_right (nat_lt k (flush_horizon x.by (publish_horizon cl o (c o) h) h)) ((x.by.node == o) && t x.fact) (ap (λ v. v && t x.fact) off)
            ∙ sym (and_right (nat_lt k (told_horizon cl c h x.by)) ((x.by.node == o) && counts x) (ap (λ v. v && counts x) off))
      ]

  piece-told : ((a : Actor) (g : Flags) → t (flagged a g) ≡ false) → IsEach cl (told_horizon cl c h) h t counts piece
  piece-told plain o =
      elim (cases_Bool (lost o)) [
        | inl gone ↦ piece-lost o gone
        | inr out ↦
            ap (λ v. tally t (cond v [] (delta_facts (fold_to cl c h o)))) out ∙ deltas-told cl h o (c o) t plain
            ∙ told-same cl (λ a. flush_horizon a (publish_horizon cl o (c o) h) h) (told_horizon cl c h) (λ x. (x.by.node == o) && t x.fact) (λ x. (x.by.node == o) && counts x) h (λ k _ x. same-horizon o k x out)
      ]

  -- what is told was noted on the cluster's nodes
  inside : IsLegal cl h → (k : ℕ) (x : Note) → (nat_lt k (told_horizon cl c h x.by) && (has_node (nodes_below cl.nodes) x.by.node && counts x)) ≡ (nat_lt k (told_horizon cl c h x.by) && counts x)
  inside legal k x =
      elim (cases_lt x.by.node cl.nodes) [
        | inl l ↦ ap (λ v. nat_lt k (told_horizon cl c h x.by) && (v && counts x))
            (has_node-member (nodes_below cl.nodes) x.by.node (IsAmong-range x.by.node 0 cl.nodes (omega arith) (omega arith)))
        | inr m ↦ (
            let none = told_horizon-outside cl h c x.by legal m in
            let untold = le-ltb k (told_horizon cl c h x.by) (omega arith) in
            ap (λ v. v && (has_node (nodes_below cl.nodes) x.by.node && counts x)) untold ∙ ap (λ v. v && counts x) (sym untold)
            )
      ]

  -- what the deltas of nodes that are not lost tell is what their actors noted below the horizons
  pub deltas-counted : IsLegal cl h → ((a : Actor) (g : Flags) → t (flagged a g) ≡ false) → tally t (told_facts cl lost (fold_to cl c h)) ≡ told_sum cl (told_horizon cl c h) counts h
  deltas-counted legal plain =
      told-range cl (told_horizon cl c h) h t counts piece (piece-told plain) 0 cl.nodes
      ∙ told-same cl (told_horizon cl c h) (told_horizon cl c h) (λ x. has_node (nodes_below cl.nodes) x.by.node && counts x) counts h (λ k _ x. inside legal k x)

pub received-told : (cl : Cluster) (h : List Event) (c : ℕ → ℕ) (a : Actor) → IsLegal cl h → received_count cl (fold_to cl c h) a ≡ told_sum cl (told_horizon cl c h) (λ x. is_received a x.fact) h
received-told cl h c a legal = deltas-counted cl h c (λ _. false) (is_received a) legal (λ _ _. refl)

pub released-told : (cl : Cluster) (h : List Event) (c : ℕ → ℕ) (b a : Actor) → IsLegal cl h → released_count cl (fold_to cl c h) b a ≡ told_sum cl (told_horizon cl c h) (λ x. is_released b a x.fact) h
released-told cl h c b a legal = deltas-counted cl h c (λ _. false) (is_released b a) legal (λ _ _. refl)

pub sent-told : (cl : Cluster) (h : List Event) (c : ℕ → ℕ) (lost : ℕ → Bool) (a : Actor) → IsLegal cl h → told_count cl lost (fold_to cl c h) a ≡ told_sum cl (told_horizon cl c h) (λ x. not (lost x.by.node) && is_sent_to a x.fact) h
sent-told cl h c lost a legal = deltas-counted cl h c lost (is_sent_to a) legal (λ _ _. refl)

pub created-told : (cl : Cluster) (h : List Event) (c : ℕ → ℕ) (lost : ℕ → Bool) (b a : Actor) → IsLegal cl h → created_count cl lost (fold_to cl c h) b a ≡ told_sum cl (told_horizon cl c h) (λ x. not (lost x.by.node) && is_created b a x.fact) h
created-told cl h c lost b a legal = deltas-counted cl h c lost (is_created b a) legal (λ _ _. refl)
