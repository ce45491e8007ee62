-- What one more bulletin changes: its facts count where it is folded, and nothing else does.
use Rattle.std.proofs.Common.{◌≡◌, ◌≢◌, ◌<◌, ◌+◌, ◌⊎◌, ◌↔◌, ◌==◌, ℕ, zero, suc, Bool, true, false, cond, List, [], ◌∷◌, ◌++◌, flat_map, length, take, refl, sym, ◌∙◌, ap, subst, inl, inr, arith, append_assoc, append-nil, slice_get}
use Rattle.std.proofs.lemmas.Bool.{cases_Bool, cond-true, cond-false, eqb-true, ne_eqb}
use Rattle.std.proofs.lemmas.Option.{same_Some}
use Rattle.std.specs.Prelude.{Option, Some, None}
use Rattle.std.specs.Option.{option_or}
use Rattle.crgc_ids.specs.Actor.{Actor}
use Rattle.crgc_ids.specs.LostNodes.{lost_nodes}
use Rattle.crgc_ids.specs.Members.{IsAmong}
use Rattle.crgc_ids.specs.Nodes.{nodes_below}
use Rattle.crgc_ids.proofs.LostNodesLaws.{lost_nodes-grow, lost_nodes-rise}
use Rattle.crgc_ids.proofs.MembersLaws.{IsAmong-append_cases, IsAmong-append_left, IsAmong-append_right}
use Rattle.crgc_ids.proofs.RisingLaws.{rising_nodes-same}
use Rattle.history_model.specs.declared.events.Event.{Event}
use Rattle.history_model.specs.declared.records.Bulletin.{Bulletin}
use Rattle.history_model.specs.declared.records.Bulletin.TheVariants as bulletins
use Rattle.history_model.specs.declared.records.Window.{Window}
use Rattle.history_model.specs.Tally.{tally}
use Rattle.history_model.specs.Cluster.{Cluster}
use Rattle.history_model.specs.Facts.{Fact, Flags, is_created, is_received, is_released, is_sent_to}
use Rattle.history_model.specs.Streams.{Notice, delta, window_of, final_of, stream}
use Rattle.history_model.specs.Folds.{Fold, final_links, fold_to, links_into, lost_of}
use Rattle.history_model.specs.Graph.{admitted_facts, all_told, delta_facts, known_actors, last_flags, link_facts, named_by, notice_facts, own_flags, told_facts}
use Rattle.history_model.specs.Compaction.{IsFoldOf, IsWithin}
use Rattle.history_model.specs.Ledgers.{CountAlike, fact_counts, ledger_counts, no_rows, window_ledger}
use Rattle.history_model.specs.MoreFolded.{AreLinksOf, CountsNotice, FoldsNext, IsNext, KnowsNotice, KnowsRows, link_part, link_rows, own_part, own_rows, raised, told_by, with_notice}
use Rattle.history_model.specs.Tells.{IsLedgerOf, IsOrdered, Tells, bulletin_ledger, facts_in}
use Rattle.history_model.proofs.Basics.{eqb-refl}
use Rattle.history_model.proofs.FoldSumsFlags.{last_flags-append, newer}
use Rattle.history_model.proofs.FoldSumsKnown.{known-named, names-among}
use Rattle.history_model.proofs.LinksSettled.{final_links-from, final_links-member}
use Rattle.history_model.proofs.JoinedBulletins.{delta_facts-append, link_facts-append, links_into-append, notice_facts-append}
use Rattle.history_model.proofs.Lists.{IsAmong-flat_map, IsAmong-from_flat_map, tally-append}
use Rattle.history_model.proofs.TellsBulletins.{ledger-named, no_entries-tell, tells-counts}
use Rattle.history_model.proofs.LinksSums.{nodes-point, tally-flat_map}

-- ---- the bulletins of one node with one more

with_notice-here : (o : ℕ) (n : Notice) (f : Fold) → with_notice o n f o ≡ f o ++ n ∷ []
with_notice-here o n f = cond-true (o == o) (f o ++ n ∷ []) (f o) (eqb-refl o)

with_notice-else : (o k : ℕ) (n : Notice) (f : Fold) → k ≢ o → with_notice o n f k ≡ f k
with_notice-else o k n f other = cond-false (k == o) (f k ++ n ∷ []) (f k) (ne_eqb k o other)

-- what one bulletin tells, as a list of one
own_part-alone : (n : Notice) → delta_facts (n ∷ []) ≡ own_part n
own_part-alone (delta facts) = append-nil facts
own_part-alone (window_of s facts) = refl
own_part-alone (final_of s facts) = refl

put_alone : (v : Bool) (facts : List Fact) → cond v (facts ++ []) [] ≡ cond v facts []
put_alone true facts = append-nil facts
put_alone false facts = refl

link_part-alone : (lost : ℕ → Bool) (n : Notice) → link_facts lost (n ∷ []) ≡ link_part lost n
link_part-alone lost (delta facts) = refl
link_part-alone lost (window_of s facts) = put_alone (lost s) facts
link_part-alone lost (final_of s facts) = put_alone (lost s) facts

facts_in-alone : (n : Notice) → notice_facts (n ∷ []) ≡ facts_in n
facts_in-alone (delta facts) = append-nil facts
facts_in-alone (window_of s facts) = append-nil facts
facts_in-alone (final_of s facts) = append-nil facts

-- and what the bulletins tell with one more
delta_facts-push : (xs : List Notice) (n : Notice) → delta_facts (xs ++ n ∷ []) ≡ delta_facts xs ++ own_part n
delta_facts-push xs n = delta_facts-append xs (n ∷ []) ∙ ap (λ ys. delta_facts xs ++ ys) (own_part-alone n)

link_facts-push : (lost : ℕ → Bool) (xs : List Notice) (n : Notice) → link_facts lost (xs ++ n ∷ []) ≡ link_facts lost xs ++ link_part lost n
link_facts-push lost xs n = link_facts-append lost xs (n ∷ []) ∙ ap (λ ys. link_facts lost xs ++ ys) (link_part-alone lost n)

notice_facts-push : (xs : List Notice) (n : Notice) → notice_facts (xs ++ n ∷ []) ≡ notice_facts xs ++ facts_in n
notice_facts-push xs n = notice_facts-append xs (n ∷ []) ∙ ap (λ ys. notice_facts xs ++ ys) (facts_in-alone n)

-- ---- counts

module _ (cl : Cluster) (o : ℕ) (n : Notice) (f : Fold) (inside : o < cl.nodes) where
  -- what each node's bulletins tell, counted over all nodes, rises by what the bulletin tells
  counted-more : (test : Fact → Bool) (pieces : ℕ → List Notice → List Fact) (more : List Fact) → pieces o (f o ++ n ∷ []) ≡ pieces o (f o) ++ more
      → tally test (flat_map (λ k. pieces k (with_notice o n f k)) (nodes_below cl.nodes)) ≡ tally test (flat_map (λ k. pieces k (f k)) (nodes_below cl.nodes)) + tally test more
  counted-more test pieces more e =
      let here : tally test (pieces o (with_notice o n f o)) ≡ tally test (pieces o (f o)) + tally test more =
      ap (λ ns. tally test (pieces o ns)) (with_notice-here o n f) ∙ ap (tally test) e ∙ tally-append test (pieces o (f o)) more in
      let others : (k : ℕ) → k ≢ o → tally test (pieces k (with_notice o n f k)) ≡ tally test (pieces k (f k)) =
      λ k other. ap (λ ns. tally test (pieces k ns)) (with_notice-else o k n f other) in
      tally-flat_map test (λ k. pieces k (with_notice o n f k)) (nodes_below cl.nodes)
      ∙ nodes-point (λ k. tally test (pieces k (with_notice o n f k))) (λ k. tally test (pieces k (f k))) o (tally test more) cl.nodes inside others here
      ∙ ap (λ x. x + tally test more) (sym (tally-flat_map test (λ k. pieces k (f k)) (nodes_below cl.nodes)))

  told-more : (test : Fact → Bool) → tally test (all_told cl (with_notice o n f)) ≡ tally test (all_told cl f) + tally test (own_part n)
  told-more test = counted-more test (λ _ ns. delta_facts ns) (own_part n) (delta_facts-push (f o) n)

  -- where the node is lost, what it tells does not count
  told_outside-more : (lost : ℕ → Bool) (test : Fact → Bool) → tally test (told_facts cl lost (with_notice o n f)) ≡ tally test (told_facts cl lost f) + cond (lost o) 0 (tally test (own_part n))
  told_outside-more lost test =
      let counts : Bool → ℕ = λ v. tally test (cond v [] (own_part n)) in
      let which : (v : Bool) → tally test (cond v [] (own_part n)) ≡ cond v 0 (tally test (own_part n)) = λ v. elim v as (λ w. tally test (cond w [] (own_part n)) ≡ cond w 0 (tally test (own_part n))) [ true ↦ refl | false ↦ refl ] in
      let pushed : (v : Bool) → cond v [] (delta_facts (f o ++ n ∷ [])) ≡ cond v [] (delta_facts (f o)) ++ cond v [] (own_part n) =
      λ v. elim v as (λ w. cond w [] (delta_facts (f o ++ n ∷ [])) ≡ cond w [] (delta_facts (f o)) ++ cond w [] (own_part n)) [ true ↦ refl | false ↦ delta_facts-push (f o) n ] in
      counted-more test (λ k ns. cond (lost k) [] (delta_facts ns)) (cond (lost o) [] (own_part n)) (pushed (lost o))
      ∙ ap (λ x. tally test (told_facts cl lost f) + x) (which (lost o))

  admitted-more : (lost : ℕ → Bool) (test : Fact → Bool) → tally test (admitted_facts cl lost (with_notice o n f)) ≡ tally test (admitted_facts cl lost f) + tally test (link_part lost n)
  admitted-more lost test = counted-more test (λ _ ns. link_facts lost ns) (link_part lost n) (link_facts-push lost (f o) n)

  -- ---- names

  among-known : (a : Actor) (k : ℕ) → k < cl.nodes → (g : Fold) → IsAmong a (flat_map named_by (notice_facts (g k))) → IsAmong a (known_actors cl g)
  among-known a k below g h =
      let found = IsAmong-from_flat_map named_by a (notice_facts (g k)) h in
      (known-named cl g a).1 (k, below, found.0, found.1, (names-among a found.0).1 found.2)

  known-more : (a : Actor) → IsAmong a (known_actors cl (with_notice o n f)) ↔ (IsAmong a (known_actors cl f) ⊎ IsAmong a (flat_map named_by (facts_in n)))
  known-more a = (
    λ h.
        let found = (known-named cl (with_notice o n f) a).0 h in
        let names = (names-among a found.2).0 found.4 in
        let before : IsAmong found.2 (notice_facts (f found.0)) → IsAmong a (known_actors cl f) =
        λ m. (known-named cl f a).1 (found.0, found.1, found.2, m, found.4) in
        elim (cases_Bool (found.0 == o)) [
          | inl same ↦ (
              let at_o = subst (λ k. IsAmong found.2 (notice_facts (with_notice o n f k))) (eqb-true found.0 o same) found.3 in
              let all = subst (IsAmong found.2) (ap notice_facts (with_notice-here o n f) ∙ notice_facts-push (f o) n) at_o in
              elim (IsAmong-append_cases found.2 (notice_facts (f o)) (facts_in n) all) [
                | inl m ↦ inl (before (subst (λ k. IsAmong found.2 (notice_facts (f k))) (sym (eqb-true found.0 o same)) m))
                | inr m ↦ inr (IsAmong-flat_map named_by a found.2 (facts_in n) m names)
              ]
              )
          | inr other ↦ inl (before (subst (λ ns. IsAmong found.2 (notice_facts ns)) (cond-false (found.0 == o) (f found.0 ++ n ∷ []) (f found.0) other) found.3))
        ],
    λ h.
        let all : notice_facts (with_notice o n f o) ≡ notice_facts (f o) ++ facts_in n = ap notice_facts (with_notice-here o n f) ∙ notice_facts-push (f o) n in
        elim h [
          | inl k ↦ (
              let found = (known-named cl f a).0 k in
              let there : IsAmong found.2 (notice_facts (with_notice o n f found.0)) =
              elim (cases_Bool (found.0 == o)) [
                | inl same ↦ subst (λ j. IsAmong found.2 (notice_facts (with_notice o n f j))) (sym (eqb-true found.0 o same))
                    (subst (IsAmong found.2) (sym all) (IsAmong-append_left found.2 (notice_facts (f o)) (facts_in n) (subst (λ j. IsAmong found.2 (notice_facts (f j))) (eqb-true found.0 o same) found.3)))
                | inr other ↦ subst (λ ns. IsAmong found.2 (notice_facts ns)) (sym (cond-false (found.0 == o) (f found.0 ++ n ∷ []) (f found.0) other)) found.3
              ] in
              (known-named cl (with_notice o n f) a).1 (found.0, found.1, found.2, there, found.4)
              )
          | inr k ↦ (
              let found = IsAmong-from_flat_map named_by a (facts_in n) k in
              let there = subst (IsAmong found.0) (sym all) (IsAmong-append_right found.0 (notice_facts (f o)) (facts_in n) found.1) in
              (known-named cl (with_notice o n f) a).1 (o, inside, found.0, there, (names-among a found.0).1 found.2)
              )
        ],
  )

  -- ---- finals

  finals-more : (s d : ℕ) → IsAmong (s, d) (final_links cl (with_notice o n f)) ↔ (IsAmong (s, d) (final_links cl f) ⊎ IsAmong (s, d) (links_into o (n ∷ [])))
  finals-more s d =
      let all : links_into o (with_notice o n f o) ≡ links_into o (f o) ++ links_into o (n ∷ []) = ap (links_into o) (with_notice-here o n f) ∙ links_into-append o (f o) (n ∷ []) in (
        λ h.
            let found = final_links-from cl (with_notice o n f) s d h in
            elim (cases_Bool (d == o)) [
              | inl same ↦ (
                  let e = eqb-true d o same in
                  let at_o = subst (IsAmong (s, d)) (ap (λ k. links_into k (with_notice o n f k)) e ∙ all) found.1 in
                  elim (IsAmong-append_cases (s, d) (links_into o (f o)) (links_into o (n ∷ [])) at_o) [
                    | inl m ↦ inl (final_links-member cl f s d found.0 (subst (IsAmong (s, d)) (ap (λ k. links_into k (f k)) (sym e)) m))
                    | inr m ↦ inr m
                  ]
                  )
              | inr other ↦ inl (final_links-member cl f s d found.0 (subst (λ ns. IsAmong (s, d) (links_into d ns)) (cond-false (d == o) (f d ++ n ∷ []) (f d) other) found.1))
            ],
        λ h. elim h [
          | inl k ↦ (
              let found = final_links-from cl f s d k in
              elim (cases_Bool (d == o)) [
                | inl same ↦ (
                    let e = eqb-true d o same in
                    let at_o = IsAmong-append_left (s, d) (links_into o (f o)) (links_into o (n ∷ [])) (subst (IsAmong (s, d)) (ap (λ j. links_into j (f j)) e) found.1) in
                    final_links-member cl (with_notice o n f) s d found.0 (subst (IsAmong (s, d)) (sym (ap (λ j. links_into j (with_notice o n f j)) e ∙ all)) at_o)
                    )
                | inr other ↦ final_links-member cl (with_notice o n f) s d found.0 (subst (λ ns. IsAmong (s, d) (links_into d ns)) (sym (cond-false (d == o) (f d ++ n ∷ []) (f d) other)) found.1)
              ]
              )
          | inr k ↦ (
              let e = into-o s d k in
              let at_o = IsAmong-append_right (s, d) (links_into o (f o)) (links_into o (n ∷ [])) k in
              final_links-member cl (with_notice o n f) s d (subst (λ j. j < cl.nodes) (sym e) inside) (subst (IsAmong (s, d)) (sym (ap (λ j. links_into j (with_notice o n f j)) e ∙ all)) at_o)
              )
        ],
      )
    where
      into-o : (s d : ℕ) → IsAmong (s, d) (links_into o (n ∷ [])) → d ≡ o
      into-o s d h = into n h
        where
          into : (m : Notice) → IsAmong (s, d) (links_into o (m ∷ [])) → d ≡ o
          into (final_of x facts) (inl e) = ap (λ p. p.1) e
          into (final_of x facts) (inr none) = absurd none
          into (delta facts) none = absurd none
          into (window_of x facts) none = absurd none

-- ---- flags

newer-or : (old new : Option Flags) → newer old new ≡ option_or new old
newer-or old None = refl
newer-or old (Some g) = refl

-- of an actor's flags those that it tells stand
own_flags-more : (o : ℕ) (n : Notice) (f : Fold) (a : Actor) → own_flags (with_notice o n f) a ≡ cond (a.node == o) (option_or (last_flags a (own_part n)) (own_flags f a)) (own_flags f a)
own_flags-more o n f a =
    elim (a.node == o) as (λ v. last_flags a (delta_facts (cond v (f a.node ++ n ∷ []) (f a.node))) ≡ cond v (option_or (last_flags a (own_part n)) (own_flags f a)) (own_flags f a)) [
      | true ↦ ap (last_flags a) (delta_facts-push (f a.node) n) ∙ last_flags-append a (delta_facts (f a.node)) (own_part n) ∙ newer-or (own_flags f a) (last_flags a (own_part n))
      | false ↦ refl
    ]

-- what a node told goes on with it
pub told_by-here : (o : ℕ) (n : Notice) (f : Fold) → told_by o (with_notice o n f) ≡ told_by o f ++ own_part n
told_by-here o n f = ap delta_facts (with_notice-here o n f) ∙ delta_facts-push (f o) n

pub told_by-else : (o s : ℕ) (n : Notice) (f : Fold) → s ≢ o → told_by s (with_notice o n f) ≡ told_by s f
told_by-else o s n f other = ap delta_facts (with_notice-else o s n f other)

pub counts-notice : (cl : Cluster) (lost : ℕ → Bool) (o : ℕ) (n : Notice) (f : Fold) → o < cl.nodes → CountsNotice cl lost o n f
counts-notice cl lost o n f inside = record {
  received = λ a. told-more cl o n f inside (is_received a);
  released = λ b a. told-more cl o n f inside (is_released b a);
  told = λ a. told_outside-more cl o n f inside lost (is_sent_to a);
  created = λ b a. told_outside-more cl o n f inside lost (is_created b a);
  admitted = λ a. admitted-more cl o n f inside lost (is_sent_to a);
  carried = λ b a. admitted-more cl o n f inside lost (is_created b a);
}

pub knows-notice : (cl : Cluster) (o : ℕ) (n : Notice) (f : Fold) → o < cl.nodes → KnowsNotice cl o n f
knows-notice cl o n f inside = record {
  known = known-more cl o n f inside;
  flags = own_flags-more o n f;
  finals = finals-more cl o n f inside;
}

-- ---- streams

-- the next bulletin of a stream is the one more
take-next : {X : Type 0} (k : ℕ) (xs : List X) (x : X) → slice_get xs k ≡ Some x → take (suc k) xs ≡ take k xs ++ x ∷ []
take-next k [] x e = absurd (cc)
take-next zero (y ∷ ys) x e = ap (λ z. z ∷ []) (same_Some y x e)
take-next (suc k) (y ∷ ys) x e = ap (λ zs. y ∷ zs) (take-next k ys x e)

fold-next : (cl : Cluster) (h : List Event) (c : ℕ → ℕ) (o : ℕ) (n : Notice) → slice_get (stream cl o h) (c o) ≡ Some n → FoldsNext cl h c o n
fold-next cl h c o n e =
    let each : (k : ℕ) → fold_to cl (raised o c) h k ≡ with_notice o n (fold_to cl c h) k = λ k.
    let Goal : Bool → Type 0 = λ v. (k == o) ≡ v → take (cond v (c k + 1) (c k)) (stream cl k h) ≡ cond v (take (c k) (stream cl k h) ++ n ∷ []) (take (c k) (stream cl k h)) in
    let goal : Goal (k == o) = elim (k == o) as Goal [
      | true ↦ λ same. (
          let next : c k + 1 ≡ suc (c k) = omega arith in
          ap (λ j. take j (stream cl k h)) next
          ∙ take-next (c k) (stream cl k h) n (subst (λ j. slice_get (stream cl j h) (c j) ≡ Some n) (sym (eqb-true k o same)) e)
          )
      | false ↦ λ _. refl
    ] in
    goal refl in
    λ i k. each k i

-- where the cut counts no more than there is, it counts what is folded
place-folded : {X : Type 0} (k : ℕ) (xs : List X) (x : X) → slice_get xs (length (take k xs)) ≡ Some x → slice_get xs k ≡ Some x
place-folded zero xs x e = e
place-folded (suc k) [] x e = absurd (cc)
place-folded (suc k) (y ∷ ys) x e = place-folded k ys x e

pub cut-next : (cl : Cluster) (h : List Event) (c : ℕ → ℕ) (o : ℕ) (n : Notice) → IsNext cl h o n (fold_to cl c h) → FoldsNext cl h c o n
cut-next cl h c o n e = fold-next cl h c o n (place-folded (c o) (stream cl o h) n e)

-- the fold is within the one with one more
pub with_notice-within : (o : ℕ) (n : Notice) (f : Fold) → IsWithin f (with_notice o n f)
with_notice-within o n f k = elim (k == o) as (λ v. (more : List Notice) × (cond v (f k ++ n ∷ []) (f k) ≡ f k ++ more)) [
  | true ↦ (n ∷ [], refl)
  | false ↦ ([], sym (append-nil (f k)))
]

-- after the first bulletins of a stream the next one begins the rest
rest-next : {X : Type 0} (xs ys : List X) (x : X) → slice_get (xs ++ ys) (length xs) ≡ Some x → (zs : List X) × (ys ≡ x ∷ zs)
rest-next [] [] x e = absurd (cc)
rest-next [] (y ∷ ys) x e = (ys, ap (λ z. z ∷ ys) (same_Some y x e))
rest-next (z ∷ xs) ys x e = rest-next xs ys x e

pub with_notice-of : (cl : Cluster) (h : List Event) (o : ℕ) (n : Notice) (f : Fold) → IsFoldOf cl h f → IsNext cl h o n f → IsFoldOf cl h (with_notice o n f)
with_notice-of cl h o n f part next k =
    let before = part k in
    let Goal : Bool → Type 0 = λ v. (k == o) ≡ v → (more : List Notice) × (stream cl k h ≡ cond v (f k ++ n ∷ []) (f k) ++ more) in
    let goal : Goal (k == o) = elim (k == o) as Goal [
      | true ↦ λ same. (
          let here : slice_get (stream cl k h) (length (f k)) ≡ Some n = subst (λ j. slice_get (stream cl j h) (length (f j)) ≡ Some n) (sym (eqb-true k o same)) next in
          let rest = rest-next (f k) before.0 n (subst (λ xs. slice_get xs (length (f k)) ≡ Some n) before.1 here) in
          (rest.0, before.1 ∙ ap (λ ys. f k ++ ys) rest.1 ∙ sym (append_assoc (f k) (n ∷ []) rest.0))
          )
      | false ↦ λ _. before
    ] in
    goal refl

-- ---- lost nodes

-- links with the same members give the same lost nodes
pub lost-links : (cl : Cluster) (f : Fold) (links : List (ℕ × ℕ)) → AreLinksOf cl f links → lost_nodes cl.nodes links ≡ lost_of cl f
lost-links cl f links same =
    rising_nodes-same (lost_nodes cl.nodes links) (lost_of cl f) (lost_nodes-rise cl.nodes links) (lost_nodes-rise cl.nodes (final_links cl f))
    (lost_nodes-grow cl.nodes links (final_links cl f) same.0) (lost_nodes-grow cl.nodes (final_links cl f) links same.1)

-- ---- rows

-- the rows of a Delta count what the notice tells of its own node's actors
pub own-rows : (o : ℕ) (b : Bulletin) (n : Notice) → Tells o b n → IsLedgerOf (own_part n) (own_rows b)
own-rows o (bulletins.Delta d) (delta facts) t = t.1
own-rows o (bulletins.Window w) (window_of s facts) t = no_entries-tell
own-rows o (bulletins.Final w) (final_of s facts) t = no_entries-tell
own-rows o b n t = absurd t

-- whether or not a link's rows count, they do as its facts
link-counts : (v : Bool) (w : Window) (facts : List Fact) → IsLedgerOf facts (window_ledger w) → CountAlike (ledger_counts (cond v (window_ledger w) no_rows)) (fact_counts (cond v facts []))
link-counts true w facts tells = tells
link-counts false w facts tells = no_entries-tell

pub link-rows : (lost : ℕ → Bool) (o : ℕ) (b : Bulletin) (n : Notice) → Tells o b n → IsLedgerOf (link_part lost n) (link_rows lost b)
link-rows lost o (bulletins.Delta d) (delta facts) t = no_entries-tell
link-rows lost o (bulletins.Window w) (window_of s facts) t =
    subst (λ x. CountAlike (ledger_counts (cond (lost w.from) (window_ledger w) no_rows)) (fact_counts (cond (lost x) facts []))) t.1 (link-counts (lost w.from) w facts t.2)
link-rows lost o (bulletins.Final w) (final_of s facts) t =
    subst (λ x. CountAlike (ledger_counts (cond (lost w.from) (window_ledger w) no_rows)) (fact_counts (cond (lost x) facts []))) t.1 (link-counts (lost w.from) w facts t.2)
link-rows lost o b n t = absurd t

-- the known actors with the bulletin's names
pub known-rows : (cl : Cluster) (o : ℕ) (b : Bulletin) (n : Notice) (f : Fold) → o < cl.nodes → IsOrdered b → Tells o b n → KnowsRows cl o b n f
known-rows cl o b n f inside order t a =
    let named = ledger-named (facts_in n) (bulletin_ledger b) order.1 (tells-counts o b n t) a in
    let known = known-more cl o n f inside a in (
      λ h. elim (known.0 h) [ inl k ↦ inl k | inr k ↦ inr (named.1 k) ],
      λ h. known.1 (elim h [ inl k ↦ inl k | inr k ↦ inr (named.0 k) ]),
    )
