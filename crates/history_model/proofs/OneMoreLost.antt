-- What changes where one more node is taken as lost: what it told no longer counts, and what others admitted from it does.
use Rattle.std.proofs.Common.{◌≡◌, ◌≢◌, ◌<◌, ◌+◌, ◌||◌, ◌==◌, ℕ, Bool, true, false, cond, List, [], ◌∷◌, ◌++◌, refl, sym, ◌∙◌, ap, inl, inr, arith}
use Rattle.std.proofs.lemmas.Bool.{cases_Bool, eqb-true, ne_eqb}
use Rattle.crgc_ids.specs.Nodes.{nodes_below}
use Rattle.history_model.specs.Tally.{tally}
use Rattle.history_model.specs.Cluster.{Cluster}
use Rattle.history_model.specs.Facts.{Fact, is_created, is_sent_to}
use Rattle.history_model.specs.Streams.{Notice, delta, window_of, final_of}
use Rattle.history_model.specs.Folds.{Fold}
use Rattle.history_model.specs.Graph.{admitted_facts, delta_facts, link_facts, told_facts}
use Rattle.history_model.specs.MoreFolded.{IsLostToo, MovesCounts, admitted_from, told_by}
use Rattle.history_model.proofs.Basics.{eqb-refl}
use Rattle.history_model.proofs.Lists.{tally-append}
use Rattle.history_model.proofs.LinksSums.{nodes-point, sum_by-both, tally-flat_map}

module _ (cl : Cluster) (s : ℕ) (f : Fold) (lost more : ℕ → Bool) (too : IsLostToo s lost more) where
  grown-here : more s ≡ true
  grown-here = too.grown s ∙ ap (λ v. v || lost s) (eqb-refl s)

  grown-else : (k : ℕ) → k ≢ s → more k ≡ lost k
  grown-else k other = too.grown k ∙ ap (λ v. v || lost k) (ne_eqb k s other)

  -- what nodes outside told falls by what the node told
  told-falls : s < cl.nodes → (test : Fact → Bool) → tally test (told_facts cl lost f) ≡ tally test (told_facts cl more f) + tally test (told_by s f)
  told-falls inside test =
      let piece : (ℕ → Bool) → ℕ → ℕ = λ t k. tally test (cond (t k) [] (delta_facts (f k))) in
      let gone : piece more s ≡ 0 = ap (λ v. tally test (cond v [] (delta_facts (f s)))) grown-here in
      let stood : piece lost s ≡ tally test (told_by s f) = ap (λ v. tally test (cond v [] (delta_facts (f s)))) too.outside in
      tally-flat_map test (λ k. cond (lost k) [] (delta_facts (f k))) (nodes_below cl.nodes)
      ∙ nodes-point (piece lost) (piece more) s (tally test (told_by s f)) cl.nodes inside
      (λ k other. ap (λ v. tally test (cond v [] (delta_facts (f k)))) (sym (grown-else k other))) (omega (arith, gone, stood))
      ∙ ap (λ x. x + tally test (told_by s f)) (sym (tally-flat_map test (λ k. cond (more k) [] (delta_facts (f k))) (nodes_below cl.nodes)))

  -- a window or Final of a link from the node counts now, and each other counts as it did
  one-link : (test : Fact → Bool) (k : ℕ) (facts all before now : List Fact) → tally test all ≡ tally test before + tally test now
      → tally test (cond (more k) (facts ++ all) all) ≡ tally test (cond (lost k) (facts ++ before) before) + tally test (cond (k == s) (facts ++ now) now)
  one-link test k facts all before now e =
      let whole = tally-append test facts all in
      let first = tally-append test facts before in
      let second = tally-append test facts now in
      elim (cases_Bool (k == s)) [
        | inl same ↦ (
            let is_more = too.grown k ∙ ap (λ v. v || lost k) same in
            let was_out = ap lost (eqb-true k s same) ∙ too.outside in
            ap (λ v. tally test (cond v (facts ++ all) all)) is_more ∙ added whole second e
            ∙ sym (ap (λ v. tally test (cond v (facts ++ before) before) + tally test (cond (k == s) (facts ++ now) now)) was_out
            ∙ ap (λ v. tally test before + tally test (cond v (facts ++ now) now)) same)
            )
        | inr other ↦ (
            let is_as_before = too.grown k ∙ ap (λ v. v || lost k) other in
            ap (λ v. tally test (cond v (facts ++ all) all)) is_as_before ∙ kept (lost k)
            ∙ sym (ap (λ v. tally test (cond (lost k) (facts ++ before) before) + tally test (cond v (facts ++ now) now)) other)
            )
      ]
    where
      added : tally test (facts ++ all) ≡ tally test facts + tally test all → tally test (facts ++ now) ≡ tally test facts + tally test now → tally test all ≡ tally test before + tally test now
          → tally test (facts ++ all) ≡ tally test before + tally test (facts ++ now)
      added p q r = omega (arith, p, q, r)

      kept : (v : Bool) → tally test (cond v (facts ++ all) all) ≡ tally test (cond v (facts ++ before) before) + tally test now
      kept true = omega (arith, tally-append test facts all, tally-append test facts before, e)
      kept false = e

  links-rise : (test : Fact → Bool) (ns : List Notice) → tally test (link_facts more ns) ≡ tally test (link_facts lost ns) + tally test (link_facts (λ k. k == s) ns)
  links-rise test [] = refl
  links-rise test (delta facts ∷ ns) = links-rise test ns
  links-rise test (window_of k facts ∷ ns) = one-link test k facts _ _ _ (links-rise test ns)
  links-rise test (final_of k facts ∷ ns) = one-link test k facts _ _ _ (links-rise test ns)

  -- what was admitted from lost nodes rises by what was admitted from the node
  admitted-rises : (test : Fact → Bool) → tally test (admitted_facts cl more f) ≡ tally test (admitted_facts cl lost f) + tally test (admitted_from cl s f)
  admitted-rises test =
      tally-flat_map test (λ o. link_facts more (f o)) (nodes_below cl.nodes)
      ∙ sum_by-both (λ o. tally test (link_facts more (f o))) (λ o. tally test (link_facts lost (f o))) (λ o. tally test (link_facts (λ k. k == s) (f o))) (nodes_below cl.nodes) (λ o. links-rise test (f o))
      ∙ sym (joined (tally-flat_map test (λ o. link_facts lost (f o)) (nodes_below cl.nodes)) (tally-flat_map test (λ o. link_facts (λ k. k == s) (f o)) (nodes_below cl.nodes)))
    where
      joined : {x y u v : ℕ} → x ≡ u → y ≡ v → x + y ≡ u + v
      joined p q = omega (arith, p, q)

pub moves-counts : (cl : Cluster) (s : ℕ) (lost more : ℕ → Bool) (f : Fold) → s < cl.nodes → IsLostToo s lost more → MovesCounts cl s lost more f
moves-counts cl s lost more f inside too = record {
  told = λ a. told-falls cl s f lost more too inside (is_sent_to a);
  created = λ b a. told-falls cl s f lost more too inside (is_created b a);
  admitted = λ a. admitted-rises cl s f lost more too (is_sent_to a);
  carried = λ b a. admitted-rises cl s f lost more too (is_created b a);
}
