-- The numbers of the edges of rows.
use Rattle.std.proofs.Common.{◌≡◌, ◌+◌, ◌<◌, ℕ, Bool, true, false, cond, not, None, Result, Ok, Err, IfOk, OnOk, OnErr, List, [], ◌∷◌, ◌++◌, length, map, refl, sym, ◌∙◌, ap, subst, arith}
use Rattle.std.proofs.ByRecursion.{All-push}
use Rattle.std.proofs.lemmas.Bool.{false_from_ne_true, or_parts}
use Rattle.std.proofs.lemmas.Option.{none-some}
use Rattle.std.proofs.lemmas.List.{length-append}
use Rattle.std.specs.List.{AllByRecursion, list_any, position_or_len}
use Rattle.crgc_ids.proofs.MembersLaws.{all-implied}
use Rattle.crgc_ids.specs.Actor.{Actor}
use Rattle.crgc_ids.specs.declared.rising.PairCount.{PairCount}
use Rattle.edge_table.specs.Table.{Edges, number_at, same_pair}
use Rattle.edge_table.specs.declared.table.Edge.{Edge}
use Rattle.shadow_rows.specs.Pairs.{has_pair}
use Rattle.shadow_rows.specs.Tabled.{AreNumbered, ArePairs, ExtendsEdges}
use Rattle.shadow_rows.proofs.GrowLemmas.{pairs-kept}
use Rattle.shadow_rows.proofs.PairLemmas.{number-there, same_pair-decides}
use Rattle.shadow_table.proofs.NameLemmas.{place-kept}

-- the number of a row's edge
abbrev number_in : List (Actor × Actor) → PairCount → ℕ
number_in pairs r = position_or_len (same_pair (r.owner, r.target)) pairs

-- of no row there is none
pub numbered-none : (t : Edges) (numbers : List ℕ) → numbers ≡ [] → AreNumbered t [] numbers
numbered-none t numbers none = record {
  there = tt;
  are = none;
  within = subst (AllByRecursion (λ n. n < length t.edges)) (sym none) tt;
}

-- as edges are added, numbers stay
pub numbered-more : (t u : Edges) (rows : List PairCount) (numbers : List ℕ) → ExtendsEdges t u → AreNumbered t rows numbers → AreNumbered u rows numbers
numbered-more t u rows numbers step numbered = record {
  there = pairs-kept t.pairs u.pairs step.more rows step.pairs numbered.there;
  are = numbered.are ∙ sym (same rows numbered.there);
  within = all-implied (λ n. n < length t.edges) (λ n. n < length u.edges) (λ n h. (let long = ap length step.edges ∙ length-append t.edges step.more_edges in omega arith)) numbers numbered.within;
}
  where
    same : (rows : List PairCount) → ArePairs t.pairs rows → map (number_in u.pairs) rows ≡ map (number_in t.pairs) rows
    same [] there = refl
    same (r ∷ rows) there =
        let here = ap (position_or_len (same_pair (r.owner, r.target))) step.pairs ∙ place-kept (same_pair (r.owner, r.target)) t.pairs step.more there.0 in
        (λ i. here i ∷ same rows there.1 i)

-- one row more, with its number
pub numbered-push : (t : Edges) (rows : List PairCount) (numbers : List ℕ) (row : PairCount) (number : ℕ) → AreNumbered t rows numbers → has_pair t.pairs row.owner row.target ≡ true → number ≡ position_or_len (same_pair (row.owner, row.target)) t.pairs → number < length t.edges → AreNumbered t (rows ++ row ∷ []) (numbers ++ number ∷ [])
numbered-push t rows numbers row number numbered there is within = record {
  there = All-push (λ (r : PairCount). has_pair t.pairs r.owner r.target ≡ true) rows row numbered.there there;
  are = (λ i. numbered.are i ++ is i ∷ []) ∙ mapped rows;
  within = All-push (λ n. n < length t.edges) numbers number numbered.within within;
}
  where
    mapped : (rows : List PairCount) → map (number_in t.pairs) rows ++ number_in t.pairs row ∷ [] ≡ map (number_in t.pairs) (rows ++ row ∷ [])
    mapped [] = refl
    mapped (r ∷ rows) = ap (λ ns. number_in t.pairs r ∷ ns) (mapped rows)

-- ---- an edge that is added, or is not for want of memory

-- what holds of the edges before and after holds whichever way it went
pub either_way : {N E : Type 0} (r : Result N E) (t u v : Edges) (P : Edges → Type 0) → OnOk r (u ≡ v) → OnErr r (u ≡ t) → P t → P v → P u
either_way (Ok n) t u v P ok err before after = subst P (sym ok) after
either_way (Err e) t u v P ok err before after = subst P (sym err) before

-- what holds of the edges after it holds where it was added
pub when_added : {N E : Type 0} (r : Result N E) (u v : Edges) (P : Edges → Type 0) → OnOk r (u ≡ v) → P v → OnOk r (P u)
when_added (Ok n) u v P is after = subst P (sym is) after
when_added (Err e) u v P is after = tt

-- the new edge's number is that of its pair
pub number-added : {E : Type 0} (r : Result ℕ E) (t u : Edges) (owner target : Actor) (e : Edge) → number_at t owner target ≡ None → length t.edges ≡ length t.pairs → IfOk r (λ n. n ≡ length t.edges) → OnOk r (u ≡ record t { pairs = t.pairs ++ (owner, target) ∷ []; edges = t.edges ++ e ∷ [] }) → IfOk r (λ n. n ≡ position_or_len (same_pair (owner, target)) u.pairs)
number-added (Err x) t u owner target e none long is added = tt
number-added (Ok n) t u owner target e none long is added =
    let test = same_pair (owner, target) in
    let absent = false_from_ne_true (list_any test t.pairs) (λ there. none-some (position_or_len test t.pairs) (sym none ∙ number-there test t.pairs there)) in
    is ∙ long ∙ sym (ap (λ (x : Edges). position_or_len test x.pairs) added ∙ last test ((same_pair-decides (owner, target) (owner, target)).1 refl) t.pairs absent)
  where
    last : (test : Actor × Actor → Bool) → test (owner, target) ≡ true → (pairs : List (Actor × Actor)) → list_any test pairs ≡ false → position_or_len test (pairs ++ (owner, target) ∷ []) ≡ length pairs
    last test passes [] absent = ap (λ b. cond (not b) 1 0) passes
    last test passes (p ∷ pairs) absent =
        let parts = or_parts (test p) (list_any test pairs) absent in
        let later = last test passes pairs parts.1 in
        (λ i. cond (not (parts.0 i)) (1 + later i) 0) ∙ omega arith
