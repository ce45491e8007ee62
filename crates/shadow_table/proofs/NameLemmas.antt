-- Which actors are named, and where.
use Rattle.std.proofs.Common.{◌≡◌, ◌+◌, ◌||◌, Bool, true, false, cond, not, List, [], ◌∷◌, ◌++◌, refl, ◌∙◌, ap}
use Rattle.std.proofs.lemmas.Bool.{false≢true}
use Rattle.std.proofs.lemmas.List.Folds.{list_any-append}
use Rattle.std.specs.List.{list_any, position_or_len}
use Rattle.crgc_ids.specs.Actor.{Actor, same_actor}
use Rattle.shadow_table.specs.Shadows.{is_named}

pub or-false : (b : Bool) → (b || false) ≡ b
or-false true = refl
or-false false = refl

-- an actor keeps its place as more are named
pub place-kept : {K : Type 0} (test : K → Bool) (xs ys : List K) → list_any test xs ≡ true → position_or_len test (xs ++ ys) ≡ position_or_len test xs
place-kept test [] ys there = absurd (false≢true there)
place-kept test (x ∷ xs) ys there =
    let Case : Bool → Type 0 = λ v. (v || list_any test xs) ≡ true → cond (not v) (1 + position_or_len test (xs ++ ys)) 0 ≡ cond (not v) (1 + position_or_len test xs) 0 in
    let case : Case (test x) = elim (test x) as Case [
      | true ↦ λ _. refl
      | false ↦ λ later. ap (λ n. 1 + n) (place-kept test xs ys later)
    ] in
    case there

pub named-kept : (names more new : List Actor) (a : Actor) → new ≡ names ++ more → is_named names a ≡ true → is_named new a ≡ true
named-kept names more new a is there =
    ap (λ ns. is_named ns a) is ∙ list_any-append (same_actor a) names more ∙ ap (λ v. v || list_any (same_actor a) more) there
