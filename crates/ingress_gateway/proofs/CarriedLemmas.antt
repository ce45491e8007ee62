-- References carried to one owner, one after another.
use Rattle.std.proofs.Common.{◌≡◌, ◌+◌, ◌<◌, ◌^◌, ◌&&◌, ℕ, List, [], ◌∷◌, ◌++◌, length, get_or, map, take, cond, refl, ◌∙◌, ap, arith}
use Rattle.std.proofs.lemmas.List.Sums.{sum_by-append, sum_by-cons, sum_by_more_le}
use Rattle.std.specs.List.{count_by}
use Rattle.crgc_ids.specs.Actor.{Actor, same_actor}
use Rattle.crgc_ids.proofs.ActorLaws.{same_actor-decides}
use Rattle.ingress_gateway.specs.Pending.{carried_count}

-- they count for the owner and each target as often as the target comes
carried_to : (owner target : Actor) (refs : List Actor) → carried_count owner target (map (λ a. (owner, a)) refs) ≡ count_by (same_actor target) refs
carried_to owner target [] = refl
carried_to owner target (a ∷ refs) =
    let of_pair : Actor × Actor → ℕ = λ p. cond (same_actor owner p.0 && same_actor target p.1) 1 0 in
    let of_target : Actor → ℕ = λ x. cond (same_actor target x) 1 0 in
    let first = sum_by-cons of_pair (owner, a) (map (λ x. (owner, x)) refs) in
    let other = sum_by-cons of_target a refs in
    let one : of_pair (owner, a) ≡ of_target a = ap (λ b. cond (b && same_actor target a) 1 0) ((same_actor-decides owner owner).1 refl) in
    let later = carried_to owner target refs in
    omega arith

pub carried-more : (owner target : Actor) (carried : List (Actor × Actor)) (refs : List Actor) → carried_count owner target (carried ++ map (λ a. (owner, a)) refs) ≡ carried_count owner target carried + count_by (same_actor target) refs
carried-more owner target carried refs =
    sum_by-append (λ (p : Actor × Actor). cond (same_actor owner p.0 && same_actor target p.1) 1 0) carried (map (λ a. (owner, a)) refs)
    ∙ ap (λ n. carried_count owner target carried + n) (carried_to owner target refs)

-- where all references fit, so does the one at i after those before it
pub carried-fits : (owner target : Actor) (carried : List (Actor × Actor)) (refs : List Actor) (i : ℕ) → i < length refs → target ≡ get_or refs i target → carried_count owner target carried + count_by (same_actor target) refs < 2 ^ 32 → carried_count owner target (carried ++ map (λ a. (owner, a)) (take i refs)) + 1 < 2 ^ 32
carried-fits owner target carried refs i inside is fits =
    let so_far = carried-more owner target carried (take i refs) in
    let of_target : Actor → ℕ = λ x. cond (same_actor target x) 1 0 in
    let here : of_target (get_or refs i target) ≡ 1 = ap (λ b. cond b 1 0) ((same_actor-decides target (get_or refs i target)).1 is) in
    let bound = sum_by_more_le of_target refs i target inside in
    omega arith
