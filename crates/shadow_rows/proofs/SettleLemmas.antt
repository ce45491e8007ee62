-- The rows noted of a node, and what they speak of.
use Rattle.std.proofs.Common.{◌≡◌, ◌<◌, ◌≤◌, ◌&&◌, ℕ, Bool, true, cond, List, [], ◌∷◌, refl, sym, ◌∙◌, ap, inl, inr, arith, sum_by}
use Rattle.std.proofs.lemmas.List.Sums.{sum_by-cons}
use Rattle.std.specs.List.{AllByRecursion}
use Rattle.crgc_ids.specs.Actor.{Actor, same_actor}
use Rattle.crgc_ids.specs.Members.{IsAmong}
use Rattle.crgc_ids.proofs.ActorLaws.{same_actor-decides}
use Rattle.crgc_ids.proofs.MembersLaws.{all-from_members, all-member}
use Rattle.crgc_ids.specs.declared.rising.ActorCount.{ActorCount}
use Rattle.crgc_ids.specs.declared.rising.PairCount.{PairCount}
use Rattle.history_model.specs.Ledgers.{actor_total, pair_total}
use Rattle.shadow_table.specs.Shadows.{is_named}
use Rattle.shadow_rows.proofs.PairLemmas.{same_pair-decides}
use Rattle.shadow_rows.specs.Pairs.{has_pair}

-- the rows count something at least as often as one of them does
total-member : {X : Type 0} (p : X → Bool) (count : X → ℕ) (r : X) (rows : List X) → IsAmong r rows → p r ≡ true → count r ≤ sum_by (λ x. cond (p x) (count x) 0) rows
total-member p count r [] m own = absurd m
total-member p count r (x ∷ rows) (inl e) own =
    let split = sum_by-cons (λ y. cond (p y) (count y) 0) x rows in
    let here : cond (p x) (count x) 0 ≡ count r = ap (λ y. cond (p y) (count y) 0) (sym e) ∙ ap (λ v. cond v (count r) 0) own in
    omega (arith, split, here)
total-member p count r (x ∷ rows) (inr m) own =
    let split = sum_by-cons (λ y. cond (p y) (count y) 0) x rows in
    let later = total-member p count r rows m own in
    omega (arith, split, later)

-- where the actors that rows count are named, each row's is
pub messages-covered : (names : List Actor) (rows : List ActorCount) → AllByRecursion (λ r. 0 < r.count) rows → ((a : Actor) → 0 < actor_total a rows → is_named names a ≡ true) → AllByRecursion (λ r. is_named names r.actor ≡ true) rows
messages-covered names rows stand named =
    all-from_members (λ r. is_named names r.actor ≡ true) rows (λ r m.
    let count = total-member (λ (x : ActorCount). same_actor r.actor x.actor) (λ x. x.count) r rows m ((same_actor-decides r.actor r.actor).1 refl) in
    let some = all-member (λ (x : ActorCount). 0 < x.count) r rows stand m in
    named r.actor (omega (arith, count, some)))

-- where the pairs that rows count are there, each row's is
pub pairs-covered : (pairs : List (Actor × Actor)) (rows : List PairCount) → AllByRecursion (λ r. 0 < r.count) rows → ((b a : Actor) → 0 < pair_total b a rows → has_pair pairs b a ≡ true) → AllByRecursion (λ r. has_pair pairs r.owner r.target ≡ true) rows
pairs-covered pairs rows stand there =
    all-from_members (λ r. has_pair pairs r.owner r.target ≡ true) rows (λ r m.
    let count = total-member (λ (x : PairCount). same_actor r.owner x.owner && same_actor r.target x.target) (λ x. x.count) r rows m ((same_pair-decides (r.owner, r.target) (r.owner, r.target)).1 refl) in
    let some = all-member (λ (x : PairCount). 0 < x.count) r rows stand m in
    there r.owner r.target (omega (arith, count, some)))
