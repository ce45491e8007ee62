-- Rows that keep one fact more, or all references of a message, and what they add up to.
use Rattle.std.proofs.Common.{◌≡◌, ◌+◌, ◌-◌, ◌<◌, ◌≤◌, ◌^◌, ◌&&◌, ℕ, zero, suc, length, take, drop, Bool, true, false, cond, List, [], ◌∷◌, ◌++◌, map, Result, Ok, Err, OnErr, OnOk, refl, sym, ◌∙◌, ap, subst, arith}
use Rattle.std.proofs.ByRecursion.{All-append, All-push}
use Rattle.std.proofs.lemmas.List.{length-map, map-append, take-append-drop, take-map}
use Rattle.std.proofs.lemmas.List.Sums.{sum_by-append, sum_by-cons}
use Rattle.std.specs.List.{AllByRecursion, count_by}
use Rattle.crgc_ids.specs.Actor.{Actor, same_actor}
use Rattle.crgc_ids.specs.declared.rising.ActorCount.{ActorCount}
use Rattle.crgc_ids.specs.declared.rising.PairCount.{PairCount}
use Rattle.crgc_ids.proofs.ActorLaws.{same_actor-decides}
use Rattle.row_sums.specs.Totals.{actor_total, pair_total}
use Rattle.row_sums.proofs.OnesLemmas.{fits-push, total-ones}
use Rattle.entry_records.specs.Ends.{EndLists}
use Rattle.entry_records.specs.Keeping.{KeepActors, KeepPairs}
use Rattle.entry_records.specs.Unflushed.{actor_count, actors_in, pair_count, pairs_in}

-- a choice of one value twice
pub either-same : {X : Type 0} (b : Bool) (x : X) → x ≡ cond b x x
either-same true x = refl
either-same false x = refl

-- ---- the first items of a list

all-first : {X : Type 0} (P : X → Type 0) (n : ℕ) (xs : List X) → AllByRecursion P xs → AllByRecursion P (take n xs)
all-first P zero xs all = tt
all-first P (suc n) [] all = tt
all-first P (suc n) (x ∷ xs) all = (all.0, all-first P n xs all.1)

-- they count no more than all
count-first : {X : Type 0} (p : X → Bool) (n : ℕ) (xs : List X) → count_by p (take n xs) ≤ count_by p xs
count-first p n xs =
    let joined = sum_by-append (λ x. cond (p x) 1 0) (take n xs) (drop n xs) in
    let whole = ap (count_by p) (take-append-drop n xs) in
    omega arith

-- the values of all items but the last n are all values but the last n
pub map-cut : {X Y : Type 0} (f : X → Y) (xs : List X) (n : ℕ) → map f (take (length xs - n) xs) ≡ take (length (map f xs) - n) (map f xs)
map-cut f xs n = sym (take-map f (length xs - n) xs) ∙ ap (λ m. take (m - n) (map f xs)) (sym (length-map xs f))

-- ---- the lists after a call

-- what holds of the lists before a call, and of those that a success gives, holds of those after it
pub ends-after : {A E : Type 0} (P : EndLists → Type 0) (r : Result A E) (old given new : EndLists) → P old → P given → OnOk r (new ≡ given) → OnErr r (new ≡ old) → P new
ends-after P (Ok x) old given new before after ok err = subst P (sym ok) after
ends-after P (Err e) old given new before after ok err = subst P (sym err) before

-- ---- actors

abbrev pub one_actor : Actor → ActorCount
one_actor a = record { actor = a; count = 1 }

-- one actor more
pub actors-push : (rows : List ActorCount) (a : Actor) → KeepActors rows → actor_count a (actors_in rows) + 1 < 2 ^ 32 → KeepActors (rows ++ one_actor a ∷ [])
actors-push rows a kept fits =
    let moved : actors_in (rows ++ one_actor a ∷ []) ≡ actors_in rows ++ a ∷ [] = map-append (λ (r : ActorCount). r.actor) rows (one_actor a ∷ []) in
    record {
      once = All-push (λ r. r.count ≡ 1) rows (one_actor a) kept.once refl;
      fit = λ b. subst (λ actors. actor_count b actors < 2 ^ 32) (sym moved) (
          fits-push (same_actor b) (actors_in rows) a (2 ^ 32) (kept.fit b)
          (λ t. subst (λ c. actor_count c (actors_in rows) + 1 < 2 ^ 32) (sym ((same_actor-decides b a).0 t)) fits)
          );
    }

-- the first actors alone
pub actors-first : (n : ℕ) (rows : List ActorCount) → KeepActors rows → KeepActors (take n rows)
actors-first n rows kept = record {
  once = all-first (λ r. r.count ≡ 1) n rows kept.once;
  fit = λ b. (
      let moved = ap (actor_count b) (sym (take-map (λ (r : ActorCount). r.actor) n rows)) in
      let fewer = count-first (same_actor b) n (actors_in rows) in
      let before = kept.fit b in
      omega arith
      );
}

-- the rows count each actor as often as it comes
pub actors-total : (rows : List ActorCount) → KeepActors rows → (a : Actor) → actor_total a rows ≡ actor_count a (actors_in rows)
actors-total rows kept a = total-ones (λ (r : ActorCount). r.actor) (λ (r : ActorCount). r.count) (same_actor a) rows kept.once

-- ---- pairs

abbrev pub one_pair : Actor → Actor → PairCount
one_pair b a = record { owner = b; target = a; count = 1 }

-- the pairs of one owner count a pair of it as often as the target comes, and no other
owner-count : (owner b a : Actor) (targets : List Actor) → pair_count b a (map (λ t. (owner, t)) targets) ≡ cond (same_actor b owner) (count_by (same_actor a) targets) 0
owner-count owner b a [] = either-same (same_actor b owner) 0
owner-count owner b a (t ∷ targets) =
    let of_pair : Actor × Actor → ℕ = λ p. cond (same_actor b p.0 && same_actor a p.1) 1 0 in
    let of_target : Actor → ℕ = λ x. cond (same_actor a x) 1 0 in
    let first = sum_by-cons of_pair (owner, t) (map (λ x. (owner, x)) targets) in
    let other = sum_by-cons of_target t targets in
    let Case : Bool → Type 0 = λ v. cond (v && same_actor a t) 1 0 + cond v (count_by (same_actor a) targets) 0 ≡ cond v (count_by (same_actor a) (t ∷ targets)) 0 in
    let case : Case (same_actor b owner) = elim (same_actor b owner) as Case [ true ↦ sym other | false ↦ refl ] in
    first ∙ ap (λ n. of_pair (owner, t) + n) (owner-count owner b a targets) ∙ case

-- the rows of a message count its pairs
pub pairs-moved : (rows : List PairCount) (owner : Actor) (targets : List Actor) → pairs_in (rows ++ map (one_pair owner) targets) ≡ pairs_in rows ++ map (λ t. (owner, t)) targets
pairs-moved [] owner [] = refl
pairs-moved [] owner (t ∷ targets) = ap (λ ps. (owner, t) ∷ ps) (pairs-moved [] owner targets)
pairs-moved (r ∷ rows) owner targets = ap (λ ps. (r.owner, r.target) ∷ ps) (pairs-moved rows owner targets)

-- the pairs of a message more
pub pairs-more : (rows : List PairCount) (owner : Actor) (targets : List Actor) → KeepPairs rows → ((a : Actor) → pair_count owner a (pairs_in rows) + count_by (same_actor a) targets < 2 ^ 32) → KeepPairs (rows ++ map (one_pair owner) targets)
pairs-more rows owner targets kept fits =
    record {
      once = All-append (λ r. r.count ≡ 1) rows (map (one_pair owner) targets) kept.once (once_each targets);
      fit = λ b a. (
          let Fits : Bool → Type 0 = λ v. same_actor b owner ≡ v → pair_count b a (pairs_in rows) + cond v (count_by (same_actor a) targets) 0 < 2 ^ 32 in
          let fits_there : Fits (same_actor b owner) = elim (same_actor b owner) as Fits [
            | true ↦ λ t. subst (λ c. pair_count c a (pairs_in rows) + count_by (same_actor a) targets < 2 ^ 32) (sym ((same_actor-decides b owner).0 t)) (fits a)
            | false ↦ λ _. (let before = kept.fit b a in omega arith)
          ] in
          let joined = sum_by-append (λ (p : Actor × Actor). cond (same_actor b p.0 && same_actor a p.1) 1 0) (pairs_in rows) (map (λ t. (owner, t)) targets) in
          let counted = owner-count owner b a targets in
          let room = fits_there refl in
          subst (λ pairs. pair_count b a pairs < 2 ^ 32) (sym (pairs-moved rows owner targets)) (omega arith)
          );
    }
  where
    once_each : (targets : List Actor) → AllByRecursion (λ r. r.count ≡ 1) (map (one_pair owner) targets)
    once_each [] = tt
    once_each (t ∷ targets) = (refl, once_each targets)

-- one pair more
pub pairs-push : (rows : List PairCount) (b a : Actor) → KeepPairs rows → pair_count b a (pairs_in rows) + 1 < 2 ^ 32 → KeepPairs (rows ++ one_pair b a ∷ [])
pairs-push rows b a kept fits = pairs-more rows b (a ∷ []) kept (λ t. (
    let Fits : Bool → Type 0 = λ v. same_actor t a ≡ v → pair_count b t (pairs_in rows) + cond v 1 0 < 2 ^ 32 in
    let fits_there : Fits (same_actor t a) = elim (same_actor t a) as Fits [
      | true ↦ λ e. subst (λ c. pair_count b c (pairs_in rows) + 1 < 2 ^ 32) (sym ((same_actor-decides t a).0 e)) fits
      | false ↦ λ _. (let before = kept.fit b t in omega arith)
    ] in
    let one = sum_by-cons (λ x. cond (same_actor t x) 1 0) a [] in
    let room = fits_there refl in
    omega arith
    ))

-- one pair more where the push succeeds
pub pairs-pushed : (ok : Bool) (rows rows' : List PairCount) (b a : Actor) → KeepPairs rows → pair_count b a (pairs_in rows) + 1 < 2 ^ 32 → rows' ≡ cond ok (rows ++ one_pair b a ∷ []) rows → KeepPairs rows'
pairs-pushed true rows rows' b a kept fits e = subst KeepPairs (sym e) (pairs-push rows b a kept fits)
pairs-pushed false rows rows' b a kept fits e = subst KeepPairs (sym e) kept

-- the first pairs alone
pub pairs-first : (n : ℕ) (rows : List PairCount) → KeepPairs rows → KeepPairs (take n rows)
pairs-first n rows kept = record {
  once = all-first (λ r. r.count ≡ 1) n rows kept.once;
  fit = λ b a. (
      let moved = ap (pair_count b a) (sym (take-map (λ (r : PairCount). (r.owner, r.target)) n rows)) in
      let fewer = count-first (λ p. same_actor b p.0 && same_actor a p.1) n (pairs_in rows) in
      let before = kept.fit b a in
      omega arith
      );
}

-- the rows count each pair as often as it comes
pub pairs-total : (rows : List PairCount) → KeepPairs rows → (b a : Actor) → pair_total b a rows ≡ pair_count b a (pairs_in rows)
pairs-total rows kept b a = total-ones (λ (r : PairCount). (r.owner, r.target)) (λ (r : PairCount). r.count) (λ p. same_actor b p.0 && same_actor a p.1) rows kept.once
