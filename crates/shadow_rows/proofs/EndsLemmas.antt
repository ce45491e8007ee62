-- The places of an edge's owner and target.
use Rattle.std.proofs.Common.{◌≡◌, ◌<◌, ℕ, true, false, List, Some, None, get_or, length, subst, sym, ◌∙◌, ap}
use Rattle.std.proofs.lemmas.Bool.{false≢true}
use Rattle.std.proofs.lemmas.List.Quantifiers.{position-Some}
use Rattle.std.specs.List.{IsDistinct}
use Rattle.crgc_ids.proofs.ActorLaws.{same_actor-decides}
use Rattle.crgc_ids.specs.Actor.{Actor, same_actor}
use Rattle.edge_table.proofs.FoundLemmas.{none_there}
use Rattle.edge_table.proofs.IndexLemmas.{number-at}
use Rattle.edge_table.specs.Table.{Edges, HasEnds, IsBetween, number_at, same_pair}
use Rattle.shadow_table.proofs.KeyedLemmas.{key-at}
use Rattle.shadow_table.specs.Shadows.{is_named, place_in}
use Rattle.shadow_rows.specs.Tabled.{AreTabled, no_actor, pair_at}
use Rattle.shadow_rows.proofs.PairLemmas.{same_pair-decides}

-- a pair stands where its number is
pair-stands : (t : Edges) (owner target : Actor) (n : ℕ) → number_at t owner target ≡ Some n → (n < length t.pairs) × (pair_at t.pairs n ≡ (owner, target))
pair-stands t owner target n there =
    let at = position-Some (same_pair (owner, target)) t.pairs n (no_actor, no_actor) there in
    (at.0, sym ((same_pair-decides (owner, target) (pair_at t.pairs n)).0 at.1))

-- no two named actors have the same place
one-place : (names : List Actor) (a b : Actor) → is_named names a ≡ true → is_named names b ≡ true → place_in names a ≡ place_in names b → a ≡ b
one-place names a b a_named b_named same =
    sym (key-at same_actor same_actor-decides names no_actor a a_named) ∙ ap (λ p. get_or names p no_actor) same ∙ key-at same_actor same_actor-decides names no_actor b b_named

-- so the edge of a pair is the one between the places of its actors
pub ends-tabled : (names : List Actor) (t : Edges) (owner target : Actor) (from to : ℕ) → AreTabled names t → length t.edges ≡ length t.pairs → IsDistinct same_pair t.pairs → is_named names owner ≡ true → is_named names target ≡ true → from ≡ place_in names owner → to ≡ place_in names target → HasEnds t owner target from to
ends-tabled names t owner target from to tabled long distinct owner_named target_named from_is to_is = λ n. (has n, is n)
  where
    has : (n : ℕ) → number_at t owner target ≡ Some n → IsBetween t.edges n from to
    has n there =
        let stands = pair-stands t owner target n there in (
          subst (λ k. n < k) (sym long) stands.0,
          tabled.owner n stands.0 ∙ ap (λ p. place_in names p.0) stands.1 ∙ sym from_is,
          tabled.target n stands.0 ∙ ap (λ p. place_in names p.1) stands.1 ∙ sym to_is,
        )

    is : (n : ℕ) → IsBetween t.edges n from to → number_at t owner target ≡ Some n
    is n at =
        let inside = subst (λ k. n < k) long at.0 in
        let pair = pair_at t.pairs n in
        let owner_is = one-place names pair.0 owner (tabled.owner_named n inside) owner_named (sym (tabled.owner n inside) ∙ at.1 ∙ from_is) in
        let target_is = one-place names pair.1 target (tabled.target_named n inside) target_named (sym (tabled.target n inside) ∙ at.2 ∙ to_is) in
        (number-at (owner, target) t.pairs n (no_actor, no_actor) distinct inside).0 ((same_pair-decides pair (owner, target)).1 (λ i. (owner_is i, target_is i)))

-- and actors that were not named have no edge
pub unnamed-owner : (names : List Actor) (t : Edges) (owner target : Actor) → AreTabled names t → is_named names owner ≡ false → number_at t owner target ≡ None
unnamed-owner names t owner target tabled unnamed =
    none_there (number_at t owner target) (λ n there.
    let stands = pair-stands t owner target n there in
    false≢true (sym unnamed ∙ ap (λ p. is_named names p.0) (sym stands.1) ∙ tabled.owner_named n stands.0))

pub unnamed-target : (names : List Actor) (t : Edges) (owner target : Actor) → AreTabled names t → is_named names target ≡ false → number_at t owner target ≡ None
unnamed-target names t owner target tabled unnamed =
    none_there (number_at t owner target) (λ n there.
    let stands = pair-stands t owner target n there in
    false≢true (sym unnamed ∙ ap (λ p. is_named names p.1) (sym stands.1) ∙ tabled.target_named n stands.0))
