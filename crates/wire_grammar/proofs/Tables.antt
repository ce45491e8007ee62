-- Tables: rising lists of actors, the one with given members, and the index of each member.
use Rattle.std.proofs.Common.{◌≡◌, ◌≤◌, ℕ, zero, suc, Bool, true, false, List, [], ◌∷◌, length, Some, refl, sym, ap, subst, ◌∙◌, inl, inr, arith}
use Rattle.std.specs.List.{slice_get}
use Rattle.crgc_ids.specs.Actor.{Actor, IsActorBelow, is_actor_below}
use Rattle.crgc_ids.specs.Members.{IsAmong, IsPart}
use Rattle.crgc_ids.specs.Rising.{IsRising}
use Rattle.crgc_ids.proofs.ActorLaws.{IsActorBelow-apart, IsActorBelow-trans, is_actor_below-decides}
use Rattle.crgc_ids.proofs.MembersLaws.{all-member}
use Rattle.crgc_ids.proofs.RisingLaws.{rising-same}
use Rattle.history_model.proofs.RisingActors.{rising-among, rising_actors-rise}
use Rattle.wire_grammar.specs.Named.{index_of, table_of}

abbrev pub IsTable : List Actor → Type 0
IsTable table = IsRising IsActorBelow table

is_below : (a b : Actor) → IsActorBelow a b → is_actor_below a b ≡ true
is_below a b h = (is_actor_below-decides a b).1 h

is_not_below : (a b : Actor) → (IsActorBelow a b → ⊥) → is_actor_below a b ≡ false
is_not_below a b h =
    let P : Bool → Type 0 = λ v. is_actor_below a b ≡ v → is_actor_below a b ≡ false in
    let cases : P (is_actor_below a b) = elim (is_actor_below a b) as P [ true ↦ (λ e. absurd (h ((is_actor_below-decides a b).0 e))) | false ↦ (λ e. e) ] in
    cases refl

-- the table of a list rises, and has the members of the list
pub table_of-rises : (xs : List Actor) → IsTable (table_of xs)
unfolding table_of
table_of-rises xs = rising_actors-rise xs

pub table_of-has : (x : Actor) (xs : List Actor) → IsAmong x xs → IsAmong x (table_of xs)
unfolding table_of
table_of-has x xs h = (rising-among x xs).1 h

pub table_of-only : (x : Actor) (xs : List Actor) → IsAmong x (table_of xs) → IsAmong x xs
unfolding table_of
table_of-only x xs h = (rising-among x xs).0 h

-- tables with the same members are one
pub table-same : (xs ys : List Actor) → IsTable xs → IsTable ys → IsPart xs ys → IsPart ys xs → xs ≡ ys
table-same = rising-same IsActorBelow IsActorBelow-apart IsActorBelow-trans

-- a rising list of members of a table is not longer
pub part_length : (xs ys : List Actor) → IsTable xs → IsTable ys → IsPart xs ys → length xs ≤ length ys
part_length [] ys r s p = omega arith
part_length (x ∷ xs) [] r s p = absurd (p x (inl refl))
part_length (x ∷ xs) (y ∷ ys) r s p =
    elim (p x (inl refl)) [
      | inl e ↦ (let rest = part_length xs ys r.1 s.1 (λ z h. elim (p z (inr h)) [
        | inl f ↦ absurd (IsActorBelow-apart x (subst (IsActorBelow x) (f ∙ sym e) (all-member (IsActorBelow x) z xs r.0 h)))
        | inr k ↦ k
      ]) in omega arith)
      | inr h ↦ (let below = all-member (IsActorBelow y) x ys s.0 h in
          let rest = part_length (x ∷ xs) ys r s.1 (λ z k. elim (p z k) [
            | inl f ↦ absurd (elim k [
              | inl g ↦ IsActorBelow-apart y (subst (IsActorBelow y) (sym g ∙ f) below)
              | inr l ↦ IsActorBelow-apart y (IsActorBelow-trans y x y below (subst (IsActorBelow x) f (all-member (IsActorBelow x) z xs r.0 l)))
            ])
            | inr l ↦ l
          ]) in omega arith)
    ]

-- what stands at an index is a member, and has that index
pub slice_get-member : (table : List Actor) (n : ℕ) (a : Actor) → slice_get table n ≡ Some a → IsAmong a table
slice_get-member [] n a e = absurd cc
slice_get-member (b ∷ rest) zero a e = inl (cc)
slice_get-member (b ∷ rest) (suc n) a e = inr (slice_get-member rest n a e)

pub index_of-slice_get : (table : List Actor) (n : ℕ) (a : Actor) → IsTable table → slice_get table n ≡ Some a → index_of table a ≡ n
unfolding index_of
index_of-slice_get [] n a r e = absurd cc
index_of-slice_get (b ∷ rest) zero a r e =
    let same : b ≡ a = cc in
    rw (is_not_below b a (λ h. IsActorBelow-apart b (subst (IsActorBelow b) (sym same) h))) refl
index_of-slice_get (b ∷ rest) (suc n) a r e =
    let below = all-member (IsActorBelow b) a rest r.0 (slice_get-member rest n a e) in
    rw (is_below b a below) (ap suc (index_of-slice_get rest n a r.1 e))

-- a member stands at its index
pub slice_get-index_of : (table : List Actor) (a : Actor) → IsTable table → IsAmong a table → slice_get table (index_of table a) ≡ Some a
unfolding index_of
slice_get-index_of [] a r h = absurd h
slice_get-index_of (b ∷ rest) a r (inl e) =
    rw (is_not_below b a (λ h. IsActorBelow-apart b (subst (IsActorBelow b) e h))) (ap Some (sym e))
slice_get-index_of (b ∷ rest) a r (inr h) =
    rw (is_below b a (all-member (IsActorBelow b) a rest r.0 h)) (slice_get-index_of rest a r.1 h)
