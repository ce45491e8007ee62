-- An actor's word by its first dot: the node stands before it, and the serial is all that follows.
use Rattle.std.proofs.Common.{◌≡◌, ◌<◌, ◌≤◌, ◌≢◌, ◌^◌, ◌+◌, ◌-◌, ℕ, suc, add-one, List, [], ◌∷◌, length, drop, take, get_or, Option, Some, None, refl, sym, ◌∙◌, ap, subst, arith}
use Rattle.std.specs.List.{join_with_byte}
use Rattle.std.specs.Option.{option_and_then, option_map}
use Rattle.crgc_ids.specs.Actor.{Actor}
use Rattle.crgc_ids.specs.declared.limits.TheConstants.{MOST_ACTORS}
use Rattle.journal_model.specs.Fields.{actor_of, actor_of_parts, number_of, pieces}
use Rattle.event_lines.proofs.FieldsLaws.{decimal-free, none-from_each, number_of-some}
use Rattle.event_lines.proofs.PiecesLaws.{IsFreeOf, join-pieces, pieces-alone, pieces-first, pieces-last, pieces-some, take-rest}

-- the actor that two numbers name, where both are there
abbrev pub both : Option ℕ → Option ℕ → Option Actor
both node serial = option_and_then (λ n. option_map (λ s. record { node = n; serial = s }) serial) node

-- no number is spelled with a dot
number_of-dotted : (limit : ℕ) (w x y : List ℕ) (ws : List (List ℕ)) → limit ≤ 2 ^ 32 → pieces 46 w ≡ x ∷ y ∷ ws → number_of limit w ≡ None
number_of-dotted limit w x y ws small cut = none-from_each (number_of limit w) (λ n read.
    let s = number_of-some limit n w read in
    let one = pieces-alone 46 w (subst (IsFreeOf 46) s.1 (decimal-free 46 n (omega arith) (omega (arith, s.0)))) in
    let lengths = ap length (sym one ∙ cut) in
    omega (arith, lengths))

-- the parts after the node are one number, or else no actor's
parts-after : (v w : List ℕ) (ws : List (List ℕ)) → pieces 46 w ≡ ws → actor_of_parts (v ∷ ws) ≡ both (number_of 16 v) (number_of MOST_ACTORS w)
parts-after v w [] cut = let some = pieces-some 46 w in absurd cc
parts-after v w (x ∷ []) cut =
    let whole : x ≡ w = ap (join_with_byte 46) (sym cut) ∙ join-pieces 46 w in
    rw whole (alone (number_of 16 v) (number_of MOST_ACTORS w)) where
      alone : (node serial : Option ℕ) → option_and_then (λ n. option_and_then (λ s. Some (record { node = n; serial = s })) serial) node ≡ both node serial
      alone None serial = refl
      alone (Some n) None = refl
      alone (Some n) (Some s) = refl
parts-after v w (x ∷ y ∷ ws) cut = rw (number_of-dotted MOST_ACTORS w x y ws (omega arith) cut) (followed (number_of 16 v) (number_of MOST_ACTORS x)) where
  followed : (node serial : Option ℕ) → option_and_then (λ n. option_and_then (λ s. None) serial) node ≡ both node None
  followed None serial = refl
  followed (Some n) None = refl
  followed (Some n) (Some s) = refl

-- the two sides of the first dot, as they are sliced
pub actor_of-first_dot : (w : List ℕ) (dot : ℕ) → dot < length w → ((k : ℕ) → k < dot → get_or w k 0 ≢ 46) → get_or w dot 0 ≡ 46
    → actor_of w ≡ both (number_of 16 (take dot w)) (number_of MOST_ACTORS (take (length w - (dot + 1)) (drop (dot + 1) w)))
unfolding actor_of
actor_of-first_dot w dot lt before found =
    ap actor_of_parts (pieces-first 46 w dot lt before found)
    ∙ rw (take-rest (dot + 1) w, add-one) (parts-after (take dot w) (drop (suc dot) w) (pieces 46 (drop (suc dot) w)) refl)

-- without a dot there is no serial
pub actor_of-no_dot : (w : List ℕ) → ((k : ℕ) → k < length w → get_or w k 0 ≢ 46) → actor_of w ≡ None
unfolding actor_of
actor_of-no_dot w none = ap actor_of_parts (pieces-last 46 w none) ∙ no_serial (number_of 16 w) where
  no_serial : (node : Option ℕ) → both node None ≡ None
  no_serial None = refl
  no_serial (Some n) = refl
