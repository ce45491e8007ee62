-- What the words of a line say is what spells them.
use Rattle.std.proofs.Common.{◌≡◌, ◌<◌, ◌≤◌, ◌^◌, ◌+◌, ◌-◌, ◌*◌, ℕ, zero, suc, Bool, true, false, cond, ◌&&◌, List, [], ◌∷◌, ◌++◌, length, drop, take, get_or, ltb, Option, Some, None, refl, sym, ◌∙◌, ap, subst, arith}
use Rattle.std.proofs.lemmas.Bool.{lt-ltb, ltb-true}
use Rattle.std.proofs.lemmas.Fmt.{decimal_is_IsNumeral, first_decimal, decimal-digits_value, decimal_digit}
use Rattle.std.proofs.lemmas.Str.{digit_value_digit}
use Rattle.std.specs.Int.{IsInRange}
use Rattle.std.proofs.lemmas.Int.Digits.{digits_value_more}
use Rattle.std.proofs.lemmas.List.{take_more}
use Rattle.std.proofs.lemmas.Slice.Eq.{bytes_eq-Decides}
use Rattle.std.proofs.lemmas.Str.Parse.{digit_at, digit_from_value, digits_value-take-le, numerals_by_value, tells_digits}
use Rattle.std.proofs.lemmas.Option.{none-some, same_Some, option_and_then_some}
use Rattle.std.specs.Fmt.{decimal}
use Rattle.std.specs.List.{join_with_byte}
use Rattle.std.specs.Option.{IfNone, IfSome, option_map}
use Rattle.std.specs.Str.{bytes_eq}
use Rattle.std.specs.Str.Parse.{AllDigits, digits_value}
use Rattle.crgc_ids.specs.Actor.{Actor, IsActor}
use Rattle.journal_model.specs.Lines.{actor_word}
use Rattle.journal_model.specs.Fields.{actor_of, actor_of_parts, first_actor, first_number, number_of}
use Rattle.journal_model.specs.Fields.{nothing_left, pieces}
use Rattle.event_lines.proofs.PiecesLaws.{IsFreeOf, join-pieces, pieces-join}

-- a number below the limit is read from its spelling
pub number_of-decimal : (limit n : ℕ) → limit ≤ 2 ^ 32 → n < limit → number_of limit (decimal n) ≡ Some n
unfolding number_of
number_of-decimal limit n small h =
    let value : digits_value 10 (decimal n) ≡ n = (decimal_is_IsNumeral n (omega arith)).1 in
    let same : bytes_eq (decimal n) (decimal n) ≡ true = (bytes_eq-Decides (decimal n) (decimal n)).1 refl in
    rw value (rw (lt-ltb n limit h, same) refl)

tested : (a b : Bool) (x n : ℕ) → cond (a && b) (Some x) None ≡ Some n → (a ≡ true) × (b ≡ true) × (x ≡ n)
tested true true x n e = (refl, refl, same_Some x n e)
tested true false x n e = absurd (none-some n e)
tested false b x n e = absurd (none-some n e)

-- a number that is read is below the limit, and spelled so
pub number_of-some : (limit n : ℕ) (w : List ℕ) → number_of limit w ≡ Some n → (n < limit) × (decimal n ≡ w)
unfolding number_of
number_of-some limit n w e =
    let v = digits_value 10 w in
    let t = tested (ltb v limit) (bytes_eq (decimal v) w) v n e in
    let below = ltb-true v limit t.0 in
    let same = (bytes_eq-Decides (decimal v) w).0 t.1 in
    (omega (arith, t.2), ap decimal (sym t.2) ∙ same)

pub none-from_each : (o : Option ℕ) → ((n : ℕ) → o ≡ Some n → ⊥) → o ≡ None
none-from_each None h = refl
none-from_each (Some n) h = absurd (h n refl)

-- where no number below the limit is spelled so, none is read
pub number_of-none : (limit : ℕ) (w : List ℕ) → ((n : ℕ) → n < limit → decimal n ≡ w → ⊥) → number_of limit w ≡ None
number_of-none limit w h = none-from_each (number_of limit w) (λ n e. let s = number_of-some limit n w e in h n s.0 s.1)

-- digits are no other byte
digits-free : (c : ℕ) (ds : List ℕ) → c < 48 → AllDigits 10 ds → IsFreeOf c ds
digits-free c [] low d = tt
digits-free c (b ∷ ds) low d = ((λ e. omega (arith, digit_from_value b d.0)), digits-free c ds low d.1)

pub decimal-free : (c n : ℕ) → c < 48 → n < 2 ^ 32 → IsFreeOf c (decimal n)
decimal-free c n low small = digits-free c (decimal n) low (decimal_is_IsNumeral n (omega arith)).0.1

pub free-append : (c : ℕ) (v w : List ℕ) → IsFreeOf c v → IsFreeOf c w → IsFreeOf c (v ++ w)
free-append c [] w f g = g
free-append c (b ∷ v) w f g = (f.0, free-append c v w f.1 g)

-- an actor's word has digits and a dot alone
pub actor_word-free : (c : ℕ) → c < 46 → (a : Actor) → IsActor a → IsFreeOf c (actor_word a)
actor_word-free c low a name =
    free-append c (decimal a.node) (46 ∷ decimal a.serial) (decimal-free c a.node (omega arith) (omega (arith, name.0)))
    ((λ e. omega arith), decimal-free c a.serial (omega arith) (omega (arith, name.1)))

-- an actor is read from its spelling
pub actor_of-word : (a : Actor) → IsActor a → actor_of (actor_word a) ≡ Some a
unfolding actor_of
actor_of-word a name =
    let parts : pieces 46 (actor_word a) ≡ decimal a.node ∷ decimal a.serial ∷ [] =
    pieces-join 46 (decimal a.node) (decimal a.serial ∷ [])
    (decimal-free 46 a.node (omega arith) (omega (arith, name.0)), (decimal-free 46 a.serial (omega arith) (omega (arith, name.1)), tt)) in
    let node = number_of-decimal 16 a.node (omega arith) name.0 in
    let serial = number_of-decimal 262144 a.serial (omega arith) name.1 in
    rw parts (rw (node, serial) refl)

-- the number that the first word says, and the words after it
pub first_number-some : (limit n : ℕ) (ws : List (List ℕ)) → first_number limit ws ≡ Some n → (n < limit) × (ws ≡ decimal n ∷ drop 1 ws)
first_number-some limit n [] e = absurd (none-some n e)
first_number-some limit n (w ∷ ws) e = let s = number_of-some limit n w e in (s.0, ap (λ v. v ∷ ws) (sym s.1))

pub nothing_left-some : (ws : List (List ℕ)) (u : Unit {0}) → nothing_left ws ≡ Some u → ws ≡ []
nothing_left-some [] u e = refl
nothing_left-some (w ∷ ws) u e = absurd (none-some u e)

pub option_map-some : {A B : Type 0} (f : A → B) (o : Option A) (y : B) → option_map f o ≡ Some y → (x : A) × (o ≡ Some x) × (f x ≡ y)
option_map-some f None y e = absurd (none-some y e)
option_map-some f (Some x) y e = (x, refl, same_Some (f x) y e)

parts-some : (a : Actor) (ws : List (List ℕ)) → actor_of_parts ws ≡ Some a → IsActor a × (ws ≡ decimal a.node ∷ decimal a.serial ∷ [])
parts-some a ws e =
    option_and_then_some _ _ a e (λ n en e'. option_and_then_some _ _ a e' (λ s es em.
    let node = first_number-some 16 n ws en in
    let serial = first_number-some 262144 s (drop 1 ws) es in
    let end = option_map-some _ _ a em in
    let none = nothing_left-some (drop 1 (drop 1 ws)) end.0 end.1 in
    let b : Actor = record { node = n; serial = s } in
    let same : b ≡ a = end.2 in
    let spelled : ws ≡ decimal n ∷ decimal s ∷ [] = node.1 ∙ ap (λ l. decimal n ∷ l) (serial.1 ∙ ap (λ l. decimal s ∷ l) none) in
    subst (λ (x : Actor). IsActor x × (ws ≡ decimal x.node ∷ decimal x.serial ∷ [])) same ((node.0, serial.0), spelled)))

-- an actor that is read is spelled so
pub actor_of-some : (a : Actor) (w : List ℕ) → actor_of w ≡ Some a → IsActor a × (actor_word a ≡ w)
unfolding actor_of
actor_of-some a w e =
    let s = parts-some a (pieces 46 w) e in
    (s.0, ap (join_with_byte 46) (sym s.1) ∙ join-pieces 46 w)

-- the actor that the first word says, and the words after it
pub first_actor-some : (a : Actor) (ws : List (List ℕ)) → first_actor ws ≡ Some a → IsActor a × (ws ≡ actor_word a ∷ drop 1 ws)
first_actor-some a [] e = absurd (none-some a e)
first_actor-some a (w ∷ ws) e = let s = actor_of-some a w e in (s.0, ap (λ v. v ∷ ws) (sym s.1))

-- what a call that makes a value from a number in its range answers
pub new-some : (r : Option ℕ) (limit n : ℕ) → n < limit → IfSome r (λ x. x ≡ n) → IfNone r (limit ≤ n) → r ≡ Some n
new-some None limit n h some none = absurd (omega (arith, none))
new-some (Some x) limit n h some none = ap Some some

leading : (n : ℕ) (w : List ℕ) → n < 2 ^ 32 → decimal n ≡ w → get_or w 0 0 ≡ 48 → 1 < length w → ⊥
leading zero w small e first long = let one = ap length (sym e ∙ decimal_digit 0 (omega arith)) in omega arith
leading (suc n) w small e first long =
    let h = first_decimal (suc n) (omega arith) (omega arith) in
    omega (arith, subst (λ (l : List ℕ). 48 < get_or l 0 0) e h)

-- digits that are too many, too great or no digits at all
module _ (limit : ℕ) (w : List ℕ) (small : limit ≤ 2 ^ 32) where
  numeral : (n : ℕ) → n < limit → decimal n ≡ w → AllDigits 10 w × (0 < length w) × (digits_value 10 w ≡ n)
  numeral n h e =
      let d = decimal_is_IsNumeral n (omega arith) in
      (subst (AllDigits 10) e d.0.1, subst (λ (l : List ℕ). 0 < length l) e d.0.0, ap (digits_value 10) (sym e) ∙ d.1)

  pub number_of-empty : length w ≡ 0 → None ≡ number_of limit w
  number_of-empty h = sym (number_of-none limit w (λ n l e. omega (arith, (numeral n l e).1)))

  pub number_of-leading_zero : get_or w 0 0 ≡ 48 → 1 < length w → None ≡ number_of limit w
  number_of-leading_zero first long = sym (number_of-none limit w (λ n l e. leading n w (omega arith) e first long))

  pub number_of-no_digit : (i : ℕ) → i < length w → ¬ IsInRange 48 57 (get_or w i 0) → None ≡ number_of limit w
  number_of-no_digit i lt other = sym (number_of-none limit w (λ n l e. other (digit_at w i (numeral n l e).0 lt)))

  pub number_of-great : (i : ℕ) → limit ≤ digits_value 10 (take i w) → None ≡ number_of limit w
  number_of-great i great = sym (number_of-none limit w (λ n l e. omega (arith, (numeral n l e).2, digits_value-take-le 10 w i (omega arith))))

  pub number_of-digits : AllDigits 10 w → 0 < length w → (get_or w 0 0 ≡ 48 → length w ≡ 1) → digits_value 10 w < limit → Some (digits_value 10 w) ≡ number_of limit w
  number_of-digits digits some lead below =
      let spelled = decimal-digits_value (numerals_by_value (AllDigits 10) tells_digits) w digits some lead (omega arith) in
      sym (subst (λ (l : List ℕ). number_of limit l ≡ Some (digits_value 10 w)) spelled (number_of-decimal limit (digits_value 10 w) small below))

-- one digit more
pub AllDigits-push : (ds : List ℕ) (c : ℕ) → AllDigits 10 ds → IsInRange 48 57 c → AllDigits 10 (ds ++ c ∷ [])
AllDigits-push [] c d h = (omega (arith, digit_value_digit c h), tt)
AllDigits-push (b ∷ ds) c d h = (d.0, AllDigits-push ds c d.1 h)

-- the loop goes on: the digits read so far, and one more
pub record IsReadTo (limit : ℕ) (w : List ℕ) (i n : ℕ) : Type 0 where
  pub digits : AllDigits 10 (take i w)
  pub value : n ≡ digits_value 10 (take i w)
  pub small : n < limit

-- the value with one more digit
pub value-more : (limit : ℕ) (w : List ℕ) (i n : ℕ) → i < length w → IsReadTo limit w i n → IsInRange 48 57 (get_or w i 0) → n * 10 + (get_or w i 0 - 48) ≡ digits_value 10 (take (i + 1) w)
value-more limit w i n lt h digit = omega (arith, h.value, digits_value_more 10 w i lt, digit_value_digit (get_or w i 0) digit)

pub read-more : (limit : ℕ) (w : List ℕ) (i n : ℕ) → i < length w → IsReadTo limit w i n → IsInRange 48 57 (get_or w i 0) → n * 10 + (get_or w i 0 - 48) < limit → IsReadTo limit w (i + 1) (n * 10 + (get_or w i 0 - 48))
read-more limit w i n lt h digit below = record {
  digits = rw (take_more w i 0 lt) (AllDigits-push (take i w) (get_or w i 0) h.digits digit);
  value = value-more limit w i n lt h digit;
  small = below;
}
