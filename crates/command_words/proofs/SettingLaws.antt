-- The setting with which words begin, and the words that spell it.
use Rattle.std.proofs.Common.{Bor, ◌≡◌, ◌≢◌, ◌<◌, ◌≤◌, ◌^◌, ◌⊎◌, inl, inr, ℕ, suc, Bool, true, false, cond, List, [], ◌∷◌, ◌++◌, length, get_or, nat_eq, Option, Some, None, refl, sym, ◌∙◌, ap, subst, arith}
use Rattle.std.proofs.lemmas.Bool.{eqb-true}
use Rattle.std.proofs.lemmas.Option.{none-some, same_Some, some_pair_parts}
use Rattle.std.proofs.lemmas.Slice.Eq.{bytes_eq-Decides}
use Rattle.std.specs.Fmt.{decimal}
use Rattle.std.specs.Option.{MatchOption, option_map}
use Rattle.std.specs.Prelude.{codes}
use Rattle.std.specs.Str.{bytes_eq}
use Rattle.command_words.specs.declared.setting.Setting.{Setting}
use Rattle.command_words.specs.declared.setting.Setting.TheVariants.{Brief, Workers, Seed, Size}
use Rattle.command_words.specs.declared.setting.TheConstants.{MOST_WORKERS, GREATEST_SIZE}
use Rattle.command_words.specs.Commands.{IsSetting}
use Rattle.command_words.specs.Reading.{by_sign, cut_at_sign, first_setting, number_of, setting_of, with_next}
use Rattle.command_words.proofs.NumberLaws.{number_of-decimal, number_of-some}

pub option_map-some : {A B : Type 0} (f : A → B) (o : Option A) (y : B) → option_map f o ≡ Some y → (x : A) × (o ≡ Some x) × (f x ≡ y)
option_map-some f None y e = absurd (none-some y e)
option_map-some f (Some x) y e = (x, refl, same_Some (f x) y e)

-- ---- the option with this name and value says the setting

abbrev pub IsValued : Setting → List ℕ → List ℕ → Type 0
IsValued Brief name value = ⊥
IsValued (Workers n) name value = (n ≤ MOST_WORKERS) × (name ≡ codes "--workers") × (value ≡ decimal n)
IsValued (Seed n) name value = (n < 2 ^ 64) × (name ≡ codes "--seed") × (value ≡ decimal n)
IsValued (Size n) name value = (1 ≤ n) × (n ≤ GREATEST_SIZE) × (name ≡ codes "--size") × (value ≡ decimal n)

workers-some : (name value : List ℕ) (s : Setting) → name ≡ codes "--workers" → option_map Workers (number_of 0 MOST_WORKERS value) ≡ Some s → IsValued s name value
workers-some name value s named e =
    let m = option_map-some Workers (number_of 0 MOST_WORKERS value) s e in
    let n = number_of-some 0 MOST_WORKERS m.0 value m.1 in
    subst (λ t. IsValued t name value) m.2 (n.1, named, sym n.2)

seed-some : (name value : List ℕ) (s : Setting) → name ≡ codes "--seed" → option_map Seed (number_of 0 18446744073709551615 value) ≡ Some s → IsValued s name value
seed-some name value s named e =
    let m = option_map-some Seed (number_of 0 18446744073709551615 value) s e in
    let n = number_of-some 0 18446744073709551615 m.0 value m.1 in
    let small : m.0 < 2 ^ 64 = omega (arith, n.1) in
    subst (λ t. IsValued t name value) m.2 (small, named, sym n.2)

size-some : (name value : List ℕ) (s : Setting) → name ≡ codes "--size" → option_map Size (number_of 1 GREATEST_SIZE value) ≡ Some s → IsValued s name value
size-some name value s named e =
    let m = option_map-some Size (number_of 1 GREATEST_SIZE value) s e in
    let n = number_of-some 1 GREATEST_SIZE m.0 value m.1 in
    subst (λ t. IsValued t name value) m.2 (n.0, n.1, named, sym n.2)

-- a choice by whether a name is this text
pub by_name : {A : Type 0} (P : Type 0) (name text : List ℕ) (x y : Option A) (z : A) → (name ≡ text → x ≡ Some z → P) → (y ≡ Some z → P) → cond (bytes_eq name text) x y ≡ Some z → P
by_name P name text x y z h k e = by_test P (bytes_eq name text) name text x y z (bytes_eq-Decides name text).0 h k e where
  by_test : {A : Type 0} (P : Type 0) (t : Bool) (name text : List ℕ) (x y : Option A) (z : A) → (t ≡ true → name ≡ text) → (name ≡ text → x ≡ Some z → P) → (y ≡ Some z → P) → cond t x y ≡ Some z → P
  by_test P true name text x y z same h k e = h (same refl) e
  by_test P false name text x y z same h k e = k e

pub setting_of-some : (name value : List ℕ) (s : Setting) → setting_of name value ≡ Some s → IsValued s name value
unfolding setting_of
setting_of-some name value s e =
    by_name (IsValued s name value) name (codes "--workers") _ _ s (workers-some name value s)
    (by_name (IsValued s name value) name (codes "--seed") _ _ s (seed-some name value s)
    (by_name (IsValued s name value) name (codes "--size") _ None s (size-some name value s) (λ n. absurd (none-some s n)))) e

pub setting_of-valued : (name value : List ℕ) (s : Setting) → IsValued s name value → setting_of name value ≡ Some s
unfolding setting_of
setting_of-valued name value Brief v = absurd v
setting_of-valued name value (Workers n) v = rw (v.1, v.2) (ap (option_map Workers) (number_of-decimal 0 MOST_WORKERS n (omega arith) (omega arith) v.0))
setting_of-valued name value (Seed n) v = rw (v.1, v.2) (ap (option_map Seed) (number_of-decimal 0 18446744073709551615 n v.0 (omega arith) (omega (arith, v.0))))
setting_of-valued name value (Size n) v = rw (v.2, v.3) (ap (option_map Size) (number_of-decimal 1 GREATEST_SIZE n (omega arith) v.0 v.1))

-- it is spelled as two words or as one
pub valued-two : (name value : List ℕ) (s : Setting) → IsValued s name value → IsSetting s (name ∷ value ∷ [])
valued-two name value Brief v = absurd v
valued-two name value (Workers n) v = (v.0, inl (ap (λ x. x ∷ value ∷ []) v.1 ∙ ap (λ x. codes "--workers" ∷ x ∷ []) v.2))
valued-two name value (Seed n) v = (v.0, inl (ap (λ x. x ∷ value ∷ []) v.1 ∙ ap (λ x. codes "--seed" ∷ x ∷ []) v.2))
valued-two name value (Size n) v = (v.0, v.1, inl (ap (λ x. x ∷ value ∷ []) v.2 ∙ ap (λ x. codes "--size" ∷ x ∷ []) v.3))

pub valued-one : (name value : List ℕ) (s : Setting) → IsValued s name value → IsSetting s ((name ++ 61 ∷ value) ∷ [])
valued-one name value Brief v = absurd v
valued-one name value (Workers n) v = (v.0, inr (ap (λ x. (x ++ 61 ∷ value) ∷ []) v.1 ∙ ap (λ x. (codes "--workers" ++ 61 ∷ x) ∷ []) v.2))
valued-one name value (Seed n) v = (v.0, inr (ap (λ x. (x ++ 61 ∷ value) ∷ []) v.1 ∙ ap (λ x. (codes "--seed" ++ 61 ∷ x) ∷ []) v.2))
valued-one name value (Size n) v = (v.0, v.1, inr (ap (λ x. (x ++ 61 ∷ value) ∷ []) v.2 ∙ ap (λ x. (codes "--size" ++ 61 ∷ x) ∷ []) v.3))

-- ---- the equals sign

cut-step : (b : ℕ) (bs : List ℕ) (is : Bool) (o : Option (List ℕ × List ℕ)) (x y : List ℕ) → (is ≡ true → b ≡ 61) → ((p : List ℕ × List ℕ) → o ≡ Some p → bs ≡ p.0 ++ 61 ∷ p.1)
    → cond {A = Option (List ℕ × List ℕ)} is (Some ([], bs)) (option_map (λ (p : List ℕ × List ℕ). (b ∷ p.0, p.1)) o) ≡ Some (x, y) → b ∷ bs ≡ x ++ 61 ∷ y
cut-step b bs true o x y same deeper e =
    let parts = some_pair_parts [] x bs y e in
    ap (λ k. k ∷ bs) (same refl) ∙ ap (λ r. 61 ∷ r) parts.1 ∙ ap (λ l. l ++ 61 ∷ y) parts.0
cut-step b bs false None x y same deeper e = absurd (none-some (x, y) e)
cut-step b bs false (Some p) x y same deeper e =
    let parts = some_pair_parts (b ∷ p.0) x p.1 y e in
    ap (λ l. b ∷ l) (deeper p refl) ∙ ap (λ r. b ∷ (p.0 ++ 61 ∷ r)) parts.1 ∙ ap (λ l. l ++ 61 ∷ y) parts.0

-- a word that is cut has an equals sign between the two texts
pub cut-some : (w x y : List ℕ) → cut_at_sign w ≡ Some (x, y) → w ≡ x ++ 61 ∷ y
cut-some [] x y e = absurd (none-some (x, y) e)
cut-some (b ∷ bs) x y e = cut-step b bs (nat_eq b 61) (cut_at_sign bs) x y (λ t. eqb-true b 61 t) (λ p q. cut-some bs p.0 p.1 q) e

false-unless : (t : Bool) → (t ≡ true → ⊥) → t ≡ false
false-unless false h = refl
false-unless true h = absurd (h refl)

other : (b : ℕ) (bs : List ℕ) → ((i : ℕ) → i < length (b ∷ bs) → get_or (b ∷ bs) i 0 ≢ 61) → nat_eq b 61 ≡ false
other b bs h = false-unless (nat_eq b 61) (λ t. h 0 (omega arith) (eqb-true b 61 t))

later : (b : ℕ) (bs : List ℕ) → ((i : ℕ) → i < length (b ∷ bs) → get_or (b ∷ bs) i 0 ≢ 61) → (i : ℕ) → i < length bs → get_or bs i 0 ≢ 61
later b bs h i lt = h (suc i) (omega arith)

-- a word without an equals sign is not cut; one is cut at its first
pub cut-none : (w : List ℕ) → ((i : ℕ) → i < length w → get_or w i 0 ≢ 61) → cut_at_sign w ≡ None
cut-none [] h = refl
cut-none (b ∷ bs) h = rw (other b bs h, cut-none bs (later b bs h)) refl

pub cut-first : (x y : List ℕ) → ((i : ℕ) → i < length x → get_or x i 0 ≢ 61) → cut_at_sign (x ++ 61 ∷ y) ≡ Some (x, y)
cut-first [] y h = refl
cut-first (b ∷ bs) y h = rw (other b bs h, cut-first bs y (later b bs h)) refl

-- what splitting at the first equals sign answers
pub cut-of_parts : (w : List ℕ) (r : Option (Bor (List ℕ) × Bor (List ℕ))) → MatchOption r ((i : ℕ) → i < length w → get_or w i 0 ≢ 61) (λ p. (w ≡ p.0.now ++ 61 ∷ p.1.now) × ((i : ℕ) → i < length p.0.now → get_or p.0.now i 0 ≢ 61))
    → MatchOption r (cut_at_sign w ≡ None) (λ p. cut_at_sign w ≡ Some (p.0.now, p.1.now))
cut-of_parts w None h = cut-none w h
cut-of_parts w (Some p) h = ap cut_at_sign h.0 ∙ cut-first p.0.now p.1.now h.1

-- ---- the first setting

-- the words begin with those of the setting
abbrev pub Begins : List (List ℕ) → Setting → List (List ℕ) → Type 0
Begins words s rest = (first : List (List ℕ)) × (words ≡ first ++ rest) × IsSetting s first

with_next-some : (word : List ℕ) (rest : List (List ℕ)) (s : Setting) (r : List (List ℕ)) → with_next word rest ≡ Some (s, r) → Begins (word ∷ rest) s r
with_next-some word [] s r e = absurd (none-some (s, r) e)
with_next-some word (value ∷ rest) s r e =
    let m = option_map-some _ (setting_of word value) (s, r) e in
    let parts = some_pair_parts m.0 s rest r (ap Some m.2) in
    (word ∷ value ∷ [], ap (λ l. word ∷ value ∷ l) parts.1, valued-two word value s (subst (λ t. IsValued t word value) parts.0 (setting_of-some word value m.0 m.1)))

by_sign-some : (o : Option (List ℕ × List ℕ)) (word : List ℕ) (rest : List (List ℕ)) (s : Setting) (r : List (List ℕ)) → cut_at_sign word ≡ o → by_sign o word rest ≡ Some (s, r) → Begins (word ∷ rest) s r
by_sign-some (Some p) word rest s r cut e =
    let m = option_map-some _ (setting_of p.0 p.1) (s, r) e in
    let parts = some_pair_parts m.0 s rest r (ap Some m.2) in
    let whole = cut-some word p.0 p.1 cut in (
      (p.0 ++ 61 ∷ p.1) ∷ [],
      ap (λ w. w ∷ rest) whole ∙ ap (λ l. (p.0 ++ 61 ∷ p.1) ∷ l) parts.1,
      valued-one p.0 p.1 s (subst (λ t. IsValued t p.0 p.1) parts.0 (setting_of-some p.0 p.1 m.0 m.1)),
    )
by_sign-some None word rest s r cut e =
    by_name (Begins (word ∷ rest) s r) word (codes "--brief") (Some (Brief, rest)) (with_next word rest) (s, r)
    (λ same q. let parts = some_pair_parts Brief s rest r q in
    (word ∷ [], ap (λ l. word ∷ l) parts.1, subst (λ t. IsSetting t (word ∷ [])) parts.0 (ap (λ w. w ∷ []) same)))
    (with_next-some word rest s r) e

-- what is read is spelled by the words before the rest
pub first_setting-some : (words : List (List ℕ)) (s : Setting) (r : List (List ℕ)) → first_setting words ≡ Some (s, r) → Begins words s r
unfolding first_setting
first_setting-some [] s r e = absurd (none-some (s, r) e)
first_setting-some (word ∷ rest) s r e = by_sign-some (cut_at_sign word) word rest s r refl e

named-first : (name value : List ℕ) (s : Setting) (first r : List (List ℕ)) → IsValued s name value → cut_at_sign name ≡ None → bytes_eq name (codes "--brief") ≡ false
    → cut_at_sign (name ++ 61 ∷ value) ≡ Some (name, value)
    → (first ≡ name ∷ value ∷ []) ⊎ (first ≡ (name ++ 61 ∷ value) ∷ []) → first_setting (first ++ r) ≡ Some (s, r)
unfolding first_setting
named-first name value s first r v cut other whole (inl e) = rw (e, cut, other, setting_of-valued name value s v) refl
named-first name value s first r v cut other whole (inr e) = rw (e, whole, setting_of-valued name value s v) refl

-- the words of a setting are read as it
pub first_setting-spelled : (s : Setting) (first r : List (List ℕ)) → IsSetting s first → first_setting (first ++ r) ≡ Some (s, r)
unfolding first_setting
first_setting-spelled Brief first r h = rw h refl
first_setting-spelled (Workers n) first r h = named-first (codes "--workers") (decimal n) (Workers n) first r (h.0, refl, refl) refl refl refl h.1
first_setting-spelled (Seed n) first r h = named-first (codes "--seed") (decimal n) (Seed n) first r (h.0, refl, refl) refl refl refl h.1
first_setting-spelled (Size n) first r h = named-first (codes "--size") (decimal n) (Size n) first r (h.0, h.1, refl, refl) refl refl refl h.2
