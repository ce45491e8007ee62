-- Words written one after the other.
use Rattle.std.proofs.Common.{◌≡◌, ◌≤◌, ℕ, zero, suc, List, [], ◌∷◌, ◌++◌, length, length-append, append_assoc, append-nil, take, Result, Ok, Err, refl, sym, ◌∙◌, ap, arith}
use Rattle.std.proofs.lemmas.List.{take_all, take-append-le}
use Rattle.std.proofs.lemmas.Grind.{flat_map-append}
use Rattle.std.specs.List.{join_with_byte}
use Rattle.std.specs.Result.{OnErr, OnOk}
use Rattle.event_lines.specs.Words.{BeginsWith, spaced}

-- what begins with more begins with less
pub begins-append : (old mid bs new : List ℕ) → mid ≡ old ++ bs → BeginsWith mid new → BeginsWith old new
begins-append old mid bs new e h =
    let short : length old ≤ length mid = omega (arith, ap length e, length-append old bs) in
    let front : take (length old) mid ≡ old = rw e (take-append-le (length old) old bs (omega arith) ∙ take_all (length old) old (omega arith)) in
    sym (take-front (length old) (length mid) new short) ∙ ap (take (length old)) h ∙ front where
      take-front : (m n : ℕ) (xs : List ℕ) → m ≤ n → take m (take n xs) ≡ take m xs
      take-front zero n xs l = refl
      take-front (suc m) zero xs l = absurd (omega arith)
      take-front (suc m) (suc n) [] l = refl
      take-front (suc m) (suc n) (x ∷ xs) l = ap (λ t. x ∷ t) (take-front m n xs (omega arith))

-- a line is its first word, and then each word after a space
pub spell-spaced : (w : List ℕ) (ws : List (List ℕ)) → join_with_byte 32 (w ∷ ws) ≡ w ++ spaced ws
spell-spaced w [] = sym (append-nil w)
spell-spaced w (x ∷ ws) = ap (λ l. w ++ 32 ∷ l) (spell-spaced x ws)

-- a line is written by its first word, the others, and a line feed
pub line-written : (old name : List ℕ) (words actors : List (List ℕ)) (a b c : List ℕ) → a ≡ old ++ name → b ≡ a ++ spaced words → c ≡ b ++ spaced actors → c ++ 10 ∷ [] ≡ old ++ (join_with_byte 32 (name ∷ (words ++ actors)) ++ 10 ∷ [])
line-written old name words actors a b c ea eb ec =
    rw (ec, eb, ea, spell-spaced name (words ++ actors), flat_map-append (λ w. 32 ∷ w) words actors) (simp append_assoc)

pub OnErr-any : {T E : Type 0} (r : Result T E) (P : Type 0) → P → OnErr r P
OnErr-any (Ok x) P h = tt
OnErr-any (Err e) P h = h

pub OnOk-weaker : {T E : Type 0} (r : Result T E) (P Q : Type 0) → OnOk r P → (P → Q) → OnOk r Q
OnOk-weaker (Ok x) P Q h f = f h
OnOk-weaker (Err e) P Q h f = tt

-- a line whose words have another first word among them
pub labelled-written : (old name m label : List ℕ) (words others : List (List ℕ)) (a b c d e : List ℕ) → a ≡ old ++ name → b ≡ a ++ 32 ∷ m → c ≡ b ++ spaced words → d ≡ c ++ 32 ∷ label → e ≡ d ++ spaced others → e ++ 10 ∷ [] ≡ old ++ (join_with_byte 32 (name ∷ m ∷ (words ++ label ∷ others)) ++ 10 ∷ [])
labelled-written old name m label words others a b c d e ea eb ec ed ee =
    rw (ee, ed, ec, eb, ea, spell-spaced name (m ∷ (words ++ label ∷ others)), flat_map-append (λ w. 32 ∷ w) words (label ∷ others)) (simp append_assoc)
