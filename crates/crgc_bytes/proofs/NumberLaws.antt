-- Bytes follow from their number.
use Rattle.std.proofs.Common.{◌≡◌, ℕ, zero, suc, ◌+◌, ◌*◌, ◌^◌, ◌<◌, ◌≤◌, ◌/◌, List, [], ◌∷◌, ◌++◌, length, sym, ap, ◌∙◌, inl, inr, arith}
use Rattle.std.proofs.Math.Nat.{mod-lt, mul-le-mul_right}
use Rattle.std.proofs.lemmas.Bool.{cases_lt}
use Rattle.std.proofs.lemmas.List.{append-nil, nil_from_length}
use Rattle.std.specs.Int.{byte_at}
use Rattle.byteorder.specs.Endian.{big_bytes, big_from, big_number}
use Rattle.byteorder.specs.Numbers.{big_from-append, big_from-cons, big_from-lt, big_number-reads_back, length-bytes_high_first}
use Rattle.crgc_bytes.specs.Place.{IsBytes}

byte_at-lt : (k n : ℕ) → byte_at k n < 256
byte_at-lt zero n = mod-lt n (omega arith)
byte_at-lt (suc k) n = mod-lt (n / 256 ^ suc k) (omega arith)

-- the bytes of a number are bytes
pub IsBytes-big_bytes : (k n : ℕ) → IsBytes (big_bytes k n)
IsBytes-big_bytes zero n i = omega arith
IsBytes-big_bytes (suc k) n zero = byte_at-lt k n
IsBytes-big_bytes (suc k) n (suc i) = IsBytes-big_bytes k n i

-- of two numbers that are equal the highest bytes are
top_same : (x y m n p : ℕ) → m < p → n < p → x * p + m ≡ y * p + n → x ≡ y
top_same x y m n p h k e =
    elim (cases_lt x y) [
      | inl lt ↦ (let le : (x + 1) * p ≤ y * p = mul-le-mul_right p (omega arith) in absurd (omega arith))
      | inr ge ↦ elim (cases_lt y x) [
        | inl lt ↦ (let le : (y + 1) * p ≤ x * p = mul-le-mul_right p (omega arith) in absurd (omega arith))
        | inr le ↦ omega arith
      ]
    ]

-- bytes of one length and one number are the same
pub big_number-injective : (k : ℕ) (xs ys : List ℕ) → length xs ≡ k → length ys ≡ k → IsBytes xs → IsBytes ys → big_number k xs ≡ big_number k ys → xs ≡ ys
big_number-injective zero xs ys p q h g e = nil_from_length xs p ∙ sym (nil_from_length ys q)
big_number-injective (suc k) [] ys p q h g e = absurd (omega arith)
big_number-injective (suc k) (x ∷ xs) [] p q h g e = absurd (omega arith)
big_number-injective (suc k) (x ∷ xs) (y ∷ ys) p q h g e =
    let below_x = big_from-lt 0 k xs (λ i. h (suc i)) in
    let below_y = big_from-lt 0 k ys (λ i. g (suc i)) in
    let moved : x * 256 ^ k + big_from 0 k xs ≡ y * 256 ^ k + big_from 0 k ys =
    ap (λ n. x * 256 ^ k + n) (sym (big_from-cons 0 k x xs)) ∙ e ∙ ap (λ n. y * 256 ^ k + n) (big_from-cons 0 k y ys) in
    let first = top_same x y (big_from 0 k xs) (big_from 0 k ys) (256 ^ k) below_x below_y moved in
    let others : big_from 0 k xs ≡ big_from 0 k ys = (let top = ap (λ n. n * 256 ^ k) first in omega arith) in
    ap (λ n. n ∷ xs) first ∙ ap (λ zs. y ∷ zs) (big_number-injective k xs ys (omega arith) (omega arith) (λ i. h (suc i)) (λ i. g (suc i)) (omega arith))

-- the first k bytes are the bytes of their number
pub big_bytes-big_number : (k : ℕ) (xs rest : List ℕ) → length xs ≡ k → IsBytes xs → big_bytes k (big_number k (xs ++ rest)) ≡ xs
big_bytes-big_number k xs rest p h =
    let n = big_number k xs in
    let front : big_number k (xs ++ rest) ≡ n = big_from-append k xs rest (omega arith) in
    let back : big_number k (big_bytes k n) ≡ n = ap (big_number k) (sym (append-nil (big_bytes k n))) ∙ big_number-reads_back k n [] (big_from-lt 0 k xs h) in
    ap (big_bytes k) front ∙ big_number-injective k (big_bytes k n) xs (length-bytes_high_first k n) p (IsBytes-big_bytes k n) h back
