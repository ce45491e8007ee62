-- What copying the front of the rest of a list does to what was given and to what is left.
use Rattle.std.proofs.Common.{◌≡◌, ℕ, ◌+◌, ◌-◌, ◌<◌, ◌≤◌, List, [], ◌++◌, min, arith, length, take, drop}
use Rattle.std.proofs.Common.{take-append-drop, drop_of_length-le, sym, ap, ◌∙◌}
use Rattle.std.proofs.lemmas.List.{take_rest, drop-drop}
use Rattle.std.proofs.Math.Seq.{take-add}

-- what was left is the bytes copied, and then what is left
pub left_after_copy : (place n : ℕ) (items new : List ℕ) → take n new ≡ take n (drop place items)
    → drop place items ≡ take n new ++ drop (place + n) items
left_after_copy place n items new front =
    sym (take-append-drop n (drop place items)) ∙ ap (λ bs. bs ++ drop n (drop place items)) (sym front)
    ∙ ap (λ bs. take n new ++ bs) (drop-drop n place items)

-- what is given is what was given, and then the bytes copied
pub given_after_copy : (place n : ℕ) (items new : List ℕ) → take n new ≡ take n (drop place items)
    → take (place + n) items ≡ take place items ++ take n new
given_after_copy place n items new front =
    take-add place n items ∙ ap (λ bs. take place items ++ bs) (sym front)

-- where nothing was copied into a buffer with room, nothing is left
pub none_after_copy : (place n room most : ℕ) (items : List ℕ)
    → n ≡ min (min (length (take (length items - place) (drop place items))) room) most
    → 0 < most → n ≡ 0 → 0 < room → drop (place + n) items ≡ []
none_after_copy place n room most items count positive none roomy =
    let size = ap length (take_rest items place) in
    let empty : length (drop place items) ≤ n = omega arith in
    sym (drop-drop n place items) ∙ drop_of_length-le (drop place items) empty
