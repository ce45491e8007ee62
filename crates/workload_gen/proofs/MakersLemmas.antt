-- Makers made one by one.
use Rattle.std.proofs.Common.{◌≡◌, ◌<◌, ◌≤◌, ◌+◌, ◌-◌, ◌++◌, ℕ, suc, List, [], ◌∷◌, length, drop, get_or, flat_map, refl, sym, ◌∙◌, ap, add-one, arith}
use Rattle.std.proofs.lemmas.List.{append-nil, append_assoc}
use Rattle.std.proofs.Math.Seq.{drop-cons}
use Rattle.workload_gen.specs.declared.makers.Maker.{Maker}
use Rattle.workload_gen.specs.Texts.{seed_text}
use Rattle.workload_gen.specs.Makers.{maker_of, makers, makers_from, number_after}

-- the next maker joins those that are made
pub goes_on : (made all : List Maker) (j x size : ℕ) → j < 16 → made ++ makers_from (16 - j) j x size ≡ all
    → (made ++ maker_of (number_after x) size j ∷ []) ++ makers_from (16 - (j + 1)) (j + 1) (number_after x) size ≡ all
unfolding makers_from
goes_on made all j x size h before =
    let left : 16 - j ≡ suc (16 - (j + 1)) = omega arith in
    append_assoc made (maker_of (number_after x) size j ∷ []) (makers_from (16 - (j + 1)) (j + 1) (number_after x) size)
    ∙ (rw left at before)

-- the last one is made
pub is_done : (made all : List Maker) (j x size : ℕ) → 16 ≤ j → made ++ makers_from (16 - j) j x size ≡ all → made ≡ all
unfolding makers_from
is_done made all j x size h before =
    let left : 16 - j ≡ 0 = omega arith in
    sym (append-nil made) ∙ (rw left at before)

-- none is made at first
pub begins : (x size : ℕ) → [] ++ makers_from (16 - 0) 0 x size ≡ makers x size
unfolding makers
begins x size = refl

-- there are 16
pub length-makers : (x size : ℕ) → length (makers x size) ≡ 16
unfolding makers makers_from
length-makers x size = refl

-- one more seed is written
pub seed_written : (old new total : List ℕ) (ms : List Maker) (i : ℕ) (d : Maker) → i < length ms → old ++ flat_map seed_text (drop i ms) ≡ total
    → new ≡ old ++ seed_text (get_or ms i d) → new ++ flat_map seed_text (drop (i + 1) ms) ≡ total
seed_written old new total ms i d h before is =
    let e : drop i ms ≡ get_or ms i d ∷ drop (i + 1) ms = rw add-one (drop-cons ms i d h) in
    ap (λ t. t ++ flat_map seed_text (drop (i + 1) ms)) is
    ∙ append_assoc old (seed_text (get_or ms i d)) (flat_map seed_text (drop (i + 1) ms))
    ∙ ap (λ ds. old ++ flat_map seed_text ds) (sym e) ∙ before
