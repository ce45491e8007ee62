-- Cutting bytes at a separator undoes joining pieces by it.
use Rattle.std.proofs.Common.{◌≡◌, ◌<◌, ◌≢◌, ℕ, zero, suc, ◌+◌, ◌-◌, Bool, true, false, cond, None, add-one, List, [], ◌∷◌, ◌++◌, length, length-drop, take, drop, get_or, eqb, refl, sym, ◌∙◌, ap, arith}
use Rattle.std.proofs.lemmas.Bool.{eq-eqb, ne_eqb}
use Rattle.std.proofs.lemmas.List.{take_all}
use Rattle.std.proofs.lemmas.List.Splits.{slice_split-cons_yes, slice_split-cons_no, join_with_byte-slice_split}
use Rattle.std.specs.List.{AllByRecursion, join_with_byte, onto_first}
use Rattle.journal_model.specs.Fields.{nothing_left, pieces}
use Rattle.event_lines.specs.Pieces.{pieces_left}

-- no byte of the piece is the separator
abbrev pub IsFreeOf : ℕ → List ℕ → Type 0
IsFreeOf c w = AllByRecursion (λ b. b ≢ c) w

onto_first-some : (b : ℕ) (ws : List (List ℕ)) → (x : List ℕ) × (xs : List (List ℕ)) × (onto_first b ws ≡ x ∷ xs)
onto_first-some b [] = (b ∷ [], [], refl)
onto_first-some b (w ∷ ws) = (b ∷ w, ws, refl)

-- there is at least one piece
pub pieces-some : (c : ℕ) (bs : List ℕ) → (x : List ℕ) × (xs : List (List ℕ)) × (pieces c bs ≡ x ∷ xs)
unfolding pieces
pieces-some c [] = ([], [], refl)
pieces-some c (b ∷ bs) =
    let some = onto_first-some b (pieces c bs) in
    elim (eqb b c) as (λ v. (x : List ℕ) × (xs : List (List ℕ)) × (cond v ([] ∷ pieces c bs) (onto_first b (pieces c bs)) ≡ x ∷ xs)) [
      | true ↦ ([], pieces c bs, refl)
      | false ↦ some
    ]

pieces-cons_yes : (c : ℕ) (bs : List ℕ) (b : ℕ) → b ≡ c → pieces c (b ∷ bs) ≡ [] ∷ pieces c bs
unfolding pieces
pieces-cons_yes c bs b e = slice_split-cons_yes (λ x. eqb x c) b bs (eq-eqb b c e)

pieces-cons_no : (c : ℕ) (bs : List ℕ) (b : ℕ) → b ≢ c → pieces c (b ∷ bs) ≡ onto_first b (pieces c bs)
unfolding pieces
pieces-cons_no c bs b e = slice_split-cons_no (λ x. eqb x c) b bs (ne_eqb b c e)

-- the first piece ends at the first separator
pub pieces-first : (c : ℕ) (bs : List ℕ) (i : ℕ) → i < length bs → ((k : ℕ) → k < i → get_or bs k 0 ≢ c) → get_or bs i 0 ≡ c → pieces c bs ≡ take i bs ∷ pieces c (drop (suc i) bs)
pieces-first c [] i lt before here = absurd (omega arith)
pieces-first c (b ∷ bs) zero lt before here = pieces-cons_yes c bs b here
pieces-first c (b ∷ bs) (suc i) lt before here =
    pieces-cons_no c bs b (before 0 (omega arith))
    ∙ ap (onto_first b) (pieces-first c bs i (omega arith) (λ k h. before (suc k) (omega arith)) here)

pieces-nil : (c : ℕ) → pieces c [] ≡ [] ∷ []
unfolding pieces
pieces-nil c = refl

-- bytes without separator are one piece
pub pieces-alone : (c : ℕ) (w : List ℕ) → IsFreeOf c w → pieces c w ≡ w ∷ []
pieces-alone c [] free = pieces-nil c
pieces-alone c (b ∷ bs) free = pieces-cons_no c bs b free.0 ∙ ap (onto_first b) (pieces-alone c bs free.1)

-- and they are the first piece of what begins with them and a separator
pieces-append : (c : ℕ) (w bs : List ℕ) → IsFreeOf c w → pieces c (w ++ c ∷ bs) ≡ w ∷ pieces c bs
pieces-append c [] bs free = pieces-cons_yes c bs c refl
pieces-append c (b ∷ w) bs free = pieces-cons_no c (w ++ c ∷ bs) b free.0 ∙ ap (onto_first b) (pieces-append c w bs free.1)

-- the pieces of some pieces joined by the separator
pub pieces-join : (c : ℕ) (w : List ℕ) (ws : List (List ℕ)) → AllByRecursion (IsFreeOf c) (w ∷ ws) → pieces c (join_with_byte c (w ∷ ws)) ≡ w ∷ ws
pieces-join c w [] free = pieces-alone c w free.0
pieces-join c w (x ∷ ws) free =
    pieces-append c w (join_with_byte c (x ∷ ws)) free.0 ∙ ap (λ l. w ∷ l) (pieces-join c x ws free.1)

-- the pieces joined again
pub join-pieces : (c : ℕ) (bs : List ℕ) → join_with_byte c (pieces c bs) ≡ bs
unfolding pieces
join-pieces c bs = join_with_byte-slice_split c bs

free-from_index : (c : ℕ) (w : List ℕ) → ((k : ℕ) → k < length w → get_or w k 0 ≢ c) → IsFreeOf c w
free-from_index c [] h = tt
free-from_index c (b ∷ w) h = (h 0 (omega arith), free-from_index c w (λ k l. h (suc k) (omega arith)))

-- where no byte is the separator, all bytes are the last piece
pub pieces-last : (c : ℕ) (bs : List ℕ) → ((k : ℕ) → k < length bs → get_or bs k 0 ≢ c) → pieces c bs ≡ bs ∷ []
pieces-last c bs h = pieces-alone c bs (free-from_index c bs h)

-- what is left while the last piece was not taken
pub left-open : (over : Bool) (c : ℕ) (bs : List ℕ) (ws : List (List ℕ)) → over ≡ false → pieces_left over c bs ≡ ws → pieces c bs ≡ ws
left-open true c bs ws e h = absurd cc
left-open false c bs ws e h = h

-- then something is left
pub left-some : (over : Bool) (c : ℕ) (bs : List ℕ) (ws : List (List ℕ)) → over ≡ false → pieces_left over c bs ≡ ws → None ≡ nothing_left ws
left-some over c bs ws e h =
    let some = pieces-some c bs in
    let same : ws ≡ some.0 ∷ some.1 = sym (left-open over c bs ws e h) ∙ some.2 in
    rw same refl

-- what was left, where a separator is found
pub left-first : (over : Bool) (c : ℕ) (bs : List ℕ) (ws : List (List ℕ)) (end : ℕ) → over ≡ false → pieces_left over c bs ≡ ws → end < length bs → ((k : ℕ) → k < end → get_or bs k 0 ≢ c) → get_or bs end 0 ≡ c → ws ≡ take end bs ∷ pieces_left over c (drop (end + 1) bs)
left-first true c bs ws end e h lt before found = absurd cc
left-first false c bs ws end e h lt before found = sym h ∙ rw add-one (pieces-first c bs end lt before found)

-- what was left, where none is found
pub left-last : (over : Bool) (c : ℕ) (bs : List ℕ) (ws : List (List ℕ)) → over ≡ false → pieces_left over c bs ≡ ws → ((k : ℕ) → k < length bs → get_or bs k 0 ≢ c) → ws ≡ bs ∷ []
left-last over c bs ws e h none = sym (left-open over c bs ws e h) ∙ pieces-last c bs none

-- the rest of the bytes, as long as it is
pub take-rest : (k : ℕ) (bs : List ℕ) → take (length bs - k) (drop k bs) ≡ drop k bs
take-rest k bs = take_all (length bs - k) (drop k bs) (omega (arith, length-drop k bs))
