-- What a change of one node's rows is in the table.
use Rattle.std.proofs.Common.{◌≡◌, ◌≢◌, ◌+◌, ◌-◌, ◌≤◌, ◌<◌, ◌==◌, ℕ, zero, suc, Bool, true, false, if◌then◌else◌, List, [], ◌∷◌, ◌++◌, get_or, length, length-set, set, slice_get, take, Option, Some, None, refl, sym, ◌∙◌, ap, subst, inl, inr, arith}
use Rattle.std.proofs.lemmas.Bool.{cases_eq, cases_lt, eq-eqb, ne_eqb}
use Rattle.std.proofs.lemmas.List.{ext_get_or, get_or_default, get_or_past, get_or-set_other, get_or-set_same, length-append}
use Rattle.std.proofs.lemmas.Option.{none-some, same_Some, slice_get_past}
use Rattle.crgc_ids.specs.Actor.{Actor}
use Rattle.crgc_ids.proofs.ActorLaws.{same_parts}
use Rattle.script_actors.specs.declared.rows.Row.{Row}
use Rattle.script_actors.specs.Table.{AddsRow, IsHere, SetsRow, Table, next_on, row_at, rows_on}

-- ---- lists

module _ {A : Type 0} where
  get-set_same : (xs : List A) (i : ℕ) (y : A) → i < length xs → slice_get (set xs i y) i ≡ Some y
  get-set_same [] i y below = absurd (omega (arith, below))
  get-set_same (x ∷ xs) zero y below = refl
  get-set_same (x ∷ xs) (suc i) y below = get-set_same xs i y (omega (arith, below))

  get-set_other : (xs : List A) (i j : ℕ) (y : A) → j ≢ i → slice_get (set xs i y) j ≡ slice_get xs j
  get-set_other [] zero j y apart = refl
  get-set_other [] (suc i) j y apart = refl
  get-set_other (x ∷ xs) zero zero y apart = absurd (apart refl)
  get-set_other (x ∷ xs) zero (suc j) y apart = refl
  get-set_other (x ∷ xs) (suc i) zero y apart = refl
  get-set_other (x ∷ xs) (suc i) (suc j) y apart = get-set_other xs i j y (λ e. apart (ap suc e))

  pub get-last : (xs : List A) (i : ℕ) (y : A) → i ≡ length xs → slice_get (xs ++ y ∷ []) i ≡ Some y
  get-last [] zero y e = refl
  get-last [] (suc i) y e = absurd (omega (arith, e))
  get-last (x ∷ xs) zero y e = absurd (omega (arith, e))
  get-last (x ∷ xs) (suc i) y e = get-last xs i y (omega (arith, e))

  pub get-not_last : (xs : List A) (j : ℕ) (y : A) → j ≢ length xs → slice_get (xs ++ y ∷ []) j ≡ slice_get xs j
  get-not_last [] zero y apart = absurd (apart refl)
  get-not_last [] (suc j) y apart = refl
  get-not_last (x ∷ xs) zero y apart = refl
  get-not_last (x ∷ xs) (suc j) y apart = get-not_last xs j y (λ e. apart (omega (arith, e)))

-- the node of an actor that has a row is one of the table
pub here-below : (t : Table) (a : Actor) → IsHere t a → a.node < length t
here-below t a here = elim (cases_lt a.node (length t)) [
  | inl below ↦ below
  | inr past ↦ (let none = ap (λ (rows : List Row). length rows) (get_or_past t a.node [] past) in absurd (omega (arith, here, none)))
]

-- who has a row is there
pub row-here : (t : Table) (a : Actor) (row : Row) → row_at t a ≡ Some row → IsHere t a
row-here t a row e = within (rows_on t a.node) a.serial e
  where
    within : (xs : List Row) (i : ℕ) → slice_get xs i ≡ Some row → i < length xs
    within [] i e = absurd (cc)
    within (x ∷ xs) zero e = omega arith
    within (x ∷ xs) (suc i) e = (let rest = within xs i e in omega (arith, rest))

-- ---- one node changed

module _ (t : Table) (a : Actor) (k : ℕ) (old new : List Row) (at : k ≡ a.node) (below : a.node < length t) (here : old ≡ get_or t k old) where
  abbrev after : Table
  after = set t k new

  found : old ≡ rows_on t a.node
  found = here ∙ get_or_default t k old [] (omega (arith, at, below)) ∙ ap (rows_on t) at

  put : rows_on after a.node ≡ new
  put = ap (rows_on after) (sym at) ∙ get_or-set_same t k new [] (omega (arith, at, below))

  elsewhere : (n : ℕ) → n ≢ a.node → rows_on after n ≡ rows_on t n
  elsewhere n other = get_or-set_other t k n new [] (λ same. other (same ∙ at))

  others-kept : ((j : ℕ) → j ≢ a.serial → slice_get new j ≡ slice_get old j) → (b : Actor) → b ≢ a → row_at after b ≡ row_at t b
  others-kept same b apart = elim (cases_eq b.node a.node) [
    | inl on ↦
        ap (λ n. slice_get (rows_on after n) b.serial) on ∙ ap (λ rows. slice_get rows b.serial) put
        ∙ same b.serial (λ s. apart (same_parts b a on s)) ∙ ap (λ rows. slice_get rows b.serial) found ∙ sym (ap (λ n. slice_get (rows_on t n) b.serial) on)
    | inr other ↦ ap (λ rows. slice_get rows b.serial) (elsewhere b.node other)
  ]

  pub sets-row : (i : ℕ) (row : Row) → i ≡ a.serial → IsHere t a → new ≡ set old i row → SetsRow t after a row
  sets-row i row place there e = record {
    nodes = length-set t k new;
    counts = λ n. elim (cases_eq n a.node) [
      | inl same ↦
          subst (λ m. length (rows_on after m) ≡ length (rows_on t m)) (sym same)
          (ap (λ (rows : List Row). length rows) (put ∙ e) ∙ length-set old i row ∙ ap (λ (rows : List Row). length rows) found)
      | inr other ↦ ap (λ (rows : List Row). length rows) (elsewhere n other)
    ];
    is_row =
        ap (λ rows. slice_get rows a.serial) (put ∙ e) ∙ ap (slice_get (set old i row)) (sym place)
        ∙ get-set_same old i row (let long = ap (λ (rows : List Row). length rows) found in omega (arith, place, there, long));
    others = others-kept (λ j apart. ap (λ rows. slice_get rows j) e ∙ get-set_other old i j row (λ same. apart (same ∙ place)));
  }

  pub adds-row : (row : Row) → a ≡ next_on t a.node → new ≡ old ++ row ∷ [] → AddsRow t after a row
  adds-row row next e =
      let last : a.serial ≡ length old = ap (λ (b : Actor). b.serial) next ∙ ap (λ (rows : List Row). length rows) (sym found) in
      record {
        nodes = length-set t k new;
        counts = λ n. elim (cases_eq n a.node) [
          | inl same ↦
              subst (λ m. length (rows_on after m) ≡ (if a.node == m then length (rows_on t m) + 1 else length (rows_on t m))) (sym same)
              (ap (λ (rows : List Row). length rows) (put ∙ e) ∙ length-append old (row ∷ []) ∙ ap (λ (rows : List Row). length rows + 1) found
              ∙ sym (ap (λ v. if v then length (rows_on t a.node) + 1 else length (rows_on t a.node)) (eq-eqb a.node a.node refl)))
          | inr other ↦
              ap (λ (rows : List Row). length rows) (elsewhere n other)
              ∙ sym (ap (λ v. if v then length (rows_on t n) + 1 else length (rows_on t n)) (ne_eqb a.node n (λ same. other (sym same))))
        ];
        is_row = ap (λ rows. slice_get rows a.serial) (put ∙ e) ∙ get-last old a.serial row last;
        others = others-kept (λ j apart. ap (λ rows. slice_get rows j) e ∙ get-not_last old j row (λ same. apart (same ∙ sym last)));
      }

-- ---- a birth taken back

-- lists with the same members at each place
same-rows : {A : Type 0} (xs ys : List A) → ((i : ℕ) → slice_get xs i ≡ slice_get ys i) → xs ≡ ys
same-rows [] [] same = refl
same-rows [] (y ∷ ys) same = absurd (none-some y (same 0))
same-rows (x ∷ xs) [] same = absurd (none-some x (sym (same 0)))
same-rows (x ∷ xs) (y ∷ ys) same = λ i. same_Some x y (same 0) i ∷ same-rows xs ys (λ k. same (suc k)) i

module _ {A : Type 0} where
  get-take : (xs : List A) (n i : ℕ) → i < n → slice_get (take n xs) i ≡ slice_get xs i
  get-take xs zero i below = absurd (omega (arith, below))
  get-take [] (suc n) i below = refl
  get-take (x ∷ xs) (suc n) zero below = refl
  get-take (x ∷ xs) (suc n) (suc i) below = get-take xs n i (omega (arith, below))

  get-past : (xs : List A) (n i : ℕ) → n ≤ i → slice_get (take n xs) i ≡ None
  get-past xs zero i past = refl
  get-past [] (suc n) i past = refl
  get-past (x ∷ xs) (suc n) zero past = absurd (omega (arith, past))
  get-past (x ∷ xs) (suc n) (suc i) past = get-past xs n i (omega (arith, past))

-- the table without the last row of the node, to which that row was added
pub takes-back : (before t : Table) (a : Actor) (row : Row) (k : ℕ) (old new : List Row) → k ≡ a.node → a.node < length t → old ≡ get_or t k old
    → new ≡ take (length old - 1) old → a ≡ next_on before a.node → AddsRow before t a row → set t k new ≡ before
takes-back before t a row k old new at below here taken next adds =
    ext_get_or [] (set t k new) before (length-set t k new ∙ adds.nodes) (λ n _. same-rows (rows_on (set t k new) n) (rows_on before n) (each n))
  where
    found' : old ≡ rows_on t a.node
    found' = found t a k old new at below here

    last : a.serial ≡ length (rows_on before a.node)
    last = ap (λ (b : Actor). b.serial) next

    long : length old ≡ length (rows_on before a.node) + 1
    long =
        ap (λ (rows : List Row). length rows) found' ∙ adds.counts a.node
        ∙ ap (λ v. if v then length (rows_on before a.node) + 1 else length (rows_on before a.node)) (eq-eqb a.node a.node refl)

    own : (j : ℕ) → slice_get new j ≡ slice_get (rows_on before a.node) j
    own j = elim (cases_lt j a.serial) [
      | inl low ↦
          ap (λ rows. slice_get rows j) taken ∙ get-take old (length old - 1) j (let count = long in let is = last in omega (arith, count, is, low))
          ∙ ap (λ rows. slice_get rows j) found'
          ∙ adds.others (record { node = a.node; serial = j }) (λ same. (let e : j ≡ a.serial = ap (λ (b : Actor). b.serial) same in omega (arith, e, low)))
      | inr high ↦
          ap (λ rows. slice_get rows j) taken ∙ get-past old (length old - 1) j (let count = long in let is = last in omega (arith, count, is, high))
          ∙ sym (slice_get_past (rows_on before a.node) j (let is = last in omega (arith, is, high)))
    ]

    each : (n j : ℕ) → slice_get (rows_on (set t k new) n) j ≡ slice_get (rows_on before n) j
    each n j = elim (cases_eq n a.node) [
      | inl on ↦
          subst (λ m. slice_get (rows_on (set t k new) m) j ≡ slice_get (rows_on before m) j) (sym on)
          (ap (λ rows. slice_get rows j) (put t a k old new at below here) ∙ own j)
      | inr other ↦
          ap (λ rows. slice_get rows j) (elsewhere t a k old new at below here n other)
          ∙ adds.others (record { node = n; serial = j }) (λ same. other (ap (λ (b : Actor). b.node) same))
    ]
