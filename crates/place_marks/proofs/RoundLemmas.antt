-- Rounds of marking: they mark what is reached, until one adds no mark.
use Rattle.std.proofs.Common.{◌≡◌, ◌<◌, ◌≤◌, ◌+◌, ◌-◌, ◌++◌, cond, ℕ, suc, Bool, true, false, Some, List, [], ◌∷◌, length, get_or, take, refl, sym, ◌∙◌, ap, subst, inl, inr, arith, length-append}
use Rattle.std.proofs.Math.ListN.{get_or-append}
use Rattle.std.proofs.Math.Seq.{get_or-append_right}
use Rattle.std.proofs.lemmas.Bool.{cases_eq, cases_lt, false≢true}
use Rattle.std.proofs.lemmas.List.{get_or_past, get_or_push, get_or-take, length-take}
use Rattle.std.proofs.lemmas.List.Sums.{count_by_more_no, count_by_more_yes, sum_by-cons}
use Rattle.std.specs.List.{count_by}
use Rattle.crgc_ids.specs.Members.{IsAmong}
use Rattle.place_marks.specs.Graph.{Graph, IsGraph, IsReached, IsStep}
use Rattle.place_marks.specs.Marks.{IsOrdered}
use Rattle.place_marks.specs.Rounds.{AddsMarks, AreReached, IsMarkedNext, IsRound}
use Rattle.place_marks.proofs.EndLemmas.{among-more, end_at}
use Rattle.place_marks.proofs.ReachLemmas.{reached-closed, reached-on, reached-start}

-- a marked place is one of those in the row
pub marked-inside : (marks : List Bool) (p : ℕ) → get_or marks p false ≡ true → p < length marks
marked-inside marks p marked = elim (cases_lt p (length marks)) [
  | inl inside ↦ inside
  | inr past ↦ absurd (false≢true (sym (get_or_past marks p false past) ∙ marked))
]

-- ---- the owners of a place

-- no positive edge to the place with one of these ends leads from a marked place
abbrev pub AreUnmarked : Graph → List Bool → ℕ → List (ℕ × ℕ) → Type 0
AreUnmarked g marks p ends = (b n : ℕ) → IsAmong (b, n) ends → g.step n ≡ Some (b, p) → get_or marks b false ≡ false

pub unmarked-on : (g : Graph) (marks : List Bool) (p : ℕ) (ends : List (ℕ × ℕ)) (i : ℕ) → i < length ends → (g.step (end_at ends i).1 ≡ Some ((end_at ends i).0, p) → get_or marks (end_at ends i).0 false ≡ false) → AreUnmarked g marks p (take i ends) → AreUnmarked g marks p (take (i + 1) ends)
unmarked-on g marks p ends i inside free before b n h step = elim (among-more ends i (b, n) inside h) [
  | inl earlier ↦ before b n earlier step
  | inr same ↦ subst Free (sym same) free step
]
  where
    Free : ℕ × ℕ → Type 0
    Free e = g.step e.1 ≡ Some (e.0, p) → get_or marks e.0 false ≡ false

-- ---- a round

-- what is marked is a place that is reached
abbrev pub AreAllReached : Graph → List Bool → Type 0
AreAllReached g marks = (p : ℕ) → get_or marks p false ≡ true → IsReached g p

module _ (g : Graph) (old new : List Bool) (places : length old ≡ g.places) (round : IsRound g old new) where
  -- a round marks what is reached alone
  pub round-reached : IsGraph g → AreAllReached g old → AreAllReached g new
  round-reached whole reached p marked =
      let inside : p < g.places = (let less = marked-inside new p marked in let room = round.room in omega arith) in
      elim ((round.marks p inside).0 marked) [
        | inl before ↦ reached p before
        | inr now ↦ elim now [
          | inl start ↦ reached-start g p inside start
          | inr owner ↦ reached-on g owner.0 p (reached owner.0 owner.2) owner.1
        ]
      ]

  -- it keeps the marks of before
  pub round-keeps : (p : ℕ) → get_or old p false ≡ true → get_or new p false ≡ true
  round-keeps p marked =
      let inside : p < g.places = (let less = marked-inside old p marked in omega arith) in
      (round.marks p inside).1 (inl marked)

  -- where it adds none, marked is exactly what is reached
  pub round-last : IsGraph g → new ≡ old → AreAllReached g old → AreReached g old
  round-last whole same reached p = (reached p, reached-closed g (λ a. get_or old a false ≡ true) starts on p)
    where
      back : (a : ℕ) → a < g.places → IsMarkedNext g old a → get_or old a false ≡ true
      back a inside next = subst (λ marks. get_or marks a false ≡ true) same ((round.marks a inside).1 next)

      starts : (a : ℕ) → a < g.places → g.is_start a ≡ true → get_or old a false ≡ true
      starts a inside start = back a inside (inr (inl start))

      on : (b a : ℕ) → get_or old b false ≡ true → IsStep g b a → get_or old a false ≡ true
      on b a marked step = back a (whole b a step).1 (inr (inr (b, step, marked)))

-- so it is in a longer row, where the rest is not marked
pub reached-longer : (g : Graph) (row rest : List Bool) → ((p : ℕ) → get_or rest p false ≡ false) → AreReached g row → AreReached g (row ++ rest)
reached-longer g row rest none reached p = ((λ h. (reached p).0 (sym same ∙ h)), (λ h. same ∙ (reached p).1 h))
  where
    same : get_or (row ++ rest) p false ≡ get_or row p false
    same = elim (cases_lt p (length row)) [
      | inl inside ↦ get_or-append row rest false p inside
      | inr past ↦ get_or-append_right row rest p false past ∙ none (p - length row) ∙ sym (get_or_past row p false past)
    ]

-- ---- how many are marked

count-cons : (x : Bool) (xs : List Bool) → count_by (λ m. m) (x ∷ xs) ≡ cond x 1 0 + count_by (λ m. m) xs
count-cons x xs = sum_by-cons (λ m. cond m 1 0) x xs

-- where marks stay, there are no fewer
pub count-keeps : (xs ys : List Bool) → ((p : ℕ) → get_or xs p false ≡ true → get_or ys p false ≡ true) → count_by (λ m. m) xs ≤ count_by (λ m. m) ys
count-keeps [] ys keeps = omega arith
count-keeps (true ∷ xs) [] keeps = absurd (false≢true (keeps 0 refl))
count-keeps (false ∷ xs) [] keeps = omega (arith, count-cons false xs, count-keeps xs [] (λ p. keeps (suc p)))
count-keeps (true ∷ xs) (true ∷ ys) keeps = omega (arith, count-cons true xs, count-cons true ys, count-keeps xs ys (λ p. keeps (suc p)))
count-keeps (true ∷ xs) (false ∷ ys) keeps = absurd (false≢true (keeps 0 refl))
count-keeps (false ∷ xs) (true ∷ ys) keeps = omega (arith, count-cons false xs, count-cons true ys, count-keeps xs ys (λ p. keeps (suc p)))
count-keeps (false ∷ xs) (false ∷ ys) keeps = omega (arith, count-cons false xs, count-cons false ys, count-keeps xs ys (λ p. keeps (suc p)))

-- where they stay and the row is another, there are more
pub count-grows : (xs ys : List Bool) → length ys ≡ length xs → ((p : ℕ) → get_or xs p false ≡ true → get_or ys p false ≡ true) → (xs ≡ ys → ⊥) → AddsMarks xs ys
count-grows [] [] long keeps other = absurd (other refl)
count-grows [] (y ∷ ys) long keeps other = absurd (omega arith)
count-grows (x ∷ xs) [] long keeps other = absurd (omega arith)
count-grows (true ∷ xs) (true ∷ ys) long keeps other =
    omega (arith, count-cons true xs, count-cons true ys, count-grows xs ys (omega arith) (λ p. keeps (suc p)) (λ same. other (ap (λ zs. true ∷ zs) same)))
count-grows (true ∷ xs) (false ∷ ys) long keeps other = absurd (false≢true (keeps 0 refl))
count-grows (false ∷ xs) (true ∷ ys) long keeps other = omega (arith, count-cons false xs, count-cons true ys, count-keeps xs ys (λ p. keeps (suc p)))
count-grows (false ∷ xs) (false ∷ ys) long keeps other =
    omega (arith, count-cons false xs, count-cons false ys, count-grows xs ys (omega arith) (λ p. keeps (suc p)) (λ same. other (ap (λ zs. false ∷ zs) same)))

-- ---- the order of marking

-- the list has the marked places among the first so many, each once
pub record IsListed (marks : List Bool) (n : ℕ) (order : List ℕ) : Type 0 where
  pub few : length order ≤ n
  pub long : length order ≡ count_by (λ m. m) (take n marks)
  pub listed : (p : ℕ) → p < n → get_or marks p false ≡ true → (k : ℕ) × (k < length order) × (get_or order k 0 ≡ p)
  pub marked : (k : ℕ) → k < length order → get_or marks (get_or order k 0) false ≡ true

module _ (marks : List Bool) where
  pub listed-none : IsListed marks 0 []
  listed-none = record { few = omega arith; long = refl; listed = λ p less. absurd (omega arith); marked = λ k less. absurd (omega arith) }

  module _ (n : ℕ) (order : List ℕ) (listed : IsListed marks n order) (inside : n < length marks) where
    -- a marked place more
    pub listed-more : get_or marks n false ≡ true → IsListed marks (n + 1) (order ++ n ∷ [])
    listed-more marked =
        let long = length-append order (n ∷ []) in
        record {
          few = (let few = listed.few in omega arith);
          long = omega (arith, long, listed.long, count_by_more_yes (λ m. m) marks n false inside marked);
          listed = λ p less h. elim (cases_eq p n) [
            | inl same ↦ (length order, omega arith, get_or_push order n 0 (length order) refl ∙ sym same)
            | inr other ↦ (let there = listed.listed p (omega arith) h in let below = there.1 in
                (there.0, omega arith, get_or-append order (n ∷ []) 0 there.0 below ∙ there.2))
          ];
          marked = λ k less. elim (cases_eq k (length order)) [
            | inl last ↦ ap (λ q. get_or marks q false) (get_or_push order n 0 k (sym last)) ∙ marked
            | inr other ↦ (let below : k < length order = omega arith in
                ap (λ q. get_or marks q false) (get_or-append order (n ∷ []) 0 k below) ∙ listed.marked k below)
          ];
        }

    -- a place more that is not marked
    pub listed-skip : get_or marks n false ≡ false → IsListed marks (n + 1) order
    listed-skip free = record {
      few = (let few = listed.few in omega arith);
      long = listed.long ∙ sym (count_by_more_no (λ m. m) marks n false inside free);
      listed = λ p less h. elim (cases_eq p n) [
        | inl same ↦ absurd (false≢true (sym free ∙ ap (λ (q : ℕ). get_or marks q false) (sym same) ∙ h))
        | inr other ↦ listed.listed p (omega arith) h
      ];
      marked = listed.marked;
    }

  -- where no place from there on is marked, the order is whole
  pub listed-all : (n : ℕ) (order : List ℕ) → IsListed marks n order → ((p : ℕ) → get_or marks p false ≡ true → p < n) → IsOrdered marks order
  listed-all n order listed below = record {
    long = omega (arith, listed.long, count-keeps marks (take n marks) (λ p h. get_or-take n marks p false (below p h) ∙ h), count-keeps (take n marks) marks taken);
    listed = λ p h. listed.listed p (below p h) h;
    marked = listed.marked;
  }
    where
      taken : (p : ℕ) → get_or (take n marks) p false ≡ true → get_or marks p false ≡ true
      taken p h =
          let inside = marked-inside (take n marks) p h in
          let long = length-take n marks in
          sym (get_or-take n marks p false (omega arith)) ∙ h
