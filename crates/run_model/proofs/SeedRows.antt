-- The seeds of a script, one after another: who is born, with which row.
use Rattle.std.proofs.Common.{◌≡◌, ◌+◌, ◌≤◌, ◌<◌, ◌==◌, ℕ, zero, suc, Bool, true, false, if◌then◌else◌, List, [], ◌∷◌, ◌++◌, get_or, length, map, Option, Some, None, refl, sym, ◌∙◌, ap, subst, arith}
use Rattle.std.specs.List.{list_all}
use Rattle.std.specs.Option.{option_or}
use Rattle.std.proofs.lemmas.Bool.{and_parts, false_from_ne_true}
use Rattle.crgc_ids.specs.Actor.{Actor, same_actor}
use Rattle.history_model.specs.declared.events.Event.{Event}
use Rattle.history_model.specs.declared.events.Event.TheVariants.{Seed}
use Rattle.history_model.specs.Cluster.{births, is_birth_on, newborn}
use Rattle.history_model.specs.Rows.{onto}
use Rattle.history_model.proofs.Basics.{eqb-refl, same_actor-equal, same_actor-refl}
use Rattle.history_model.proofs.Lists.{tally-more}
use Rattle.script_reader.specs.declared.script.Seed.{Seed as SeedRow}
use Rattle.run_model.specs.Doing.{row_of, seeded}

-- the history after these seeds
abbrev pub seeds_done : List SeedRow → List Event → List Event
seeds_done xs h = onto h (map (λ (x : SeedRow). Seed x.node) xs)

pub seeds_done-snoc : (xs : List SeedRow) (x : SeedRow) (h : List Event) → seeds_done (xs ++ x ∷ []) h ≡ Seed x.node ∷ seeds_done xs h
seeds_done-snoc [] x h = refl
seeds_done-snoc (y ∷ xs) x h = seeds_done-snoc xs x (Seed y.node ∷ h)

pub seeded-snoc : (xs : List SeedRow) (x : SeedRow) (h : List Event) → seeded (xs ++ x ∷ []) h ≡ seeded xs h ++ newborn x.node (seeds_done xs h) ∷ []
seeded-snoc [] x h = refl
seeded-snoc (y ∷ xs) x h = ap (λ as_. newborn y.node h ∷ as_) (seeded-snoc xs x (Seed y.node ∷ h))

-- births are not undone
births-grow : (n : ℕ) (xs : List SeedRow) (h : List Event) → births n h ≤ births n (seeds_done xs h)
births-grow n [] h = omega arith
births-grow n (y ∷ xs) h =
    let rest = births-grow n xs (Seed y.node ∷ h) in
    let one = tally-more (is_birth_on n) (Seed y.node) h in
    omega (arith, rest, one)

-- no node has more seeds than there are
pub seeds-few : (n : ℕ) (xs : List SeedRow) (h : List Event) → births n (seeds_done xs h) ≤ length xs + births n h
seeds-few n [] h = omega arith
seeds-few n (y ∷ xs) h =
    let rest = seeds-few n xs (Seed y.node ∷ h) in
    elim (y.node == n) as (λ v. births n (seeds_done xs (Seed y.node ∷ h)) ≤ length xs + (if v then births n h + 1 else births n h) → births n (seeds_done xs (Seed y.node ∷ h)) ≤ length (y ∷ xs) + births n h) [
      | true ↦ λ rest. omega (arith, rest)
      | false ↦ λ rest. omega (arith, rest)
    ] rest

-- what all pass, the one at a place passes
pub all-at : {A : Type 0} (p : A → Bool) (xs : List A) (i : ℕ) (d : A) → list_all p xs ≡ true → i < length xs → p (get_or xs i d) ≡ true
all-at p [] i d all within = absurd (omega (arith, within))
all-at p (x ∷ xs) zero d all within = (and_parts (p x) (list_all p xs) all).0
all-at p (x ∷ xs) (suc i) d all within = all-at p xs i d (and_parts (p x) (list_all p xs) all).1 (omega (arith, within))

-- who is not born yet has no row
pub row_of-fresh : (xs : List SeedRow) (h : List Event) (a : Actor) → births a.node (seeds_done xs h) ≤ a.serial → row_of xs h a ≡ None
row_of-fresh [] h a past = refl
row_of-fresh (y ∷ xs) h a past =
    rw (false_from_ne_true (same_actor (newborn y.node h) a) (λ same. apart (same_actor-equal (newborn y.node h) a same))) (row_of-fresh xs (Seed y.node ∷ h) a past)
  where
    apart : newborn y.node h ≡ a → ⊥
    apart same =
        let below = subst (λ b. births b.node (seeds_done xs (Seed y.node ∷ h)) ≤ b.serial) (sym same) past in
        let grown = births-grow y.node xs (Seed y.node ∷ h) in
        let one : births y.node (Seed y.node ∷ h) ≡ births y.node h + 1 = ap (λ v. if v then births y.node h + 1 else births y.node h) (eqb-refl y.node) in
        omega (arith, below, grown, one)

-- one seed more has its row
row_of-snoc : (xs : List SeedRow) (x : SeedRow) (h : List Event) (a : Actor) → row_of (xs ++ x ∷ []) h a ≡ option_or (row_of xs h a) (if same_actor (newborn x.node (seeds_done xs h)) a then Some x else None)
row_of-snoc [] x h a = refl
row_of-snoc (y ∷ xs) x h a =
    let last : Option SeedRow = if same_actor (newborn x.node (seeds_done xs (Seed y.node ∷ h))) a then Some x else None in
    elim (same_actor (newborn y.node h) a) as (λ v. (if v then Some y else row_of (xs ++ x ∷ []) (Seed y.node ∷ h) a) ≡ option_or (if v then Some y else row_of xs (Seed y.node ∷ h) a) last) [
      | true ↦ refl
      | false ↦ row_of-snoc xs x (Seed y.node ∷ h) a
    ]

pub row_of-last : (xs : List SeedRow) (x : SeedRow) (h : List Event) → row_of (xs ++ x ∷ []) h (newborn x.node (seeds_done xs h)) ≡ Some x
row_of-last xs x h =
    let a = newborn x.node (seeds_done xs h) in
    row_of-snoc xs x h a ∙ rw (row_of-fresh xs h a (omega arith), same_actor-refl a) refl

or_none : {A : Type 0} (o : Option A) → option_or o None ≡ o
or_none None = refl
or_none (Some x) = refl

pub row_of-others : (xs : List SeedRow) (x : SeedRow) (h : List Event) (a : Actor) → same_actor (newborn x.node (seeds_done xs h)) a ≡ false → row_of (xs ++ x ∷ []) h a ≡ row_of xs h a
row_of-others xs x h a other = row_of-snoc xs x h a ∙ rw other (or_none (row_of xs h a))
