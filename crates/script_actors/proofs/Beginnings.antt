-- The table at the beginning of a script.
use Rattle.std.proofs.Common.{◌≡◌, ◌≢◌, ◌+◌, ◌≤◌, ◌<◌, ◌==◌, ◌&&◌, ℕ, zero, suc, Bool, true, false, not, nat_le, nat_lt, if◌then◌else◌, List, [], ◌∷◌, ◌++◌, drop, get_or, length, map, take, Option, Some, None, refl, sym, ◌∙◌, ap, subst, arith, inl, inr}
use Rattle.std.specs.Prelude.{IfSome, IsSome, codes, option_map, slice_get}
use Rattle.std.specs.List.{AllByRecursion, IsDistinct, list_all}
use Rattle.std.specs.Str.{bytes_eq}
use Rattle.std.specs.Cmp.Lexicographic.{nat_list_eq_equiv}
use Rattle.std.proofs.lemmas.Bool.{and_from, and_parts, cases_eq, eq-eqb, false≢true, false_from_ne_true, ltb-true}
use Rattle.std.proofs.lemmas.List.{get_or_default, length-take-le, take_more}
use Rattle.std.proofs.lemmas.Map.Keys.{IsDistinct-head, IsDistinct-tail}
use Rattle.std.proofs.lemmas.Option.{none-some, same_Some}
use Rattle.crgc_ids.specs.Actor.{Actor, same_actor}
use Rattle.history_model.specs.declared.events.Event.{Event}
use Rattle.history_model.specs.declared.events.Event.TheVariants.{Seed, Tie}
use Rattle.history_model.specs.Cluster.{births, newborn}
use Rattle.history_model.specs.State.{is_busy}
use Rattle.history_model.proofs.Basics.{eqb-refl, same_actor-equal, same_actor-refl}
use Rattle.behaviour_lang.specs.Bound.{Names, bind, bound, is_before, local_names, means}
use Rattle.behaviour_lang.specs.Names.{is_local_name}
use Rattle.behaviour_lang.specs.declared.instr.Name.{Name}
use Rattle.behaviour_lang.specs.declared.instr.Name.TheVariants.{Local}
use Rattle.script_reader.specs.Valid.{Scripted, is_seed, is_tie, same_tie}
use Rattle.script_reader.specs.declared.script.Seed.{Seed as SeedRow}
use Rattle.script_reader.specs.declared.script.Tie.{Tie as TieRow}
use Rattle.run_model.specs.Doing.{Doing, as_seed, beginning, behaviour_of, doing, own_name, row_of, seed_actors, seed_number, seeded, tied}
use Rattle.run_model.proofs.Beginnings.{IsStart, beginning-start, start-doing, ties-births}
use Rattle.run_model.proofs.SeedRows.{all-at, row_of-last, row_of-others, seeded-snoc, seeds-few, seeds_done, seeds_done-snoc}
use Rattle.run_model.proofs.SeedsLegal.{seed-seeded, seeds-differ}
use Rattle.script_actors.specs.declared.rows.Row.{Row}
use Rattle.script_actors.specs.Begun.{Binds, IsBegun, IsSeedRow}
use Rattle.script_actors.specs.Standing.{AreActorsAt, IsRowOf, kept_names, names_now}
use Rattle.script_actors.specs.Table.{AddsRow, IsHere, SetsRow, Table, behaviour_at, behaviour_in, names_at, names_in, next_on, row, row_at, rows_on}
use Rattle.script_actors.proofs.Standings.{apart, by-actor, each-some, some-of}

-- ---- seeds

-- nobody was born
pub begun-empty : (s : Scripted) (t : Table) → ((n : ℕ) → rows_on t n ≡ []) → IsBegun s [] [] t
begun-empty s t empty = record {
  counts = λ n. ap (λ (rows : List Row). length rows) (empty n);
  rows = λ a. subst (λ rows. IfSome (slice_get rows a.serial) (IsSeedRow s [] [] a)) (sym (empty a.node)) (none a.serial (IsSeedRow s [] [] a));
}
  where
    none : (i : ℕ) (P : Row → Type 0) → IfSome (slice_get [] i) P
    none zero P = tt
    none (suc i) P = tt

module _ (s : Scripted) (xs : List SeedRow) (x : SeedRow) (old new : Table) (names : List (List ℕ × Actor)) (stands : IsBegun s xs [] old) where
  abbrev child : Actor
  child = next_on old x.node

  child-next : newborn x.node (seeds_done xs []) ≡ child
  child-next = (let counts = stands.counts x.node in λ i. record { node = x.node; serial = sym counts i })

  pub begun-seed : AddsRow old new child (row x.behaviour (Some names)) → local_names names ≡ own_name child → x.behaviour < length s.code → IsBegun s (xs ++ x ∷ []) [] new
  begun-seed change own below = record {
    counts = λ n. change.counts n ∙ ap (λ k. if x.node == n then k + 1 else k) (stands.counts n) ∙ sym (ap (births n) (seeds_done-snoc xs x []));
    rows = by-actor (λ b. IfSome (row_at new b) (IsSeedRow s (xs ++ x ∷ []) [] b)) child
        (subst (λ o. IfSome o (IsSeedRow s (xs ++ x ∷ []) [] child)) (sym change.is_row) (record {
          behaviour = sym (ap (λ c. behaviour_of (row_of (xs ++ x ∷ []) [] c)) (sym child-next) ∙ ap behaviour_of (row_of-last xs x []));
          in_code = below;
          names = ap (λ ns. Some ns) own;
        }))
        (λ b other.
        let same : row_of (xs ++ x ∷ []) [] b ≡ row_of xs [] b = row_of-others xs x [] b (ap (λ c. same_actor c b) child-next ∙ other) in
        subst (λ o. IfSome o (IsSeedRow s (xs ++ x ∷ []) [] b)) (sym (change.others b (apart child b other)))
        (each-some (IsSeedRow s xs [] b) (IsSeedRow s (xs ++ x ∷ []) [] b) (row_at old b)
        (λ r had. record { behaviour = had.behaviour ∙ sym (ap behaviour_of same); in_code = had.in_code; names = had.names })
        (stands.rows b)));
  }

-- ---- ties

tied-snoc : (s : Scripted) (ties : List TieRow) (u : TieRow) (a : Actor) (names : Names)
    → tied s (ties ++ u ∷ []) a names ≡ (if same_actor (seed_number s u.from) a then bind u.name (seed_number s u.to) (tied s ties a names) else tied s ties a names)
tied-snoc s [] u a names = refl
tied-snoc s (t ∷ ties) u a names = tied-snoc s ties u a (if same_actor (seed_number s t.from) a then bind t.name (seed_number s t.to) names else names)

module _ (s : Scripted) (xs : List SeedRow) (ties : List TieRow) (u : TieRow) (old new : Table) (stands : IsBegun s xs ties old) where
  abbrev owner : Actor
  owner = seed_number s u.from

  pub begun-tie : Binds old new owner u.name (seed_number s u.to) → IsBegun s xs (ties ++ u ∷ []) new
  begun-tie binds =
      let change = binds.set in
      record {
        counts = λ n. change.counts n ∙ stands.counts n;
        rows = by-actor (λ b. IfSome (row_at new b) (IsSeedRow s xs (ties ++ u ∷ []) b)) owner
            (subst (λ o. IfSome o (IsSeedRow s xs (ties ++ u ∷ []) owner)) (sym change.is_row) (own-row (row_at old owner) refl))
            (λ b other.
            subst (λ o. IfSome o (IsSeedRow s xs (ties ++ u ∷ []) b)) (sym (change.others b (apart owner b other)))
            (each-some (IsSeedRow s xs ties b) (IsSeedRow s xs (ties ++ u ∷ []) b) (row_at old b)
            (λ r had. record {
              behaviour = had.behaviour;
              in_code = had.in_code;
              names = had.names ∙ ap (λ ns. Some ns) (sym (tied-snoc s ties u b (own_name b) ∙ ap (λ v. if v then bind u.name (seed_number s u.to) (tied s ties b (own_name b)) else tied s ties b (own_name b)) other));
            })
            (stands.rows b)));
      }
    where
      own-row : (o : Option Row) → row_at old owner ≡ o → IsSeedRow s xs (ties ++ u ∷ []) owner (row (behaviour_at old owner) (Some binds.after))
      own-row None e = absurd (none-some binds.before (sym (ap names_in e) ∙ binds.had))
      own-row (Some r) e =
          let had = some-of (IsSeedRow s xs ties owner) (row_at old owner) r e (stands.rows owner) in
          let names : r.names ≡ Some binds.before = sym (ap names_in e) ∙ binds.had in
          let before : local_names binds.before ≡ tied s ties owner (own_name owner) = same_Some _ _ (sym (ap (option_map local_names) names) ∙ had.names) in
          record {
            behaviour = ap behaviour_in e ∙ had.behaviour;
            in_code = subst (λ b. b < length s.code) (sym (ap behaviour_in e)) had.in_code;
            names = ap (λ ns. Some ns) (binds.bound ∙ ap (bind u.name (seed_number s u.to)) before
                ∙ sym (tied-snoc s ties u owner (own_name owner) ∙ ap (λ v. if v then bind u.name (seed_number s u.to) (tied s ties owner (own_name owner)) else tied s ties owner (own_name owner)) (same_actor-refl owner)));
          }

-- ---- the names of ties differ

-- binding another name
bound-bind : (x y : List ℕ) (b : Actor) (names : Names) → bytes_eq x y ≡ false → bound (Local x) (bind y b names) ≡ bound (Local x) names
bound-bind x y b [] other = ap (λ v. if v then Some b else None) other
bound-bind x y b ((z, c) ∷ names) other =
    elim (is_before y z) as (λ v. bound (Local x) (if v then (Local y, b) ∷ (z, c) ∷ names else (z, c) ∷ bind y b names) ≡ bound (Local x) ((z, c) ∷ names)) [
      | true ↦ ap (λ v. if v then Some b else bound (Local x) ((z, c) ∷ names)) other
      | false ↦ ap (λ rest. if means (Local x) z then Some c else rest) (bound-bind x y b names other)
    ]

-- of a list without repetition, what stands before differs
all-mid : {A : Type 0} (P : A → Type 0) (xs ys : List A) (u : A) → AllByRecursion P (xs ++ u ∷ ys) → P u
all-mid P [] ys u all = all.0
all-mid P (x ∷ xs) ys u all = all-mid P xs ys u all.1

differ-before : {A : Type 0} (same : A → A → Bool) (xs ys : List A) (u : A) → IsDistinct same (xs ++ u ∷ ys) → AllByRecursion (λ t. same t u ≡ false) xs
differ-before same [] ys u distinct = tt
differ-before same (x ∷ xs) ys u distinct =
    (all-mid (λ y. same x y ≡ false) xs ys u (IsDistinct-head same x (xs ++ u ∷ ys) distinct), differ-before same xs ys u (IsDistinct-tail same x (xs ++ u ∷ ys) distinct))

-- the parts of a tie's test
tie-parts : (n : ℕ) (t : TieRow) → is_tie n t ≡ true → (t.from < n) × (t.to < n) × (is_local_name t.name ≡ true)
tie-parts n t fits =
    let last = and_parts (nat_lt t.from n && nat_lt t.to n && not (t.to == t.from)) (is_local_name t.name) fits in
    let mid = and_parts (nat_lt t.from n && nat_lt t.to n) (not (t.to == t.from)) last.0 in
    let first = and_parts (nat_lt t.from n) (nat_lt t.to n) mid.0 in
    (ltb-true t.from n first.0, ltb-true t.to n first.1, last.1)

module _ (s : Scripted) (u : TieRow) (within : u.from < length s.seeds) where
  abbrev tier : Actor
  tier = seed_number s u.from

  -- a tie of the same actor has another name
  other-name : (t : TieRow) → t.from < length s.seeds → same_tie t u ≡ false → same_actor (seed_number s t.from) tier ≡ true → bytes_eq u.name t.name ≡ false
  other-name t inside differ same =
      let d : Actor = record { node = 0; serial = 0 } in
      let from : t.from ≡ u.from = elim (cases_eq t.from u.from) [
        | inl e ↦ e
        | inr other ↦ absurd (seeds-differ d s.seeds [] t.from u.from inside within other (same_actor-equal (seed_number s t.from) tier same))
      ] in
      false_from_ne_true (bytes_eq u.name t.name) (λ equal.
      false≢true (sym differ ∙ and_from (t.from == u.from) (bytes_eq t.name u.name) (eq-eqb t.from u.from from) (nat_list_eq_equiv.symm t.name u.name ∙ equal)))

  free-tied : (ties : List TieRow) (names : Names) → list_all (is_tie (length s.seeds)) ties ≡ true → AllByRecursion (λ t. same_tie t u ≡ false) ties → bound (Local u.name) names ≡ None → bound (Local u.name) (tied s ties tier names) ≡ None
  free-tied [] names fit differ free = free
  free-tied (t ∷ ties) names fit differ free =
      let both = and_parts (is_tie (length s.seeds) t) (list_all (is_tie (length s.seeds)) ties) fit in
      let inside = (tie-parts (length s.seeds) t both.0).0 in
      free-tied ties (if same_actor (seed_number s t.from) tier then bind t.name (seed_number s t.to) names else names) both.1 differ.1
      (elim (same_actor (seed_number s t.from) tier) as (λ v. same_actor (seed_number s t.from) tier ≡ v → bound (Local u.name) (if v then bind t.name (seed_number s t.to) names else names) ≡ None) [
        | true ↦ λ same. bound-bind u.name t.name (seed_number s t.to) names (other-name t inside differ.0 same) ∙ free
        | false ↦ λ _. free
      ] refl)

-- no local name is `self`
not-self : (x : List ℕ) → is_local_name x ≡ true → bytes_eq x (codes "self") ≡ false
unfolding is_local_name
not-self x fits = none (bytes_eq x (codes "self")) (and_parts _ (not (bytes_eq x (codes "self"))) (and_parts _ _ fits).0).1
  where
    none : (v : Bool) → not v ≡ true → v ≡ false
    none true e = absurd (false≢true e)
    none false e = refl

pub tie-free : (s : Scripted) (ties more : List TieRow) (u : TieRow) (old : Table) (names : List (List ℕ × Actor)) → IsBegun s s.seeds ties old → list_all (is_tie (length s.seeds)) ties ≡ true → is_tie (length s.seeds) u ≡ true → IsDistinct same_tie (ties ++ u ∷ more)
    → names_at old (seed_number s u.from) ≡ Some names → bound (Local u.name) (local_names names) ≡ None
tie-free s ties more u old names stands fit fits distinct had =
    let parts = tie-parts (length s.seeds) u fits in
    let a = seed_number s u.from in
    let free = free-tied s u parts.0 ties (own_name a) fit (differ-before same_tie ties more u distinct) (bound-bind u.name (codes "self") a [] (not-self u.name parts.2)) in
    subst (λ ns. bound (Local u.name) ns ≡ None) (sym (same a (row_at old a) refl)) free
  where
    same : (a : Actor) → (o : Option Row) → row_at old (seed_number s u.from) ≡ o → local_names names ≡ tied s ties (seed_number s u.from) (own_name (seed_number s u.from))
    same a None e = absurd (none-some names (sym (ap names_in e) ∙ had))
    same a (Some r) e =
        let was = some-of (IsSeedRow s s.seeds ties (seed_number s u.from)) (row_at old (seed_number s u.from)) r e (stands.rows (seed_number s u.from)) in
        same_Some _ _ (sym (ap (option_map local_names) (sym (ap names_in e) ∙ had)) ∙ was.names)

-- ---- the whole

pub start-idle : (a : Actor) (h : List Event) → IsStart h → is_busy a h ≡ false
start-idle a [] start = refl
start-idle a (Seed n ∷ p) start = start-idle a p start
start-idle a (Tie b c ∷ p) start = start-idle a p start
start-idle a (e ∷ p) start = absurd start

pub begun-stands : (s : Scripted) (t : Table) → length t ≡ s.nodes → IsBegun s s.seeds s.ties t → AreActorsAt s (beginning s) t
begun-stands s t nodes stands =
    let h = beginning s in
    let start = beginning-start s in
    record {
      nodes = nodes;
      counts = λ n. stands.counts n ∙ sym (ties-births s n s.ties (seeds_done s.seeds []));
      rows = λ a. each-some (IsSeedRow s s.seeds s.ties a) (IsRowOf s h a) (row_at t a) (λ r had. record {
        behaviour = had.behaviour ∙ sym (ap (λ (d : Doing). d.behaviour) (start-doing s a h start));
        in_code = had.in_code;
        names = had.names ∙ sym (ap (λ v. if v then None else Some (names_now s a h)) (start-idle a h start) ∙ ap (λ (d : Doing). Some (let l = d.turn in l.names)) (start-doing s a h start));
      }) (stands.rows a);
      born = λ a busy. absurd (false≢true (sym (start-idle a h start) ∙ busy));
    }

-- ---- what the loops need

-- no node has too many seeds
pub seeds-room : (s : Scripted) (xs : List SeedRow) (i n : ℕ) (t : Table) → IsBegun s (take i xs) [] t → length xs ≤ 4096 → i < length xs → length (rows_on t n) < 262144
seeds-room s xs i n t stands few below =
    let count = stands.counts n in
    let seeds = seeds-few n (take i xs) [] in
    let short = length-take-le i xs (omega (arith, below)) in
    omega (arith, count, seeds, short, few, below)

pub seeded-length : (xs : List SeedRow) (h : List Event) → length (seeded xs h) ≡ length xs
seeded-length [] h = refl
seeded-length (x ∷ xs) h = (let rest = seeded-length xs (Seed x.node ∷ h) in omega (arith, rest))

-- the parts of a seed's test
pub seed-behaviour : (n m : ℕ) (x : SeedRow) → is_seed n m x ≡ true → x.behaviour < m
seed-behaviour n m x fits =
    let first = and_parts (nat_lt x.node n && nat_lt x.behaviour m) (nat_le x.wakes 1000000) fits in
    ltb-true x.behaviour m (and_parts (nat_lt x.node n) (nat_lt x.behaviour m) first.0).1

-- a list, round the one at a place
split-at : {A : Type 0} (xs : List A) (i : ℕ) (x : A) → i < length xs → x ≡ get_or xs i x → take i xs ++ x ∷ drop (suc i) xs ≡ xs
split-at [] i x below is = absurd (omega (arith, below))
split-at (y ∷ ys) zero x below is = ap (λ z. z ∷ ys) is
split-at (y ∷ ys) (suc i) x below is = ap (λ zs. y ∷ zs) (split-at ys i x (omega (arith, below)) is)

all-take : {A : Type 0} (p : A → Bool) (i : ℕ) (xs : List A) → list_all p xs ≡ true → list_all p (take i xs) ≡ true
all-take p zero xs all = refl
all-take p (suc i) [] all = refl
all-take p (suc i) (x ∷ xs) all = (let both = and_parts (p x) (list_all p xs) all in and_from (p x) (list_all p (take i xs)) both.0 (all-take p i xs both.1))

some-at : (xs : List Row) (i : ℕ) → i < length xs → (r : Row) × (slice_get xs i ≡ Some r)
some-at [] i below = absurd (omega (arith, below))
some-at (x ∷ xs) zero below = (x, refl)
some-at (x ∷ xs) (suc i) below = some-at xs i (omega (arith, below))

-- one seed more, as the loop has it
pub seed-added : (s : Scripted) (xs : List SeedRow) (i : ℕ) (x : SeedRow) (old new : Table) (list : List Actor) (child : Actor) (names : List (List ℕ × Actor)) → i < length xs → x ≡ get_or xs i x → x.behaviour < length s.code
    → IsBegun s (take i xs) [] old → list ≡ seeded (take i xs) [] → child ≡ next_on old x.node → local_names names ≡ own_name (next_on old x.node) → AddsRow old new (next_on old x.node) (row x.behaviour (Some names))
    → IsBegun s (take (i + 1) xs) [] new × (list ++ child ∷ [] ≡ seeded (take (i + 1) xs) [])
seed-added s xs i x old new list child names below is known stands same next own change =
    let more : take (i + 1) xs ≡ take i xs ++ x ∷ [] = take_more xs i x below ∙ ap (λ (y : SeedRow). take i xs ++ y ∷ []) (sym is) in (
      subst (λ ys. IsBegun s ys [] new) (sym more) (begun-seed s (take i xs) x old new names stands change own known),
      ap (λ cs. cs ++ child ∷ []) same ∙ ap (λ c. seeded (take i xs) [] ++ c ∷ []) (next ∙ sym (child-next s (take i xs) x old new names stands))
          ∙ sym (ap (λ ys. seeded ys []) more ∙ seeded-snoc (take i xs) x []),
    )

module _ (s : Scripted) (actors : List Actor) (seeds : actors ≡ seed_actors s) where
  -- the actor of a seed
  pub actor-at : (i : ℕ) (a : Actor) → i < length actors → a ≡ get_or actors i a → a ≡ seed_number s i
  actor-at i a below is = is ∙ get_or_default actors i a (record { node = 0; serial = 0 }) below ∙ ap (λ as_. get_or as_ i (record { node = 0; serial = 0 })) seeds

  many : length actors ≡ length s.seeds
  many = ap (λ (as_ : List Actor). length as_) seeds ∙ seeded-length s.seeds []

  -- the ends of a tie are seeds
  pub tie-ends : (i : ℕ) (x : TieRow) → list_all (is_tie (length s.seeds)) s.ties ≡ true → i < length s.ties → x ≡ get_or s.ties i x → (x.from < length actors) × (x.to < length actors)
  tie-ends i x fit below is =
      let parts = tie-parts (length s.seeds) x (subst (λ y. is_tie (length s.seeds) y ≡ true) (sym is) (all-at (is_tie (length s.seeds)) s.ties i x fit below)) in
      (subst (λ n. x.from < n) (sym many) parts.0, subst (λ n. x.to < n) (sym many) parts.1)

-- a seed has its names
pub begun-has : (s : Scripted) (ties : List TieRow) (t : Table) (i : ℕ) → IsBegun s s.seeds ties t → i < length s.seeds → IsSome (names_at t (seed_number s i))
begun-has s ties t i stands below =
    let a = seed_number s i in
    let there = (seed-seeded (record { node = 0; serial = 0 }) s.seeds [] tt i below).0 in
    let here : a.serial < length (rows_on t a.node) = subst (λ n. a.serial < n) (sym (stands.counts a.node)) (ltb-true a.serial (births a.node (seeds_done s.seeds [])) there) in
    let found = some-at (rows_on t a.node) a.serial here in
    let r = found.0 in
    let had = some-of (IsSeedRow s s.seeds ties a) (row_at t a) r found.1 (stands.rows a) in
    subst (λ o. IsSome (names_in o)) (sym found.1) (some r.names had.names)
  where
    some : (o : Option (List (List ℕ × Actor))) → {names : Names} → option_map local_names o ≡ Some names → IsSome o
    some None {names} e = absurd (none-some names e)
    some (Some ns) {names} e = refl

-- the name of the next tie is free
pub next-free : (s : Scripted) (i : ℕ) (x : TieRow) (old : Table) (a : Actor) (names : List (List ℕ × Actor)) → list_all (is_tie (length s.seeds)) s.ties ≡ true → IsDistinct same_tie s.ties → i < length s.ties → x ≡ get_or s.ties i x
    → IsBegun s s.seeds (take i s.ties) old → a ≡ seed_number s x.from → names_at old a ≡ Some names → bound (Local x.name) (local_names names) ≡ None
next-free s i x old a names fit distinct below is stands from had =
    tie-free s (take i s.ties) (drop (suc i) s.ties) x old names stands (all-take (is_tie (length s.seeds)) i s.ties fit)
    (subst (λ y. is_tie (length s.seeds) y ≡ true) (sym is) (all-at (is_tie (length s.seeds)) s.ties i x fit below))
    (subst (IsDistinct same_tie) (sym (split-at s.ties i x below is)) distinct) (ap (names_at old) (sym from) ∙ had)

-- one tie more, as the loop has it
pub tie-added : (s : Scripted) (i : ℕ) (x : TieRow) (old new : Table) (a b : Actor) → i < length s.ties → x ≡ get_or s.ties i x → IsBegun s s.seeds (take i s.ties) old → a ≡ seed_number s x.from → b ≡ seed_number s x.to → Binds old new a x.name b
    → IsBegun s s.seeds (take (i + 1) s.ties) new
tie-added s i x old new a b below is stands from to binds =
    subst (λ ys. IsBegun s s.seeds ys new) (sym (take_more s.ties i x below ∙ ap (λ (y : TieRow). take i s.ties ++ y ∷ []) (sym is)))
    (begun-tie s s.seeds (take i s.ties) x old new stands (subst (λ c. Binds old new c x.name (seed_number s x.to)) from (subst (λ c. Binds old new a x.name c) to binds)))

-- what the next tie is, as the loop has it
pub record NextTie (s : Scripted) (actors : List Actor) (i : ℕ) (x : TieRow) (old : Table) : Type 0 where
  pub below : i < length s.ties
  pub is : x ≡ get_or s.ties i x
  pub begun : IsBegun s s.seeds (take i s.ties) old
  pub ends : (x.from < length actors) × (x.to < length actors)
  pub seeds : (x.from < length s.seeds) × (x.to < length s.seeds)

pub next-tie : (s : Scripted) (actors : List Actor) (items : List TieRow) (i : ℕ) (x : TieRow) (old : Table) → actors ≡ seed_actors s → items ≡ s.ties → list_all (is_tie (length s.seeds)) s.ties ≡ true → i < length items → x ≡ get_or items i x
    → IsBegun s s.seeds (take i items) old → NextTie s actors i x old
next-tie s actors items i x old seeds same fit below is begun =
    let below' = subst (λ (xs : List TieRow). i < length xs) same below in
    let is' = subst (λ xs. x ≡ get_or xs i x) same is in
    let ends = tie-ends s actors seeds i x fit below' is' in
    record {
      below = below';
      is = is';
      begun = subst (λ xs. IsBegun s s.seeds (take i xs) old) same begun;
      ends = ends;
      seeds = (subst (λ n. x.from < n) (many s actors seeds) ends.0, subst (λ n. x.to < n) (many s actors seeds) ends.1);
    }
