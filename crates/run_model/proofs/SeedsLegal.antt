-- The beginning of a script that stays in its ranges is legal.
use Rattle.std.proofs.Common.{◌≡◌, ◌<◌, ◌==◌, ℕ, zero, suc, true, false, not, if◌then◌else◌, List, [], ◌∷◌, length, map, get_or, refl, sym, ◌∙◌, ap, subst, arith, IsTrue, ◌&&◌, nat_lt}
use Rattle.std.specs.Prelude.{None}
use Rattle.std.specs.List.{list_all}
use Rattle.std.proofs.lemmas.Bool.{and_parts, false≢true, false_from_ne_true, ltb-true}
use Rattle.crgc_ids.specs.Actor.{Actor, same_actor}
use Rattle.history_model.specs.declared.events.Event.{Event}
use Rattle.history_model.specs.declared.events.Event.TheVariants.{Seed, Tie}
use Rattle.history_model.specs.Cluster.{is_born, newborn}
use Rattle.history_model.specs.Legal.{IsLegal, checks, refusal}
use Rattle.history_model.specs.Rows.{onto}
use Rattle.history_model.specs.State.{is_root, is_up}
use Rattle.history_model.proofs.AccountsBirths.{born-grows, newborn-born, newborn-not_born}
use Rattle.history_model.proofs.Basics.{eqb-refl, same_actor-equal, same_actor-refl}
use Rattle.script_reader.specs.Valid.{Scripted}
use Rattle.script_reader.specs.declared.script.Seed.{Seed as SeedRow}
use Rattle.script_reader.specs.declared.script.Tie.{Tie as TieRow}
use Rattle.run_model.specs.Doing.{beginning, cluster_of, is_in_ranges, is_tie_in, seed_number, seeded, tie_of}
use Rattle.run_model.proofs.ActsLegal.{none-broken}
use Rattle.run_model.proofs.Beginnings.{IsStart, start-seeds}

-- nobody has crashed
start-up : (n : ℕ) (h : List Event) → IsStart h → is_up n h ≡ true
start-up n [] start = refl
start-up n (Seed m ∷ p) start = start-up n p start
start-up n (Tie a b ∷ p) start = start-up n p start
start-up n (e ∷ p) start = absurd start

-- a root stays one
start-root : (a : Actor) (e : Event) (p : List Event) → IsStart (e ∷ p) → is_root a p ≡ true → is_root a (e ∷ p) ≡ true
start-root a (Seed n) p start root = elim (same_actor (newborn n p) a) as (λ v. (if v then true else is_root a p) ≡ true) [ true ↦ refl | false ↦ root ]
start-root a (Tie b c) p start root = root
start-root a e p start root = absurd start

-- an idle root that was born
abbrev pub IsSeeded : Actor → List Event → Type 0
IsSeeded a h = IsTrue (is_born a h) × (is_root a h ≡ true)

seeded-more : (a : Actor) (e : Event) (p : List Event) → IsStart (e ∷ p) → IsSeeded a p → IsSeeded a (e ∷ p)
seeded-more a e p start there = (born-grows a (e ∷ []) p there.0, start-root a e p start there.1)

seeded-later : (a : Actor) (seeds : List SeedRow) (h : List Event) → IsStart h → IsSeeded a h → IsSeeded a (onto h (map (λ (x : SeedRow). Seed x.node) seeds))
seeded-later a [] h start there = there
seeded-later a (x ∷ seeds) h start there = seeded-later a seeds (Seed x.node ∷ h) start (seeded-more a (Seed x.node) h start there)

module _ (d : Actor) where
  -- each seed is born as a root, and was not born before
  pub seed-seeded : (seeds : List SeedRow) (h : List Event) → IsStart h → (i : ℕ) → i < length seeds → IsSeeded (get_or (seeded seeds h) i d) (onto h (map (λ (x : SeedRow). Seed x.node) seeds))
  seed-seeded [] h start i below = absurd (omega (arith, below))
  seed-seeded (x ∷ seeds) h start zero below =
      let c = newborn x.node h in
      seeded-later c seeds (Seed x.node ∷ h) start
      (newborn-born x.node (Seed x.node) h (eqb-refl x.node), ap (λ v. if v then true else is_root c h) (same_actor-refl c))
  seed-seeded (x ∷ seeds) h start (suc i) below = seed-seeded seeds (Seed x.node ∷ h) start i (omega (arith, below))

  seed-new : (seeds : List SeedRow) (h : List Event) (i : ℕ) → i < length seeds → is_born (get_or (seeded seeds h) i d) h ≡ false
  seed-new [] h i below = absurd (omega (arith, below))
  seed-new (x ∷ seeds) h zero below = newborn-not_born x.node h
  seed-new (x ∷ seeds) h (suc i) below =
      let a = get_or (seeded seeds (Seed x.node ∷ h)) i d in
      let later = seed-new seeds (Seed x.node ∷ h) i (omega (arith, below)) in
      false_from_ne_true (is_born a h) (λ born. false≢true (sym later ∙ born-grows a (Seed x.node ∷ []) h born))

  -- seeds with different numbers differ
  first-differs : (x : SeedRow) (seeds : List SeedRow) (h : List Event) (j : ℕ) → j < length seeds → newborn x.node h ≡ get_or (seeded seeds (Seed x.node ∷ h)) j d → ⊥
  first-differs x seeds h j below same =
      false≢true (sym (seed-new seeds (Seed x.node ∷ h) j below) ∙ subst (λ a. is_born a (Seed x.node ∷ h) ≡ true) same (newborn-born x.node (Seed x.node) h (eqb-refl x.node)))

  pub seeds-differ : (seeds : List SeedRow) (h : List Event) (i j : ℕ) → i < length seeds → j < length seeds → (i ≡ j → ⊥) → get_or (seeded seeds h) i d ≡ get_or (seeded seeds h) j d → ⊥
  seeds-differ [] h i j first second apart same = absurd (omega (arith, first))
  seeds-differ (x ∷ seeds) h zero zero first second apart same = apart refl
  seeds-differ (x ∷ seeds) h zero (suc j) first second apart same = first-differs x seeds h j (omega (arith, second)) same
  seeds-differ (x ∷ seeds) h (suc i) zero first second apart same = first-differs x seeds h i (omega (arith, first)) (sym same)
  seeds-differ (x ∷ seeds) h (suc i) (suc j) first second apart same =
      seeds-differ seeds (Seed x.node ∷ h) i j (omega (arith, first)) (omega (arith, second)) (λ e. apart (ap suc e)) same

module _ (s : Scripted) where
  seeds-legal : (seeds : List SeedRow) (h : List Event) → IsStart h → IsLegal (cluster_of s) h → list_all (λ (x : SeedRow). nat_lt x.node s.nodes) seeds ≡ true → IsLegal (cluster_of s) (onto h (map (λ (x : SeedRow). Seed x.node) seeds))
  seeds-legal [] h start legal nodes = legal
  seeds-legal (x ∷ seeds) h start legal nodes =
      let both = and_parts (nat_lt x.node s.nodes) (list_all (λ (x : SeedRow). nat_lt x.node s.nodes) seeds) nodes in
      seeds-legal seeds (Seed x.node ∷ h) start (none-broken (checks (cluster_of s) (Seed x.node) h) (both.0, (start-up x.node h start, tt)), legal) both.1

  -- a tie of two seeds
  tie-legal : (t : TieRow) (h : List Event) → IsStart h → IsSeeded (seed_number s t.from) h → IsSeeded (seed_number s t.to) h → (seed_number s t.from ≡ seed_number s t.to → ⊥) → refusal (cluster_of s) (tie_of s t) h ≡ None
  tie-legal t h start from to apart =
      let a = seed_number s t.from in
      let b = seed_number s t.to in
      let differ : not (same_actor a b) ≡ true = ap not (false_from_ne_true (same_actor a b) (λ same. apart (same_actor-equal a b same))) in
      none-broken (checks (cluster_of s) (tie_of s t) h)
      (from.0, (to.0, (start-up a.node h start, (start-up b.node h start, (differ, (from.1, (to.1, tt)))))))

  ties-legal : (ties : List TieRow) (h : List Event) → IsStart h → IsLegal (cluster_of s) h → ((i : ℕ) → i < length s.seeds → IsSeeded (seed_number s i) h) → list_all (is_tie_in (length s.seeds)) ties ≡ true → IsLegal (cluster_of s) (onto h (map (tie_of s) ties))
  ties-legal [] h start legal there ties = legal
  ties-legal (t ∷ more) h start legal there ties =
      let both = and_parts (is_tie_in (length s.seeds) t) (list_all (is_tie_in (length s.seeds)) more) ties in
      let ends = and_parts (nat_lt t.from (length s.seeds)) (nat_lt t.to (length s.seeds) && not (t.to == t.from)) both.0 in
      let last = and_parts (nat_lt t.to (length s.seeds)) (not (t.to == t.from)) ends.1 in
      let from = ltb-true t.from (length s.seeds) ends.0 in
      let to = ltb-true t.to (length s.seeds) last.0 in
      let apart : t.from ≡ t.to → ⊥ = λ same. false≢true (sym (ap not (subst (λ n. (t.to == n) ≡ true) (sym same) (eqb-refl t.to))) ∙ last.1) in
      let d : Actor = record { node = 0; serial = 0 } in
      ties-legal more (tie_of s t ∷ h) start
      (tie-legal t h start (there t.from from) (there t.to to) (seeds-differ d s.seeds [] t.from t.to from to apart), legal)
      (λ i below. seeded-more (seed_number s i) (tie_of s t) h start (there i below)) both.1

  pub beginning-legal : is_in_ranges s ≡ true → IsLegal (cluster_of s) (beginning s)
  beginning-legal fits =
      let both = and_parts (list_all (λ (x : SeedRow). nat_lt x.node s.nodes) s.seeds) (list_all (is_tie_in (length s.seeds)) s.ties) fits in
      ties-legal s.ties (onto [] (map (λ (x : SeedRow). Seed x.node) s.seeds)) (start-seeds s.seeds [] tt) (seeds-legal s.seeds [] tt tt both.0)
      (λ i below. seed-seeded (record { node = 0; serial = 0 }) s.seeds [] tt i below) both.1
