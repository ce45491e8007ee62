-- The progress at the beginning of a script.
use Rattle.std.proofs.Common.{◌≡◌, ◌≢◌, ◌+◌, ◌-◌, ◌≤◌, ◌<◌, ◌==◌, ℕ, zero, suc, Bool, true, false, not, cond, if◌then◌else◌, List, [], ◌∷◌, ◌++◌, get_or, length, map, set, Option, Some, None, refl, sym, ◌∙◌, ap, subst, arith, inl, inr, ◌&&◌}
use Rattle.std.specs.List.{list_all, list_any}
use Rattle.std.proofs.lemmas.Bool.{and_parts, cases_eq, cases_lt, eq-eqb, false≢true, false_from_ne_true, ne_eqb}
use Rattle.std.proofs.lemmas.List.{get_or_default, get_or-set_other, get_or-set_same, get_or_append_left, get_or-append_right, get_or_past, length-append}
use Rattle.crgc_ids.specs.Actor.{Actor, same_actor}
use Rattle.crgc_ids.proofs.ActorLaws.{same_parts}
use Rattle.history_model.specs.declared.events.Event.{Event}
use Rattle.history_model.specs.declared.events.Event.TheVariants.{Seed, Tie}
use Rattle.history_model.specs.Cluster.{births, newborn}
use Rattle.history_model.specs.Messages.{is_lose, is_repeat}
use Rattle.history_model.specs.Tally.{tally}
use Rattle.history_model.proofs.Basics.{eqb-refl, same_actor-equal}
use Rattle.fault_plan.specs.Rows.{Planned}
use Rattle.script_reader.specs.Valid.{Scripted}
use Rattle.script_reader.specs.declared.script.Seed.{Seed as SeedRow}
use Rattle.run_model.specs.Doing.{beginning, row_of}
use Rattle.run_model.specs.Planned.{has_row, is_begin, is_rest, is_rest_on, is_wake_of, wakes_of}
use Rattle.run_model.proofs.Beginnings.{IsStart, beginning-start}
use Rattle.run_model.proofs.SeedRows.{row_of-last, row_of-others, seeds-few, seeds_done, seeds_done-snoc}
use Rattle.script_progress.specs.Used.{NodeUsed, Used, unused}
use Rattle.script_progress.specs.Standing.{AreSeeded, IsProgressAt}

-- ---- one seed more

-- the node with one seed more
abbrev pub with_seed : NodeUsed → ℕ → NodeUsed
with_seed node wakes = record node { wakes = node.wakes ++ wakes ∷ [] }

-- one number more at the end
snoc-other : (xs : List ℕ) (w i : ℕ) → i ≢ length xs → get_or (xs ++ w ∷ []) i 0 ≡ get_or xs i 0
snoc-other xs w i apart = elim (cases_lt i (length xs)) [
  | inl below ↦ get_or_append_left xs (w ∷ []) 0 i below
  | inr past ↦
      get_or_past (xs ++ w ∷ []) i 0 (let long = length-append xs (w ∷ []) in omega (arith, long, past, apart))
      ∙ sym (get_or_past xs i 0 past)
]

snoc-last : (xs : List ℕ) (w : ℕ) → get_or (xs ++ w ∷ []) (length xs) 0 ≡ w
snoc-last xs w = get_or-append_right xs (w ∷ []) (length xs) (length xs) 0 refl (omega arith) ∙ ap (λ i. get_or (w ∷ []) i 0) (zero-left (length xs))
  where
    zero-left : (n : ℕ) → n - n ≡ 0
    zero-left n = omega arith

module _ (xs : List SeedRow) (nodes : List NodeUsed) (x : SeedRow) (stands : AreSeeded xs nodes) (within : x.node < length nodes) where
  abbrev old : NodeUsed
  old = get_or nodes x.node unused

  abbrev after : List NodeUsed
  after = set nodes x.node (with_seed old x.wakes)

  put : get_or after x.node unused ≡ with_seed old x.wakes
  put = get_or-set_same nodes x.node (with_seed old x.wakes) unused within

  elsewhere : (n : ℕ) → n ≢ x.node → get_or after n unused ≡ get_or nodes n unused
  elsewhere n other = get_or-set_other nodes x.node n (with_seed old x.wakes) unused other

  child : Actor
  child = newborn x.node (seeds_done xs [])

  count-here : length (with_seed old x.wakes).wakes ≡ births x.node (seeds_done (xs ++ x ∷ []) [])
  count-here =
      length-append old.wakes (x.wakes ∷ []) ∙ ap (λ n. n + 1) (stands.counts x.node)
      ∙ sym (ap (λ h. births x.node h) (seeds_done-snoc xs x []) ∙ ap (λ v. if v then births x.node (seeds_done xs []) + 1 else births x.node (seeds_done xs [])) (eqb-refl x.node))

  count-there : (n : ℕ) → n ≢ x.node → births n (seeds_done (xs ++ x ∷ []) []) ≡ births n (seeds_done xs [])
  count-there n other =
      ap (λ h. births n h) (seeds_done-snoc xs x [])
      ∙ ap (λ v. if v then births n (seeds_done xs []) + 1 else births n (seeds_done xs [])) (ne_eqb x.node n (λ same. other (sym same)))

  -- who is not the child has what it had
  other-row : (a : Actor) → (child ≡ a → ⊥) → wakes_of (row_of (xs ++ x ∷ []) [] a) ≡ wakes_of (row_of xs [] a)
  unfolding child
  other-row a other = ap wakes_of (row_of-others xs x [] a (false_from_ne_true (same_actor child a) (λ same. other (same_actor-equal child a same))))

  wakes-here : (i : ℕ) → get_or (with_seed old x.wakes).wakes i 0 ≡ wakes_of (row_of (xs ++ x ∷ []) [] (record { node = x.node; serial = i }))
  unfolding child
  wakes-here i = elim (cases_eq i (length old.wakes)) [
    | inl last ↦
        subst (λ j. get_or (with_seed old x.wakes).wakes j 0 ≡ wakes_of (row_of (xs ++ x ∷ []) [] (record { node = x.node; serial = j }))) (sym last)
        (snoc-last old.wakes x.wakes
        ∙ sym (ap (λ j. wakes_of (row_of (xs ++ x ∷ []) [] (record { node = x.node; serial = j }))) (stands.counts x.node) ∙ ap wakes_of (row_of-last xs x [])))
    | inr apart ↦
        snoc-other old.wakes x.wakes i apart ∙ stands.wakes (record { node = x.node; serial = i })
        ∙ sym (other-row (record { node = x.node; serial = i }) (λ same. apart (sym (ap (λ (b : Actor). b.serial) same) ∙ sym (stands.counts x.node))))
  ]

  pub seeded-next : AreSeeded (xs ++ x ∷ []) after
  unfolding child
  seeded-next = record {
    counts = λ n. elim (cases_eq n x.node) [
      | inl same ↦ subst (λ m. length (get_or after m unused).wakes ≡ births m (seeds_done (xs ++ x ∷ []) [])) (sym same) (ap (λ (m : NodeUsed). length m.wakes) put ∙ count-here)
      | inr other ↦ ap (λ (m : NodeUsed). length m.wakes) (elsewhere n other) ∙ stands.counts n ∙ sym (count-there n other)
    ];
    wakes = λ a. elim (cases_eq a.node x.node) [
      | inl same ↦
          subst (λ (b : Actor). get_or (get_or after b.node unused).wakes b.serial 0 ≡ wakes_of (row_of (xs ++ x ∷ []) [] b)) (same_parts (record { node = x.node; serial = a.serial }) a (sym same) refl)
          (ap (λ (m : NodeUsed). get_or m.wakes a.serial 0) put ∙ wakes-here a.serial)
      | inr other ↦
          ap (λ (m : NodeUsed). get_or m.wakes a.serial 0) (elsewhere a.node other) ∙ stands.wakes a
          ∙ sym (other-row a (λ same. other (sym (ap (λ (b : Actor). b.node) same))))
    ];
    ended = λ n. elim (cases_eq n x.node) [
      | inl same ↦ subst (λ m. (get_or after m unused).ended ≡ 0) (sym same) (ap (λ (m : NodeUsed). m.ended) put ∙ stands.ended x.node)
      | inr other ↦ ap (λ (m : NodeUsed). m.ended) (elsewhere n other) ∙ stands.ended n
    ];
  }

-- the same, where the node was lent and given back
pub seeded-set : (xs more : List SeedRow) (nodes : List NodeUsed) (x : SeedRow) (i : ℕ) (old new : NodeUsed) → AreSeeded xs nodes → more ≡ xs ++ x ∷ [] → i ≡ x.node → x.node < length nodes → old ≡ get_or nodes i old → new ≡ with_seed old x.wakes
    → AreSeeded more (set nodes i new)
seeded-set xs more nodes x i old new stands e at within here pushed =
    let found : old ≡ get_or nodes x.node unused = here ∙ get_or_default nodes i old unused (omega (arith, at, within)) ∙ ap (λ n. get_or nodes n unused) at in
    subst (λ ys. AreSeeded ys (set nodes i new)) (sym e)
    (subst (λ n. AreSeeded (xs ++ x ∷ []) (set nodes n new)) (sym at)
    (subst (λ m. AreSeeded (xs ++ x ∷ []) (set nodes x.node m)) (sym (pushed ∙ ap (λ m. with_seed m x.wakes) found)) (seeded-next xs nodes x stands within)))

-- so no row is too long
pub wakes-few : (xs : List SeedRow) (nodes : List NodeUsed) (i : ℕ) (old : NodeUsed) → AreSeeded xs nodes → i < length nodes → old ≡ get_or nodes i old → length xs < 262144 → length old.wakes < 262144
wakes-few xs nodes i old stands within here few =
    let found : old ≡ get_or nodes i unused = here ∙ get_or_default nodes i old unused within in
    let count = ap (λ (m : NodeUsed). length m.wakes) found ∙ stands.counts i in
    let seeds = seeds-few i xs [] in
    omega (arith, count, seeds, few)

-- ---- nothing was done

start-tally : (test : Event → Bool) → ((n : ℕ) → test (Seed n) ≡ false) → ((a b : Actor) → test (Tie a b) ≡ false) → (h : List Event) → IsStart h → tally test h ≡ 0
start-tally test seed tie [] start = refl
start-tally test seed tie (Seed n ∷ p) start = rw (seed n) (start-tally test seed tie p start)
start-tally test seed tie (Tie a b ∷ p) start = rw (tie a b) (start-tally test seed tie p start)
start-tally test seed tie (e ∷ p) start = absurd start

start-any : (test : Event → Bool) → ((n : ℕ) → test (Seed n) ≡ false) → ((a b : Actor) → test (Tie a b) ≡ false) → (h : List Event) → IsStart h → list_any test h ≡ false
start-any test seed tie [] start = refl
start-any test seed tie (Seed n ∷ p) start = rw (seed n) (start-any test seed tie p start)
start-any test seed tie (Tie a b ∷ p) start = rw (tie a b) (start-any test seed tie p start)
start-any test seed tie (e ∷ p) start = absurd start

none-used : (a b : Bool) → b ≡ false → a ≡ (a && not b)
none-used true b e = sym (ap not e)
none-used false b e = refl

pub progress-begins : (s : Scripted) (nodes : List NodeUsed) → length nodes ≡ s.nodes → AreSeeded s.seeds nodes → IsProgressAt s (beginning s) (record { turns = s.turns; begun = 0; ended = 0; nodes = nodes; next = record { node = 0; serial = 0 }; plan = s.plan })
progress-begins s nodes count seeded =
    let h = beginning s in
    let start = beginning-start s in
    let all : Planned = s.plan in
    record {
      turns = refl;
      begun = sym (start-tally is_begin (λ n. refl) (λ a b. refl) h start);
      ended = sym (start-tally is_rest (λ n. refl) (λ a b. refl) h start);
      nodes = count;
      ended_on = λ n. seeded.ended n ∙ sym (start-tally (is_rest_on n) (λ n. refl) (λ a b. refl) h start);
      wakes = λ a. (let have = seeded.wakes a in let none = start-tally (is_wake_of a) (λ n. refl) (λ a b. refl) h start in omega (arith, have, none));
      passed = λ a below. elim below [ inl none ↦ absurd (omega (arith, none)) | inr none ↦ (let low = none.1 in absurd (omega (arith, low))) ];
      plan = record {
        losses = λ f d k. none-used (has_row f d k all.losses) (list_any (is_lose f d k) h) (start-any (is_lose f d k) (λ n. refl) (λ a b. refl) h start);
        repeats = λ f d k. none-used (has_row f d k all.repeats) (list_any (is_repeat f d k) h) (start-any (is_repeat f d k) (λ n. refl) (λ a b. refl) h start);
        crashes = refl;
      };
    }

pub progress-begun : (s : Scripted) (nodes : List NodeUsed) (k : ℕ) (seeds : List SeedRow) (plan : Planned) (turns : ℕ) → s.nodes ≡ k → s.seeds ≡ seeds → s.plan ≡ plan → s.turns ≡ turns → length nodes ≡ k → AreSeeded seeds nodes
    → IsProgressAt s (beginning s) (record { turns = turns; begun = 0; ended = 0; nodes = nodes; next = record { node = 0; serial = 0 }; plan = plan })
progress-begun s nodes k seeds plan turns same_nodes same_seeds same_plan same_turns count seeded =
    subst (λ t. IsProgressAt s (beginning s) (record { turns = t; begun = 0; ended = 0; nodes = nodes; next = record { node = 0; serial = 0 }; plan = plan })) same_turns
    (subst (λ p. IsProgressAt s (beginning s) (record { turns = s.turns; begun = 0; ended = 0; nodes = nodes; next = record { node = 0; serial = 0 }; plan = p })) same_plan
    (progress-begins s nodes (count ∙ sym same_nodes) (subst (λ xs. AreSeeded xs nodes) (sym same_seeds) seeded)))
