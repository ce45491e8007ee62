-- Runs of numbers in a map, and the numbers in them.
use Rattle.std.proofs.Common.{◌≡◌, ◌⊎◌, ◌↔◌, ◌==◌, ◌+◌, ◌<◌, ◌≤◌, ◌&&◌, ◌||◌, ℕ, Bool, true, false, cond, get_or, leb, ltb, Option, Some, None, refl, sym, ◌∙◌, ap, subst, inl, inr, arith}
use Rattle.std.proofs.lemmas.Bool.{cases_lt, false≢true, ne_eqb}
use Rattle.std.proofs.lemmas.Bool.Decides.{Decides-and, Decides-by_or, Decides-eqb, Decides-like, Decides-ltb, Decides-or, nat_tests, same_from_decides}
use Rattle.std.proofs.lemmas.Cmp.{nat_cmp_total}
use Rattle.std.proofs.lemmas.List.{get_or_default}
use Rattle.std.proofs.lemmas.Map.Lookups.{exact_unsigned}
use Rattle.std.proofs.lemmas.Map.Views.{btree_map_get_iff}
use Rattle.std.specs.BTreeMap.{BTreeMap, IsOrdered, get, is_at}
use Rattle.std.specs.Bool.{Decides}
use Rattle.std.specs.List.{Contains, list_any}
use Rattle.std.specs.Ordering.{is_gt, is_lt, nat_cmp}
use Rattle.ingress_gateway.specs.Numbered.{has_number}
use Rattle.ingress_gateway.specs.Runs.{AreApart, BeginLater, HasRun, IsEndWith, IsFirstWith, IsLastRun}

pub not_above : (m n : ℕ) → m ≤ n → is_gt (nat_cmp m n) ≡ false
not_above m n h = grind (arith, nat_tests)

pub at_most : (m n : ℕ) → is_gt (nat_cmp m n) ≡ false → m ≤ n
at_most m n h = grind (arith, nat_tests)

pub at_least : (m n : ℕ) → is_lt (nat_cmp m n) ≡ false → n ≤ m
at_least m n h = grind (arith, nat_tests)

leb-decides : (m n : ℕ) → Decides (leb m n) (m ≤ n)
leb-decides m n = (λ t. grind (arith, nat_tests), λ h. grind (arith, nat_tests))

some-same : {o : Option ℕ} {x y : ℕ} → o ≡ Some x → o ≡ Some y → x ≡ y
some-same e f = cc

-- ---- a number in a run

-- the number stands in a run
pub record Inside (runs : ℕ → Option ℕ) (k : ℕ) : Type 0 where
  pub first : ℕ
  pub end : ℕ
  pub run : HasRun runs first end
  pub low : first ≤ k
  pub high : k < end

-- so the map's entries tell
pub inside-decides : (m : BTreeMap ℕ ℕ) → IsOrdered nat_cmp m → (k : ℕ) → Decides (has_number (record { runs = m.entries }) k) (Inside (get nat_cmp m) k)
inside-decides m ordered k = Decides-like (has_number (record { runs = m.entries }) k)
    (λ found.
    let r = get_or m.entries found.0 (0, 0) in
    let here = found.2 (0, 0) in
    record {
      first = r.0;
      end = r.1;
      run = (run-entry r.0 r.1).1 (found.0, found.1, get_or_default m.entries found.0 r (0, 0) found.1);
      low = here.0;
      high = here.1;
    })
    (λ i. let c = (run-entry i.first i.end).0 i.run in (c.0, c.1, λ d. subst In (sym c.2 ∙ get_or_default m.entries c.0 (i.first, i.end) d c.1) (i.low, i.high)))
    (Decides-by_or (λ (r : ℕ × ℕ). leb r.0 k && ltb k r.1) In (list_any (λ (r : ℕ × ℕ). leb r.0 k && ltb k r.1)) (λ r. Decides-and _ _ (leb-decides r.0 k) (Decides-ltb k r.1)) refl (λ _ _. refl) m.entries)
  where
    In : ℕ × ℕ → Type 0
    In r = (r.0 ≤ k) × (k < r.1)

    run-entry : (first end : ℕ) → (get nat_cmp m first ≡ Some end) ↔ Contains m.entries (first, end)
    run-entry = btree_map_get_iff nat_cmp_total exact_unsigned m ordered

-- the last run that begins at or before a number tells whether it stands in a run
pub inside-last : (runs : ℕ → Option ℕ) (k first end : ℕ) → AreApart runs → IsLastRun runs k first end → Decides (ltb k end) (Inside runs k)
inside-last runs k first end apart last = (
  λ t. record { first = first; end = end; run = last.there; low = last.before; high = (Decides-ltb k end).0 t },
  λ i.
      let below = last.last i.first i.end i.run i.low in
      (Decides-ltb k end).1 (elim (cases_lt i.first first) [
        | inl earlier ↦ (let gap = apart.apart i.first i.end first end i.run last.there earlier in let low = last.before in let high = i.high in absurd (omega arith))
        | inr later ↦ (let same : i.first ≡ first = omega arith in let one = some-same (subst (λ b. runs b ≡ Some i.end) same i.run) last.there in let high = i.high in omega arith)
      ]),
)

-- where all runs begin later it stands in none
pub outside-later : (m : BTreeMap ℕ ℕ) → IsOrdered nat_cmp m → (k : ℕ) → BeginLater (get nat_cmp m) k → has_number (record { runs = m.entries }) k ≡ false
outside-later m ordered k later = same_from_decides _ false (inside-decides m ordered k) (
  λ t. absurd (false≢true t),
  λ i. let low = i.low in let late = later i.first i.end i.run in absurd (omega arith),
)

-- ---- one number more

-- the number, which stands in no run, is in the run from `first` to `end`, in which it joins those beside it
pub record IsJoined (old new : ℕ → Option ℕ) (number first end : ℕ) : Type 0 where
  pub apart : AreApart old
  pub out : Inside old number → ⊥
  pub left : IsFirstWith old number first
  pub right : IsEndWith old number end
  pub change : (k : ℕ) → new k ≡ cond (k == number + 1) None (cond (k == first) (Some end) (old k))

module _ (old new : ℕ → Option ℕ) (number first end : ℕ) (joined : IsJoined old new number first end) where
  first-low : first ≤ number
  first-low = elim joined.left [
    | inl run ↦ (let some = joined.apart.some first number run in omega arith)
    | inr one ↦ (let is = one.0 in omega arith)
  ]

  end-high : number < end
  end-high = elim joined.right [
    | inl run ↦ (let some = joined.apart.some (number + 1) end run in omega arith)
    | inr one ↦ (let is = one.0 in omega arith)
  ]

  -- a run of the new ones is the joined one, or one of the old ones apart from it
  which : (k last : ℕ) → HasRun new k last → ((k ≡ first) × (last ≡ end)) ⊎ (HasRun old k last × (k ≡ number + 1 → ⊥) × (k ≡ first → ⊥))
  which k last run =
      let Next : Bool → Type 0 = λ b. (k == number + 1) ≡ b → cond b None (cond (k == first) (Some end) (old k)) ≡ Some last → ((k ≡ first) × (last ≡ end)) ⊎ (HasRun old k last × (k ≡ number + 1 → ⊥) × (k ≡ first → ⊥)) in
      let First : Bool → Type 0 = λ b. (k == number + 1) ≡ false → (k == first) ≡ b → cond b (Some end) (old k) ≡ Some last → ((k ≡ first) × (last ≡ end)) ⊎ (HasRun old k last × (k ≡ number + 1 → ⊥) × (k ≡ first → ⊥)) in
      let at_first : First (k == first) = elim (k == first) as First [
        | true ↦ λ _ e f. inl ((Decides-eqb k first).0 e, some-same f refl)
        | false ↦ λ n e f. inr (f, λ is. false≢true (sym n ∙ (Decides-eqb k (number + 1)).1 is), λ is. false≢true (sym e ∙ (Decides-eqb k first).1 is))
      ] in
      let at_next : Next (k == number + 1) = elim (k == number + 1) as Next [
        | true ↦ λ _ f. absurd cc
        | false ↦ λ n f. at_first n refl f
      ] in
      at_next refl (sym (joined.change k) ∙ run)

  the_joined : HasRun new first end
  the_joined =
      let low = first-low in
      let apart : (first == number + 1) ≡ false = ne_eqb first (number + 1) (λ e. omega arith) in
      let one : (first == first) ≡ true = (Decides-eqb first first).1 refl in
      joined.change first ∙ rw (apart, one) refl

  kept : (k last : ℕ) → HasRun old k last → (k ≡ number + 1 → ⊥) → (k ≡ first → ⊥) → HasRun new k last
  kept k last run next other =
      let one : (k == number + 1) ≡ false = ne_eqb k (number + 1) next in
      let two : (k == first) ≡ false = ne_eqb k first other in
      joined.change k ∙ rw (one, two) run

  -- an old run that begins after the joined one begins after its end
  after-joined : (later last : ℕ) → HasRun old later last → (later ≡ number + 1 → ⊥) → first < later → end < later
  after-joined later last run next above =
      let past : number < later = elim joined.left [
        | inl whole ↦ joined.apart.apart first number later last whole run above
        | inr one ↦ (let is = one.0 in omega arith)
      ] in
      let beyond : number + 1 < later = elim (cases_lt (number + 1) later) [ inl h ↦ h | inr h ↦ absurd (next (omega arith)) ] in
      elim joined.right [
        | inl whole ↦ joined.apart.apart (number + 1) end later last whole run beyond
        | inr one ↦ (let is = one.0 in omega arith)
      ]

  -- an old run that begins before the joined one ends before it begins
  before-joined : (earlier last : ℕ) → HasRun old earlier last → earlier < first → last < first
  before-joined earlier last run below = elim joined.left [
    | inl whole ↦ joined.apart.apart earlier last first number run whole below
    | inr one ↦ (
        let is = one.0 in
        elim (cases_lt number last) [
          | inl over ↦ absurd (joined.out (record { first = earlier; end = last; run = run; low = omega arith; high = over }))
          | inr within ↦ elim (cases_lt last number) [
            | inl h ↦ omega arith
            | inr h ↦ (let same : last ≡ number = omega arith in absurd (one.1 earlier (subst (λ e. HasRun old earlier e) same run)))
          ]
        ]
        )
  ]

  pub joined-apart : AreApart new
  joined-apart = record {
    some = λ k last run. elim (which k last run) [
      | inl is ↦ (let low = first-low in let high = end-high in let one = is.0 in let two = is.1 in omega arith)
      | inr was ↦ joined.apart.some k last was.0
    ];
    apart = λ k last later after run next above. elim (which k last run) [
      | inl is ↦ elim (which later after next) [
        | inl same ↦ (let one = is.0 in let two = same.0 in absurd (omega arith))
        | inr was ↦ (let one = is.0 in let two = is.1 in let gap = after-joined later after was.0 was.1 (omega arith) in omega arith)
      ]
      | inr was ↦ elim (which later after next) [
        | inl is ↦ (let one = is.0 in let gap = before-joined k last was.0 (omega arith) in omega arith)
        | inr other ↦ joined.apart.apart k last later after was.0 other.0 above
      ]
    ];
  }

  -- so the number stands in a run now, and besides those that did
  pub joined-inside : (k : ℕ) → Inside new k ↔ ((k ≡ number) ⊎ Inside old k)
  joined-inside k = (
    λ i. elim (which i.first i.end i.run) [
      | inr was ↦ inr (record { first = i.first; end = i.end; run = was.0; low = i.low; high = i.high })
      | inl is ↦ (
          let low = i.low in let high = i.high in let one = is.0 in let two = is.1 in
          elim (cases_lt k number) [
            | inl below ↦ elim joined.left [
              | inl run ↦ inr (record { first = first; end = number; run = run; low = omega arith; high = below })
              | inr alone ↦ (let same = alone.0 in absurd (omega arith))
            ]
            | inr from ↦ elim (cases_lt number k) [
              | inl above ↦ elim joined.right [
                | inl run ↦ inr (record { first = number + 1; end = end; run = run; low = omega arith; high = omega arith })
                | inr alone ↦ (let same = alone.0 in absurd (omega arith))
              ]
              | inr at ↦ inl (omega arith)
            ]
          ]
          )
    ],
    λ h. elim h [
      | inl is ↦ (let low = first-low in let high = end-high in record { first = first; end = end; run = the_joined; low = omega arith; high = omega arith })
      | inr i ↦ again i
    ],
  )
    where
      again : Inside old k → Inside new k
      again i =
          let low = i.low in let high = i.high in
          let first_low = first-low in let end_high = end-high in
          elim (cases_lt i.first first) [
            | inl below ↦ record { first = i.first; end = i.end; run = kept i.first i.end i.run (λ e. omega arith) (λ e. omega arith); low = low; high = high }
            | inr from ↦ elim (cases_lt first i.first) [
              | inr at ↦ (
                  let same : i.first ≡ first = omega arith in
                  elim joined.left [
                    | inl whole ↦ (let one = some-same (subst (λ b. old b ≡ Some i.end) same i.run) whole in record { first = first; end = end; run = the_joined; low = omega arith; high = omega arith })
                    | inr alone ↦ absurd (joined.out (record { first = i.first; end = i.end; run = i.run; low = (let is = alone.0 in omega arith); high = (let is = alone.0 in let some = joined.apart.some i.first i.end i.run in omega arith) }))
                  ]
                  )
              | inl above ↦ elim (cases_lt (number + 1) i.first) [
                | inl beyond ↦ record { first = i.first; end = i.end; run = kept i.first i.end i.run (λ e. omega arith) (λ e. omega arith); low = low; high = high }
                | inr upto ↦ elim (cases_lt i.first (number + 1)) [
                  | inr at ↦ (
                      let same : i.first ≡ number + 1 = omega arith in
                      elim joined.right [
                        | inl whole ↦ (let one = some-same (subst (λ b. old b ≡ Some i.end) same i.run) whole in record { first = first; end = end; run = the_joined; low = omega arith; high = omega arith })
                        | inr alone ↦ (let none = subst (λ b. old b ≡ Some i.end) same i.run in absurd (let gone = alone.1 in cc))
                      ]
                      )
                  | inl inside ↦ (
                      let gap : number < i.first = elim joined.left [
                        | inl whole ↦ joined.apart.apart first number i.first i.end whole i.run above
                        | inr alone ↦ (let is = alone.0 in omega arith)
                      ] in
                      absurd (omega arith)
                      )
                ]
              ]
            ]
          ]

-- ---- in the map

at_key : (x q : ℕ) → is_at (nat_cmp x) q ≡ (q == x)
at_key x q = grind (arith, nat_tests)

-- the map after the joined run was put, and the run after the number was taken
pub record IsPut (old put new : BTreeMap ℕ ℕ) (number first end : ℕ) : Type 0 where
  pub apart : AreApart (get nat_cmp old)
  pub old_ordered : IsOrdered nat_cmp old
  pub new_ordered : IsOrdered nat_cmp new
  pub out : has_number (record { runs = old.entries }) number ≡ false
  pub left : IsFirstWith (get nat_cmp old) number first
  pub right : IsEndWith (get nat_cmp old) number end
  pub first_put : (k : ℕ) → get nat_cmp put k ≡ cond (is_at (nat_cmp first) k) (Some end) (get nat_cmp old k)
  pub next_taken : (k : ℕ) → get nat_cmp new k ≡ cond (is_at (nat_cmp (number + 1)) k) None (get nat_cmp put k)

module _ (old put new : BTreeMap ℕ ℕ) (number first end : ℕ) (is : IsPut old put new number first end) where
  pub put-joined : IsJoined (get nat_cmp old) (get nat_cmp new) number first end
  put-joined = record {
    apart = is.apart;
    out = λ i. false≢true (sym is.out ∙ (inside-decides old is.old_ordered number).1 i);
    left = is.left;
    right = is.right;
    change = λ k.
        is.next_taken k ∙ ap (λ b. cond b None (get nat_cmp put k)) (at_key (number + 1) k)
        ∙ ap (λ o. cond (k == number + 1) None o) (is.first_put k ∙ ap (λ b. cond b (Some end) (get nat_cmp old k)) (at_key first k));
  }

  pub put-numbers : (k : ℕ) → has_number (record { runs = new.entries }) k ≡ ((k == number) || has_number (record { runs = old.entries }) k)
  put-numbers k =
      let inside = joined-inside _ _ _ _ _ put-joined k in
      let told = inside-decides new is.new_ordered k in
      same_from_decides _ ((k == number) || has_number (record { runs = old.entries }) k) (λ t. inside.0 (told.0 t), λ h. told.1 (inside.1 h))
      (Decides-or _ _ (Decides-eqb k number) (inside-decides old is.old_ordered k))
