-- What is kept of places, page by page, as entries and pages come and change.
use Rattle.std.proofs.Common.{◌≡◌, ◌≢◌, ◌<◌, ◌≤◌, ◌/◌, ◌%◌, ◌*◌, ◌+◌, ◌-◌, ◌++◌, ℕ, zero, suc, List, [], ◌∷◌, Option, None, Some, get_or, length, set, take, refl, sym, ◌∙◌, ap, inl, inr, arith, get_or-set_other, get_or-set_same}
use Rattle.std.proofs.lemmas.Bool.{cases_eq, cases_lt}
use Rattle.std.proofs.lemmas.List.{get_or_append_left, get_or-append_right, get_or_past, take_all}
use Rattle.std.proofs.lemmas.Nat.{div-add-mod'}
use Rattle.std.proofs.lemmas.Option.{none-some}
use Rattle.std.specs.Box.{box_value, with_value}
use Rattle.std.specs.Global.{Box}
use Rattle.std.specs.List.{AppendsResults, FoldsTo}
use Rattle.std.specs.Option.{option_map}
use Rattle.edge_table.specs.Lends.{with_changed, with_changed_in}
use Rattle.edge_table.specs.Partition.{Kept, KeptPage, Parted, kept_in, kept_of}
use Rattle.edge_table.specs.declared.pages.TheConstants.{PAGE}

-- ---- a list that is filled up with one value

module _ {A F : Type 0} (step : F → A → F → Type 0) (d : A) (same : (f : F) (x : A) (g : F) → step f x g → x ≡ d) where
  -- what is filled in is that value
  filling : (more : List A) (f g : F) → FoldsTo step f more g → (i : ℕ) → get_or more i d ≡ d
  filling [] f g folds i = refl
  filling (x ∷ more) f g (h, called, rest) zero = same f x h called
  filling (x ∷ more) f g (h, called, rest) (suc i) = filling more h g rest i

  -- so the list has at each index what it had, if that value stands for what is beyond its end
  pub filled : (old new : List A) (count : ℕ) (f : F) → length old ≤ count → AppendsResults step (take count old) new f → (i : ℕ) → get_or new i d ≡ get_or old i d
  filled old new count f few (more, last, is, folds) i = elim (cases_lt i (length old)) [
    | inl inside ↦ at ∙ get_or_append_left old more d i inside
    | inr beyond ↦ at ∙ get_or-append_right old more (length old) i d refl (omega arith) ∙ filling more f last folds (i - length old) ∙ sym (get_or_past old i d (omega arith))
  ]
    where
      at : get_or new i d ≡ get_or (old ++ more) i d
      at = ap (λ (xs : List A). get_or xs i d) (is ∙ ap (λ (xs : List A). xs ++ more) (take_all count old few))

-- ---- one page is another now

module _ (kept : Kept) (place : ℕ) (page : KeptPage) (there : place / PAGE < length kept) where
  -- which is found at the place
  paged-here : kept_of (set kept (place / PAGE) page) place ≡ kept_in page (place % PAGE)
  paged-here = ap (λ (p : KeptPage). kept_in p (place % PAGE)) (get_or-set_same kept (place / PAGE) page [] there)

  -- and what was kept of another place is, where the page keeps at another index what the old one did
  paged-others : ((i : ℕ) → i ≢ place % PAGE → kept_in page i ≡ kept_in (get_or kept (place / PAGE) []) i) → (p : ℕ) → p ≢ place
      → kept_of (set kept (place / PAGE) page) p ≡ kept_of kept p
  paged-others same p apart = elim (cases_eq (p / PAGE) (place / PAGE)) [
    | inl is ↦ ap (λ n. kept_in (get_or (set kept (place / PAGE) page) n []) (p % PAGE)) is
        ∙ ap (λ (x : KeptPage). kept_in x (p % PAGE)) (get_or-set_same kept (place / PAGE) page [] there)
        ∙ same (p % PAGE) (λ rest. apart (sym (div-add-mod' p PAGE) ∙ (λ i. is i * PAGE + rest i) ∙ div-add-mod' place PAGE))
        ∙ ap (λ n. kept_in (get_or kept n []) (p % PAGE)) (sym is)
    | inr other ↦ ap (λ (x : KeptPage). kept_in x (p % PAGE)) (get_or-set_other kept (place / PAGE) (p / PAGE) page [] other)
  ]

-- ---- what was kept of one place is another now

-- the page keeps the same at another index
changed-in-others : (page : KeptPage) (index : ℕ) (s : Parted) (i : ℕ) → i ≢ index → kept_in (with_changed_in page index s) i ≡ kept_in page i
changed-in-others page index s i apart = ap (option_map box_value) (get_or-set_other page index i _ None apart)

-- and the new at this one, where something was kept
changed-in-here : (page : KeptPage) (index : ℕ) (s t : Parted) → kept_in page index ≡ Some s → kept_in (with_changed_in page index t) index ≡ Some t
changed-in-here page index s t was =
    ap (option_map box_value) (get_or-set_same page index _ None (kept-inside page index was))
    ∙ boxed (get_or page index None) was
  where
    kept-inside : (page : KeptPage) (index : ℕ) → kept_in page index ≡ Some s → index < length page
    kept-inside page index was = elim (cases_lt index (length page)) [
      | inl inside ↦ inside
      | inr beyond ↦ absurd (none-some s (sym (ap (option_map box_value) (get_or_past page index None beyond)) ∙ was))
    ]

    boxed : (o : Option (Box Parted)) → option_map box_value o ≡ Some s → option_map box_value (option_map (λ b. with_value b t) o) ≡ Some t
    boxed None is = absurd (none-some s is)
    boxed (Some b) is = refl

module _ (kept : Kept) (place : ℕ) (s t : Parted) (was : kept_of kept place ≡ Some s) where
  -- its page is there
  there : place / PAGE < length kept
  there = elim (cases_lt (place / PAGE) (length kept)) [
    | inl inside ↦ inside
    | inr beyond ↦ absurd (none-some s (sym (ap (λ (p : KeptPage). kept_in p (place % PAGE)) (get_or_past kept (place / PAGE) [] beyond)) ∙ was))
  ]

  pub changed-here : kept_of (with_changed kept place t) place ≡ Some t
  changed-here = paged-here kept place _ there ∙ changed-in-here (get_or kept (place / PAGE) []) (place % PAGE) s t was

  pub changed-others : (p : ℕ) → p ≢ place → kept_of (with_changed kept place t) p ≡ kept_of kept p
  changed-others = paged-others kept place _ there (changed-in-others (get_or kept (place / PAGE) []) (place % PAGE) t)
