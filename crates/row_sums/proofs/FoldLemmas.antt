-- Sorted rows, of which each takes in the later ones of its key: they rise, and what is read of them stays.
use Rattle.std.proofs.Common.{◌≡◌, ◌⊎◌, ◌+◌, suc, Bool, true, false, List, [], ◌∷◌, get_or, refl, sym, ◌∙◌, ap, subst, inl, inr, arith}
use Rattle.std.proofs.lemmas.Bool.{false≢true}
use Rattle.std.specs.Bool.{MatchBool}
use Rattle.std.specs.List.{AllByRecursion}
use Rattle.std.specs.List.Retain.{DedupsAll, DedupsFrom}
use Rattle.std.specs.List.Sorted.{IsSortedBy}
use Rattle.crgc_ids.specs.Rising.{IsRising}
use Rattle.crgc_ids.proofs.KeyOrders.{IsKeyOrder}
use Rattle.crgc_ids.proofs.MembersLaws.{all-implied}

-- ---- lists that never fall

abbrev pub AtMost : {K : Type 0} → (K → K → Type 0) → K → K → Type 0
AtMost below j k = (j ≡ k) ⊎ below j k

-- no key is below the one before it, and the first not below k
abbrev pub NeverFalls : {K X : Type 0} → (K → K → Type 0) → (X → K) → K → List X → Type 0
NeverFalls below key k [] = Unit {0}
NeverFalls below key k (x ∷ xs) = AtMost below k (key x) × NeverFalls below key (key x) xs

-- what is below a key is below those not below it
below-at_most : {K : Type 0} (below : K → K → Type 0) (trans : (i j k : K) → below i j → below j k → below i k) (i j k : K) → below i j → AtMost below j k → below i k
below-at_most below trans i j k h (inl e) = subst (below i) e h
below-at_most below trans i j k h (inr g) = trans i j k h g

-- a sorted list never falls
pub sorted-never_falls : {K X : Type 0} (below : K → K → Type 0) (key : X → K) (is_less : X → X → Bool) (order : (x y : X) → is_less y x ≡ false → AtMost below (key x) (key y)) (x : X) (xs : List X) → IsSortedBy is_less (x ∷ xs) → NeverFalls below key (key x) xs
sorted-never_falls below key is_less order x [] up = tt
sorted-never_falls below key is_less order x (y ∷ ys) up =
    let later : IsSortedBy is_less (y ∷ ys) = λ k d low high. (
    let next : suc k + 1 ≡ suc (k + 1) = omega arith in
    subst (λ n. is_less (get_or (x ∷ y ∷ ys) n d) (get_or (y ∷ ys) k d) ≡ false) next (up (suc k) d (omega arith) (omega arith))
    ) in
    (order x y (up 0 x (omega arith) (omega arith)), sorted-never_falls below key is_less order y ys later)

-- ---- rows that take in the next one

-- what is read of rows, for a key: of a row and others it depends on the row and what is read of the others. The rows may
-- have to fit, and so do the rows after the first
pub record IsReading {K X V : Type 0} (read : K → List X → V) (Fits : List X → Type 0) : Type 0 where
  pub first : (t : K) (x : X) (xs ys : List X) → read t xs ≡ read t ys → read t (x ∷ xs) ≡ read t (x ∷ ys)
  pub rest : (x : X) (xs : List X) → Fits (x ∷ xs) → Fits xs

-- what a row does with the next one: where they have one key it takes it in, and what is read of both is read of it
pub record Folds {K X V : Type 0} (same : K → K → Bool) (key : X → K) (read : K → List X → V) (Fits : List X → Type 0) (next last : X) (b : Bool) (next' last' : X) : Type 0 where
  pub tells : b ≡ same (key last) (key next)
  pub passes : next' ≡ next
  pub stays : key last' ≡ key last
  pub leaves : b ≡ false → last' ≡ last
  pub fits : b ≡ true → (xs : List X) → Fits (last ∷ next ∷ xs) → Fits (last' ∷ xs)
  pub reads : b ≡ true → (xs : List X) → Fits (last ∷ next ∷ xs) → (t : K) → read t (last' ∷ xs) ≡ read t (last ∷ next ∷ xs)

-- the rows ys are those of xs, folded, and their keys are not below k
record AreFolded {K X V : Type 0} (below : K → K → Type 0) (key : X → K) (read : K → List X → V) (k : K) (xs ys : List X) : Type 0 where
  rise : IsRising (λ r s. below (key r) (key s)) ys
  from : AllByRecursion (λ y. AtMost below k (key y)) ys
  reads : (t : K) → read t ys ≡ read t xs

-- the rows ys are those of xs, folded
pub record IsFold {K X V : Type 0} (below : K → K → Type 0) (key : X → K) (read : K → List X → V) (xs ys : List X) : Type 0 where
  pub rise : IsRising (λ r s. below (key r) (key s)) ys
  pub reads : (t : K) → read t ys ≡ read t xs

module _ {K X S V : Type 0} (below : K → K → Type 0) (same : K → K → Bool) (key : X → K) (order : IsKeyOrder below same) (read : K → List X → V) (Fits : List X → Type 0) (reading : IsReading read Fits)
    (step : S → X → X → Bool → S → X → X → Type 0) (folds : (s : S) (x k : X) (b : Bool) (t : S) (x' k' : X) → step s x k b t x' k' → Folds same key read Fits x k b x' k')
  where
    folded : (xs ys : List X) (s : S) (k : X) → NeverFalls below key (key k) xs → Fits (k ∷ xs) → DedupsFrom step s k xs ys → AreFolded below key read (key k) (k ∷ xs) ys
    folded [] ys s k up fits e =
        subst (AreFolded below key read (key k) (k ∷ [])) (sym e) (record { rise = (tt, tt); from = (inl refl, tt); reads = λ t. refl })
    folded (x ∷ xs) ys s k up fits d =
        let Case : Bool → Type 0 = λ b. step s x k b d.1 d.2 d.3 → MatchBool b (DedupsFrom step d.1 d.3 xs ys) ((zs : List X) × DedupsFrom step d.1 d.2 xs zs × (ys ≡ d.3 ∷ zs)) → AreFolded below key read (key k) (k ∷ x ∷ xs) ys in
        let cases : Case d.0 = elim d.0 as Case [
          | true ↦ λ r rest. (
              let took = folds s x k true d.1 d.2 d.3 r in
              let one : key k ≡ key x = (order.told (key k) (key x)).0 (sym took.tells) in
              let falls : NeverFalls below key (key d.3) xs = subst (λ j. NeverFalls below key j xs) (sym one ∙ sym took.stays) up.1 in
              let later = folded xs ys d.1 d.3 falls (took.fits refl xs fits) rest in
              record {
                rise = later.rise;
                from = subst (λ j. AllByRecursion (λ y. AtMost below j (key y)) ys) took.stays later.from;
                reads = λ t. later.reads t ∙ took.reads refl xs fits t;
              }
              )
          | false ↦ λ r rest. (
              let took = folds s x k false d.1 d.2 d.3 r in
              let apart : below (key k) (key x) = elim up.0 [
                | inl e ↦ absurd (false≢true (took.tells ∙ (order.told (key k) (key x)).1 e))
                | inr h ↦ h
              ] in
              let zs = rest.0 in
              let from_x : DedupsFrom step d.1 x xs zs = subst (λ y. DedupsFrom step d.1 y xs zs) took.passes rest.1 in
              let is : ys ≡ k ∷ zs = rest.2 ∙ ap (λ y. y ∷ zs) (took.leaves refl) in
              let later = folded xs zs d.1 x up.1 (reading.rest k (x ∷ xs) fits) from_x in
              let above : (y : X) → AtMost below (key x) (key y) → below (key k) (key y) = λ y. below-at_most below order.trans (key k) (key x) (key y) apart in
              let whole : AreFolded below key read (key k) (k ∷ x ∷ xs) (k ∷ zs) = record {
                rise = (all-implied (λ y. AtMost below (key x) (key y)) (λ y. below (key k) (key y)) above zs later.from, later.rise);
                from = (inl refl, all-implied (λ y. AtMost below (key x) (key y)) (λ y. AtMost below (key k) (key y)) (λ y h. inr (above y h)) zs later.from);
                reads = λ t. reading.first t k zs (x ∷ xs) (later.reads t);
              } in
              subst (AreFolded below key read (key k) (k ∷ x ∷ xs)) (sym is) whole
              )
        ] in
        cases d.4 d.5

    -- sorted rows of which each took in the later ones of its key are folded
    pub is_fold : (is_less : X → X → Bool) (up_to : (x y : X) → is_less y x ≡ false → AtMost below (key x) (key y)) (xs ys : List X) (s : S) → Fits xs → IsSortedBy is_less xs → DedupsAll step s xs ys → IsFold below key read xs ys
    is_fold is_less up_to [] ys s fits up e = subst (IsFold below key read []) (sym e) (record { rise = tt; reads = λ t. refl })
    is_fold is_less up_to (x ∷ xs) ys s fits up d =
        let whole = folded xs ys s x (sorted-never_falls below key is_less up_to x xs up) fits d in
        record { rise = whole.rise; reads = whole.reads }
