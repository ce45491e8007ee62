-- What a change of the map of kept bulletins says of the order, and what stays so of it.
use Rattle.std.proofs.Common.{◌≡◌, ◌≢◌, ◌+◌, ◌<◌, ◌≤◌, ℕ, Bool, true, false, cond, List, [], ◌∷◌, Option, Some, None, IsSome, length, get_or, set, get_or-set_other, get_or-set_same, refl, sym, ◌∙◌, ap, subst, inl, inr, arith}
use Rattle.std.proofs.lemmas.Bool.{cases_eq, false≢true}
use Rattle.std.proofs.lemmas.Bool.Decides.{nat_tests}
use Rattle.std.proofs.lemmas.List.{length-set}
use Rattle.std.specs.Map.{lookup}
use Rattle.std.specs.Option.{is_some, unwrap_or}
use Rattle.std.specs.Ordering.{is_eq, nat_cmp, ordering_then}
use Rattle.history_model.specs.declared.records.Bulletin.{Bulletin}
use Rattle.gossip_core.specs.Gossip.{Gossip, IsFirstReady, IsInOrder, KeepsFirst, Passes, TakesOut, count_at, kept_at, same_key}

-- whether two keys tie in the order of origins and numbers
abbrev pub tie : ℕ × ℕ → ℕ × ℕ → Bool
tie j k = is_eq (ordering_then (nat_cmp j.0 k.0) (nat_cmp j.1 k.1))

tie-same : (j k : ℕ × ℕ) → tie j k ≡ same_key j k
tie-same j k = grind (arith, nat_tests)

-- so the map has for a key what its entry of that key says
pub kept-tie : (g : Gossip) (o k : ℕ) → kept_at g o k ≡ lookup (tie (o, k)) g.kept
kept-tie g o k = lookups (o, k) g.kept
  where
    lookups : {V : Type 0} (k : ℕ × ℕ) (entries : List ((ℕ × ℕ) × V)) → lookup (same_key k) entries ≡ lookup (tie k) entries
    lookups k [] = refl
    lookups k (e ∷ entries) = rw (tie-same k e.0) (ap (cond (same_key k e.0) (Some e.1)) (lookups k entries))

-- a key that the map does not have is kept under no number
pub kept-none : (g : Gossip) (origin number : ℕ) → is_some (lookup (tie (origin, number)) g.kept) ≡ false → kept_at g origin number ≡ None
kept-none g origin number e = none (kept_at g origin number) (ap is_some (kept-tie g origin number) ∙ e)
  where
    none : (o : Option Bulletin) → is_some o ≡ false → o ≡ None
    none None e = refl
    none (Some b) e = absurd (false≢true (sym e))

-- where nothing is kept, nothing is under any number
pub empty-none : (g : Gossip) (o k : ℕ) → length g.kept ≡ 0 → kept_at g o k ≡ None
empty-none g o k none = of g.kept none
  where
    of : (entries : List ((ℕ × ℕ) × Bulletin)) → length entries ≡ 0 → lookup (same_key (o, k)) entries ≡ None
    of [] e = refl
    of (x ∷ entries) e = absurd (omega arith)

-- the first bulletin that was found at the cut of its origin
pub first_found : (g : Gossip) (origin at number : ℕ) (b : Bulletin) → IsInOrder g → origin ≡ number → at ≡ count_at g origin → Some b ≡ lookup (tie (origin, at)) g.kept → ((o : ℕ) → o < number → kept_at g o (count_at g o) ≡ None) → IsFirstReady g origin b
first_found g origin at number b ordered here is found none =
    let ready = ap (kept_at g origin) (sym is) ∙ kept-tie g origin at ∙ sym found in
    record {
      ready = ready;
      first = λ o less. none o (omega arith);
      node = ordered.origins origin (count_at g origin) (ap is_some ready);
      below = ordered.below origin (count_at g origin) (ap is_some ready);
    }

-- the map does not have the key at the cut of the origin, and has the others as it did
pub record IsWithout (old new : Gossip) (origin : ℕ) : Type 0 where
  pub nodes : new.nodes ≡ old.nodes
  pub cut : new.cut ≡ old.cut
  pub here : kept_at new origin (count_at old origin) ≡ None
  pub others : (o k : ℕ) → same_key (origin, count_at old origin) (o, k) ≡ false → kept_at new o k ≡ kept_at old o k

-- where that key is taken out of the map
pub without : (old new : Gossip) (origin at : ℕ) → at ≡ count_at old origin → new.nodes ≡ old.nodes → new.cut ≡ old.cut → lookup (tie (origin, at)) new.kept ≡ None → ((q : ℕ × ℕ) → tie (origin, at) q ≡ false → lookup (tie q) new.kept ≡ lookup (tie q) old.kept) → IsWithout old new origin
without old new origin at is nodes cut here there = record {
  nodes = nodes;
  cut = cut;
  here = ap (kept_at new origin) (sym is) ∙ kept-tie new origin at ∙ here;
  others = λ o k apart.
      kept-tie new o k ∙ there (o, k) (tie-same (origin, at) (o, k) ∙ ap (λ n. same_key (origin, n) (o, k)) is ∙ apart) ∙ sym (kept-tie old o k);
}

-- and then the cut of its origin rises
pub takes_out : (old mid new : Gossip) (origin at : ℕ) (was : Option Bulletin) → at ≡ count_at old origin → IsSome (kept_at old origin (count_at old origin)) → was ≡ lookup (tie (origin, at)) old.kept → length mid.kept + cond (is_some was) 1 0 ≡ length old.kept → IsWithout old mid origin → Passes mid new origin → TakesOut old new origin
takes_out old mid new origin at was is has found fewer out passes =
    let there_was : is_some was ≡ true = ap is_some (found ∙ sym (kept-tie old origin at) ∙ ap (kept_at old origin) is) ∙ has in
    record {
      nodes = ap (λ g. g.nodes) passes ∙ out.nodes;
      cut = ap (λ g. g.cut) passes ∙ ap (λ c. set c origin (get_or c origin 0 + 1)) out.cut;
      here = ap (λ g. kept_at g origin (count_at old origin)) passes ∙ out.here;
      others = λ o k apart. ap (λ g. kept_at g o k) passes ∙ out.others o k apart;
      fewer = ap (λ g. length g.kept + 1) passes ∙ ap (λ b. length mid.kept + cond b 1 0) (sym there_was) ∙ fewer;
    }

-- where a bulletin is put under a key that the map does not have
pub keeps_new : (old new : Gossip) (origin number : ℕ) (b : Bulletin) → new.nodes ≡ old.nodes → new.cut ≡ old.cut → count_at old origin ≤ number → kept_at old origin number ≡ None → lookup (tie (origin, number)) new.kept ≡ Some b → ((q : ℕ × ℕ) → tie (origin, number) q ≡ false → lookup (tie q) new.kept ≡ lookup (tie q) old.kept) → KeepsFirst old new origin number b
keeps_new old new origin number b nodes cut later none here there = record {
  nodes = nodes;
  cut = cut;
  before = λ less. absurd (omega arith);
  here = λ _. kept-tie new origin number ∙ here ∙ ap (λ was. Some (unwrap_or was b)) (sym none);
  others = λ o k apart. kept-tie new o k ∙ there (o, k) (tie-same (origin, number) (o, k) ∙ apart) ∙ sym (kept-tie old o k);
}

-- where the map has the key, nothing changes
pub keeps_old : (g : Gossip) (origin number : ℕ) (b : Bulletin) → IsSome (kept_at g origin number) → KeepsFirst g g origin number b
keeps_old g origin number b has = record {
  nodes = refl;
  cut = refl;
  before = λ _. refl;
  here = λ _. found (kept_at g origin number) has;
  others = λ _ _ _. refl;
}
  where
    found : (o : Option Bulletin) → IsSome o → o ≡ Some (unwrap_or o b)
    found None some = absurd (false≢true some)
    found (Some x) some = refl

-- below the cut nothing changes
pub keeps_none : (g : Gossip) (origin number : ℕ) (b : Bulletin) → number < count_at g origin → KeepsFirst g g origin number b
keeps_none g origin number b less = record {
  nodes = refl;
  cut = refl;
  before = λ _. refl;
  here = λ later. absurd (omega arith);
  others = λ _ _ _. refl;
}

-- keys that test the same are one
same_parts : (a b o k : ℕ) → same_key (a, b) (o, k) ≡ true → (o ≡ a) × (k ≡ b)
same_parts a b o k e = (grind (arith, nat_tests), grind (arith, nat_tests))

-- what is kept has another key than one under which nothing is
apart-keys : (g : Gossip) (a n o k : ℕ) → kept_at g a n ≡ None → IsSome (kept_at g o k) → same_key (a, n) (o, k) ≡ false
apart-keys g a n o k none some =
    let Is : Bool → Type 0 = λ b. same_key (a, n) (o, k) ≡ b → same_key (a, n) (o, k) ≡ false in
    let is : Is (same_key (a, n) (o, k)) = elim (same_key (a, n) (o, k)) as Is [
      | true ↦ λ e. (
          let same = same_parts a n o k e in
          absurd (false≢true (sym (ap is_some (λ i. kept_at g (same.0 i) (same.1 i)) ∙ ap is_some none) ∙ some))
          )
      | false ↦ λ e. e
    ] in
    is refl

-- the order stays one where the bulletin at the cut of the origin is taken out
pub in_order-without : (old new : Gossip) (origin : ℕ) → IsInOrder old → IsWithout old new origin → IsInOrder new
in_order-without old new origin ordered out =
    let nodes = out.nodes in
    let cut = out.cut in
    let counts : (o : ℕ) → count_at new o ≡ count_at old o = λ o. ap (λ c. get_or c o 0) cut in
    let was : (o k : ℕ) → IsSome (kept_at new o k) → IsSome (kept_at old o k) = λ o k some.
    sym (ap is_some (out.others o k (apart-keys new origin (count_at old origin) o k out.here some))) ∙ some in
    record {
      nodes = subst (λ n. n ≤ 16) (sym nodes) ordered.nodes;
      cut = ap length cut ∙ ordered.cut;
      counts = λ o. subst (λ n. n ≤ 1000000) (sym (counts o)) (ordered.counts o);
      origins = λ o k some. subst (λ n. o < n) (sym nodes) (ordered.origins o k (was o k some));
      later = λ o k some. subst (λ n. n ≤ k) (sym (counts o)) (ordered.later o k (was o k some));
      below = λ o k some. ordered.below o k (was o k some);
    }

-- the order stays one where the cut of an origin rises, under which nothing is kept
pub in_order-passed : (old new : Gossip) (origin : ℕ) → IsInOrder old → origin < old.nodes → count_at old origin < 1000000
    → kept_at old origin (count_at old origin) ≡ None → Passes old new origin → IsInOrder new
in_order-passed old new origin ordered node below none passes =
    let at = count_at old origin in
    let nodes = ordered.nodes in
    let len = ordered.cut in
    let same : new.nodes ≡ old.nodes = ap (λ g. g.nodes) passes in
    let cut : new.cut ≡ set old.cut origin (at + 1) = ap (λ g. g.cut) passes in
    let was : (o k : ℕ) → IsSome (kept_at new o k) → IsSome (kept_at old o k) = λ o k some. ap (λ g. is_some (kept_at g o k)) (sym passes) ∙ some in
    let here : count_at new origin ≡ at + 1 = ap (λ c. get_or c origin 0) cut ∙ get_or-set_same old.cut origin (at + 1) 0 (omega arith) in
    let there : (o : ℕ) → o ≢ origin → count_at new o ≡ count_at old o = λ o differ. ap (λ c. get_or c o 0) cut ∙ get_or-set_other old.cut origin o (at + 1) 0 differ in
    record {
      nodes = subst (λ n. n ≤ 16) (sym same) ordered.nodes;
      cut = ap length cut ∙ length-set old.cut origin (at + 1) ∙ ordered.cut;
      counts = λ o. elim (cases_eq o origin) [
        | inl e ↦ (let is = ap (count_at new) e in omega arith)
        | inr differ ↦ (let is = there o differ in let most = ordered.counts o in omega arith)
      ];
      origins = λ o k some. subst (λ n. o < n) (sym same) (ordered.origins o k (was o k some));
      later = λ o k some. (
          let least = ordered.later o k (was o k some) in
          elim (cases_eq o origin) [
            | inl e ↦ (
                let is = ap (count_at new) e in
                let from = ap (count_at old) e in
                let apart : k ≢ at = λ same. absurd (false≢true (sym (apart-keys old origin at o k none (was o k some)) ∙ same_key-one origin at o k e same)) in
                omega arith
                )
            | inr differ ↦ (let is = there o differ in omega arith)
          ]
          );
      below = λ o k some. ordered.below o k (was o k some);
    }
  where
    same_key-one : (a b o k : ℕ) → o ≡ a → k ≡ b → same_key (a, b) (o, k) ≡ true
    same_key-one a b o k e f = grind (arith, nat_tests)

-- the order stays one where a bulletin is kept
pub in_order-kept : (old new : Gossip) (origin number : ℕ) (b : Bulletin) → IsInOrder old → origin < old.nodes → number < 1000000 → count_at old origin ≤ number → KeepsFirst old new origin number b → IsInOrder new
in_order-kept old new origin number b ordered node below later kept =
    let Fact : (ℕ → ℕ → Type 0) → Type 0 = λ P. P origin number → ((o k : ℕ) → IsSome (kept_at old o k) → P o k) → (o k : ℕ) → IsSome (kept_at new o k) → P o k in
    let fact : (P : ℕ → ℕ → Type 0) → Fact P = λ P here before o k some. (
    let Told : Bool → Type 0 = λ b. same_key (origin, number) (o, k) ≡ b → P o k in
    let told : Told (same_key (origin, number) (o, k)) = elim (same_key (origin, number) (o, k)) as Told [
      | true ↦ λ e. (let same = same_parts origin number o k e in subst (λ n. P n k) (sym same.0) (subst (P origin) (sym same.1) here))
      | false ↦ λ e. before o k (sym (ap is_some (kept.others o k e)) ∙ some)
    ] in
    told refl
    ) in
    let counts : (o : ℕ) → count_at new o ≡ count_at old o = λ o. ap (λ c. get_or c o 0) kept.cut in
    record {
      nodes = subst (λ n. n ≤ 16) (sym kept.nodes) ordered.nodes;
      cut = ap length kept.cut ∙ ordered.cut;
      counts = λ o. subst (λ n. n ≤ 1000000) (sym (counts o)) (ordered.counts o);
      origins = fact (λ o k. o < new.nodes) (subst (λ n. origin < n) (sym kept.nodes) node) (λ o k some. subst (λ n. o < n) (sym kept.nodes) (ordered.origins o k some));
      later = fact (λ o k. count_at new o ≤ k) (subst (λ n. n ≤ number) (sym (counts origin)) later) (λ o k some. subst (λ n. n ≤ k) (sym (counts o)) (ordered.later o k some));
      below = fact (λ o k. k < 1000000) below ordered.below;
    }
