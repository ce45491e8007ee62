-- Two lists of one length, in which a value stands where its key does.
use Rattle.std.proofs.Common.{◌≡◌, ◌≢◌, ◌+◌, ◌≤◌, ◌<◌, ◌||◌, ℕ, suc, not, Bool, true, false, cond, List, [], ◌∷◌, ◌++◌, length, get_or, set, refl, sym, ◌∙◌, ap, inl, inr, arith, get_or-set_other, get_or-set_same}
use Rattle.std.proofs.lemmas.Bool.{cases_eq, eq-eqb, false≢true, ne_eqb}
use Rattle.std.proofs.lemmas.List.{get_or_append_left, get_or_past, length-append}
use Rattle.std.proofs.lemmas.List.Folds.{position_or_len_push}
use Rattle.std.proofs.lemmas.List.Sums.{passes_at_first}
use Rattle.std.specs.Bool.{Decides}
use Rattle.std.specs.List.{list_any, position_or_len}

-- the value of a key, or d where the key is not there
abbrev pub found : {K V : Type 0} → (K → K → Bool) → V → List K → List V → K → V
found same d ks vs k = get_or vs (position_or_len (same k) ks) d

-- a key that is there has a place
pub place-within : {K : Type 0} (test : K → Bool) (ks : List K) → list_any test ks ≡ true → position_or_len test ks < length ks
place-within test [] t = absurd (false≢true t)
place-within test (k ∷ ks) t =
    let later : list_any test ks ≡ true → 1 + position_or_len test ks < suc (length ks) = λ r. (let less = place-within test ks r in omega arith) in
    split (test k) t later
  where
    split : (b : Bool) → (b || list_any test ks) ≡ true → (list_any test ks ≡ true → 1 + position_or_len test ks < suc (length ks)) → cond (not b) (1 + position_or_len test ks) 0 < suc (length ks)
    split true t later = omega arith
    split false t later = later t

-- and stands there
pub key-at : {K : Type 0} (same : K → K → Bool) (told : (j k : K) → Decides (same j k) (j ≡ k)) (ks : List K) (d k : K) → list_any (same k) ks ≡ true → get_or ks (position_or_len (same k) ks) d ≡ k
key-at same told ks d k there =
    let p = position_or_len (same k) ks in
    sym ((told k (get_or ks p d)).0 (passes_at_first (same k) ks d (place-within (same k) ks there)))

module _ {K V : Type 0} (same : K → K → Bool) (told : (j k : K) → Decides (same j k) (j ≡ k)) (d : V) where
  -- the value of one key is changed, and no other
  pub found-changed : (ks : List K) (vs : List V) (a : K) (p : ℕ) (v : V) → p < length ks → p ≡ position_or_len (same a) ks → p < length vs → (b : K) → found same d ks (set vs p v) b ≡ cond (same b a) v (found same d ks vs b)
  found-changed ks vs a p v there is inside b =
      let Case : Bool → Type 0 = λ t. same b a ≡ t → found same d ks (set vs p v) b ≡ cond t v (found same d ks vs b) in
      let case : Case (same b a) = elim (same b a) as Case [
        | true ↦ λ t. (
            let one : b ≡ a = (told b a).0 t in
            let there : position_or_len (same b) ks ≡ p = ap (λ k. position_or_len (same k) ks) one ∙ sym is in
            ap (λ i. get_or (set vs p v) i d) there ∙ get_or-set_same vs p v d inside
            )
        | false ↦ λ f. (
            let a_there : position_or_len (same a) ks < length ks = omega arith in
            let apart : position_or_len (same b) ks ≢ p = λ e. (
            let b_there : position_or_len (same b) ks < length ks = omega arith in
            let x : K = get_or ks p a in
            let own : same a x ≡ true = ap (λ i. same a (get_or ks i a)) is ∙ passes_at_first (same a) ks a a_there in
            let other : same b x ≡ true = ap (λ i. same b (get_or ks i a)) (sym e) ∙ passes_at_first (same b) ks a b_there in
            let one : b ≡ a = (told b x).0 other ∙ sym ((told a x).0 own) in
            false≢true (sym f ∙ (told b a).1 one)
            ) in
            get_or-set_other vs p (position_or_len (same b) ks) v d apart
            )
      ] in
      case refl

  -- where a value that reads as d does comes last, each key reads as before, whether the new one was there or not
  pub found-pushed : {X : Type 0} (read : V → X) (ks : List K) (vs : List V) (k : K) (v : V) → read v ≡ read d → length vs ≡ length ks → (b : K) → read (found same d (ks ++ k ∷ []) (vs ++ v ∷ []) b) ≡ read (found same d ks vs b)
  found-pushed read ks vs k v blank long b =
      let p = position_or_len (same b) ks in
      let push = position_or_len_push (same b) ks k in
      let more = length-append vs (v ∷ []) in
      elim (cases_eq p (length ks)) [
        | inl at_end ↦ (
            let is : position_or_len (same b) (ks ++ k ∷ []) ≡ length ks + cond (same b k) 0 1 = push ∙ ap (λ t. cond t (length ks + cond (same b k) 0 1) p) (eq-eqb p (length ks) at_end) in
            let none : get_or vs p d ≡ d = get_or_past vs p d (omega arith) in
            let last : (b : Bool) → read (get_or (vs ++ v ∷ []) (length ks + cond b 0 1) d) ≡ read d = λ t. elim t as (λ t. read (get_or (vs ++ v ∷ []) (length ks + cond t 0 1) d) ≡ read d) [
              | true ↦ ap (λ i. read (get_or (vs ++ v ∷ []) i d)) (let e : length ks + 0 ≡ length vs = omega arith in e) ∙ ap read (last_is v vs) ∙ blank
              | false ↦ ap read (get_or_past (vs ++ v ∷ []) (length ks + 1) d (let one : length (v ∷ []) ≡ 1 = refl in omega arith))
            ] in
            ap (λ i. read (get_or (vs ++ v ∷ []) i d)) is ∙ last (same b k) ∙ ap read (sym none)
            )
        | inr before ↦ (
            let is : position_or_len (same b) (ks ++ k ∷ []) ≡ p = push ∙ ap (λ t. cond t (length ks + cond (same b k) 0 1) p) (ne_eqb p (length ks) before) in
            let inside : p < length vs = (let most = at_most (same b) ks in omega arith) in
            ap (λ i. read (get_or (vs ++ v ∷ []) i d)) is ∙ ap read (get_or_append_left vs (v ∷ []) d p inside)
            )
      ]
    where
      last_is : (v : V) (vs : List V) → get_or (vs ++ v ∷ []) (length vs) d ≡ v
      last_is v [] = refl
      last_is v (x ∷ vs) = last_is v vs

      at_most : (test : K → Bool) (ks : List K) → position_or_len test ks ≤ length ks
      at_most test [] = omega arith
      at_most test (k ∷ ks) =
          let later = at_most test ks in
          elim (test k) as (λ t. cond (not t) (1 + position_or_len test ks) 0 ≤ suc (length ks)) [ true ↦ omega arith | false ↦ omega arith ]
