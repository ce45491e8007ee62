-- The links that the rows of the nodes stand for.
use Rattle.std.proofs.Common.{◌≡◌, ◌≢◌, ◌≤◌, ◌<◌, ◌+◌, ◌↔◌, ◌⊎◌, ◌&&◌, ◌==◌, ℕ, zero, suc, Bool, true, not, List, [], ◌∷◌, map, length, get_or, set, eqb, refl, sym, ◌∙◌, ap, subst, inl, inr, arith, get_or-set_other, get_or-set_same}
use Rattle.std.proofs.lemmas.Bool.{and_parts, cases_eq, eq-eqb, eqb-true, false≢true}
use Rattle.std.proofs.lemmas.Bool.Decides.{same_from_decides}
use Rattle.std.specs.Bool.{Decides}
use Rattle.std.specs.Cmp.Lexicographic.{pointwise}
use Rattle.std.specs.List.{list_any}
use Rattle.crgc_ids.proofs.MembersLaws.{IsAmong-append_cases, IsAmong-append_left, IsAmong-append_right, list_any-member, list_any-true}
use Rattle.crgc_ids.proofs.NodesLaws.{IsAmong-with_node}
use Rattle.crgc_ids.specs.LostNodes.{has_link}
use Rattle.crgc_ids.specs.Members.{IsAmong}
use Rattle.crgc_ids.specs.Nodes.{with_node}
use Rattle.membership.specs.Noted.{links_from}

-- the links of one row
abbrev row_links : ℕ → List ℕ → List (ℕ × ℕ)
row_links k row = map (λ d. (k, d)) row

-- a link of one row has the row's node as its source
row_of_link : (s d k : ℕ) (row : List ℕ) → IsAmong (s, d) (row_links k row) → (s ≡ k) × IsAmong d row
row_of_link s d k [] h = absurd h
row_of_link s d k (e ∷ row) (inl same) = (ap (λ l. l.0) same, inl (ap (λ l. l.1) same))
row_of_link s d k (e ∷ row) (inr h) = let later = row_of_link s d k row h in (later.0, inr later.1)

link_of_row : (d k : ℕ) (row : List ℕ) → IsAmong d row → IsAmong (k, d) (row_links k row)
link_of_row d k [] h = absurd h
link_of_row d k (e ∷ row) (inl same) = inl (ap (λ x. (k, x)) same)
link_of_row d k (e ∷ row) (inr h) = inr (link_of_row d k row h)

-- no source is below the first row's node
source_from : (s d k : ℕ) (rows : List (List ℕ)) → IsAmong (s, d) (links_from k rows) → k ≤ s
source_from s d k [] h = absurd h
source_from s d k (row ∷ rows) h =
    elim (IsAmong-append_cases (s, d) (row_links k row) (links_from (k + 1) rows) h) [
      | inl m ↦ (let here = (row_of_link s d k row m).0 in omega arith)
      | inr m ↦ (let later = source_from s d (k + 1) rows m in omega arith)
    ]

-- the links of a node lead to the members of its row
links-row : (s d k i : ℕ) (rows : List (List ℕ)) → s ≡ k + i → IsAmong (s, d) (links_from k rows) ↔ IsAmong d (get_or rows i [])
links-row s d k i [] e = (λ h. absurd h, λ h. absurd h)
links-row s d k zero (row ∷ rows) e =
    let links = row_links k row in
    let here : k ≡ s = omega arith in (
      λ h. elim (IsAmong-append_cases (s, d) links (links_from (k + 1) rows) h) [
        | inl m ↦ (row_of_link s d k row m).1
        | inr m ↦ (let later = source_from s d (k + 1) rows m in absurd (omega arith))
      ],
      λ h. IsAmong-append_left (s, d) links (links_from (k + 1) rows) (subst (λ x. IsAmong (x, d) links) here (link_of_row d k row h)),
    )
links-row s d k (suc i) (row ∷ rows) e =
    let links = row_links k row in
    let later = links-row s d (k + 1) i rows (omega arith) in (
      λ h. elim (IsAmong-append_cases (s, d) links (links_from (k + 1) rows) h) [
        | inl m ↦ (let here = (row_of_link s d k row m).0 in absurd (omega arith))
        | inr m ↦ later.0 m
      ],
      λ h. IsAmong-append_right (s, d) links (links_from (k + 1) rows) (later.1 h),
    )

pub links-told : (s d : ℕ) (rows : List (List ℕ)) → IsAmong (s, d) (links_from 0 rows) ↔ IsAmong d (get_or rows s [])
links-told s d rows = links-row s d 0 s rows (omega arith)

-- of a place in a list it does not matter what stands for a missing one
get_or-default : {A : Type 0} (xs : List A) (i : ℕ) (d e : A) → i < length xs → get_or xs i d ≡ get_or xs i e
get_or-default [] i d e h = absurd (omega arith)
get_or-default (x ∷ xs) zero d e h = refl
get_or-default (x ∷ xs) (suc i) d e h = get_or-default xs i d e (omega arith)

-- to put a destination into the row of its source is to add the link
module _ (rows : List (List ℕ)) (from at : ℕ) (inside : from < length rows) where
  noted : List ℕ → List (List ℕ)
  noted row = set rows from (with_node at row)

  noted_here : (row : List ℕ) → row ≡ get_or rows from [] → (d : ℕ) → IsAmong (from, d) (links_from 0 (noted row)) ↔ ((d ≡ at) ⊎ IsAmong (from, d) (links_from 0 rows))
  unfolding noted
  noted_here row is d =
      let new = links-told from d (noted row) in
      let old = links-told from d rows in
      let put = IsAmong-with_node d at row in
      let there = get_or-set_same rows from (with_node at row) [] inside in (
        λ h. elim (put.0 (subst (IsAmong d) there (new.0 h))) [ inl e ↦ inl e | inr m ↦ inr (old.1 (subst (IsAmong d) is m)) ],
        λ h. new.1 (subst (IsAmong d) (sym there) (put.1 (elim h [ inl e ↦ inl e | inr m ↦ inr (subst (IsAmong d) (sym is) (old.0 m)) ]))),
      )

  noted_elsewhere : (row : List ℕ) (s d : ℕ) → s ≢ from → IsAmong (s, d) (links_from 0 (noted row)) ↔ IsAmong (s, d) (links_from 0 rows)
  unfolding noted
  noted_elsewhere row s d apart =
      let new = links-told s d (noted row) in
      let old = links-told s d rows in
      let there = get_or-set_other rows from s (with_node at row) [] apart in (
        λ h. old.1 (subst (IsAmong d) there (new.0 h)),
        λ h. new.1 (subst (IsAmong d) (sym there) (old.0 h)),
      )

  pub links-noted : (e : List ℕ) (l : ℕ × ℕ) → IsAmong l (links_from 0 (set rows from (with_node at (get_or rows from e)))) ↔ ((l ≡ (from, at)) ⊎ IsAmong l (links_from 0 rows))
  unfolding noted
  links-noted e l =
      let row = get_or rows from e in
      let here = noted_here row (get_or-default rows from e [] inside) l.1 in
      let Added : ℕ → Type 0 = λ s. IsAmong (s, l.1) (links_from 0 (noted row)) ↔ ((◌≡◌ {A = ℕ × ℕ} (s, l.1) (from, at)) ⊎ IsAmong (s, l.1) (links_from 0 rows)) in
      let added : Added from = (
        λ h. elim (here.0 h) [ inl e ↦ inl (ap (λ d. (from, d)) e) | inr m ↦ inr m ],
        λ h. here.1 (elim h [ inl e ↦ inl (ap (λ x. x.1) e) | inr m ↦ inr m ]),
      ) in
      elim (cases_eq from l.0) [
        | inl same ↦ subst Added same added
        | inr apart ↦ (let there = noted_elsewhere row l.0 l.1 (λ e. apart (sym e)) in (
          λ h. inr (there.0 h),
          λ h. there.1 (elim h [ inl e ↦ absurd (apart (sym (ap (λ x. x.0) e))) | inr m ↦ m ]),
        ))
      ]

-- the test `has_link` tells the links
pub has_link-decides : (links : List (ℕ × ℕ)) (s d : ℕ) → Decides (has_link links s d) (IsAmong (s, d) links)
has_link-decides links s d = (
  λ t.
      let found = list_any-true (λ l. eqb s l.0 && eqb d l.1) links t in
      let both = and_parts (eqb s found.0.0) (eqb d found.0.1) found.2 in
      subst (λ x. IsAmong (s, x) links) (sym (eqb-true d found.0.1 both.1))
      (subst (λ x. IsAmong (x, found.0.1) links) (sym (eqb-true s found.0.0 both.0)) found.1),
  λ h. list_any-member (λ l. eqb s l.0 && eqb d l.1) (s, d) links h (ap (λ b. b && eqb d d) (eq-eqb s s refl) ∙ eq-eqb d d refl),
)

-- the row of a source tells its links
pub told-link : (rows : List (List ℕ)) (s d : ℕ) (e : List ℕ) (r : Bool) → s < length rows → (r ≡ true) ↔ IsAmong d (get_or rows s e) → r ≡ has_link (links_from 0 rows) s d
told-link rows s d e r inside tells =
    let row_is = get_or-default rows s e [] inside in
    let told = links-told s d rows in
    same_from_decides r (has_link (links_from 0 rows) s d)
    (λ t. told.1 (subst (IsAmong d) row_is (tells.0 t)), λ h. tells.1 (subst (IsAmong d) (sym row_is) (told.0 h)))
    (has_link-decides (links_from 0 rows) s d)

-- a node is a source exactly where its row is not empty
pub told-source : (rows : List (List ℕ)) (s : ℕ) (e : List ℕ) → s < length rows → not (pointwise eqb (get_or rows s e) []) ≡ list_any (λ l. s == l.0) (links_from 0 rows)
told-source rows s e inside =
    same_from_decides (not (pointwise eqb (get_or rows s e) [])) (list_any (λ l. s == l.0) (links_from 0 rows))
    (some_link (get_or rows s e) (get_or-default rows s e [] inside)) (
      λ t. (let found = list_any-true (λ l. s == l.0) (links_from 0 rows) t in (found.0.1, subst (λ x. IsAmong (x, found.0.1) (links_from 0 rows)) (sym (eqb-true s found.0.0 found.2)) found.1)),
      λ h. list_any-member (λ l. s == l.0) (s, h.0) (links_from 0 rows) h.1 (eq-eqb s s refl),
    )
  where
    some_link : (row : List ℕ) → row ≡ get_or rows s [] → Decides (not (pointwise eqb row [])) ((d : ℕ) × IsAmong (s, d) (links_from 0 rows))
    some_link [] is = (λ t. absurd (false≢true t), λ h. absurd (subst (IsAmong h.0) (sym is) ((links-told s h.0 rows).0 h.1)))
    some_link (d ∷ row) is = (λ _. (d, (links-told s d rows).1 (subst (IsAmong d) is (inl refl))), λ _. refl)
