-- A header line is that of one cluster.
use Rattle.std.proofs.Common.{◌≡◌, ◌≤◌, ◌==◌, ◌&&◌, ℕ, Bool, true, false, cond, nat_le, List, [], ◌∷◌, Option, Some, None, refl, sym, ap, subst, inl, inr, arith}
use Rattle.std.specs.Fmt.{digits}
use Rattle.std.specs.List.{find, list_all, range_with_len}
use Rattle.std.specs.Str.{bytes_eq}
use Rattle.std.proofs.lemmas.Bool.{cases_lt}
use Rattle.std.proofs.lemmas.Bool.Decides.{nat_tests}
use Rattle.std.proofs.lemmas.Slice.Eq.{bytes_eq-Decides}
use Rattle.crgc_ids.specs.Members.{IsAmong}
use Rattle.crgc_ids.proofs.MembersLaws.{IsAmong-range, list_all-true}
use Rattle.history_model.specs.Cluster.{Cluster}
use Rattle.journal_model.specs.Journals.{clusters, header_of}
use Rattle.journal_model.specs.Lines.{header_line}

-- ---- a header is found

abbrev is_same : Cluster → Option Cluster → Bool
is_same cl None = false
is_same cl (Some found) = (found.nodes == cl.nodes) && (found.version == cl.version)

abbrev is_found : ℕ → ℕ → Bool
is_found version nodes = is_same (record { nodes = nodes; version = version }) (header_of (header_line (record { nodes = nodes; version = version })))

first-found : list_all (is_found 1) (range_with_len 1 16) ≡ true
unfolding digits
first-found = refl

second-found : list_all (is_found 2) (range_with_len 1 16) ≡ true
unfolding digits
second-found = refl

same-is : (cl : Cluster) (o : Option Cluster) → is_same cl o ≡ true → o ≡ Some cl
same-is cl None is = absurd (cc)
same-is cl (Some found) is =
    let nodes : found.nodes ≡ cl.nodes = grind (arith, nat_tests, is) in
    let version : found.version ≡ cl.version = grind (arith, nat_tests, is) in
    ap Some (λ i. record { nodes = nodes i; version = version i })

-- the header of a cluster is found to be its own
pub header_of-header : (cl : Cluster) → 1 ≤ cl.nodes → cl.nodes ≤ 16 → 1 ≤ cl.version → cl.version ≤ 2 → header_of (header_line cl) ≡ Some cl
header_of-header cl some most first last =
    let among = IsAmong-range cl.nodes 1 16 some (omega (arith, most)) in
    same-is cl (header_of (header_line cl))
    (elim (cases_lt cl.version 2) [
      | inl low ↦ subst (λ v. is_found v cl.nodes ≡ true) (omega (arith, low, first)) (list_all-true (is_found 1) cl.nodes (range_with_len 1 16) first-found among)
      | inr high ↦ subst (λ v. is_found v cl.nodes ≡ true) (omega (arith, high, last)) (list_all-true (is_found 2) cl.nodes (range_with_len 1 16) second-found among)
    ])

-- ---- what is found is in range

abbrev is_in_range : Cluster → Bool
is_in_range cl = (nat_le 1 cl.nodes && nat_le cl.nodes 16) && (nat_le 1 cl.version && nat_le cl.version 2)

all-in_range : list_all is_in_range clusters ≡ true
all-in_range = refl

-- what is found is in the list and passes
found-passes : (test : Cluster → Bool) (xs : List Cluster) (x : Cluster) → find test xs ≡ Some x → IsAmong x xs × (test x ≡ true)
found-passes test [] x is = absurd (cc)
found-passes test (y ∷ ys) x is =
    elim (test y) as (λ b. test y ≡ b → cond b (Some y) (find test ys) ≡ Some x → (IsAmong x (y ∷ ys)) × (test x ≡ true)) [
      | true ↦ λ passes here. (let same : y ≡ x = cc in (inl (sym same), subst (λ z. test z ≡ true) same passes))
      | false ↦ λ fails later. (let rest = found-passes test ys x later in (inr rest.0, rest.1))
    ] refl is

-- the cluster whose header the line is
pub header_of-cluster : (line : List ℕ) (cl : Cluster) → header_of line ≡ Some cl → (1 ≤ cl.nodes) × (cl.nodes ≤ 16) × (1 ≤ cl.version) × (cl.version ≤ 2) × (header_line cl ≡ line)
header_of-cluster line cl is =
    let there = found-passes (λ c. bytes_eq line (header_line c)) clusters cl is in
    let in_range = list_all-true is_in_range cl clusters all-in_range there.0 in (
      grind (arith, nat_tests, in_range),
      grind (arith, nat_tests, in_range),
      grind (arith, nat_tests, in_range),
      grind (arith, nat_tests, in_range),
      sym ((bytes_eq-Decides line (header_line cl)).0 there.1),
    )
