-- A script is in its ranges.
use Rattle.std.proofs.Common.{◌≡◌, ◌&&◌, ◌==◌, Bool, true, not, nat_lt, nat_le, List, [], ◌∷◌, length, refl}
use Rattle.std.specs.List.{list_all}
use Rattle.std.proofs.lemmas.Bool.{and_parts}
use Rattle.behaviour_lang.specs.Names.{is_local_name}
use Rattle.script_reader.specs.Valid.{IsScript, Scripted, is_seed, is_tie}
use Rattle.script_reader.specs.declared.script.Seed.{Seed as SeedRow}
use Rattle.run_model.specs.Doing.{is_in_ranges, is_tie_in}

both : (a b : Bool) → a ≡ true → b ≡ true → (a && b) ≡ true
both a b first second = rw (first, second) refl

-- a weaker test passes too
all-weaker : {A : Type 0} (p q : A → Bool) → ((x : A) → p x ≡ true → q x ≡ true) → (xs : List A) → list_all p xs ≡ true → list_all q xs ≡ true
all-weaker p q weaker [] all = refl
all-weaker p q weaker (x ∷ xs) all =
    let parts = and_parts (p x) (list_all p xs) all in
    both (q x) (list_all q xs) (weaker x parts.0) (all-weaker p q weaker xs parts.1)

pub seeds-on_nodes : (s : Scripted) → IsScript s → list_all (λ (x : SeedRow). nat_lt x.node s.nodes) s.seeds ≡ true
seeds-on_nodes s fits =
    let n = length s.code in
    all-weaker (is_seed s.nodes n) (λ (x : SeedRow). nat_lt x.node s.nodes)
    (λ x ok. (and_parts (nat_lt x.node s.nodes) (nat_lt x.behaviour n) (and_parts (nat_lt x.node s.nodes && nat_lt x.behaviour n) (nat_le x.wakes 1000000) ok).0).0) s.seeds fits.seeds

ties-in : (s : Scripted) → IsScript s → list_all (is_tie_in (length s.seeds)) s.ties ≡ true
ties-in s fits =
    let n = length s.seeds in
    all-weaker (is_tie n) (is_tie_in n)
    (λ t ok. (
    let named = and_parts (nat_lt t.from n && nat_lt t.to n && not (t.to == t.from)) (is_local_name t.name) ok in
    let apart = and_parts (nat_lt t.from n && nat_lt t.to n) (not (t.to == t.from)) named.0 in
    let ends = and_parts (nat_lt t.from n) (nat_lt t.to n) apart.0 in
    both (nat_lt t.from n) (nat_lt t.to n && not (t.to == t.from)) ends.0 (both (nat_lt t.to n) (not (t.to == t.from)) ends.1 apart.1)))
    s.ties fits.ties.pass

pub script-in_ranges : (s : Scripted) → IsScript s → is_in_ranges s ≡ true
script-in_ranges s fits =
    both (list_all (λ (x : SeedRow). nat_lt x.node s.nodes) s.seeds) (list_all (is_tie_in (length s.seeds)) s.ties) (seeds-on_nodes s fits) (ties-in s fits)
