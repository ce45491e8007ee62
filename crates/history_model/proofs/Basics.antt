-- What all proofs about histories use: equality of actors, and what legality gives.
use Rattle.std.proofs.Common.{◌≡◌, ℕ, true, false, List, [], ◌∷◌, ◌++◌, refl, sym, eqb}
use Rattle.std.proofs.lemmas.Bool.Decides.{Decides-eqb, same_from_decides}
use Rattle.std.specs.Prelude.{Some, None, cond}
use Rattle.crgc_ids.specs.Actor.{Actor}
use Rattle.crgc_ids.proofs.ActorLaws.{same_actor-decides}
use Rattle.history_model.specs.declared.events.Event.{Event}
use Rattle.history_model.specs.Cluster.{Cluster, same_actor}
use Rattle.history_model.specs.Legal.{Check, checks, first_broken, IsLegal}

-- ---- numbers

pub eqb-refl : (n : ℕ) → eqb n n ≡ true
eqb-refl n = (Decides-eqb n n).1 refl

pub eqb-sym : (m n : ℕ) → eqb m n ≡ eqb n m
eqb-sym m n = same_from_decides (eqb m n) (eqb n m) (Decides-eqb m n) (λ t. sym ((Decides-eqb n m).0 t), λ e. (Decides-eqb n m).1 (sym e))

-- ---- actors

pub same_actor-refl : (a : Actor) → same_actor a a ≡ true
same_actor-refl a = (same_actor-decides a a).1 refl

pub same_actor-sym : (a b : Actor) → same_actor a b ≡ same_actor b a
same_actor-sym a b = rw (eqb-sym a.node b.node, eqb-sym a.serial b.serial) refl

-- actors that test the same are equal
pub same_actor-equal : (a b : Actor) → same_actor a b ≡ true → a ≡ b
same_actor-equal a b t = (same_actor-decides a b).0 t

-- ---- legality

-- all rules are kept
abbrev pub AreKept : List Check → Type 0
AreKept [] = Unit {0}
AreKept (c ∷ cs) = (c.kept ≡ true) × AreKept cs

pub first_broken-none : (cs : List Check) → first_broken cs ≡ None → AreKept cs
first_broken-none [] e = tt
first_broken-none (c ∷ cs) e =
    let rest = first_broken-none cs in
    let split = elim c.kept as (λ v. c.kept ≡ v → cond v (first_broken cs) (Some c.rule) ≡ None → AreKept (c ∷ cs)) [
      | true ↦ λ k n. (k, rest n)
      | false ↦ λ k n. absurd (cc)
    ] in
    split refl e

-- an event that follows legally keeps all its rules
pub legal-kept : (cl : Cluster) (e : Event) (p : List Event) → IsLegal cl (e ∷ p) → AreKept (checks cl e p)
legal-kept cl e p legal = first_broken-none (checks cl e p) legal.0

-- what came before is legal too
pub legal-before : (cl : Cluster) (q p : List Event) → IsLegal cl (q ++ p) → IsLegal cl p
legal-before cl [] p legal = legal
legal-before cl (e ∷ q) p legal = legal-before cl q p legal.1
