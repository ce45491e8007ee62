-- The hands of one node's bulletins to another, from one number that is wanted to the next.
use Rattle.std.proofs.Common.{◌≡◌, ◌<◌, ◌≤◌, ◌+◌, ℕ, suc, true, false, cond, is_none, List, ◌∷◌, length, None, Some, refl, sym, ◌∙◌, ap, subst, inl, inr, arith, nat_lt, IsTrue, ◌==◌, ◌&&◌}
use Rattle.std.proofs.lemmas.Bool.{cases_lt, cond-true, false≢true, lt-ltb}
use Rattle.history_model.specs.declared.events.Event.{Event}
use Rattle.history_model.specs.declared.events.Event.TheVariants.{Hand}
use Rattle.history_model.specs.declared.events.Rule.TheVariants.{NoNode, Down, NoBulletin}
use Rattle.history_model.specs.Cluster.{Cluster}
use Rattle.history_model.specs.Folds.{was_handed}
use Rattle.history_model.specs.Legal.{checks, refusal}
use Rattle.history_model.specs.State.{is_up}
use Rattle.history_model.specs.Streams.{stream}
use Rattle.history_model.proofs.Basics.{eqb-refl, first_broken-none}
use Rattle.node_collectors.specs.Wanted.{IsFirstUnhanded}
use Rattle.run_model.specs.Round.{each, handed, handed_from, tried}
use Rattle.run_model.proofs.RoundSteps.{tried-makes}
use Rattle.std.proofs.lemmas.Bool.{and_from, or_left, or_right}
use Rattle.cluster_round.proofs.Staging.{each-skip}

-- what was handed is not handed again
handed-before : (cl : Cluster) (m o k : ℕ) (h : List Event) → was_handed m o k h ≡ true → handed cl m o k h ≡ h
handed-before cl m o k h was = ap (λ b. cond b h (tried cl (Hand m o k) h)) was

handed-first : (cl : Cluster) (m o k : ℕ) (h : List Event) → was_handed m o k h ≡ false → handed cl m o k h ≡ tried cl (Hand m o k) h
handed-first cl m o k h was = ap (λ b. cond b h (tried cl (Hand m o k) h)) was

-- nothing is handed to a node that is down
handed-down : (cl : Cluster) (m o k : ℕ) (h : List Event) → is_up m h ≡ false → handed cl m o k h ≡ h
handed-down cl m o k h down =
    let refused : tried cl (Hand m o k) h ≡ h =
    tried-makes (λ g. g ≡ h) cl (Hand m o k) h
    (λ none. (let up = (first_broken-none (checks cl (Hand m o k) h) none).1.1.0 in absurd (false≢true (sym down ∙ up)))) (λ _. refl) in
    elim (was_handed m o k h) as (λ b. cond b h (tried cl (Hand m o k) h) ≡ h) [ true ↦ refl | false ↦ refused ]

pub none-handed : (cl : Cluster) (m o : ℕ) (h : List Event) → is_up m h ≡ false → h ≡ handed_from cl m o h
none-handed cl m o h down = each-skip (handed cl m o) h h 0 (length (stream cl o h)) (omega arith) refl (λ k _ _. handed-down cl m o k h down)

-- a node that is up stays so where a hand is tried
pub hand-up : (cl : Cluster) (n m o k : ℕ) (h : List Event) → IsTrue (is_up n h) → IsTrue (is_up n (tried cl (Hand m o k) h))
hand-up cl n m o k h up = tried-makes (λ g. IsTrue (is_up n g)) cl (Hand m o k) h (λ _. up) (λ _. up)

-- the bulletins of o up to a number were handed to m, and from there on the first number that is wanted is known
pub record IsHandedUpTo (cl : Cluster) (m o : ℕ) (h now : List Event) (end number : ℕ) : Type 0 where
  pub long : end ≡ length (stream cl o h)
  pub done : (i : ℕ) × (i ≤ end) × (i ≤ number) × (now ≡ each (handed cl m o) i h)
  pub same : stream cl o now ≡ stream cl o h
  pub up : IsTrue (is_up m now)
  pub wanted : IsFirstUnhanded m o now number

pub handed-start : (cl : Cluster) (m o : ℕ) (h : List Event) (end number : ℕ) → end ≡ length (stream cl o h) → IsTrue (is_up m h) → IsFirstUnhanded m o h number → IsHandedUpTo cl m o h h end number
handed-start cl m o h end number long up wanted = record {
  long = long;
  done = (0, omega arith, omega arith, refl);
  same = refl;
  up = up;
  wanted = wanted;
}

hand-free : (cl : Cluster) (m o k : ℕ) (h : List Event) → m < cl.nodes → o < cl.nodes → IsTrue (is_up m h) → k < length (stream cl o h) → refusal cl (Hand m o k) h ≡ None
hand-free cl m o k h first second up there =
    cond-true (nat_lt m cl.nodes) _ (Some NoNode) (lt-ltb m cl.nodes first) ∙ cond-true (nat_lt o cl.nodes) _ (Some NoNode) (lt-ltb o cl.nodes second)
    ∙ cond-true (is_up m h) _ (Some Down) up ∙ cond-true (nat_lt k (length (stream cl o h))) None (Some NoBulletin) (lt-ltb k (length (stream cl o h)) there)

-- what was handed stays so
handed-stays : (m o k x : ℕ) (h : List Event) → was_handed m o k h ≡ true → was_handed m o k (Hand m o x ∷ h) ≡ true
handed-stays m o k x h was = or_right _ (was_handed m o k h) was

module _ (cl : Cluster) (m o : ℕ) (h now : List Event) (end number : ℕ) (at : IsHandedUpTo cl m o h now end number) where
  -- where the wanted number is not there yet, all were handed
  pub handed-all : end ≤ number → now ≡ handed_from cl m o h
  handed-all beyond =
      each-skip (handed cl m o) h now at.done.0 (length (stream cl o h)) (subst (λ n. at.done.0 ≤ n) at.long at.done.1) at.done.3
      (λ k _ below. handed-before cl m o k now (at.wanted.handed k (omega (arith, below, at.long, beyond))))

  module _ (below : number < end) where
    pub wanted-reached : now ≡ each (handed cl m o) number h
    wanted-reached =
        each-skip (handed cl m o) h now at.done.0 number at.done.2 at.done.3 (λ k _ under. handed-before cl m o k now (at.wanted.handed k under))

    pub wanted-below : number < length (stream cl o h)
    wanted-below = omega (arith, below, at.long)

    pub wanted-handed : handed cl m o number now ≡ tried cl (Hand m o number) now
    wanted-handed = handed-first cl m o number now at.wanted.missing

    module _ (first : m < cl.nodes) (second : o < cl.nodes) (new : List Event) (is : new ≡ tried cl (Hand m o number) now) (next : ℕ) (wants : IsFirstUnhanded m o new next) where
      -- the wanted bulletin is handed
      happens : new ≡ Hand m o number ∷ now
      happens =
          let long : number < length (stream cl o now) = subst (λ s. number < length s) (sym at.same) wanted-below in
          let none = hand-free cl m o number now first second at.up long in
          is ∙ ap (λ r. cond (is_none r) (Hand m o number ∷ now) now) none

      then_wanted : IsFirstUnhanded m o (Hand m o number ∷ now) next
      then_wanted = subst (λ g. IsFirstUnhanded m o g next) happens wants

      -- and then a later one is wanted
      pub wanted-later : number < next
      wanted-later = elim (cases_lt number next) [
        | inl later ↦ later
        | inr before ↦ absurd (none before)
      ]
        where
          itself : was_handed m o number (Hand m o number ∷ now) ≡ true
          itself = or_left _ (was_handed m o number now) (and_from (m == m) ((o == o) && (number == number)) (eqb-refl m) (and_from (o == o) (number == number) (eqb-refl o) (eqb-refl number)))

          none : next ≤ number → ⊥
          none before = elim (cases_lt next number) [
            | inl lower ↦ false≢true (sym then_wanted.missing ∙ handed-stays m o next number now (at.wanted.handed next lower))
            | inr last ↦ (let same : number ≡ next = omega (arith, before, last) in false≢true (sym then_wanted.missing ∙ subst (λ k. was_handed m o k (Hand m o number ∷ now) ≡ true) same itself))
          ]

      pub wanted-next : IsHandedUpTo cl m o h new end next
      wanted-next = record {
        long = at.long;
        done = (number + 1, omega (arith, below), omega (arith, wanted-later), reached);
        same = subst (λ g. stream cl o g ≡ stream cl o h) (sym happens) at.same;
        up = subst (λ g. IsTrue (is_up m g)) (sym happens) at.up;
        wanted = wants;
      }
        where
          reached : new ≡ each (handed cl m o) (number + 1) h
          reached =
              let later : suc number ≡ number + 1 = omega arith in
              is ∙ sym wanted-handed ∙ ap (handed cl m o number) wanted-reached ∙ ap (λ k. each (handed cl m o) k h) later
