-- A shadow graph as a graph of places.
use Rattle.std.proofs.Common.{◌≡◌, ◌<◌, ◌↔◌, ◌&&◌, ◌⊎◌, not, ℕ, Bool, true, false, cond, List, Some, None, length, nat_lt, refl, sym, ◌∙◌, ap, subst, inl, inr}
use Rattle.std.proofs.lemmas.Bool.{false≢true, lt-ltb, ltb-true}
use Rattle.crgc_ids.specs.Actor.{Actor}
use Rattle.crgc_ids.specs.Members.{IsAmong}
use Rattle.edge_table.specs.Table.{ArePositive, edge_at, is_positive, no_edge}
use Rattle.edge_table.specs.declared.table.Edge.{Edge}
use Rattle.place_marks.specs.Graph.{AreFrom, AreTo, IsGraph, IsStep}
use Rattle.shadow_graph.specs.Graph.{Graph}
use Rattle.shadow_graph.specs.Pairs.{edge_between, has_pair}
use Rattle.shadow_graph.specs.Places.{ArePlaced, actor_of}
use Rattle.pseudoroot_trace.specs.Trace.{goes_along, is_out, leads, place_graph, step_of}

pub is-or-not : (a : Bool) → (a ≡ true) ⊎ (a ≡ false)
is-or-not true = inl refl
is-or-not false = inr refl

-- ---- a positive edge

nothing-positive : (e : Edge) → e ≡ no_edge → is_positive e ≡ true → ⊥
nothing-positive e is t = false≢true (ap is_positive (sym is) ∙ t)

-- it is there
pub positive-there : (g : Graph) → ArePlaced g → (b a : Actor) → is_positive (edge_between g.edges b a) ≡ true → has_pair g.edges.pairs b a ≡ true
positive-there g placed b a positive =
    elim (is-or-not (has_pair g.edges.pairs b a)) [
      | inl there ↦ there
      | inr apart ↦ absurd (nothing-positive (edge_between g.edges b a) (placed.none b a apart) positive)
    ]

pub leads-parts : (out : Bool) (e : Edge) → (not out && is_positive e) ≡ true → (out ≡ false) × (is_positive e ≡ true)
leads-parts true e t = absurd (false≢true t)
leads-parts false e t = (refl, t)

-- ---- the edge with a number

-- marks go along it, from this place to that one
pub record IsAlong (g : Graph) (n b a : ℕ) : Type 0 where
  pub inside : n < length g.edges.edges
  pub owner : (edge_at g.edges n).owner ≡ b
  pub target : (edge_at g.edges n).target ≡ a
  pub on : leads g (actor_of g b) (actor_of g a) ≡ true

abbrev ends_of : Edge → ℕ × ℕ
ends_of e = (e.owner, e.target)

ends-there : (v : Bool) (ends : ℕ × ℕ) (b a : ℕ) → cond v (Some ends) None ≡ Some (b, a) → (v ≡ true) × (ends ≡ (b, a))
ends-there true ends b a e = (refl, cc)
ends-there false ends b a e = absurd (cc)

both-true : (v w : Bool) → (v && w) ≡ true → (v ≡ true) × (w ≡ true)
both-true true w e = (refl, e)
both-true false w e = absurd (false≢true e)

pub along : (g : Graph) (n b a : ℕ) → step_of g n ≡ Some (b, a) → IsAlong g n b a
along g n b a step =
    let e = edge_at g.edges n in
    let found = ends-there (goes_along g n) (ends_of e) b a step in
    let owner : e.owner ≡ b = ap (λ (x : ℕ × ℕ). x.0) found.1 in
    let target : e.target ≡ a = ap (λ (x : ℕ × ℕ). x.1) found.1 in
    let goes = both-true (nat_lt n (length g.edges.edges)) (leads g (actor_of g e.owner) (actor_of g e.target)) found.0 in
    record {
      inside = ltb-true n (length g.edges.edges) goes.0;
      owner = owner;
      target = target;
      on = (λ i. leads g (actor_of g (sym owner i)) (actor_of g (sym target i))) ∙ goes.1;
    }

pub along-step : (g : Graph) (n b a : ℕ) → IsAlong g n b a → step_of g n ≡ Some (b, a)
along-step g n b a goes =
    let e = edge_at g.edges n in
    let on : leads g (actor_of g e.owner) (actor_of g e.target) ≡ true = (λ i. leads g (actor_of g (goes.owner i)) (actor_of g (goes.target i))) ∙ goes.on in
    let ends : ends_of e ≡ (b, a) = λ i. (goes.owner i, goes.target i) in
    ap (λ v. cond (v && leads g (actor_of g e.owner) (actor_of g e.target)) (Some (ends_of e)) None) (lt-ltb n (length g.edges.edges) goes.inside)
    ∙ ap (λ v. cond v (Some (ends_of e)) None) on
    ∙ ap Some ends

-- it is positive
along-positive : (g : Graph) → ArePlaced g → (n b a : ℕ) → IsAlong g n b a → is_positive (edge_at g.edges n) ≡ true
along-positive g placed n b a goes =
    let between : edge_between g.edges (actor_of g b) (actor_of g a) ≡ edge_at g.edges n =
    (λ i. edge_between g.edges (actor_of g (sym goes.owner i)) (actor_of g (sym goes.target i))) ∙ (placed.numbered n goes.inside).2 in
    ap is_positive (sym between) ∙ (leads-parts (is_out g (actor_of g a)) (edge_between g.edges (actor_of g b) (actor_of g a)) goes.on).1

-- ---- steps

pub step-from : (g : Graph) → ArePlaced g → (b a : ℕ) → IsStep (place_graph g) b a
    → (b < length g.shadows.names) × (a < length g.shadows.names) × (leads g (actor_of g b) (actor_of g a) ≡ true)
step-from g placed b a step =
    let goes = along g step.0 b a step.1 in
    let ends = placed.numbered step.0 goes.inside in (
      subst (λ p. p < length g.shadows.names) goes.owner ends.0,
      subst (λ p. p < length g.shadows.names) goes.target ends.1,
      goes.on,
    )

pub step-to : (g : Graph) → ArePlaced g → (b a : ℕ) → b < length g.shadows.names → a < length g.shadows.names
    → leads g (actor_of g b) (actor_of g a) ≡ true → IsStep (place_graph g) b a
step-to g placed b a in_b in_a on =
    let positive = (leads-parts (is_out g (actor_of g a)) (edge_between g.edges (actor_of g b) (actor_of g a)) on).1 in
    let found = placed.number b a in_b in_a (positive-there g placed (actor_of g b) (actor_of g a) positive) in
    (found.0, along-step g found.0 b a (record { inside = found.1; owner = found.2; target = found.3; on = on }))

-- it is a graph of places
pub graph-whole : (g : Graph) → ArePlaced g → IsGraph (place_graph g)
graph-whole g placed = λ b a step. (let found = step-from g placed b a step in (found.0, found.1))

-- ---- the code's tests

pub leads-step : (g : Graph) → ArePlaced g → (p k : ℕ) → p < length g.shadows.names → k < length g.shadows.names → (r : Bool) → r ≡ leads g (actor_of g p) (actor_of g k) → (r ≡ true) ↔ IsStep (place_graph g) p k
leads-step g placed p k in_p in_k r is = (
  (λ t. step-to g placed p k in_p in_k (sym is ∙ t)),
  (λ step. is ∙ (step-from g placed p k step).2),
)

-- the positive edges at a place are those that marks may go along
pub are-from : (g : Graph) → ArePlaced g → (b : ℕ) (ends : List (ℕ × ℕ)) → ArePositive (λ e. e.owner) (λ e. e.target) g.edges.edges b ends → AreFrom (place_graph g) b ends
are-from g placed b ends are = record {
  all = λ n a step. (
      let goes = along g n b a step in
      subst (λ k. IsAmong (k, n) ends) goes.target (are.all n goes.inside goes.owner (along-positive g placed n b a goes))
      );
  alone = λ a n c d among step. (
      let goes = along g n c d step in
      let is = are.alone a n among in (sym goes.owner ∙ is.1, sym goes.target ∙ is.2)
      );
  within = λ a n among. (let is = are.alone a n among in subst (λ k. k < length g.shadows.names) is.2 (placed.numbered n is.0).1);
}

pub are-to : (g : Graph) → ArePlaced g → (a : ℕ) (ends : List (ℕ × ℕ)) → ArePositive (λ e. e.target) (λ e. e.owner) g.edges.edges a ends → AreTo (place_graph g) a ends
are-to g placed a ends are = record {
  all = λ n b step. (
      let goes = along g n b a step in
      subst (λ k. IsAmong (k, n) ends) goes.owner (are.all n goes.inside goes.target (along-positive g placed n b a goes))
      );
  alone = λ b n c d among step. (
      let goes = along g n c d step in
      let is = are.alone b n among in (sym goes.owner ∙ is.2, sym goes.target ∙ is.1)
      );
  within = λ b n among. (let is = are.alone b n among in subst (λ k. k < length g.shadows.names) is.2 (placed.numbered n is.0).0);
}
