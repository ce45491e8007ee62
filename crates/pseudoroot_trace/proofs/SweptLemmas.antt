-- What a sweep makes of the marks of a graph.
use Rattle.std.proofs.Common.{◌≡◌, ◌↔◌, ◌<◌, ◌≤◌, ℕ, Bool, true, false, List, Option, length, refl, sym, ◌∙◌, ap, subst, inl, inr, arith}
use Rattle.std.proofs.lemmas.Bool.{and_parts, cases_lt, false≢true}
use Rattle.std.specs.Option.{is_some}
use Rattle.crgc_ids.specs.Actor.{Actor}
use Rattle.kept_marks.specs.Kept.{IsKept, IsSame, IsSwept, IsWatched, Kept, Stands, is_supported, support_of}
use Rattle.kept_marks.specs.PlaceSet.{has_place}
use Rattle.kept_marks.proofs.ChangeLemmas.{stands-same}
use Rattle.kept_marks.proofs.StepLemmas.{shrink}
use Rattle.place_marks.specs.Graph.{IsGraph}
use Rattle.shadow_table.specs.Shadows.{is_named, place_in}
use Rattle.shadow_graph.specs.Graph.{Graph}
use Rattle.shadow_graph.specs.Places.{ArePlaced}
use Rattle.pseudoroot_trace.proofs.SweepLemmas.{and-true, traced-sweep}
use Rattle.pseudoroot_trace.specs.Marked.{IsReachedIn}
use Rattle.pseudoroot_trace.specs.Trace.{place_graph}
use Rattle.pseudoroot_trace.specs.Traced.{AreSeen, AreStanding, IsSweptAlong, IsSweptGraph, IsTraced, KeepsMarks, MayFall, TouchesMore, Traced, is_marked_in}

-- ---- before the sweep

-- where the new places are touched too, what is kept is right over the whole graph
pub kept-seen : (g : Graph) (places : ℕ) (k k' : Kept) → IsGraph (place_graph g) → length g.shadows.names ≤ length k.supports
    → AreSeen (length g.shadows.names) places k → AreStanding g places k → TouchesMore (length g.shadows.names) k k'
    → ((a : ℕ) → places ≤ a → a < length g.shadows.names → has_place k'.touched a ≡ true) → IsKept (place_graph g) k'
kept-seen g places k k' whole room seen standing touched added = record {
  whole = whole;
  room = subst (λ (s : List (Option ℕ)). length g.shadows.names ≤ length s) (sym touched.supports) room;
  ranked = (standing.ranked.0, λ a b on apart. standing.ranked.1 a b ((λ i. support_of (sym touched.supports i) a) ∙ on) apart);
  supports = λ a b on. (
      let there = seen.supports a b ((λ i. support_of (sym touched.supports i) a) ∙ on) in
      let first = there.0 in
      let second = there.1 in
      let named = seen.named in
      (omega arith, omega arith)
      );
  touched = λ a t. elim (touched.within a t) [
    | inl before ↦ (let less = seen.touched a before in let named = seen.named in omega arith)
    | inr inside ↦ inside
  ];
  queued = λ a t. absurd (false≢true (sym (seen.queued a) ∙ (λ i. has_place (sym touched.queued i) a) ∙ t));
  stands = λ a inside free _. elim (cases_lt a places) [
    | inl less ↦ subst (λ s. Stands (place_graph g) s a) (sym touched.supports)
        (standing.stands a less (shrink (has_place k.touched a) (has_place k'.touched a) (touched.touched a) free))
    | inr more ↦ absurd (false≢true (sym free ∙ added a more inside))
  ];
}

-- and whatever may fall is watched
pub watched-seen : (names places : ℕ) (k k' : Kept) (stale : Bool) → stale ≡ false → TouchesMore names k k'
    → ((a : ℕ) → places ≤ a → a < names → has_place k'.touched a ≡ true) → (p : ℕ) → p < names → MayFall places stale k p → IsWatched k' p
watched-seen names places k k' stale fresh touched added p inside may = elim may [
  | inl anew ↦ absurd (false≢true (sym fresh ∙ anew))
  | inr rest ↦ elim rest [
    | inl new_place ↦ inr (inl (added p new_place inside))
    | inr watched ↦ elim watched [
      | inl marked ↦ inl ((λ i. is_supported (touched.supports i) p) ∙ marked)
      | inr more ↦ elim more [
        | inl hit ↦ inr (inl (touched.touched p hit))
        | inr last ↦ elim last [
          | inl queued ↦ inr (inr (inl ((λ i. has_place (touched.queued i) p) ∙ queued)))
          | inr fallen ↦ inr (inr (inr ((λ i. has_place (touched.fallen i) p) ∙ fallen)))
        ]
      ]
    ]
  ]
]

-- ---- room is made

pub seen-same : (names places : ℕ) (k k' : Kept) → length k.supports ≤ length k'.supports → IsSame k k' → AreSeen names places k → AreSeen names places k'
seen-same names places k k' grown same seen = record {
  named = seen.named;
  room = (let room = seen.room in omega arith);
  supports = λ a b on. seen.supports a b (sym (same.supports a) ∙ on);
  touched = λ a t. seen.touched a (sym (same.touched a) ∙ t);
  queued = λ a. same.queued a ∙ seen.queued a;
}

pub standing-same : (g : Graph) (places : ℕ) (k k' : Kept) → IsSame k k' → AreStanding g places k → AreStanding g places k'
standing-same g places k k' same standing = record {
  ranked = (standing.ranked.0, λ a b on apart. standing.ranked.1 a b (sym (same.supports a) ∙ on) apart);
  stands = λ a inside free. stands-same (place_graph g) k.supports k'.supports a same.supports (standing.stands a inside (sym (same.touched a) ∙ free));
}

pub traced-same : (t : Traced) (k' : Kept) → length t.kept.supports ≤ length k'.supports → IsSame t.kept k' → IsTraced t → IsTraced (record t { kept = k' })
traced-same t k' grown same traced = record {
  seen = seen-same (length t.graph.shadows.names) t.places t.kept k' grown same traced.seen;
  standing = λ fresh. standing-same t.graph t.places t.kept k' same (traced.standing fresh);
}

pub marks-same : (t : Traced) (k' : Kept) → IsTraced t → ArePlaced t.graph → IsSame t.kept k' → KeepsMarks t (record t { kept = k' })
marks-same t k' traced placed same = record {
  supports = same.supports;
  touched = λ a hit. same.touched a ∙ hit;
  places = refl;
  seen = traced.seen.named;
  placed = (placed, placed);
  fresh = λ fresh. (fresh, refl);
}

may-same : (places : ℕ) (stale : Bool) (k k' : Kept) → IsSame k k' → (p : ℕ) → MayFall places stale k p → MayFall places stale k' p
may-same places stale k k' same p may = elim may [
  | inl anew ↦ inl anew
  | inr rest ↦ elim rest [
    | inl new_place ↦ inr (inl new_place)
    | inr watched ↦ inr (inr (elim watched [
      | inl marked ↦ inl (ap is_some (same.supports p) ∙ marked)
      | inr more ↦ elim more [
        | inl hit ↦ inr (inl (same.touched p ∙ hit))
        | inr last ↦ elim last [
          | inl queued ↦ inr (inr (inl (same.queued p ∙ queued)))
          | inr fallen ↦ inr (inr (inr (same.fallen p ∙ fallen)))
        ]
      ]
    ]))
  ]
]

-- ---- after the sweep

pub swept-along : (g : Graph) (places : ℕ) (stale : Bool) (old mid new : Kept)
    → ((p : ℕ) → p < length g.shadows.names → MayFall places stale old p → IsWatched mid p)
    → IsKept (place_graph g) new → IsSwept (place_graph g) mid new → IsSweptAlong g places stale old new
swept-along g places stale old mid new watched kept swept = record {
  kept = kept;
  marked = swept.marked;
  touched = swept.touched;
  queued = swept.queued;
  fallen = λ p inside may. swept.watched p (watched p inside may);
}

pub standing-swept : (g : Graph) (places : ℕ) (stale : Bool) (old new : Kept) → IsSweptAlong g places stale old new → AreStanding g (length g.shadows.names) new
standing-swept g places stale old new swept = record {
  ranked = swept.kept.ranked;
  stands = λ a inside free. swept.kept.stands a inside free (swept.queued a);
}

pub traced-swept : (g : Graph) (places : ℕ) (stale : Bool) (old new : Kept) → IsSweptAlong g places stale old new
    → IsTraced (record { graph = g; kept = new; places = length g.shadows.names; is_stale = true })
traced-swept g places stale old new swept = record {
  seen = record {
    named = omega arith;
    room = swept.kept.room;
    supports = swept.kept.supports;
    touched = swept.kept.touched;
    queued = swept.queued;
  };
  standing = λ fresh. absurd (false≢true (sym fresh));
}

pub swept-graph : (t : Traced) (k' new : Kept) → ArePlaced t.graph → IsSame t.kept k' → IsSweptAlong t.graph t.places t.is_stale k' new
    → IsSweptGraph t (record { graph = t.graph; kept = new; places = length t.graph.shadows.names; is_stale = true })
swept-graph t k' new placed same swept = record {
  graph = refl;
  placed = placed;
  places = refl;
  sweep = traced-sweep t.graph (is_marked_in after) placed marked;
  clean = swept.touched;
  standing = standing-swept t.graph t.places t.is_stale k' new swept;
  fallen = λ p inside may. swept.fallen p inside (may-same t.places t.is_stale t.kept k' same p may);
}
  where
    after : Traced
    after = record { graph = t.graph; kept = new; places = length t.graph.shadows.names; is_stale = true }

    marked : (a : Actor) → (is_marked_in after a ≡ true) ↔ IsReachedIn t.graph a
    marked a = (
      (λ is. (
          let parts = and_parts (is_named t.graph.shadows.names a) (is_supported new.supports (place_in t.graph.shadows.names a)) is in
          (parts.0, (swept.marked (place_in t.graph.shadows.names a)).0 parts.1)
          )),
      (λ reached. and-true (is_named t.graph.shadows.names a) (is_supported new.supports (place_in t.graph.shadows.names a)) reached.0
          ((swept.marked (place_in t.graph.shadows.names a)).1 reached.1)),
    )
