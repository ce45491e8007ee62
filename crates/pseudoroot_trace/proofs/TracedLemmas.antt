-- The marks of a graph stand as it changes, but for those of the places that are touched.
use Rattle.std.proofs.Common.{◌≡◌, ◌==◌, ◌+◌, ◌<◌, ◌≤◌, ◌&&◌, ◌||◌, not, ℕ, Bool, true, false, cond, List, [], Option, Some, get_or, length, int_lt, length-append, append-nil, pos, refl, sym, ◌∙◌, ap, subst, inl, inr, arith}
use Rattle.std.proofs.Math.ListN.{get_or-append}
use Rattle.std.proofs.lemmas.Bool.{false≢true}
use Rattle.std.specs.Option.{is_some}
use Rattle.crgc_ids.specs.Actor.{Actor, same_actor}
use Rattle.crgc_ids.specs.Nodes.{has_node}
use Rattle.crgc_ids.proofs.ActorLaws.{same_actor-decides}
use Rattle.history_model.specs.declared.records.Bulletin.{Bulletin}
use Rattle.kept_marks.specs.Kept.{Kept, Stands, is_supported, nothing_kept, support_of}
use Rattle.kept_marks.specs.PlaceSet.{has_place}
use Rattle.kept_marks.proofs.StepLemmas.{shrink, the-support}
use Rattle.place_marks.specs.Graph.{IsStep}
use Rattle.shadow_rows.specs.Tabled.{no_actor}
use Rattle.shadow_rows.specs.Touched.{LeavesActor, NamesMore}
use Rattle.shadow_table.specs.Shadows.{as_dropped, is_named, place_in, shadow_at}
use Rattle.shadow_table.specs.declared.table.Shadow.{Shadow}
use Rattle.shadow_graph.specs.Graph.{Graph, lost_in}
use Rattle.shadow_graph.specs.Pairs.{edge_between}
use Rattle.shadow_graph.specs.Places.{ArePlaced, actor_of}
use Rattle.shadow_graph.specs.Seen.{Drops}
use Rattle.shadow_graph.specs.Taken.{FoldsIn, touches}
use Rattle.pseudoroot_trace.proofs.GraphLemmas.{is-or-not, leads-step}
use Rattle.pseudoroot_trace.proofs.TouchLemmas.{touches-none}
use Rattle.pseudoroot_trace.specs.Trace.{is_start, leads, may_act, place_graph}
use Rattle.pseudoroot_trace.specs.Traced.{AreSeen, AreStanding, IsLookedAt, IsTraced, KeepsMarks, TouchesMore, Traced}

-- ---- what makes a mark of an actor stands as it was

-- the actor is a start as before, and marks come to it as before
pub record StaysAt (g h : Graph) (a : Actor) : Type 0 where
  pub start : is_start h a ≡ is_start g a
  pub steps : (b : Actor) → leads h b a ≡ leads g b a

-- where nothing is newly lost, and all that is told of the actor stays
pub left-stays : (g h : Graph) (a : Actor) → lost_in h ≡ lost_in g → LeavesActor g.shadows h.shadows g.edges h.edges a → StaysAt g h a
left-stays g h a lost left = record {
  start = λ i. starts (left.shadow i) (lost i);
  steps = λ b i. not ((left.shadow i).dropped || has_node (lost i) a.node) && int_lt (pos 0) (left.count b i);
}
  where
    starts : Shadow → List ℕ → Bool
    starts s nodes = not (s.dropped || has_node nodes a.node) && (may_act s.flags || not (s.received == s.told + s.admitted))

-- where another actor is dropped
pub dropped-lost : (g h : Graph) (actor : Actor) → Drops actor g h → lost_in h ≡ lost_in g
dropped-lost g h actor drops = λ i. lost_in (record g { finals = drops.finals i })

pub other-stays : (g h : Graph) (actor a : Actor) → Drops actor g h → same_actor a actor ≡ false → StaysAt g h a
other-stays g h actor a drops apart =
    left-stays g h a (dropped-lost g h actor drops) (record {
      shadow = drops.shadows.shadows a ∙ ap (λ v. cond v (as_dropped (shadow_at g.shadows a)) (shadow_at g.shadows a)) apart;
      count = λ b i. (edge_between (drops.edges i) b a).count;
    })

-- ---- a mark stands in the graph as it became

pub longer : (old new : List Actor) → NamesMore old new → length old ≤ length new
longer old new more = (let long : length new ≡ length old + length more.0 = ap (λ (xs : List Actor). length xs) more.1 ∙ length-append old more.0 in omega (arith, long))

module _ (g h : Graph) (placed : ArePlaced g) (placed' : ArePlaced h) (more : NamesMore g.shadows.names h.shadows.names) where
  -- a place keeps its actor
  pub kept-place : (p : ℕ) → p < length g.shadows.names → actor_of h p ≡ actor_of g p
  kept-place p inside = ap (λ xs. get_or xs p no_actor) more.1 ∙ get_or-append g.shadows.names more.0 no_actor p inside

  leads-same : (b a : ℕ) → b < length g.shadows.names → a < length g.shadows.names → StaysAt g h (actor_of g a) → leads h (actor_of h b) (actor_of h a) ≡ leads g (actor_of g b) (actor_of g a)
  leads-same b a in_b in_a stays = (λ i. leads h (kept-place b in_b i) (kept-place a in_a i)) ∙ stays.steps (actor_of g b)

  step-on : (b a : ℕ) → b < length g.shadows.names → a < length g.shadows.names → StaysAt g h (actor_of g a) → IsStep (place_graph g) b a → IsStep (place_graph h) b a
  step-on b a in_b in_a stays step =
      let up = longer g.shadows.names h.shadows.names more in
      let on = (leads-step g placed b a in_b in_a (leads g (actor_of g b) (actor_of g a)) refl).1 step in
      (leads-step h placed' b a (omega arith) (omega arith) (leads h (actor_of h b) (actor_of h a)) refl).0 (leads-same b a in_b in_a stays ∙ on)

  step-back : (b a : ℕ) → b < length g.shadows.names → a < length g.shadows.names → StaysAt g h (actor_of g a) → IsStep (place_graph h) b a → IsStep (place_graph g) b a
  step-back b a in_b in_a stays step =
      let up = longer g.shadows.names h.shadows.names more in
      let on = (leads-step h placed' b a (omega arith) (omega arith) (leads h (actor_of h b) (actor_of h a)) refl).1 step in
      (leads-step g placed b a in_b in_a (leads g (actor_of g b) (actor_of g a)) refl).0 (sym (leads-same b a in_b in_a stays) ∙ on)

  start-same : (a : ℕ) → a < length g.shadows.names → StaysAt g h (actor_of g a) → is_start h (actor_of h a) ≡ is_start g (actor_of g a)
  start-same a in_a stays = ap (is_start h) (kept-place a in_a) ∙ stays.start

  stands-on : (s : List (Option ℕ)) (a : ℕ) → ((b c : ℕ) → support_of s b ≡ Some c → (b < length g.shadows.names) × (c < length g.shadows.names)) → a < length g.shadows.names
      → StaysAt g h (actor_of g a) → Stands (place_graph g) s a → Stands (place_graph h) s a
  stands-on s a within in_a stays stands = record {
    support = λ b on. elim (stands.support b on) [
      | inl own ↦ inl (own.0, start-same a in_a stays ∙ own.1)
      | inr other ↦ inr (other.0, other.1, step-on b a (within a b on).1 in_a stays other.2)
    ];
    none = λ free.
        let before = stands.none free in
        record {
          start = start-same a in_a stays ∙ before.start;
          owners = λ b inside step. elim (is-or-not (is_supported s b)) [
            | inl marked ↦ (
                let found = the-support (support_of s b) marked in
                let in_b = (within b found.0 found.1).0 in
                before.owners b in_b (step-back b a in_b in_a stays step)
                )
            | inr unmarked ↦ unmarked
          ];
        };
  }

  -- all marks stand but for those of touched places
  pub standing-on : (places : ℕ) (k k' : Kept) → AreSeen (length g.shadows.names) places k → AreStanding g places k → TouchesMore places k k'
      → ((a : ℕ) → a < places → has_place k'.touched a ≡ false → StaysAt g h (actor_of g a)) → AreStanding h places k'
  standing-on places k k' seen standing touched stays = record {
    ranked = (standing.ranked.0, λ a b on apart. standing.ranked.1 a b ((λ i. support_of (sym touched.supports i) a) ∙ on) apart);
    stands = λ a inside free. (
        let named = seen.named in
        let within : (b c : ℕ) → support_of k.supports b ≡ Some c → (b < length g.shadows.names) × (c < length g.shadows.names) = λ b c on. (
        let there = seen.supports b c on in
        let first = there.0 in
        let second = there.1 in
        (omega arith, omega arith)
        ) in
        subst (λ s. Stands (place_graph h) s a) (sym touched.supports)
        (stands-on k.supports a within (omega arith) (stays a inside free)
        (standing.stands a inside (shrink (has_place k.touched a) (has_place k'.touched a) (touched.touched a) free)))
        );
  }

-- what is touched was seen, whatever is named beside
pub seen-on : (names names' places : ℕ) (k k' : Kept) → names ≤ names' → AreSeen names places k → TouchesMore places k k' → AreSeen names' places k'
seen-on names names' places k k' up seen touched = record {
  named = (let named = seen.named in omega arith);
  room = subst (λ (s : List (Option ℕ)). places ≤ length s) (sym touched.supports) seen.room;
  supports = λ a b on. seen.supports a b ((λ i. support_of (sym touched.supports i) a) ∙ on);
  touched = λ a t. elim (touched.within a t) [ inl before ↦ seen.touched a before | inr inside ↦ inside ];
  queued = λ a. (λ i. has_place (touched.queued i) a) ∙ seen.queued a;
}

-- ---- a bulletin is folded

module _ (o : ℕ) (b : Bulletin) (old : Traced) (h : Graph) (k' : Kept) (placed : ArePlaced old.graph) (placed' : ArePlaced h)
    (folds : FoldsIn o b old.graph h) (traced : IsTraced old) where
  fold-longer : length old.graph.shadows.names ≤ length h.shadows.names
  fold-longer = longer old.graph.shadows.names h.shadows.names folds.more

  -- a place that is not touched is of an actor that the bulletin leaves as it was
  untouched-stays : lost_in h ≡ lost_in old.graph → ((a : Actor) → touches (lost_in h) b a ≡ true → IsLookedAt h old.places k' a)
      → (a : ℕ) → a < old.places → has_place k'.touched a ≡ false → StaysAt old.graph h (actor_of old.graph a)
  untouched-stays lost looked a inside free =
      let named = traced.seen.named in
      let up = fold-longer in
      let in_a : a < length old.graph.shadows.names = omega arith in
      let in_h : a < length h.shadows.names = omega arith in
      let actor = actor_of old.graph a in
      let same : actor_of h a ≡ actor = kept-place old.graph h placed placed' folds.more a in_a in
      let at = placed'.actor a in_h in
      let place : place_in h.shadows.names actor ≡ a = ap (place_in h.shadows.names) (sym same) ∙ at.1 in
      let is_there : is_named h.shadows.names actor ≡ true = ap (is_named h.shadows.names) (sym same) ∙ at.0 in
      elim (is-or-not (touches (lost_in old.graph) b actor)) [
        | inl hit ↦ (
            let look = looked actor (ap (λ ns. touches ns b actor) lost ∙ hit) is_there (subst (λ p. p < old.places) (sym place) inside) in
            absurd (false≢true (sym free ∙ ap (has_place k'.touched) (sym place) ∙ look))
            )
        | inr apart ↦ left-stays old.graph h actor lost (folds.leaves actor apart lost)
      ]

  pub traced-folded : lost_in h ≡ lost_in old.graph → TouchesMore old.places old.kept k'
      → ((a : Actor) → touches (lost_in h) b a ≡ true → IsLookedAt h old.places k' a)
      → IsTraced (record { graph = h; kept = k'; places = old.places; is_stale = old.is_stale })
  traced-folded lost touched looked = record {
    seen = seen-on (length old.graph.shadows.names) (length h.shadows.names) old.places old.kept k' fold-longer traced.seen touched;
    standing = λ fresh. standing-on old.graph h placed placed' folds.more old.places old.kept k' traced.seen (traced.standing fresh) touched (untouched-stays lost looked);
  }

-- where a node is newly lost, the next sweep marks anew
pub traced-stale : (old : Traced) (h : Graph) → NamesMore old.graph.shadows.names h.shadows.names → IsTraced old
    → IsTraced (record { graph = h; kept = old.kept; places = old.places; is_stale = true })
traced-stale old h more traced = record {
  seen = seen-on (length old.graph.shadows.names) (length h.shadows.names) old.places old.kept old.kept (longer old.graph.shadows.names h.shadows.names more) traced.seen (touches-none old.places old.kept);
  standing = λ fresh. absurd (false≢true (sym fresh));
}

pub traced-new : (g : Graph) (k : Kept) → k ≡ nothing_kept → IsTraced (record { graph = g; kept = k; places = 0; is_stale = false })
traced-new g k none = record {
  seen = record {
    named = omega arith;
    room = omega arith;
    supports = λ a b on. absurd (is_none a b ((λ i. support_of (sym none i).supports a) ∙ on));
    touched = λ a t. absurd (false≢true ((λ i. has_place (sym none i).touched a) ∙ t));
    queued = λ a i. has_place (none i).queued a;
  };
  standing = λ fresh. record {
    ranked = ((λ a. 0), λ a b on apart. absurd (is_none a b ((λ i. support_of (sym none i).supports a) ∙ on)));
    stands = λ a inside free. absurd (omega arith);
  };
}
  where
    is_none : (a b : ℕ) → support_of [] a ≡ Some b → ⊥
    is_none a b e = false≢true (ap is_some e)

-- ---- an actor is dropped

pub traced-dropped : (actor : Actor) (old : Traced) (h : Graph) (k' : Kept) → ArePlaced old.graph → ArePlaced h → Drops actor old.graph h → IsTraced old
    → TouchesMore old.places old.kept k' → IsLookedAt old.graph old.places k' actor
    → IsTraced (record { graph = h; kept = k'; places = old.places; is_stale = old.is_stale })
traced-dropped actor old h k' placed placed' drops traced touched looked =
    let names = drops.shadows.names in
    let more : NamesMore old.graph.shadows.names h.shadows.names = ([], names ∙ sym (append-nil old.graph.shadows.names)) in
    record {
      seen = seen-on (length old.graph.shadows.names) (length h.shadows.names) old.places old.kept k' (longer old.graph.shadows.names h.shadows.names more) traced.seen touched;
      standing = λ fresh. standing-on old.graph h placed placed' more old.places old.kept k' traced.seen (traced.standing fresh) touched stays;
    }
  where
    stays : (a : ℕ) → a < old.places → has_place k'.touched a ≡ false → StaysAt old.graph h (actor_of old.graph a)
    stays a inside free =
        let named = traced.seen.named in
        let at = placed.actor a (omega arith) in
        elim (is-or-not (same_actor (actor_of old.graph a) actor)) [
          | inl same ↦ (
              let is : actor_of old.graph a ≡ actor = (same_actor-decides (actor_of old.graph a) actor).0 same in
              let place : place_in old.graph.shadows.names actor ≡ a = ap (place_in old.graph.shadows.names) (sym is) ∙ at.1 in
              let is_there : is_named old.graph.shadows.names actor ≡ true = ap (is_named old.graph.shadows.names) (sym is) ∙ at.0 in
              let look = looked is_there (subst (λ p. p < old.places) (sym place) inside) in
              absurd (false≢true (sym free ∙ ap (has_place k'.touched) (sym place) ∙ look))
              )
          | inr apart ↦ other-stays old.graph h actor (actor_of old.graph a) drops apart
        ]

-- marks stay where more is touched
pub keeps-marks : (old : Traced) (h : Graph) (k' : Kept) (stale : Bool) → IsTraced old → ArePlaced old.graph → ArePlaced h → TouchesMore old.places old.kept k'
    → (stale ≡ false → (old.is_stale ≡ false) × (lost_in h ≡ lost_in old.graph))
    → KeepsMarks old (record { graph = h; kept = k'; places = old.places; is_stale = stale })
keeps-marks old h k' stale traced placed placed' touched fresh = record {
  supports = λ a i. support_of (touched.supports i) a;
  touched = touched.touched;
  places = refl;
  seen = traced.seen.named;
  placed = (placed, placed');
  fresh = fresh;
}
