-- Graphs in which readers see the same.
use Rattle.std.proofs.Common.{◌≡◌, ◌<◌, ℕ, Bool, true, false, cond, length, not, refl, sym, ◌∙◌, ap, subst, arith, ◌&&◌}
use Rattle.std.specs.List.{position_or_len}
use Rattle.crgc_ids.specs.Actor.{Actor}
use Rattle.edge_table.specs.Table.{no_edge, same_pair}
use Rattle.edge_table.specs.declared.table.Edge.{Edge}
use Rattle.shadow_table.proofs.KeyedLemmas.{place-within}
use Rattle.shadow_table.specs.Shadows.{blank, is_named, place_in}
use Rattle.shadow_table.specs.declared.table.Shadow.{Shadow}
use Rattle.shadow_rows.proofs.PairLemmas.{same_pair-decides}
use Rattle.shadow_table.proofs.KeyedLemmas.{key-at}
use Rattle.shadow_graph.proofs.PlacedLemmas.{key-there}
use Rattle.shadow_graph.specs.Graph.{Graph, lost_in}
use Rattle.shadow_rows.specs.Pairs.{edge_between, has_pair}
use Rattle.shadow_graph.specs.Places.{ArePlaced, actor_of}
use Rattle.shadow_graph.specs.Same.{AgreeAlong, AgreeOn, AreSame, IsReadIn}
use Rattle.shadow_graph.specs.Seen.{is_dropped, is_known, seen_edge, seen_shadow}
use Rattle.shadow_rows.specs.Tabled.{no_actor, pair_at}

-- ---- what was named in one graph, by places and by numbers

module _ (g h : Graph) (placed : ArePlaced g) (long : length g.edges.edges ≡ length g.edges.pairs) where
  -- every place and every edge's number
  pub read-by-number : ((p : ℕ) → p < length g.shadows.names → AgreeOn g h (actor_of g p)) → ((n : ℕ) → n < length g.edges.edges → AgreeAlong g h (pair_at g.edges.pairs n).0 (pair_at g.edges.pairs n).1) → IsReadIn g h
  read-by-number actors edges = record {
    actors = λ a named. (
        let at = placed.place a named in
        subst (AgreeOn g h) at.1 (actors (place_in g.shadows.names a) at.0)
        );
    edges = λ b a there. (
        let within = place-within (same_pair (b, a)) g.edges.pairs there in
        let inside : position_or_len (same_pair (b, a)) g.edges.pairs < length g.edges.edges = omega (arith, within, long) in
        subst (λ p. AgreeAlong g h p.0 p.1) (key-at same_pair same_pair-decides g.edges.pairs (no_actor, no_actor) (b, a) there) (edges (position_or_len (same_pair (b, a)) g.edges.pairs) inside)
        );
  }

  pub edges-read : IsReadIn g h → (n : ℕ) → n < length g.edges.edges → AgreeAlong g h (pair_at g.edges.pairs n).0 (pair_at g.edges.pairs n).1
  edges-read read n inside =
      let within : n < length g.edges.pairs = omega (arith, inside, long) in
      read.edges (pair_at g.edges.pairs n).0 (pair_at g.edges.pairs n).1 (key-there same_pair same_pair-decides g.edges.pairs (no_actor, no_actor) n within)

-- ---- what no row named

unnamed-known : (g : Graph) (a : Actor) → is_named g.shadows.names a ≡ false → is_known g a ≡ false
unnamed-known g a none = ap (λ b. b && not (is_dropped g a)) none

unnamed-seen : (g : Graph) → ArePlaced g → (a : Actor) → is_named g.shadows.names a ≡ false → seen_shadow g a ≡ blank
unnamed-seen g placed a none = ap (λ (s : Shadow). cond s.dropped blank s) (placed.unnamed a none)

apart-seen : (g : Graph) → ArePlaced g → (b a : Actor) → has_pair g.edges.pairs b a ≡ false → seen_edge g b a ≡ no_edge
apart-seen g placed b a apart = either (is_dropped g a)
  where
    either : (v : Bool) → cond v no_edge (edge_between g.edges b a) ≡ no_edge
    either true = refl
    either false = placed.none b a apart

flipped-on : (g h : Graph) (a : Actor) → AgreeOn h g a → AgreeOn g h a
flipped-on g h a agree = record { known = sym agree.known; shadow = sym agree.shadow }

flipped-along : (g h : Graph) (b a : Actor) → AgreeAlong h g b a → AgreeAlong g h b a
flipped-along g h b a agree = record { value = sym agree.value }

-- ---- what was named in neither is seen alike

module _ (g h : Graph) (placed : ArePlaced g) (placed' : ArePlaced h) where
  alike-on : IsReadIn g h → IsReadIn h g → (a : Actor) → AgreeOn g h a
  alike-on read read' a = either (is_named g.shadows.names a) (is_named h.shadows.names a) refl refl
    where
      either : (v w : Bool) → is_named g.shadows.names a ≡ v → is_named h.shadows.names a ≡ w → AgreeOn g h a
      either true w here there = read.actors a here
      either false true here there = flipped-on g h a (read'.actors a there)
      either false false here there = record {
        known = unnamed-known g a here ∙ sym (unnamed-known h a there);
        shadow = unnamed-seen g placed a here ∙ sym (unnamed-seen h placed' a there);
      }

  alike-along : IsReadIn g h → IsReadIn h g → (b a : Actor) → AgreeAlong g h b a
  alike-along read read' b a = either (has_pair g.edges.pairs b a) (has_pair h.edges.pairs b a) refl refl
    where
      either : (v w : Bool) → has_pair g.edges.pairs b a ≡ v → has_pair h.edges.pairs b a ≡ w → AgreeAlong g h b a
      either true w here there = read.edges b a here
      either false true here there = flipped-along g h b a (read'.edges b a there)
      either false false here there = record {
        value = ap (λ (e : Edge). e.count) (apart-seen g placed b a here ∙ sym (apart-seen h placed' b a there));
      }

  pub same-read : lost_in g ≡ lost_in h → IsReadIn g h → IsReadIn h g → AreSame g h
  same-read lost read read' = record { actors = alike-on read read'; edges = alike-along read read'; lost = lost }

pub read-same : (g h : Graph) → AreSame g h → IsReadIn g h
read-same g h same = record { actors = λ a named. same.actors a; edges = λ b a there. same.edges b a }

pub read-back : (g h : Graph) → AreSame g h → IsReadIn h g
read-back g h same = record { actors = λ a named. flipped-on h g a (same.actors a); edges = λ b a there. flipped-along h g b a (same.edges b a) }
