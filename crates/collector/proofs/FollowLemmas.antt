-- A collector goes with the history of its node, event by event.
use Rattle.std.proofs.Common.{◌≡◌, ◌==◌, ◌&&◌, ◌≤◌, ◌||◌, ◌<◌, ℕ, zero, suc, Bool, true, false, List, [], ◌∷◌, ◌++◌, length, take, refl, sym, ap, subst, ◌∙◌, arith, slice_get, Some}
use Rattle.std.proofs.lemmas.Bool.{false≢true}
use Rattle.std.proofs.lemmas.Bool.Decides.{nat_tests}
use Rattle.std.specs.Option.{unwrap_or}
use Rattle.crgc_ids.specs.Actor.{Actor}
use Rattle.history_model.specs.declared.events.Event.{Event}
use Rattle.history_model.specs.declared.events.Event.TheVariants.{Hand, Sweep}
use Rattle.history_model.specs.Cluster.{Cluster}
use Rattle.history_model.specs.Compaction.{IsWithin}
use Rattle.history_model.specs.Folds.{Fold, was_handed}
use Rattle.history_model.specs.Graph.{holds_actor}
use Rattle.history_model.specs.Streams.{stream}
use Rattle.history_model.specs.Sweeps.{dead_at, is_stopped}
use Rattle.history_model.proofs.Basics.{eqb-refl}
use Rattle.history_model.proofs.LinksStreams.{stream-grows}
use Rattle.gossip_core.specs.Gossip.{same_key}
use Rattle.shadow_graph.specs.Stands.{IsGraphOf}
use Rattle.collector.specs.Collected.{Collected, IsCollectorAt, IsFedBy, cut_of, folded_of, has_number, was_stopped}
use Rattle.collector.specs.Following.{is_own}
use Rattle.collector.specs.Taking.{IsOfStreams, IsTaken, Takes}
use Rattle.collector.proofs.NumberLemmas.{one-key, or-left, or-true}

-- ---- longer streams

take-begins : {X : Type 0} (k : ℕ) (xs ys : List X) → k ≤ length xs → take k (xs ++ ys) ≡ take k xs
take-begins zero xs ys less = refl
take-begins (suc k) [] ys less = absurd (omega arith)
take-begins (suc k) (x ∷ xs) ys less = ap (λ l. x ∷ l) (take-begins k xs ys (omega arith))

get-begins : {X : Type 0} (k : ℕ) (xs ys : List X) (x : X) → slice_get xs k ≡ Some x → slice_get (xs ++ ys) k ≡ Some x
get-begins k [] ys x e = absurd (cc)
get-begins zero (z ∷ xs) ys x e = e
get-begins (suc k) (z ∷ xs) ys x e = get-begins k xs ys x e

length-begins : {X : Type 0} (xs ys : List X) → length xs ≤ length (xs ++ ys)
length-begins [] ys = omega arith
length-begins (x ∷ xs) ys = (let rest = length-begins xs ys in omega arith)

-- what is fed by streams is fed by longer ones
pub fed-grows : (cl : Cluster) (s t : Fold) (c : Collected) → IsWithin s t → IsFedBy cl s c → IsFedBy cl t c
fed-grows cl s t c within fed = record {
  nodes = fed.nodes;
  graph = (
      let each : (o : ℕ) → folded_of c s o ≡ folded_of c t o = λ o.
      sym (ap (take (cut_of c o)) (within o).1 ∙ take-begins (cut_of c o) (s o) (within o).0 (fed.long o)) in
      subst (λ f. IsGraphOf cl f c.graph) (λ i o. each o i) fed.graph
      );
  long = λ o. (
      let before = fed.long o in
      let more = length-begins (s o) (within o).0 in
      let is = ap length (within o).1 in
      omega arith
      );
  beyond = fed.beyond;
  waiting = λ o k b some. (
      let told = fed.waiting o k b some in
      (told.0, ap (λ xs. slice_get xs k) (within o).1 ∙ get-begins k (s o) (within o).0 told.0 told.1, told.2)
      );
}

-- ---- events of others

not-handed : (m o k : ℕ) (e : Event) (p : List Event) → is_own m e ≡ false → was_handed m o k (e ∷ p) ≡ was_handed m o k p
not-handed m o k (Hand y x n) p other = ap (λ t. (t && ((x == o) && (n == k))) || was_handed m o k p) other
not-handed m o k e p other = refl

not-stopped : (cl : Cluster) (m : ℕ) (a : Actor) (e : Event) (p : List Event) → is_own m e ≡ false → a.node ≡ m
    → is_stopped cl a (e ∷ p) ≡ is_stopped cl a p
not-stopped cl m a (Sweep n) p other here =
    let apart : (a.node == n) ≡ false = grind (arith, nat_tests) in
    ap (λ t. (t && holds_actor (dead_at cl n p) a) || is_stopped cl a p) apart
not-stopped cl m a e p other here = refl

-- an event that is not its own leaves it where it is
pub follows-others : (cl : Cluster) (h : List Event) (m : ℕ) (c : Collected) (e : Event) → is_own m e ≡ false
    → IsCollectorAt cl h m c → IsCollectorAt cl (e ∷ h) m c
follows-others cl h m c e other at = record {
  node = at.node;
  fed = fed-grows cl (λ o. stream cl o h) (λ o. stream cl o (e ∷ h)) c (λ o. stream-grows cl o (e ∷ []) h) at.fed;
  handed = λ o k inside. at.handed o k inside ∙ sym (not-handed m o k e h other);
  settled = at.settled;
  stops = record {
    exact = λ a here. at.stops.exact a here ∙ sym (not-stopped cl m a e h other here);
    own = at.stops.own;
    were = at.stops.were;
  };
}

-- ---- a hand

-- what is there then: what was, and the number that was handed
there-then : (old new t : Bool) → (old ≡ true → new ≡ true) → (new ≡ true → (old || t) ≡ true) → (t ≡ true → new ≡ true) → new ≡ (t || old)
there-then true new t had has here = had refl ∙ sym (or-true t)
there-then false true true had has here = refl
there-then false true false had has here = absurd (false≢true (has refl))
there-then false false true had has here = absurd (false≢true (here refl))
there-then false false false had has here = refl

-- the numbers that were handed are those that it has, where it has the one that was handed last
handed-then : (cl : Cluster) (h : List Event) (m o k : ℕ) (old new : Collected) → ((x y : ℕ) → has_number old x y ≡ true → has_number new x y ≡ true)
    → ((x y : ℕ) → has_number new x y ≡ true → (has_number old x y || same_key (o, k) (x, y)) ≡ true) → has_number new o k ≡ true
    → IsCollectorAt cl h m old → (x y : ℕ) → x < cl.nodes → has_number new x y ≡ was_handed m x y (Hand m o k ∷ h)
handed-then cl h m o k old new had has there at x y inside =
    there-then (has_number old x y) (has_number new x y) (same_key (o, k) (x, y)) (had x y) (has x y)
    (λ same. (let one = one-key o k x y same in (λ i. has_number new (one.0 i) (one.1 i)) ∙ there))
    ∙ (λ i. same_key (o, k) (x, y) || at.handed x y inside i)
    ∙ sym (ap (λ t. (t && ((o == x) && (k == y))) || was_handed m x y h) (eqb-refl m))

pub follows-hand : (cl : Cluster) (h : List Event) (m o k : ℕ) (bytes : List ℕ) (old new : Collected)
    → IsOfStreams (λ x. stream cl x h) o k bytes → Takes o k bytes old new → IsTaken o k new
    → IsCollectorAt cl h m old → IsCollectorAt cl (Hand m o k ∷ h) m new
follows-hand cl h m o k bytes old new given takes taken at =
    let stopped : (a : Actor) → was_stopped new a ≡ was_stopped old a = λ a. (λ i. (a.node == takes.goes_on.node i) && unwrap_or (slice_get (takes.goes_on.stopped i) a.serial) false) in
    record {
      node = takes.goes_on.node ∙ at.node;
      fed = takes.fed cl (λ x. stream cl x h) (λ _. given) at.fed;
      handed = handed-then cl h m o k old new takes.had takes.has taken.there at;
      settled = taken.settled;
      stops = record {
        exact = λ a here. stopped a ∙ at.stops.exact a here;
        own = λ a gone. at.stops.own a (sym (takes.goes_on.dropped a) ∙ gone);
        were = λ a gone. stopped a ∙ at.stops.were a (sym (takes.goes_on.dropped a) ∙ gone);
      };
    }

-- one that has the bulletin stays where it is
pub follows-again : (cl : Cluster) (h : List Event) (m o k : ℕ) (c : Collected) → has_number c o k ≡ true
    → IsCollectorAt cl h m c → IsCollectorAt cl (Hand m o k ∷ h) m c
follows-again cl h m o k c there at = record {
  node = at.node;
  fed = at.fed;
  handed = handed-then cl h m o k c c (λ x y has. has) (λ x y has. or-left (has_number c x y) (same_key (o, k) (x, y)) has) there at;
  settled = at.settled;
  stops = record { exact = at.stops.exact; own = at.stops.own; were = at.stops.were };
}
