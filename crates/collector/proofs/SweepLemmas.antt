-- Whom a sweep stops, its verdict, and whom a collector drops.
use Rattle.std.proofs.Common.{◌≡◌, ◌==◌, ◌&&◌, ◌<◌, ◌≤◌, ◌||◌, ℕ, zero, suc, Bool, true, false, get_or, not, List, [], ◌∷◌, ◌++◌, length, map, slice_index, slice_set, refl, sym, ap, subst, ◌∙◌, arith}
use Rattle.std.proofs.lemmas.Bool.{and_parts, eqb-true, false≢true}
use Rattle.std.proofs.lemmas.Bool.Decides.{nat_tests}
use Rattle.std.specs.List.{AllByRecursion, filter, list_any}
use Rattle.crgc_ids.specs.Actor.{Actor, IsActorBelow, same_actor}
use Rattle.crgc_ids.specs.Members.{IsAmong}
use Rattle.crgc_ids.specs.Nodes.{has_node}
use Rattle.crgc_ids.specs.Rising.{IsRising}
use Rattle.crgc_ids.proofs.ActorLaws.{IsActorBelow-apart, IsActorBelow-trans, same_actor-decides, same_parts}
use Rattle.crgc_ids.proofs.MembersLaws.{IsAmong-filter, IsAmong-from_filter, all-from_members, list_any-member, list_any-true}
use Rattle.crgc_ids.proofs.RisingLaws.{IsRising-filter, rising-same}
use Rattle.history_model.specs.declared.records.Stop.{Stop}
use Rattle.history_model.specs.declared.records.Verdict.{Verdict}
use Rattle.history_model.specs.Cluster.{Cluster}
use Rattle.history_model.specs.Compaction.{IsCompactedVerdict, compacted_dead, is_left_out}
use Rattle.history_model.specs.Folds.{Fold, is_lost}
use Rattle.history_model.specs.Graph.{holds_actor, rising_actors}
use Rattle.history_model.specs.Sweeps.{stop_of}
use Rattle.history_model.proofs.FoldSumsRising.{dead_without-rise}
use Rattle.history_model.proofs.RisingActors.{among-decides, rising-among, rising_actors-rise}
use Rattle.pseudoroot_trace.specs.Marked.{IsSweepBy}
use Rattle.shadow_table.specs.Shadows.{is_named}
use Rattle.gossip_core.specs.Gossip.{count_at, kept_at}
use Rattle.shadow_graph.specs.Graph.{Graph, lost_in}
use Rattle.shadow_graph.specs.Seen.{is_dropped, is_known}
use Rattle.shadow_graph.specs.Stands.{IsGraphOf}
use Rattle.shadow_graph.proofs.GraphLemmas.{lost-same}
use Rattle.collector.specs.Collected.{Collected, cut_of, flag_at, node_count, was_stopped}
use Rattle.collector.specs.Kept.{IsKept}
use Rattle.collector.specs.Refusals.{IsFit}
use Rattle.collector.specs.Sweeping.{AreStopsOf, Finds, IsStopOf, SetsFlags, Sweeps, falls, is_unmarked, stopped_actors}
use Rattle.collector.proofs.NumberLemmas.{or-false, or-left, or-true}

-- ---- flags

-- one flag more is set
pub flag-set : (xs : List Bool) (s k : ℕ) → s < length xs → flag_at (slice_set xs s true) k ≡ (flag_at xs k || (s == k))
flag-set [] s k less = absurd (omega arith)
flag-set (x ∷ xs) zero zero less = sym (or-true x)
flag-set (x ∷ xs) zero (suc k) less = (let apart : (zero == suc k) ≡ false = grind (arith, nat_tests) in sym (ap (λ t. flag_at xs k || t) apart ∙ or-false (flag_at xs k)))
flag-set (x ∷ xs) (suc s) zero less = (let apart : (suc s == zero) ≡ false = grind (arith, nat_tests) in sym (ap (λ t. x || t) apart ∙ or-false x))
flag-set (x ∷ xs) (suc s) (suc k) less =
    (let same : (suc s == suc k) ≡ (s == k) = grind (arith, nat_tests) in flag-set xs s k (omega arith) ∙ ap (λ t. flag_at xs k || t) (sym same))

pub any-push : {X : Type 0} (test : X → Bool) (xs : List X) (x : X) → list_any test (xs ++ x ∷ []) ≡ (list_any test xs || test x)
any-push test [] x = or-false (test x)
any-push test (y ∷ ys) x = ap (λ t. test y || t) (any-push test ys x) ∙ or-assoc (test y) (list_any test ys) (test x)
  where
    or-assoc : (a b c : Bool) → (a || (b || c)) ≡ ((a || b) || c)
    or-assoc true b c = refl
    or-assoc false b c = refl

-- what holds of all holds at each place
pub all-at : (P : Actor → Type 0) (xs : List Actor) (i : ℕ) (d : Actor) → AllByRecursion P xs → i < length xs → P (get_or xs i d)
all-at P [] i d all less = absurd (omega arith)
all-at P (x ∷ xs) zero d all less = all.0
all-at P (x ∷ xs) (suc i) d all less = all-at P xs i d all.1 (omega arith)

-- the flag of one actor more is set
pub flags-more : (actors more : List Actor) (a : Actor) (old mid : List Bool) → more ≡ actors ++ a ∷ [] → a.serial < length mid
    → SetsFlags actors old mid → SetsFlags more old (slice_set mid a.serial true)
flags-more actors more a old mid is less sets k =
    flag-set mid a.serial k less
    ∙ ap (λ t. t || (a.serial == k)) (sets k)
    ∙ or-more (flag_at old k) (list_any (λ b. b.serial == k) actors) (a.serial == k)
    ∙ ap (λ t. flag_at old k || t) (sym (any-push (λ b. b.serial == k) actors a) ∙ ap (list_any (λ b. b.serial == k)) (sym is))
  where
    or-more : (a b c : Bool) → ((a || b) || c) ≡ (a || (b || c))
    or-more true b c = refl
    or-more false b c = refl

map-push : {X Y : Type 0} (f : X → Y) (xs : List X) (x : X) → map f (xs ++ x ∷ []) ≡ map f xs ++ f x ∷ []
map-push f [] x = refl
map-push f (y ∷ ys) x = ap (λ l. f y ∷ l) (map-push f ys x)

-- the stop of one actor more
pub stops-more : (g : Graph) (actors more : List Actor) (a : Actor) (stops new : List Stop) (stop : Stop) → more ≡ actors ++ a ∷ []
    → new ≡ stops ++ stop ∷ [] → IsStopOf g a stop → AreStopsOf g actors stops → AreStopsOf g more new
stops-more g actors more a stops new stop is_more is_new one all cl f stands =
    is_new ∙ (λ i. all cl f stands i ++ one cl f stands i ∷ []) ∙ sym (map-push (stop_of cl (is_lost cl f) f) actors a)
    ∙ ap (map (stop_of cl (is_lost cl f) f)) (sym is_more)

pub actors-more : (actors more : List Actor) (a : Actor) (stops new : List Stop) (stop : Stop) → more ≡ actors ++ a ∷ []
    → new ≡ stops ++ stop ∷ [] → stop.actor ≡ a → stopped_actors stops ≡ actors → stopped_actors new ≡ more
actors-more actors more a stops new stop is_more is_new one all =
    ap stopped_actors is_new ∙ map-push (λ s. s.actor) stops stop ∙ (λ i. all i ++ one i ∷ []) ∙ sym is_more

-- ---- whom a sweep finds

-- what each test of an actor that falls says
pub record Falls (g : Graph) (marked : Actor → Bool) (node : ℕ) (stopped : List Bool) (a : Actor) : Type 0 where
  pub here : a.node ≡ node
  pub fresh : flag_at stopped a.serial ≡ false
  pub known : is_known g a ≡ true
  pub kept : has_node (lost_in g) a.node ≡ false
  pub unmarked : marked a ≡ false

not-true : (b : Bool) → not b ≡ true → b ≡ false
not-true true e = absurd (false≢true e)
not-true false e = refl

pub falls-parts : (g : Graph) (marked : Actor → Bool) (node : ℕ) (stopped : List Bool) (a : Actor) → falls g marked node stopped a ≡ true
    → Falls g marked node stopped a
falls-parts g marked node stopped a e =
    let first = and_parts (a.node == node) (not (flag_at stopped a.serial) && is_unmarked g marked a) e in
    let second = and_parts (not (flag_at stopped a.serial)) (is_unmarked g marked a) first.1 in
    let third = and_parts (is_known g a) (not (has_node (lost_in g) a.node) && not (marked a)) second.1 in
    let last = and_parts (not (has_node (lost_in g) a.node)) (not (marked a)) third.1 in
    record {
      here = eqb-true a.node node first.0;
      fresh = not-true (flag_at stopped a.serial) second.0;
      known = third.0;
      kept = not-true (has_node (lost_in g) a.node) last.0;
      unmarked = not-true (marked a) last.1;
    }

module _ (g : Graph) (marked : Actor → Bool) (node : ℕ) (stopped : List Bool) where
  -- the actors that are found
  abbrev pub found : List Actor
  found = rising_actors (filter (falls g marked node stopped) g.shadows.names)

  pub found-falls : (a : Actor) → IsAmong a found → IsAmong a g.shadows.names × Falls g marked node stopped a
  found-falls a member =
      let there = IsAmong-from_filter (falls g marked node stopped) a g.shadows.names ((rising-among a (filter (falls g marked node stopped) g.shadows.names)).0 member) in
      (there.0, falls-parts g marked node stopped a there.1)

  pub found-there : (a : Actor) → IsAmong a g.shadows.names → falls g marked node stopped a ≡ true → IsAmong a found
  found-there a named is = (rising-among a (filter (falls g marked node stopped) g.shadows.names)).1 (IsAmong-filter (falls g marked node stopped) a g.shadows.names named is)

  -- none of them was dropped
  pub found-left : AllByRecursion (λ a. is_dropped g a ≡ false) found
  found-left = all-from_members (λ a. is_dropped g a ≡ false) found
      (λ a member. not-true (is_dropped g a) (and_parts (is_named g.shadows.names a) (not (is_dropped g a)) (found-falls a member).1.known).1)

pub eqb-is : (m n : ℕ) → m ≡ n → (m == n) ≡ true
eqb-is m n e = grind (arith, nat_tests)

both-true : (b c : Bool) → b ≡ true → c ≡ true → (b && c) ≡ true
both-true true true e f = refl
both-true true false e f = f
both-true false c e f = absurd (false≢true e)

not-false : (b : Bool) → b ≡ false → not b ≡ true
not-false true e = absurd (false≢true (sym e))
not-false false e = refl

pub same-tests : (s t : Bool) → (s ≡ true → t ≡ true) → (t ≡ true → s ≡ true) → s ≡ t
same-tests true t f g = sym (f refl)
same-tests false true f g = g refl
same-tests false false f g = refl

pub falls-from : (g : Graph) (marked : Actor → Bool) (node : ℕ) (stopped : List Bool) (a : Actor) → Falls g marked node stopped a
    → falls g marked node stopped a ≡ true
falls-from g marked node stopped a is =
    both-true (a.node == node) (not (flag_at stopped a.serial) && is_unmarked g marked a) (eqb-is a.node node is.here)
    (both-true (not (flag_at stopped a.serial)) (is_unmarked g marked a) (not-false (flag_at stopped a.serial) is.fresh)
    (both-true (is_known g a) (not (has_node (lost_in g) a.node) && not (marked a)) is.known
    (both-true (not (has_node (lost_in g) a.node)) (not (marked a)) (not-false (has_node (lost_in g) a.node) is.kept)
    (not-false (marked a) is.unmarked))))

compacted-rise : (cl : Cluster) (lost : ℕ → Bool) (gone : Actor → Bool) (f : Fold) → IsRising IsActorBelow (compacted_dead cl lost gone f)
unfolding compacted_dead
compacted-rise cl lost gone f = dead_without-rise cl lost (is_left_out lost gone) f

-- ---- the verdict

module _ (c : Collected) (marked : Actor → Bool) (sweep : IsSweepBy c.graph marked) where
  -- its own that were not stopped
  abbrev pub own : Actor → Bool
  own a = (a.node == c.node) && not (was_stopped c a)

  own-is : (a : Actor) → a.node ≡ c.node → flag_at c.stopped a.serial ≡ false → own a ≡ true
  own-is a here fresh =
      both-true (a.node == c.node) (not (was_stopped c a)) (eqb-is a.node c.node here)
      (not-false (was_stopped c a) ((λ i. eqb-is a.node c.node here i && fresh i)))

  fresh-own : (a : Actor) → own a ≡ true → (a.node ≡ c.node) × (flag_at c.stopped a.serial ≡ false)
  fresh-own a e =
      let parts = and_parts (a.node == c.node) (not (was_stopped c a)) e in
      (eqb-true a.node c.node parts.0, (λ i. sym parts.0 i && flag_at c.stopped a.serial) ∙ not-true (was_stopped c a) parts.1)

  -- whom it finds are the dead that are left, less who was stopped
  pub found-is : (cl : Cluster) (f : Fold) → IsGraphOf cl f c.graph
      → found c.graph marked c.node c.stopped ≡ filter own (compacted_dead cl (is_lost cl f) (is_dropped c.graph) f)
  found-is cl f stands =
      let dead = compacted_dead cl (is_lost cl f) (is_dropped c.graph) f in
      rising-same IsActorBelow IsActorBelow-apart IsActorBelow-trans (found c.graph marked c.node c.stopped) (filter own dead)
      (rising_actors-rise (filter (falls c.graph marked c.node c.stopped) c.graph.shadows.names))
      (IsRising-filter IsActorBelow own dead (compacted-rise cl (is_lost cl f) (is_dropped c.graph) f))
      (λ a member. (
      let is = (found-falls c.graph marked c.node c.stopped a member).1 in
      IsAmong-filter own a dead ((sweep.dead cl f stands a).1 (is.known, is.kept, is.unmarked)) (own-is a is.here is.fresh)
      ))
      (λ a member. (
      let parts = IsAmong-from_filter own a dead member in
      let left = (sweep.dead cl f stands a).0 parts.0 in
      let mine = fresh-own a parts.1 in
      let named = (among-decides c.graph.shadows.names a).0 (and_parts (is_named c.graph.shadows.names a) (not (is_dropped c.graph a)) left.0).0 in
      found-there c.graph marked c.node c.stopped a named
      (falls-from c.graph marked c.node c.stopped a (record { here = mine.0; fresh = mine.1; known = left.0; kept = left.1; unmarked = left.2 }))
      ))

  -- the verdict over them is that of the sweep that leaves out the dropped
  pub verdict-is : IsKept c → (v : Verdict) → v.node ≡ c.node → v.cut ≡ c.order.cut → v.lost ≡ lost_in c.graph
      → AreStopsOf c.graph (found c.graph marked c.node c.stopped) v.stops → (cl : Cluster) (f : Fold) → IsGraphOf cl f c.graph
      → IsCompactedVerdict cl c.node (is_dropped c.graph) (was_stopped c) f v
  verdict-is kept v node cut lost stops cl f stands =
      let cut_is : (o : ℕ) → slice_index v.cut o ≡ cut_of c o = λ o. ap (λ xs. slice_index xs o) cut in
      let nodes : cl.nodes ≡ node_count c = sym stands.nodes ∙ kept.nodes in
      record {
        node = node;
        cut = λ o inside. cut_is o ∙ ap (λ xs. slice_index xs o) (sym kept.cut) ∙ stands.cut o inside;
        beyond = λ o far. cut_is o ∙ kept.beyond o (subst (λ n. n ≤ o) nodes far);
        lost = lost ∙ lost-same cl f c.graph stands;
        stops = stops cl f stands ∙ ap (map (stop_of cl (is_lost cl f) f)) (found-is cl f stands);
      }

  -- whom it stops counts as stopped then
  pub stopped-is : (new : Collected) → new.node ≡ c.node → SetsFlags (found c.graph marked c.node c.stopped) c.stopped new.stopped
      → (a : Actor) → was_stopped new a ≡ (was_stopped c a || holds_actor (found c.graph marked c.node c.stopped) a)
  stopped-is new node sets a =
      let all = found c.graph marked c.node c.stopped in
      let flag : flag_at new.stopped a.serial ≡ (flag_at c.stopped a.serial || list_any (λ b. b.serial == a.serial) all) =
      sets a.serial in
      let Goal : Bool → Type 0 = λ v. (a.node == c.node) ≡ v → (v && flag_at new.stopped a.serial) ≡ ((v && flag_at c.stopped a.serial) || holds_actor all a) in
      let goal : Goal (a.node == c.node) = elim (a.node == c.node) as Goal [
        | true ↦ λ here. flag ∙ ap (λ t. flag_at c.stopped a.serial || t) (serials (eqb-true a.node c.node here))
        | false ↦ λ other. sym (none other)
      ] in
      ap (λ n. (a.node == n) && flag_at new.stopped a.serial) node ∙ goal refl
    where
      all_here : List Actor
      all_here = found c.graph marked c.node c.stopped

      serials : a.node ≡ c.node → list_any (λ b. b.serial == a.serial) all_here ≡ holds_actor all_here a
      serials here = same-tests (list_any (λ b. b.serial == a.serial) all_here) (holds_actor all_here a)
          (λ e. (
          let one = list_any-true (λ b. b.serial == a.serial) all_here e in
          let is = (found-falls c.graph marked c.node c.stopped one.0 one.1).1 in
          let same : one.0 ≡ a = same_parts one.0 a (is.here ∙ sym here) (eqb-true one.0.serial a.serial one.2) in
          list_any-member (λ b. same_actor b a) one.0 all_here one.1 ((same_actor-decides one.0 a).1 same)
          ))
          (λ e. (
          let one = list_any-true (λ b. same_actor b a) all_here e in
          let same = (same_actor-decides one.0 a).0 one.2 in
          list_any-member (λ b. b.serial == a.serial) one.0 all_here one.1 (eqb-is one.0.serial a.serial (ap (λ b. b.serial) same))
          ))

      none : (a.node == c.node) ≡ false → holds_actor all_here a ≡ false
      none other =
          let Goal : Bool → Type 0 = λ v. holds_actor all_here a ≡ v → v ≡ false in
          let goal : Goal (holds_actor all_here a) = elim (holds_actor all_here a) as Goal [
            | true ↦ λ e. (
                let one = list_any-true (λ b. same_actor b a) all_here e in
                let is = (found-falls c.graph marked c.node c.stopped one.0 one.1).1 in
                let same = (same_actor-decides one.0 a).0 one.2 in
                absurd (false≢true (sym other ∙ eqb-is a.node c.node (ap (λ b. b.node) (sym same) ∙ is.here)))
                )
            | false ↦ λ e. refl
          ] in
          goal refl

  -- the collector keeps its parts
  pub stopped-kept : IsKept c → (new : Collected) → new.node ≡ c.node → new.order ≡ c.order → new.graph ≡ c.graph
      → ((a : Actor) → was_stopped new a ≡ (was_stopped c a || holds_actor (found c.graph marked c.node c.stopped) a)) → IsKept new
  stopped-kept kept new node order graph stopped =
      let all = found c.graph marked c.node c.stopped in
      let named : (a : Actor) → was_stopped new a ≡ true → is_named c.graph.shadows.names a ≡ true = λ a is. (
      let Goal : Bool → Type 0 = λ v. was_stopped c a ≡ v → (v || holds_actor all a) ≡ true → is_named c.graph.shadows.names a ≡ true in
      let goal : Goal (was_stopped c a) = elim (was_stopped c a) as Goal [
        | true ↦ λ before e. kept.named a before
        | false ↦ λ fresh e. (
            let one = list_any-true (λ b. same_actor b a) all e in
            let same = (same_actor-decides one.0 a).0 one.2 in
            (among-decides c.graph.shadows.names a).1
            (subst (λ b. IsAmong b c.graph.shadows.names) same (found-falls c.graph marked c.node c.stopped one.0 one.1).0)
            )
      ] in
      goal refl (sym (stopped a) ∙ is)
      ) in
      let nodes : node_count new ≡ node_count c = ap (λ o. o.nodes) order in
      record {
        node = (let below = kept.node in omega arith);
        nodes = ap (λ g. g.finals.nodes) graph ∙ kept.nodes ∙ sym nodes;
        cut = ap (λ g. g.cut) graph ∙ kept.cut ∙ ap (λ o. o.cut) (sym order);
        few = subst (λ n. n ≤ 16) (sym nodes) kept.few;
        long = ap (λ o. length o.cut) order ∙ kept.long;
        counts = λ o. subst (λ n. n ≤ 1000000) (ap (λ r. count_at r o) (sym order)) (kept.counts o);
        beyond = λ o far. ap (λ r. count_at r o) order ∙ kept.beyond o (subst (λ n. n ≤ o) nodes far);
        fit = λ o k b some. subst (λ n. IsFit n o b) (sym nodes) (kept.fit o k b (ap (λ r. kept_at r o k) (sym order) ∙ some));
        named = λ a is. ap (λ g. is_named g.shadows.names a) graph ∙ named a is;
        dropped = λ a is. stopped a ∙ or-left (was_stopped c a) (holds_actor all a) (kept.dropped a (ap (λ g. is_dropped g a) (sym graph) ∙ is));
      }

-- ---- a sweep

pub sweeps-is : (c new : Collected) (marked : Actor → Bool) (actors : List Actor) (v : Verdict) → IsKept c → Finds c.graph marked c.node c.stopped actors v.stops
    → SetsFlags actors c.stopped new.stopped → new.node ≡ c.node → new.order ≡ c.order → new.graph ≡ c.graph
    → v.node ≡ c.node → v.cut ≡ c.order.cut → v.lost ≡ lost_in c.graph → Sweeps c new v × IsKept new
sweeps-is c new marked actors v kept finds sets node order graph v_node v_cut v_lost =
    let all = found c.graph marked c.node c.stopped in
    let stops : AreStopsOf c.graph all v.stops = subst (λ xs. AreStopsOf c.graph xs v.stops) finds.found finds.evidence in
    let flagged : SetsFlags all c.stopped new.stopped = subst (λ xs. SetsFlags xs c.stopped new.stopped) finds.found sets in
    let stopped = stopped-is c marked finds.sweep new node flagged in (
      record {
        verdict = verdict-is c marked finds.sweep kept v v_node v_cut v_lost stops;
        stopped = λ a. stopped a ∙ ap (λ xs. was_stopped c a || holds_actor xs a) (sym (finds.each ∙ finds.found));
        node = node;
        order = order;
        graph = graph;
        were = kept.dropped;
      },
      stopped-kept c marked finds.sweep kept new node order graph stopped,
    )
