-- A collector goes with its node's sweeps, from the empty history on, and its verdicts are those of the history.
use Rattle.std.proofs.Common.{◌≡◌, ◌==◌, ◌&&◌, ◌||◌, ℕ, Bool, true, false, not, List, [], ◌∷◌, map, ltb, take, refl, sym, ap, subst, ◌∙◌, arith}
use Rattle.std.proofs.lemmas.Bool.{and_parts, eqb-true, false≢true}
use Rattle.std.specs.List.{filter}
use Rattle.std.specs.Option.{is_some}
use Rattle.crgc_ids.specs.Actor.{Actor}
use Rattle.crgc_ids.proofs.MembersLaws.{IsAmong-filter, IsAmong-from_filter}
use Rattle.history_model.specs.declared.events.Event.{Event}
use Rattle.history_model.specs.declared.events.Event.TheVariants.{Sweep}
use Rattle.history_model.specs.declared.records.Stop.{Stop}
use Rattle.history_model.specs.declared.records.Verdict.{Verdict}
use Rattle.history_model.specs.Cluster.{Cluster}
use Rattle.history_model.specs.Compaction.{IsCompactedVerdict}
use Rattle.history_model.specs.Folds.{Fold, folded, is_lost}
use Rattle.history_model.specs.Graph.{holds_actor}
use Rattle.history_model.specs.Legal.{IsLegal}
use Rattle.history_model.specs.Streams.{stream}
use Rattle.history_model.specs.Sweeps.{IsVerdict, dead_at, is_stopped, stop_of, stopped_by}
use Rattle.history_model.proofs.CompactedSweeps.{own-verdict}
use Rattle.history_model.proofs.FoldSumsKnown.{holds-among}
use Rattle.gossip_core.specs.Gossip.{count_at, kept_at}
use Rattle.shadow_table.specs.Shadows.{shadow_at}
use Rattle.shadow_graph.specs.Seen.{is_dropped}
use Rattle.shadow_graph.specs.Stands.{IsGraphOf}
use Rattle.collector.specs.Collected.{Collected, IsCollectorAt, IsFedBy, IsNew, flag_at, folded_of, has_number, was_stopped}
use Rattle.collector.specs.Sweeping.{Compacts, Sweeps, stopped_actors}
use Rattle.collector.proofs.HistoryLemmas.{folded-at}
use Rattle.collector.proofs.NumberLemmas.{is-from, or-left}
use Rattle.collector.proofs.SweepLemmas.{eqb-is, same-tests}
use Rattle.collector.proofs.TakeLemmas.{no-count}

-- ---- the same bulletins

module _ (old new : Collected) (order : new.order ≡ old.order) where
  same-numbers : (o k : ℕ) → has_number new o k ≡ has_number old o k
  same-numbers o k = ap (λ r. ltb k (count_at r o) || is_some (kept_at r o k)) order

  -- a collector with the same bulletins, whose graph stands for what the other's stands for, is fed by the same streams
  fed-same : (cl : Cluster) (streams : Fold) → ((f : Fold) → IsGraphOf cl f old.graph → IsGraphOf cl f new.graph)
      → IsFedBy cl streams old → IsFedBy cl streams new
  fed-same cl streams stands fed = record {
    nodes = ap (λ r. r.nodes) order ∙ fed.nodes;
    graph = subst (λ f. IsGraphOf cl f new.graph) (λ i o. take (count_at (sym order i) o) (streams o)) (stands (folded_of old streams) fed.graph);
    long = λ o. (let is = ap (λ r. count_at r o) order in let long = fed.long o in omega arith);
    beyond = λ o far. ap (λ r. count_at r o) order ∙ fed.beyond o far;
    waiting = λ o k b some. fed.waiting o k b (ap (λ r. kept_at r o k) (sym order) ∙ some);
  }

-- ---- a sweep

pub actors-of : (f : Actor → Stop) (xs : List Actor) → ((a : Actor) → (f a).actor ≡ a) → stopped_actors (map f xs) ≡ xs
actors-of f [] same = refl
actors-of f (x ∷ xs) same = (λ i. same x i ∷ actors-of f xs same i)

holds-filter : (p : Actor → Bool) (xs : List Actor) (a : Actor) → holds_actor (filter p xs) a ≡ (p a && holds_actor xs a)
holds-filter p xs a = same-tests (holds_actor (filter p xs) a) (p a && holds_actor xs a)
    (λ e. (
    let member = IsAmong-from_filter p a xs ((holds-among (filter p xs) a).0 e) in
    both (p a) (holds_actor xs a) member.1 ((holds-among xs a).1 member.0)
    ))
    (λ e. (
    let parts = and_parts (p a) (holds_actor xs a) e in
    (holds-among (filter p xs) a).1 (IsAmong-filter p a xs ((holds-among xs a).0 parts.1) parts.0)
    ))
  where
    both : (b c : Bool) → b ≡ true → c ≡ true → (b && c) ≡ true
    both true c e f = f
    both false c e f = absurd (false≢true e)

stopped-too : (s d : Bool) → (s || (not s && d)) ≡ (d || s)
stopped-too true true = refl
stopped-too true false = refl
stopped-too false true = refl
stopped-too false false = refl

module _ (cl : Cluster) (h : List Event) (m : ℕ) (old new : Collected) (v : Verdict) (legal : IsLegal cl h)
    (at : IsCollectorAt cl h m old) (sweeps : Sweeps old new v) where
  pub verdict-at : IsVerdict cl m h v
  verdict-at =
      let here = sweeps.verdict cl (folded_of old (λ o. stream cl o h)) at.fed.graph in
      let at_m = subst (λ n. IsCompactedVerdict cl n (is_dropped old.graph) (was_stopped old) (folded_of old (λ o. stream cl o h)) v) at.node here in
      let folded_here = subst (λ f. IsCompactedVerdict cl m (is_dropped old.graph) (was_stopped old) f v) (folded-at cl h m old at legal) at_m in
      (own-verdict cl m h (is_dropped old.graph) (was_stopped old) legal at.stops v).0 folded_here

  sweeps-stopped : (a : Actor) → a.node ≡ m → was_stopped new a ≡ is_stopped cl a (Sweep m ∷ h)
  sweeps-stopped a here =
      let is : (a.node == m) ≡ true = eqb-is a.node m here in
      let actors : stopped_actors v.stops ≡ stopped_by cl m h =
      ap stopped_actors verdict-at.stops ∙ actors-of (stop_of cl (is_lost cl (folded cl m h)) (folded cl m h)) (stopped_by cl m h) (λ b. refl) in
      sweeps.stopped a
      ∙ (λ i. at.stops.exact a here i || holds_actor (actors i) a)
      ∙ ap (λ t. is_stopped cl a h || t) (holds-filter (λ b. (b.node == m) && not (is_stopped cl b h)) (dead_at cl m h) a)
      ∙ (λ i. is_stopped cl a h || ((is i && not (is_stopped cl a h)) && holds_actor (dead_at cl m h) a))
      ∙ stopped-too (is_stopped cl a h) (holds_actor (dead_at cl m h) a)
      ∙ (λ i. (sym is i && holds_actor (dead_at cl m h) a) || is_stopped cl a h)

  pub follows-sweep : IsCollectorAt cl (Sweep m ∷ h) m new
  follows-sweep = record {
    node = sweeps.node ∙ at.node;
    fed = fed-same old new sweeps.order cl (λ o. stream cl o h) (λ f stands. subst (IsGraphOf cl f) (sym sweeps.graph) stands) at.fed;
    handed = λ o k inside. same-numbers old new sweeps.order o k ∙ at.handed o k inside;
    settled = λ o. ap (λ r. kept_at r o (count_at r o)) sweeps.order ∙ at.settled o;
    stops = record {
      exact = sweeps-stopped;
      own = λ a gone. at.stops.own a (ap (λ g. is_dropped g a) (sym sweeps.graph) ∙ gone);
      were = λ a gone. sweeps.stopped a ∙ or-left (was_stopped old a) (holds_actor (stopped_actors v.stops) a)
          (at.stops.were a (ap (λ g. is_dropped g a) (sym sweeps.graph) ∙ gone));
    };
  }

-- ---- compaction

pub follows-compact : (cl : Cluster) (h : List Event) (m : ℕ) (old new : Collected) → Compacts old new
    → IsCollectorAt cl h m old → IsCollectorAt cl h m new
follows-compact cl h m old new compacts at =
    let stopped : (a : Actor) → was_stopped new a ≡ was_stopped old a = λ a. (λ i. (a.node == compacts.node i) && flag_at (compacts.stopped i) a.serial) in
    record {
      node = compacts.node ∙ at.node;
      fed = fed-same old new compacts.order cl (λ o. stream cl o h) (compacts.stands cl) at.fed;
      handed = λ o k inside. same-numbers old new compacts.order o k ∙ at.handed o k inside;
      settled = λ o. ap (λ r. kept_at r o (count_at r o)) compacts.order ∙ at.settled o;
      stops = record {
        exact = λ a here. stopped a ∙ at.stops.exact a here;
        own = λ a gone. eqb-true a.node old.node (and_parts (a.node == old.node) (flag_at old.stopped a.serial) (sym (compacts.dropped a) ∙ gone)).0 ∙ at.node;
        were = λ a gone. stopped a ∙ sym (compacts.dropped a) ∙ gone;
      };
    }

-- ---- the beginning

-- a new collector stopped nobody
pub never-stopped : (m nodes : ℕ) (c : Collected) → IsNew m nodes c → (a : Actor) → was_stopped c a ≡ false
never-stopped m nodes c fresh a = ap (λ xs. (a.node == c.node) && flag_at xs a.serial) fresh.stopped ∙ and-false (a.node == c.node)
  where
    and-false : (b : Bool) → (b && false) ≡ false
    and-false true = refl
    and-false false = refl

pub follows-start : (cl : Cluster) (m : ℕ) (c : Collected) → IsNew m cl.nodes c → IsCollectorAt cl [] m c
follows-start cl m c fresh =
    let never = never-stopped m cl.nodes c fresh in
    let none : (a : Actor) → is_dropped c.graph a ≡ false = λ a. ap (λ s. (shadow_at s a).dropped) fresh.shadows in
    record {
      node = fresh.node;
      fed = fresh.fed cl (λ o. []) refl;
      handed = λ o k inside. (
          ap (λ r. ltb k (count_at r o) || is_some (kept_at r o k)) fresh.order
          ∙ ap (λ t. t || false) (ap (ltb k) (no-count o) ∙ is-from k 0 (omega arith))
          );
      settled = λ o. ap (λ r. kept_at r o (count_at r o)) fresh.order;
      stops = record {
        exact = λ a here. never a;
        own = λ a gone. absurd (false≢true (sym (none a) ∙ gone));
        were = λ a gone. absurd (false≢true (sym (none a) ∙ gone));
      };
    }
