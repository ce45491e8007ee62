-- A collector goes with the calls of the pass that claimed its node.
use Rattle.std.proofs.Common.{◌≡◌, ◌==◌, ◌&&◌, ◌||◌, ◌≤◌, ℕ, Bool, true, false, List, [], ◌∷◌, Option, Some, None, if◌then◌else◌, nat_lt, take, refl, sym, ◌∙◌, ap, subst, inl, inr, arith}
use Rattle.std.specs.List.{list_any}
use Rattle.std.specs.Option.{is_some}
use Rattle.std.proofs.lemmas.Bool.{cases_lt, false≢true, or_cases, or_left, or_right}
use Rattle.std.proofs.lemmas.Option.{none-some}
use Rattle.crgc_ids.specs.Actor.{Actor, same_actor}
use Rattle.turn_lock.specs.History.{entry}
use Rattle.history_model.specs.declared.records.Stop.{Stop}
use Rattle.history_model.specs.declared.records.Verdict.{Verdict}
use Rattle.history_model.specs.Cluster.{Cluster}
use Rattle.history_model.specs.Folds.{Fold}
use Rattle.history_model.specs.Graph.{holds_actor}
use Rattle.history_model.proofs.Basics.{eqb-refl}
use Rattle.gossip_core.specs.Gossip.{Gossip, IsFirstMissing, count_at, kept_at, same_key}
use Rattle.shadow_graph.specs.Stands.{IsGraphOf}
use Rattle.operation_model.specs.declared.operations.Op.{Op}
use Rattle.operation_model.specs.declared.operations.Op.TheVariants as ops
use Rattle.operation_model.specs.declared.replies.Reply.{Reply}
use Rattle.operation_model.specs.declared.replies.Reply.TheVariants as replies
use Rattle.operation_model.specs.Deeds.{Deed, deed_of, handed, swept}
use Rattle.operation_model.specs.Hands.{given, given_by, has_claimed, is_claim_of, is_stop_of, own_stopped, stops_actor}
use Rattle.operation_model.specs.Turns.{Calls}
use Rattle.collector.specs.Collected.{Collected, IsFedBy, IsNew, cut_of, flag_at, folded_of, has_number, was_stopped}
use Rattle.collector.specs.Sweeping.{Compacts, Sweeps, stopped_actors}
use Rattle.collector.specs.Taking.{IsTaken, Takes}
use Rattle.collector.proofs.NumberLemmas.{below-of, is-below, is-from, key-self, none-of, one-key, or-false, or-true}
use Rattle.collector.proofs.SweepLemmas.{same-tests}
use Rattle.collector.proofs.TakeLemmas.{no-count}
use Rattle.collector.proofs.VerdictLemmas.{never-stopped}
use Rattle.collected_calls.specs.Collecting.{HasCollected, HaveGiven, IsCollectorOf, RemembersMore, is_collecting}

-- ---- deeds

pub given-other : (n o k : ℕ) (d : Deed) (before : Option (List ℕ)) → is_collecting d ≡ false → given_by n o k d before ≡ before
given-other n o k (handed m x j bytes) before is = absurd (false≢true (sym is))
given-other n o k d before is = refl

pub stops-other : (a : Actor) (d : Deed) → is_collecting d ≡ false → stops_actor a d ≡ false
stops-other a (swept v) is = absurd (false≢true (sym is))
stops-other a d is = refl

-- whom stops name
pub stops-hold : (a : Actor) (stops : List Stop) → list_any (is_stop_of a) stops ≡ holds_actor (stopped_actors stops) a
stops-hold a [] = refl
stops-hold a (s ∷ stops) = ap (λ t. same_actor s.actor a || t) (stops-hold a stops)

-- ---- a new collector

new-order : (m nodes : ℕ) (c : Collected) → IsNew m nodes c → (o k : ℕ) → (nat_lt k (cut_of c o) ≡ false) × (has_number c o k ≡ false)
new-order m nodes c fresh o k =
    let none : nat_lt k (cut_of c o) ≡ false = ap (λ (g : Gossip). nat_lt k (count_at g o)) fresh.order ∙ ap (nat_lt k) (no-count o) ∙ is-from k 0 (omega arith) in
    (none, ap (λ t. t || is_some (kept_at c.order o k)) none ∙ ap (λ (g : Gossip). is_some (kept_at g o k)) fresh.order)

pub follows-start : (cl : Cluster) (own : Calls) (m : ℕ) (c : Collected) → IsNew m cl.nodes c → has_claimed m own ≡ true
    → ((o k : ℕ) → given m o k own ≡ None) → ((a : Actor) → a.node ≡ m → own_stopped own a ≡ false) → IsCollectorOf cl own c
follows-start cl own m c fresh claimed none idle = record {
  collected = record {
    nodes = ap (λ (g : Gossip). g.nodes) fresh.order;
    claimed = ap (λ n. has_claimed n own) fresh.node ∙ claimed;
    folded = λ o k. (new-order m cl.nodes c fresh o k).0 ∙ sym (ap is_some (ap (λ n. given n o k own) fresh.node ∙ none o k));
    none_waits = λ o k. (let both = new-order m cl.nodes c fresh o k in both.1 ∙ sym both.0);
    fed = λ streams have. fresh.fed cl streams refl;
  };
  stopped = λ a here. never-stopped m cl.nodes c fresh a ∙ sym (idle a (here ∙ fresh.node));
}

-- ---- calls of other kinds

module _ (cl : Cluster) (own : Calls) (c : Collected) (op : Op) (r : Reply) (pass : ℕ) (other : is_collecting (deed_of op r) ≡ false) where
  given-same : (o k : ℕ) → given c.node o k (entry pass op r ∷ own) ≡ given c.node o k own
  given-same o k = given-other c.node o k (deed_of op r) (given c.node o k own) other

  pub collected-other : HasCollected cl own c → HasCollected cl (entry pass op r ∷ own) c
  collected-other h = record {
    nodes = h.nodes;
    claimed = or_right (is_claim_of c.node (deed_of op r)) (has_claimed c.node own) h.claimed;
    folded = λ o k. h.folded o k ∙ ap is_some (sym (given-same o k));
    none_waits = h.none_waits;
    fed = λ streams have. h.fed streams (λ o k bytes is. have o k bytes (given-same o k ∙ is));
  }

  pub stopped-other : (a : Actor) → own_stopped (entry pass op r ∷ own) a ≡ own_stopped own a
  stopped-other a = ap (λ t. t || own_stopped own a) (stops-other a (deed_of op r) other)

  pub follows-other : IsCollectorOf cl own c → IsCollectorOf cl (entry pass op r ∷ own) c
  follows-other h = record { collected = collected-other h.collected; stopped = λ a here. h.stopped a here ∙ sym (stopped-other a) }

-- ---- hands

-- nothing waits, so the first missing number is the cut
pub missing-cut : (cl : Cluster) (own : Calls) (c : Collected) (o number : ℕ) → HasCollected cl own c → IsFirstMissing c.order o number → number ≡ cut_of c o
missing-cut cl own c o number h first =
    let from : cut_of c o ≤ number = first.from in
    elim (cases_lt (cut_of c o) number) [
      | inl less ↦ absurd (false≢true (
          sym (is-from (cut_of c o) (cut_of c o) (omega arith)) ∙ sym (h.none_waits o (cut_of c o))
          ∙ or_right (nat_lt (cut_of c o) (cut_of c o)) (is_some (kept_at c.order o (cut_of c o))) (first.kept (cut_of c o) (omega arith) less)))
      | inr more ↦ omega (arith, from, more)
    ]

is_some-if : (g : Option (List ℕ)) (bytes : List ℕ) (t : Bool) → (is_some g || t) ≡ is_some (if t then Some bytes else g)
is_some-if g bytes true = or-true (is_some g)
is_some-if g bytes false = or-false (is_some g)

module _ (cl : Cluster) (own : Calls) (old new : Collected) (o : ℕ) (bytes : List ℕ) (pass : ℕ)
    (takes : Takes o (cut_of old o) bytes old new) (taken : IsTaken o (cut_of old o) new) (h : HasCollected cl own old) where
  abbrev k : ℕ
  k = cut_of old o

  abbrev later : Calls
  later = entry pass (ops.Hand old.node o k) (replies.Bytes bytes) ∷ own

  -- none of that number was given before
  fresh : given old.node o k own ≡ None
  fresh = none-of (given old.node o k own) (sym (h.folded o k) ∙ is-from k k (omega arith))

  given-next : (x y : ℕ) → given old.node x y later ≡ (if same_key (o, k) (x, y) then Some bytes else given old.node x y own)
  given-next x y = (λ i. if eqb-refl old.node i && same_key (o, k) (x, y) then Some bytes else given old.node x y own)

  there : (x y : ℕ) → same_key (o, k) (x, y) ≡ true → has_number new x y ≡ true
  there x y same = (let one = one-key o k x y same in (λ i. has_number new (one.0 i) (one.1 i)) ∙ taken.there)

  numbers-next : (x y : ℕ) → has_number new x y ≡ (has_number old x y || same_key (o, k) (x, y))
  numbers-next x y = same-tests (has_number new x y) (has_number old x y || same_key (o, k) (x, y)) (takes.has x y)
      (λ e. elim (or_cases (has_number old x y) (same_key (o, k) (x, y)) e) [ inl had ↦ takes.had x y had | inr same ↦ there x y same ])

  -- the bulletin is folded
  folded-here : nat_lt k (cut_of new o) ≡ true
  folded-here = elim (or_cases (nat_lt k (cut_of new o)) (is_some (kept_at new.order o k)) taken.there) [
    | inl below ↦ below
    | inr waits ↦ elim (cases_lt k (cut_of new o)) [
      | inl below ↦ is-below k (cut_of new o) below
      | inr from ↦ (
          let rises = takes.goes_on.rises o in
          let same : k ≡ cut_of new o = omega (arith, rises, from) in
          absurd (false≢true (ap is_some (sym (taken.settled o)) ∙ ap (λ j. is_some (kept_at new.order o j)) (sym same) ∙ waits))
          )
    ]
  ]

  waits-next : (x y : ℕ) → has_number new x y ≡ nat_lt y (cut_of new x)
  waits-next x y = same-tests (has_number new x y) (nat_lt y (cut_of new x))
      (λ e. elim (or_cases (has_number old x y) (same_key (o, k) (x, y)) (takes.has x y e)) [
        | inl had ↦ (
            let below = below-of y (cut_of old x) (sym (h.none_waits x y) ∙ had) in
            let rises = takes.goes_on.rises x in
            is-below y (cut_of new x) (omega (arith, below, rises))
            )
        | inr same ↦ (let one = one-key o k x y same in (λ i. nat_lt (one.1 i) (cut_of new (one.0 i))) ∙ folded-here)
      ])
      (or_left (nat_lt y (cut_of new x)) (is_some (kept_at new.order x y)))

  folded-next : (x y : ℕ) → nat_lt y (cut_of new x) ≡ is_some (given old.node x y later)
  folded-next x y =
      sym (waits-next x y) ∙ numbers-next x y ∙ ap (λ t. t || same_key (o, k) (x, y)) (h.none_waits x y ∙ h.folded x y)
      ∙ is_some-if (given old.node x y own) bytes (same_key (o, k) (x, y)) ∙ ap is_some (sym (given-next x y))

  -- what was given before is given still
  given-still : (x y : ℕ) (text : List ℕ) → given old.node x y own ≡ Some text → given old.node x y later ≡ Some text
  given-still x y text is = given-next x y ∙ unless (same_key (o, k) (x, y)) refl
    where
      unless : (t : Bool) → same_key (o, k) (x, y) ≡ t → (if t then Some bytes else given old.node x y own) ≡ Some text
      unless true same = (let one = one-key o k x y same in absurd (none-some text (sym fresh ∙ (λ i. given old.node (sym one.0 i) (sym one.1 i) own) ∙ is)))
      unless false same = is

  fed-next : (streams : Fold) → HaveGiven old.node later streams → IsFedBy cl streams new
  fed-next streams have =
      takes.fed cl streams
      (λ _. have o k bytes (given-next o k ∙ ap (λ t. if t then Some bytes else given old.node o k own) (key-self o k)))
      (h.fed streams (λ x y text is. have x y text (given-still x y text is)))

  pub collected-hand : HasCollected cl later new
  collected-hand = record {
    nodes = takes.goes_on.nodes ∙ h.nodes;
    claimed = ap (λ n. has_claimed n own) takes.goes_on.node ∙ h.claimed;
    folded = λ x y. folded-next x y ∙ ap (λ n. is_some (given n x y later)) (sym takes.goes_on.node);
    none_waits = waits-next;
    fed = λ streams have. fed-next streams (subst (λ n. HaveGiven n later streams) takes.goes_on.node have);
  }

pub follows-hand : (cl : Cluster) (own : Calls) (old new : Collected) (o : ℕ) (bytes : List ℕ) (pass : ℕ) → Takes o (cut_of old o) bytes old new → IsTaken o (cut_of old o) new
    → IsCollectorOf cl own old → IsCollectorOf cl (entry pass (ops.Hand old.node o (cut_of old o)) (replies.Bytes bytes) ∷ own) new
follows-hand cl own old new o bytes pass takes taken h = record {
  collected = collected-hand cl own old new o bytes pass takes taken h.collected;
  stopped = λ a here. (λ i. (a.node == takes.goes_on.node i) && flag_at (takes.goes_on.stopped i) a.serial) ∙ h.stopped a (here ∙ takes.goes_on.node);
}

-- ---- sweeps

-- a collector with the same bulletins, whose graph stands for what the other's stands for, is fed by the same streams
fed-still : (old new : Collected) → new.order ≡ old.order → (cl : Cluster) (streams : Fold) → ((f : Fold) → IsGraphOf cl f old.graph → IsGraphOf cl f new.graph)
    → IsFedBy cl streams old → IsFedBy cl streams new
fed-still old new order cl streams stands fed = record {
  nodes = ap (λ (g : Gossip). g.nodes) order ∙ fed.nodes;
  graph = subst (λ f. IsGraphOf cl f new.graph) (λ i o. take (count_at (sym order i) o) (streams o)) (stands (folded_of old streams) fed.graph);
  long = λ o. (let is = ap (λ (g : Gossip). count_at g o) order in let long = fed.long o in omega (arith, is, long));
  beyond = λ o far. ap (λ (g : Gossip). count_at g o) order ∙ fed.beyond o far;
  waiting = λ o k b some. fed.waiting o k b (ap (λ (g : Gossip). kept_at g o k) (sym order) ∙ some);
}

collected-still : (cl : Cluster) (own : Calls) (old new : Collected) → new.node ≡ old.node → new.order ≡ old.order
    → ((f : Fold) → IsGraphOf cl f old.graph → IsGraphOf cl f new.graph) → HasCollected cl own old → HasCollected cl own new
collected-still cl own old new node order stands h = record {
  nodes = ap (λ (g : Gossip). g.nodes) order ∙ h.nodes;
  claimed = ap (λ n. has_claimed n own) node ∙ h.claimed;
  folded = λ o k. ap (λ (g : Gossip). nat_lt k (count_at g o)) order ∙ h.folded o k ∙ ap (λ n. is_some (given n o k own)) (sym node);
  none_waits = λ o k.
      ap (λ (g : Gossip). nat_lt k (count_at g o) || is_some (kept_at g o k)) order ∙ h.none_waits o k
      ∙ ap (λ (g : Gossip). nat_lt k (count_at g o)) (sym order);
  fed = λ streams have. fed-still old new order cl streams stands (h.fed streams (subst (λ n. HaveGiven n own streams) node have));
}

or-swapped : (s t : Bool) → (s || t) ≡ (t || s)
or-swapped true t = sym (or-true t)
or-swapped false t = sym (or-false t)

module _ (cl : Cluster) (own : Calls) (old new : Collected) (v : Verdict) (sweeps : Sweeps old new v) where
  pub collected-sweep : HasCollected cl own old → HasCollected cl own new
  collected-sweep h = collected-still cl own old new sweeps.node sweeps.order (λ f stands. subst (IsGraphOf cl f) (sym sweeps.graph) stands) h

  pub follows-sweep : (pass : ℕ) → v.node ≡ old.node → IsCollectorOf cl own old → IsCollectorOf cl (entry pass (ops.Sweep v) replies.Done ∷ own) new
  follows-sweep pass here h = (
      let c = collected-sweep h.collected in
      record {
        collected = record { nodes = c.nodes; claimed = c.claimed; folded = c.folded; none_waits = c.none_waits; fed = c.fed };
        stopped = stopped-next;
      }
      )
    where
      stopped-next : (a : Actor) → a.node ≡ new.node → was_stopped new a ≡ own_stopped (entry pass (ops.Sweep v) replies.Done ∷ own) a
      stopped-next a at =
          let was : a.node ≡ old.node = at ∙ sweeps.node in
          let own_node : (v.node == a.node) ≡ true = ap (λ n. v.node == n) (was ∙ sym here) ∙ eqb-refl v.node in
          sweeps.stopped a
          ∙ ap (λ t. t || holds_actor (stopped_actors v.stops) a) (h.stopped a was)
          ∙ or-swapped (own_stopped own a) (holds_actor (stopped_actors v.stops) a)
          ∙ ap (λ t. t || own_stopped own a) (sym (stops-hold a v.stops))
          ∙ (λ i. (sym own_node i && list_any (is_stop_of a) v.stops) || own_stopped own a)

  -- a verdict that was not told
  pub follows-untold : (op : Op) (r : Reply) (pass : ℕ) → is_collecting (deed_of op r) ≡ false → IsCollectorOf cl own old → RemembersMore cl (entry pass op r ∷ own) new
  follows-untold op r pass other h = record {
    collected = collected-other cl own new op r pass other (collected-sweep h.collected);
    stopped = λ a here is.
        sweeps.stopped a
        ∙ or_left (was_stopped old a) (holds_actor (stopped_actors v.stops) a)
        (h.stopped a (here ∙ sweeps.node) ∙ sym (stopped-other cl own new op r pass other a) ∙ is);
  }

pub follows-compact : (cl : Cluster) (own : Calls) (old new : Collected) → Compacts old new → IsCollectorOf cl own old → IsCollectorOf cl own new
follows-compact cl own old new compacts h = record {
  collected = collected-still cl own old new compacts.node compacts.order (compacts.stands cl) h.collected;
  stopped = λ a here. (λ i. (a.node == compacts.node i) && flag_at (compacts.stopped i) a.serial) ∙ h.stopped a (here ∙ compacts.node);
}

pub remembers-stopped : (cl : Cluster) (own : Calls) (c : Collected) → IsCollectorOf cl own c → RemembersMore cl own c
remembers-stopped cl own c h = record { collected = h.collected; stopped = λ a here is. h.stopped a here ∙ is }

pub remembers-compact : (cl : Cluster) (own : Calls) (old new : Collected) → Compacts old new → RemembersMore cl own old → RemembersMore cl own new
remembers-compact cl own old new compacts h = record {
  collected = collected-still cl own old new compacts.node compacts.order (compacts.stands cl) h.collected;
  stopped = λ a here is.
      (λ i. (a.node == compacts.node i) && flag_at (compacts.stopped i) a.serial) ∙ h.stopped a (here ∙ compacts.node) is;
}
