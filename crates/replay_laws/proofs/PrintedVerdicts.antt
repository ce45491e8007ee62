-- The numbers of a verdict are in the ranges of its lines.
use Rattle.std.proofs.Common.{◌<◌, ◌≤◌, ◌+◌, ◌==◌, ◌&&◌, ℕ, not, List, [], ◌∷◌, length, map, refl, inl, inr, arith}
use Rattle.std.proofs.lemmas.List.FromFn.{length-map-range_with_len}
use Rattle.std.specs.List.{AllByRecursion}
use Rattle.crgc_ids.specs.Actor.{Actor, IsActor}
use Rattle.crgc_ids.specs.Members.{IsAmong}
use Rattle.crgc_ids.specs.Nodes.{nodes_below}
use Rattle.crgc_ids.specs.Rising.{IsRising}
use Rattle.crgc_ids.proofs.LostNodesLaws.{lost_nodes-lost, lost_nodes-rise}
use Rattle.crgc_ids.proofs.MembersLaws.{IsAmong-from_filter, all-from_members, all-implied}
use Rattle.history_model.specs.declared.events.Event.{Event}
use Rattle.history_model.specs.Cluster.{Cluster}
use Rattle.history_model.specs.Facts.{is_received}
use Rattle.history_model.specs.Folds.{cut_at, final_links, folded, is_lost, lost_of}
use Rattle.history_model.specs.Graph.{received_count}
use Rattle.history_model.specs.Legal.{IsLegal}
use Rattle.history_model.specs.Messages.{is_take_by, takes}
use Rattle.history_model.specs.Sweeps.{dead_at, is_stopped, stop_of, stopped_by, stops_of}
use Rattle.history_model.proofs.AccountsNotes.{received-noted}
use Rattle.history_model.proofs.FoldSumsCounts.{received-told}
use Rattle.history_model.proofs.FoldSumsDead.{dead-member, dead-owners}
use Rattle.history_model.proofs.FoldSumsNotes.{told-noted}
use Rattle.history_model.proofs.LinksStreams.{cut-bounded}
use Rattle.history_model.proofs.Stopped.{dead_at-quiet}
use Rattle.history_model.proofs.Sums.{told_horizon}
use Rattle.journal_model.specs.Lines.{IsNodeNumber, IsNumber, IsPrintableCut, IsPrintableStop}
use Rattle.bulletin_streams.proofs.BoundLemmas.{stream-short}
use Rattle.evidence_report.proofs.Stopping.{tally-most}
use Rattle.run_model.specs.Schedule.{IsWithinLimits}
use Rattle.replay_laws.specs.Tellable.{IsClusterInRange}
use Rattle.replay_laws.proofs.LimitLemmas.{born-named, events-few}

-- ---- the cut

-- rising numbers from k on, all below n, are no more than n takes away k
rising-short : (k n : ℕ) (xs : List ℕ) → k ≤ n → IsRising ◌<◌ xs → AllByRecursion (λ x. k ≤ x) xs → AllByRecursion (λ x. x < n) xs → k + length xs ≤ n
rising-short k n [] most rise from below = omega arith
rising-short k n (x ∷ xs) most rise from below =
    let above = all-implied (λ y. x < y) (λ y. x + 1 ≤ y) (λ y l. omega arith) xs rise.0 in
    let later = rising-short (x + 1) n xs (omega (arith, below.0)) rise.1 above below.1 in
    omega (arith, from.0, later)

all-from_zero : (xs : List ℕ) → AllByRecursion (λ x. 0 ≤ x) xs
all-from_zero [] = tt
all-from_zero (x ∷ xs) = (omega arith, all-from_zero xs)

lost-nodes : (cl : Cluster) (m : ℕ) (p : List Event) → AllByRecursion (λ n. n < cl.nodes) (lost_of cl (folded cl m p))
lost-nodes cl m p =
    all-from_members (λ n. n < cl.nodes) (lost_of cl (folded cl m p))
    (λ n among. (lost_nodes-lost cl.nodes (final_links cl (folded cl m p)) n among).0)

lost-few : (cl : Cluster) (m : ℕ) (p : List Event) → length (lost_of cl (folded cl m p)) ≤ cl.nodes
lost-few cl m p =
    let lost = lost_of cl (folded cl m p) in
    omega (arith, rising-short 0 cl.nodes lost (omega arith) (lost_nodes-rise cl.nodes (final_links cl (folded cl m p))) (all-from_zero lost) (lost-nodes cl m p))

counts-few : (cl : Cluster) (m : ℕ) (p : List Event) → IsWithinLimits cl p → (ns : List ℕ) → AllByRecursion IsNumber (map (cut_at cl m p) ns)
counts-few cl m p within [] = tt
counts-few cl m p within (n ∷ ns) =
    (omega (arith, cut-bounded cl m p n, stream-short cl n p, events-few cl p within), counts-few cl m p within ns)

-- the cut of a sweep may be printed
pub cut-printable : (cl : Cluster) (m : ℕ) (p : List Event) → IsClusterInRange cl → IsWithinLimits cl p → IsNodeNumber m → IsPrintableCut m (map (cut_at cl m p) (nodes_below cl.nodes)) (lost_of cl (folded cl m p))
cut-printable cl m p range within node =
    let counts = length-map-range_with_len (cut_at cl m p) 0 cl.nodes in (
      node,
      omega (arith, counts, range.some_node),
      omega (arith, counts, range.nodes),
      counts-few cl m p within (nodes_below cl.nodes),
      omega (arith, lost-few cl m p, range.nodes),
      all-implied (λ n. n < cl.nodes) IsNodeNumber (λ n below. omega (arith, below, range.nodes)) (lost_of cl (folded cl m p)) (lost-nodes cl m p),
    )

-- ---- the stops

-- no actor took more messages than there are events
received-few : (cl : Cluster) (m : ℕ) (p : List Event) (a : Actor) → IsLegal cl p → received_count cl (folded cl m p) a ≤ length p
received-few cl m p a legal =
    let told = received-told cl p (cut_at cl m p) a legal in
    let noted = told-noted cl (told_horizon cl (cut_at cl m p) p) (λ x. is_received a x.fact) p in
    let took = received-noted cl p a in
    let most : takes a p ≤ length p = tally-most (is_take_by a) p in
    omega (arith, told, noted, took, most)

-- the stop of an actor that is dead at m
stop-printable : (cl : Cluster) (m : ℕ) (p : List Event) (a : Actor) → IsClusterInRange cl → IsLegal cl p → IsWithinLimits cl p → IsNodeNumber m → IsAmong a (dead_at cl m p) → IsPrintableStop m (stop_of cl (is_lost cl (folded cl m p)) (folded cl m p) a)
stop-printable cl m p a range legal within node among =
    let lost = is_lost cl (folded cl m p) in
    let fold = folded cl m p in
    let balance = (dead-member cl lost fold a among).balanced in
    let received = received-few cl m p a legal in
    let events = events-few cl p within in
    let named : (b : Actor) → IsAmong b (dead_at cl m p) → IsActor b = λ b dead. born-named cl p b range legal within ((dead_at-quiet cl m p legal).born b dead) in (
      node,
      named a among,
      omega (arith, received, events),
      omega (arith, balance, received, events),
      omega (arith, balance, received, events),
      all-from_members IsActor (stop_of cl lost fold a).owners (λ b owner. named b (dead-owners cl lost fold a b among owner)),
    )

-- the stops of a sweep may be printed
pub stops-printable : (cl : Cluster) (m : ℕ) (p : List Event) → IsClusterInRange cl → IsLegal cl p → IsWithinLimits cl p → IsNodeNumber m → AllByRecursion (IsPrintableStop m) (stops_of cl m p)
stops-printable cl m p range legal within node =
    each (stopped_by cl m p) (λ a among. (IsAmong-from_filter (λ b. (b.node == m) && not (is_stopped cl b p)) a (dead_at cl m p) among).0)
  where
    each : (as_ : List Actor) → ((a : Actor) → IsAmong a as_ → IsAmong a (dead_at cl m p)) → AllByRecursion (IsPrintableStop m) (map (stop_of cl (is_lost cl (folded cl m p)) (folded cl m p)) as_)
    each [] dead = tt
    each (a ∷ as_) dead = (stop-printable cl m p a range legal within node (dead a (inl refl)), each as_ (λ b among. dead b (inr among)))
