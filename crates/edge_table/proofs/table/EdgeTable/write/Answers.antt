use Rattle.std.proofs.Common.{◌≡◌, ◌<◌, List, Bool, true, false, length, get_or, map, refl, set, subst, sym, ◌∙◌, ap, arith}
use Rattle.std.proofs.ByRecursion.{All-get_or}
use Rattle.std.proofs.Math.Seq.{map-set_same}
use Rattle.std.proofs.lemmas.Bool.{false≢true}
use Rattle.std.proofs.lemmas.List.{get_or_default}
use mathlib.Core.Bool.{beq}
use Rattle.crgc_ids.specs.Actor.{Actor}
use Rattle.crgc_ids.specs.Members.{IsAmong}
use Rattle.edge_table.specs.Far.{AreFound}
use Rattle.edge_table.specs.Partition.{CountsAt, IsKeptOf, kept_of, numbers_in}
use Rattle.edge_table.specs.Table.{ArePositiveKept, Edges, IsTable, edge_at, ends_from, ends_to, is_positive, is_positive_at, no_edge}
use Rattle.edge_table.specs.declared.table.Edge.{Edge}
use Rattle.edge_table.proofs.FoundLemmas.{found-changed, list-read}
use Rattle.edge_table.proofs.PositiveLemmas.{list-few, list-rising, listed_back, parted-same, parted-set}
use Rattle.edge_table.proofs.TableLemmas.{from_of, owner_of, table-edge_changed, target_of, to_of}
use Rattle.edge_table.proofs.table.EdgeTable.write.Goals as goal
use Rattle.edge_table.proofs.table.EdgeTable.write.Goals.{After-from-from, After-get-old, After-set, After-to-to}

-- ---- the edge, and what stands at its number

inside : (c : After-get-old) → c.args.number < length c.self.inside.edges.edges
inside c = subst (λ (t : Edges). c.args.number < length t.edges) (sym c.self.view_is) c.requires.some

owner_is : (c : After-get-old) → c.args.edge.owner ≡ (get_or c.self.inside.edges.edges c.args.number no_edge).owner
owner_is c = subst (λ (t : Edges). c.args.edge.owner ≡ (edge_at t c.args.number).owner) (sym c.self.view_is) c.requires.owner

target_is : (c : After-get-old) → c.args.edge.target ≡ (get_or c.self.inside.edges.edges c.args.number no_edge).target
target_is c = subst (λ (t : Edges). c.args.edge.target ≡ (edge_at t c.args.number).target) (sym c.self.view_is) c.requires.target

read : (c : After-get-old) → get_or c.self.inside.edges.edges c.args.number no_edge ≡ get_or c.self.inside.edges.edges c.args.number (get_or c.self.inside.edges.edges c.args.number no_edge)
read c = get_or_default c.self.inside.edges.edges c.args.number no_edge (get_or c.self.inside.edges.edges c.args.number no_edge) (inside c)

owners_stay : (c : After-get-old) → map owner_of (set c.self.inside.edges.edges c.args.number c.args.edge) ≡ map owner_of c.self.inside.edges.edges
owners_stay c = map-set_same owner_of c.self.inside.edges.edges c.args.number c.args.edge no_edge (owner_is c)

targets_stay : (c : After-get-old) → map target_of (set c.self.inside.edges.edges c.args.number c.args.edge) ≡ map target_of c.self.inside.edges.edges
targets_stay c = map-set_same target_of c.self.inside.edges.edges c.args.number c.args.edge no_edge (target_is c)

table : (c : After-get-old) → IsTable c.self.inside.edges.pairs (set c.self.inside.edges.edges c.args.number c.args.edge) c.self.inside.places.items
table c = table-edge_changed c.self.inside.edges.pairs c.self.inside.edges.edges c.self.inside.places.items c.args.number (get_or c.self.inside.edges.edges c.args.number no_edge) c.args.edge c.self.invariant.0 (inside c) (read c) (owner_is c) (target_is c)

found : (c : After-get-old) → AreFound c.self.inside.far (set c.self.inside.edges.edges c.args.number c.args.edge)
found c = found-changed c.self.inside.far c.self.inside.edges.edges (set c.self.inside.edges.edges c.args.number c.args.edge) (owners_stay c) (targets_stay c) c.self.invariant.1.0

-- what is so of the edges with this one in its place is so of what `set` leaves
written : (c : After-set) (P : List (Actor × Actor) → List Edge → Type 0) → P c.self.inside.edges.pairs (set c.self.inside.edges.edges c.args.number c.args.edge) → P c.set.new.self.pairs c.set.new.self.edges
written c P so = subst (P c.set.new.self.pairs) (sym c.set.ensures.edges) (subst (λ pairs. P pairs (set c.self.inside.edges.edges c.args.number c.args.edge)) (sym c.set.ensures.pairs) so)

beq-same : (a b : Bool) → beq a b ≡ true → a ≡ b
beq-same true true same = refl
beq-same true false same = absurd (false≢true same)
beq-same false true same = absurd (false≢true same)
beq-same false false same = refl

-- ---- the lists of its places

from_is : (c : After-from-from) → c.from-from.result.now ≡ ends_from c.self.inside.edges.edges c.args.edge.owner
from_is c =
    let places = c.self.inside.places.items in
    let some = subst (λ (t : Edges). c.args.number < length t.edges) (sym c.self.view_is) c.requires.some in
    let owner = subst (λ (t : Edges). c.args.edge.owner ≡ (edge_at t c.args.number).owner) (sym c.self.view_is) c.requires.owner in
    let end : c.args.edge.owner < length places = subst (λ n. n < length places) (sym owner) (All-get_or (λ e. (e.owner < length places) × (e.target < length places)) c.self.inside.edges.edges c.args.number no_edge some c.self.invariant.0.ends).0 in
    list-read from_of (ends_from c.self.inside.edges.edges) places c.args.edge.owner c.index.result.now c.from-from.result.now end c.index.ensures c.from-from.ensures c.self.invariant.0.from

to_is : (c : After-to-to) → c.to-to.result.now ≡ ends_to c.self.inside.edges.edges c.args.edge.target
to_is c =
    let places = c.self.inside.places.items in
    let some = subst (λ (t : Edges). c.args.number < length t.edges) (sym c.self.view_is) c.requires.some in
    let target = subst (λ (t : Edges). c.args.edge.target ≡ (edge_at t c.args.number).target) (sym c.self.view_is) c.requires.target in
    let end : c.args.edge.target < length places = subst (λ n. n < length places) (sym target) (All-get_or (λ e. (e.owner < length places) × (e.target < length places)) c.self.inside.edges.edges c.args.number no_edge some c.self.invariant.0.ends).1 in
    list-read to_of (ends_to c.self.inside.edges.edges) places c.args.edge.target c.index-2.result.now c.to-to.result.now end c.index-2.ensures c.to-to.ensures c.self.invariant.0.to

-- ---- the goals

pub invariant_of-self : goal.invariant_of-self
invariant_of-self c =
    let all = goal.at.invariant_of-self c in
    let here = all.After-get-old in
    let same : is_positive (get_or c.self.inside.edges.edges c.args.number no_edge) ≡ is_positive c.args.edge = ap is_positive (sym c.get-old.ensures) ∙ sym c.is_positive.ensures ∙ beq-same c.is_positive.result c.is_positive-counts.result c.if-is_positive-counts.true ∙ c.is_positive-counts.ensures in
    written all.After-set (λ pairs edges. IsTable pairs edges c.self.inside.places.items × (AreFound c.self.inside.far edges × ArePositiveKept edges c.self.inside.by_owner c.self.inside.by_target)) (
      table here,
      (
        found here,
        record {
          from = parted-same owner_of target_of refl c.self.inside.edges.edges c.args.number c.args.edge (inside here) refl (owners_stay here) (targets_stay here) c.self.inside.by_owner same c.self.invariant.1.1.from;
          to = parted-same target_of owner_of refl c.self.inside.edges.edges c.args.number c.args.edge (inside here) refl (targets_stay here) (owners_stay here) c.self.inside.by_target same c.self.invariant.1.1.to;
        },
      ),
    )

pub set-requires-2-clause-rising : goal.set-requires-2-clause-rising
set-requires-2-clause-rising c =
    list-rising owner_of target_of refl c.self.inside.edges.edges c.args.edge.owner c.from-from.result.now (from_is (goal.at.set-requires-2-clause-rising c).After-from-from)

pub set-requires-2-clause-among : goal.set-requires-2-clause-among
set-requires-2-clause-among c =
    let here = goal.at.set-requires-2-clause-among c in
    subst (λ ns. IsAmong c.args.number (numbers_in ns)) (sym (from_is here.After-from-from))
    (listed_back owner_of target_of refl c.self.inside.edges.edges c.args.edge.owner c.args.number (inside here.After-get-old, sym (owner_is here.After-get-old)))

pub set-requires-2-clause-few : goal.set-requires-2-clause-few
set-requires-2-clause-few c =
    let few = list-few owner_of target_of refl c.self.inside.edges.edges c.args.edge.owner c.from-from.result.now (from_is (goal.at.set-requires-2-clause-few c).After-from-from) in
    let bound = c.self.invariant.0.few_edges in
    omega arith

pub set-requires-2-clause-kept : goal.set-requires-2-clause-kept
set-requires-2-clause-kept c = (
  is_positive_at c.self.inside.edges.edges,
  subst (λ ns. IsKeptOf ns (is_positive_at c.self.inside.edges.edges) (kept_of c.self.inside.by_owner c.args.edge.owner)) (sym (from_is (goal.at.set-requires-2-clause-kept c).After-from-from))
      (c.self.invariant.1.1.from c.args.edge.owner),
)

pub set-requires-3-clause-rising : goal.set-requires-3-clause-rising
set-requires-3-clause-rising c =
    list-rising target_of owner_of refl c.self.inside.edges.edges c.args.edge.target c.to-to.result.now (to_is (goal.at.set-requires-3-clause-rising c).After-to-to)

pub set-requires-3-clause-among : goal.set-requires-3-clause-among
set-requires-3-clause-among c =
    let here = goal.at.set-requires-3-clause-among c in
    subst (λ ns. IsAmong c.args.number (numbers_in ns)) (sym (to_is here.After-to-to))
    (listed_back target_of owner_of refl c.self.inside.edges.edges c.args.edge.target c.args.number (inside here.After-get-old, sym (target_is here.After-get-old)))

pub set-requires-3-clause-few : goal.set-requires-3-clause-few
set-requires-3-clause-few c =
    let few = list-few target_of owner_of refl c.self.inside.edges.edges c.args.edge.target c.to-to.result.now (to_is (goal.at.set-requires-3-clause-few c).After-to-to) in
    let bound = c.self.invariant.0.few_edges in
    omega arith

pub set-requires-3-clause-kept : goal.set-requires-3-clause-kept
set-requires-3-clause-kept c = (
  is_positive_at c.self.inside.edges.edges,
  subst (λ ns. IsKeptOf ns (is_positive_at c.self.inside.edges.edges) (kept_of c.self.inside.by_target c.args.edge.target)) (sym (to_is (goal.at.set-requires-3-clause-kept c).After-to-to))
      (c.self.invariant.1.1.to c.args.edge.target),
)

pub invariant_of-self-2 : goal.invariant_of-self-2
invariant_of-self-2 c =
    let all = goal.at.invariant_of-self-2 c in
    let here = all.After-get-old in
    let edges = c.self.inside.edges.edges in
    let sign : c.is_positive-counts.result ≡ is_positive c.args.edge = c.is_positive-counts.ensures in
    written all.After-set (λ pairs edges. IsTable pairs edges c.self.inside.places.items × (AreFound c.self.inside.far edges × ArePositiveKept edges c.set-2.new.self c.set-3.new.self)) (
      table here,
      (
        found here,
        record {
          from = parted-set owner_of target_of refl edges c.args.number c.args.edge (inside here) refl (owners_stay here) (targets_stay here) c.self.inside.by_owner c.set-2.new.self c.args.edge.owner c.from-from.result.now (from_is all.After-from-from) (sym (owner_is here)) c.self.invariant.1.1.from
              (λ before after at. c.set-2.ensures.kept before after (subst (CountsAt before after c.args.number) (sym sign) at)) c.set-2.ensures.others;
          to = parted-set target_of owner_of refl edges c.args.number c.args.edge (inside here) refl (targets_stay here) (owners_stay here) c.self.inside.by_target c.set-3.new.self c.args.edge.target c.to-to.result.now (to_is all.After-to-to) (sym (target_is here)) c.self.invariant.1.1.to
              (λ before after at. c.set-3.ensures.kept before after (subst (CountsAt before after c.args.number) (sym sign) at)) c.set-3.ensures.others;
        },
      ),
    )
