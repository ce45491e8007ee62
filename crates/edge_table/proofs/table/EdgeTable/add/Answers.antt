use Rattle.std.proofs.Common.{◌≡◌, ◌<◌, List, [], ◌∷◌, ◌++◌, None, ap, length, pos, position, refl, set, subst, sym, ◌∙◌, arith}
use Rattle.std.proofs.lemmas.Bool.{false≢true}
use Rattle.std.proofs.lemmas.List.{length-append, length-set}
use Rattle.std.specs.List.{IsDistinct}
use Rattle.std.specs.Result.{is_err}
use Rattle.crgc_ids.proofs.SuccessLaws.{at_success}
use Rattle.crgc_ids.specs.Actor.{Actor}
use Rattle.edge_table.specs.Far.{AreFound, IsFarAdded}
use Rattle.edge_table.specs.Partition.{IsKeptOf, kept_of}
use Rattle.edge_table.specs.Table.{ArePositiveKept, Edges, IsTable, ends_from, ends_to, is_positive_at, same_pair}
use Rattle.edge_table.specs.declared.table.Edge.{Edge}
use Rattle.edge_table.proofs.FoundLemmas.{found-added, last-near, list-read, list-within}
use Rattle.edge_table.proofs.IndexLemmas.{distinct-pushed}
use Rattle.edge_table.proofs.PositiveLemmas.{kept-before, list-few, list-rising, parted-grown}
use Rattle.edge_table.proofs.TableLemmas.{from_of, owner_of, table-edge_added, target_of, to_of}
use Rattle.edge_table.proofs.table.EdgeTable.add.Goals as goal
use Rattle.edge_table.proofs.table.EdgeTable.add.Goals.{After-from, After-push_to, After-to}

-- the edge that comes last
abbrev added : After-push_to → Edge
added c = record { owner = c.args.owner_place; target = c.args.target_place; count = pos 0 }

edges_are : (c : After-push_to) → c.push.new.self.edges ≡ c.self.inside.edges.edges ++ added c ∷ []
edges_are c = c.push.ensures.edges ∙ ap (λ (es : List Edge). es ++ added c ∷ []) c.reserve.ensures.edges

pairs_are : (c : After-push_to) → c.push.new.self.pairs ≡ c.self.inside.edges.pairs ++ (c.args.owner, c.args.target) ∷ []
pairs_are c = c.push.ensures.pairs ∙ ap (λ (ps : List (Actor × Actor)). ps ++ (c.args.owner, c.args.target) ∷ []) c.reserve.ensures.pairs

-- the table with it
table_is : (c : After-push_to) → IsTable c.push.new.self.pairs c.push.new.self.edges (set (set c.reserve.new.places.items c.args.owner_place c.push_from.new.self) c.args.target_place c.push_to.new.self)
table_is c =
    let owner = subst (λ (t : Edges). c.args.owner_place < t.places) (sym c.self.view_is) c.requires.owner in
    let target = subst (λ (t : Edges). c.args.target_place < t.places) (sym c.self.view_is) c.requires.target in
    let new = subst (λ (t : Edges). position (same_pair (c.args.owner, c.args.target)) t.pairs ≡ None) (sym c.self.view_is) c.requires.new in
    let distinct = subst (IsDistinct same_pair) (sym (pairs_are c)) (distinct-pushed (c.args.owner, c.args.target) c.self.inside.edges.pairs new c.self.invariant.0.distinct) in
    let number : c.len-number.result ≡ length c.self.inside.edges.edges = c.len-number.ensures in
    let room : c.len-number.result < 4294967295 = c.if-number-ge4294967295.false in
    let more = ap length (pairs_are c) ∙ length-append c.self.inside.edges.pairs ((c.args.owner, c.args.target) ∷ []) in
    let table = table-edge_added c.self.inside.edges.pairs c.push.new.self.pairs c.self.inside.edges.edges c.self.inside.places.items c.reserve.new.places.items (added c) c.len-number.result c.push_from.new.self c.index_mut.result.now c.push_to.new.self c.index_mut-2.result.now c.self.invariant.0 c.reserve.ensures.places (owner, target) number (omega arith) distinct more c.index_mut.ensures.value c.push_from.ensures.from c.push_from.ensures.to c.index_mut-2.ensures.value c.push_to.ensures.to c.push_to.ensures.from in
    subst (λ (es : List Edge). IsTable c.push.new.self.pairs es (set (set c.reserve.new.places.items c.args.owner_place c.push_from.new.self) c.args.target_place c.push_to.new.self)) (sym (edges_are c)) table

-- each edge of it is found
found_is : (c : After-push_to) → AreFound c.push-put.new.self c.push.new.self.edges
found_is c =
    let owner = subst (λ (t : Edges). c.args.owner_place < t.places) (sym c.self.view_is) c.requires.owner in
    let target = subst (λ (t : Edges). c.args.target_place < t.places) (sym c.self.view_is) c.requires.target in
    let lists = c.reserve.ensures.places in
    let room_inside : c.args.owner_place < length c.reserve.new.places.items = (let long = lists.long in omega arith) in
    let room_inside_to : c.args.target_place < length c.reserve.new.places.items = (let long = lists.long in omega arith) in
    let froms = list-read from_of (ends_from c.self.inside.edges.edges) c.reserve.new.places.items c.args.owner_place c.index.result.now _ room_inside c.index.ensures refl (λ p. lists.from p ∙ c.self.invariant.0.from p) in
    let tos = list-read to_of (ends_to c.self.inside.edges.edges) c.reserve.new.places.items c.args.target_place c.index-2.result.now _ room_inside_to c.index-2.ensures refl (λ p. lists.to p ∙ c.self.invariant.0.to p) in
    let added_far = at_success _ c.push-put.result (λ e is. false≢true (sym c.if-is_err-2.false ∙ c.is_err-2.ensures.value ∙ ap is_err is)) c.push-put.ensures.ok in
    let near = last-near c.self.inside.edges.edges (added c) c.are_full-is_far.result _ _ froms tos c.are_full-is_far.ensures in
    subst (AreFound c.push-put.new.self) (sym (edges_are c))
    (found-added c.self.inside.far c.push-put.new.self c.self.inside.edges.edges (added c) c.are_full-is_far.result (subst (λ n. IsFarAdded c.self.inside.far c.push-put.new.self c.args.owner_place c.args.target_place n c.are_full-is_far.result) c.len-number.ensures added_far) near c.self.invariant.1.0)

-- ---- the lists of its places

from_is : (c : After-from) → IsTable c.push.new.self.pairs c.push.new.self.edges (set (set c.reserve.new.places.items c.args.owner_place c.push_from.new.self) c.args.target_place c.push_to.new.self) → c.from.result.now ≡ ends_from c.push.new.self.edges c.args.owner_place
from_is c table =
    let middle = set c.reserve.new.places.items c.args.owner_place c.push_from.new.self in
    let places = set middle c.args.target_place c.push_to.new.self in
    let owner = subst (λ (t : Edges). c.args.owner_place < t.places) (sym c.self.view_is) c.requires.owner in
    let long = c.reserve.ensures.places.long in
    let inside : c.args.owner_place < length places = (let one = length-set middle c.args.target_place c.push_to.new.self in let two = length-set c.reserve.new.places.items c.args.owner_place c.push_from.new.self in omega arith) in
    list-read from_of (ends_from c.push.new.self.edges) places c.args.owner_place c.index-3.result.now c.from.result.now inside c.index-3.ensures c.from.ensures table.from

to_is : (c : After-to) → IsTable c.push.new.self.pairs c.push.new.self.edges (set (set c.reserve.new.places.items c.args.owner_place c.push_from.new.self) c.args.target_place c.push_to.new.self) → c.to.result.now ≡ ends_to c.push.new.self.edges c.args.target_place
to_is c table =
    let middle = set c.reserve.new.places.items c.args.owner_place c.push_from.new.self in
    let places = set middle c.args.target_place c.push_to.new.self in
    let target = subst (λ (t : Edges). c.args.target_place < t.places) (sym c.self.view_is) c.requires.target in
    let long = c.reserve.ensures.places.long in
    let inside : c.args.target_place < length places = (let one = length-set middle c.args.target_place c.push_to.new.self in let two = length-set c.reserve.new.places.items c.args.owner_place c.push_from.new.self in omega arith) in
    list-read to_of (ends_to c.push.new.self.edges) places c.args.target_place c.index-4.result.now c.to.result.now inside c.index-4.ensures c.to.ensures table.to

number_is : (c : After-push_to) → length c.self.inside.edges.edges ≡ c.len-number.result
number_is c = sym c.len-number.ensures

-- ---- the goals

pub grow-requires-clause-rising : goal.grow-requires-clause-rising
grow-requires-clause-rising c =
    let all = goal.at.grow-requires-clause-rising c in
    list-rising owner_of target_of refl c.push.new.self.edges c.args.owner_place c.from.result.now (from_is all.After-from (table_is all.After-push_to))

pub grow-requires-clause-few : goal.grow-requires-clause-few
grow-requires-clause-few c =
    let all = goal.at.grow-requires-clause-few c in
    let table = table_is all.After-push_to in
    let few = list-few owner_of target_of refl c.push.new.self.edges c.args.owner_place c.from.result.now (from_is all.After-from table) in
    let bound = table.few_edges in
    omega arith

pub grow-requires-clause-within : goal.grow-requires-clause-within
grow-requires-clause-within c = λ n among.
    let all = goal.at.grow-requires-clause-within c in
    (list-within owner_of target_of refl c.push.new.self.edges c.args.owner_place c.from.result.now (from_is all.After-from (table_is all.After-push_to)) n among)

pub grow-requires-clause-kept : goal.grow-requires-clause-kept
grow-requires-clause-kept c =
    let all = goal.at.grow-requires-clause-kept c in
    let edges = c.self.inside.edges.edges in
    let e = added all.After-push_to in
    let is = subst (λ (es : List Edge). c.from.result.now ≡ ends_from es c.args.owner_place) (edges_are all.After-push_to) (from_is all.After-from (table_is all.After-push_to)) in
    let before = kept-before owner_of target_of refl edges e c.self.inside.by_owner c.from.result.now is c.self.invariant.1.1.from in (
      before.0,
      subst (λ n. c.from.result.now ≡ before.0 ++ (c.args.target_place, n) ∷ []) (number_is all.After-push_to) before.1,
      subst (λ (es : List Edge). IsKeptOf before.0 (is_positive_at es) (kept_of c.self.inside.by_owner c.args.owner_place)) (sym (edges_are all.After-push_to)) before.2,
    )

pub grow-requires-2-clause-rising : goal.grow-requires-2-clause-rising
grow-requires-2-clause-rising c =
    let all = goal.at.grow-requires-2-clause-rising c in
    list-rising target_of owner_of refl c.push.new.self.edges c.args.target_place c.to.result.now (to_is all.After-to (table_is all.After-push_to))

pub grow-requires-2-clause-few : goal.grow-requires-2-clause-few
grow-requires-2-clause-few c =
    let all = goal.at.grow-requires-2-clause-few c in
    let table = table_is all.After-push_to in
    let few = list-few target_of owner_of refl c.push.new.self.edges c.args.target_place c.to.result.now (to_is all.After-to table) in
    let bound = table.few_edges in
    omega arith

pub grow-requires-2-clause-within : goal.grow-requires-2-clause-within
grow-requires-2-clause-within c = λ n among.
    let all = goal.at.grow-requires-2-clause-within c in
    (list-within target_of owner_of refl c.push.new.self.edges c.args.target_place c.to.result.now (to_is all.After-to (table_is all.After-push_to)) n among)

pub grow-requires-2-clause-kept : goal.grow-requires-2-clause-kept
grow-requires-2-clause-kept c =
    let all = goal.at.grow-requires-2-clause-kept c in
    let edges = c.self.inside.edges.edges in
    let e = added all.After-push_to in
    let is = subst (λ (es : List Edge). c.to.result.now ≡ ends_to es c.args.target_place) (edges_are all.After-push_to) (to_is all.After-to (table_is all.After-push_to)) in
    let before = kept-before target_of owner_of refl edges e c.self.inside.by_target c.to.result.now is c.self.invariant.1.1.to in (
      before.0,
      subst (λ n. c.to.result.now ≡ before.0 ++ (c.args.owner_place, n) ∷ []) (number_is all.After-push_to) before.1,
      subst (λ (es : List Edge). IsKeptOf before.0 (is_positive_at es) (kept_of c.self.inside.by_target c.args.target_place)) (sym (edges_are all.After-push_to)) before.2,
    )

pub invariant_of-self-2 : goal.invariant_of-self-2
invariant_of-self-2 c =
    let all = goal.at.invariant_of-self-2 c in
    let table = table_is all.After-push_to in
    let edges = c.self.inside.edges.edges in
    let e = added all.After-push_to in
    let are = edges_are all.After-push_to in
    let from = subst (λ (es : List Edge). c.from.result.now ≡ ends_from es c.args.owner_place) are (from_is all.After-from table) in
    let to = subst (λ (es : List Edge). c.to.result.now ≡ ends_to es c.args.target_place) are (to_is all.After-to table) in (
      table,
      (
        found_is all.After-push_to,
        subst (λ (es : List Edge). ArePositiveKept es c.grow.new.self c.grow-2.new.self) (sym are) (record {
          from = parted-grown owner_of target_of refl edges e c.self.inside.by_owner c.grow.new.self c.from.result.now from c.self.invariant.1.1.from
              (subst (λ (es : List Edge). IsKeptOf c.from.result.now (is_positive_at es) (kept_of c.grow.new.self c.args.owner_place)) are c.grow.ensures.kept) c.grow.ensures.others;
          to = parted-grown target_of owner_of refl edges e c.self.inside.by_target c.grow-2.new.self c.to.result.now to c.self.invariant.1.1.to
              (subst (λ (es : List Edge). IsKeptOf c.to.result.now (is_positive_at es) (kept_of c.grow-2.new.self c.args.target_place)) are c.grow-2.ensures.kept) c.grow-2.ensures.others;
        }),
      ),
    )

pub returns-clause-ok : goal.returns-clause-ok
returns-clause-ok c =
    let added : Edge = record { owner = c.args.owner_place; target = c.args.target_place; count = pos 0 } in
    let pairs = c.push.ensures.pairs ∙ ap (λ (ps : List (Actor × Actor)). ps ++ (c.args.owner, c.args.target) ∷ []) c.reserve.ensures.pairs in
    let edges = c.push.ensures.edges ∙ ap (λ (es : List Edge). es ++ added ∷ []) c.reserve.ensures.edges in
    let places = length-set (set c.reserve.new.places.items c.args.owner_place c.push_from.new.self) c.args.target_place c.push_to.new.self
    ∙ length-set c.reserve.new.places.items c.args.owner_place c.push_from.new.self ∙ c.reserve.ensures.places.long in
    rw (← c.self.view_is) (λ i. record { pairs = pairs i; edges = edges i; places = places i })
