use Rattle.std.proofs.Common.{◌<◌, ◌++◌, ℕ, List, [], ◌∷◌, length, refl, subst, sym}
use Rattle.std.specs.List.{IsDistinct}
use Rattle.edge_table.specs.Far.{IsFarRemoved}
use Rattle.edge_table.specs.Partition.{AreParted, Kept}
use Rattle.edge_table.specs.Table.{Edges, is_positive_at, same_pair}
use Rattle.edge_table.specs.declared.table.Edge.{Edge}
use Rattle.edge_table.proofs.EndsLemmas.{ends_at}
use Rattle.edge_table.proofs.FoundLemmas.{found-removed}
use Rattle.edge_table.proofs.IndexLemmas.{distinct-taken}
use Rattle.edge_table.proofs.PositiveLemmas.{parted-forgotten}
use Rattle.edge_table.proofs.TableLemmas.{one_less, owner_of, table-edge_removed, target_of}
use Rattle.edge_table.proofs.table.EdgeTable.remove_last_edge.Goals as goal

pub invariant_of-self : goal.invariant_of-self
invariant_of-self c =
    let some = subst (λ (t : Edges). 0 < length t.edges) (sym c.self.view_is) c.requires in
    let last = c.in-Some.edge in
    let left = c.pop.new.self.edges in
    let distinct = subst (IsDistinct same_pair) (sym c.pop.ensures.pairs) (distinct-taken _ c.self.inside.edges.pairs c.self.invariant.0.distinct) in
    let fewer = one_less c.self.inside.edges.pairs c.pop.new.self.pairs c.self.inside.edges.edges c.self.inside.places.items c.self.invariant.0 some c.pop.ensures.pairs in
    let table = table-edge_removed c.self.inside.edges.pairs c.pop.new.self.pairs left c.self.inside.edges.edges c.self.inside.places.items last c.pop_from.new.self c.index_mut.result.now c.pop_to.new.self c.index_mut-in-Some.result.now c.self.invariant.0 c.in-Some.ensures.edges distinct fewer c.index_mut.ensures.value c.pop_from.ensures.from c.pop_from.ensures.to c.index_mut-in-Some.ensures.value c.pop_to.ensures.to c.pop_to.ensures.from in
    let removed = subst (IsFarRemoved c.self.inside.far c.remove.new.self last.owner last.target) c.len-number.ensures c.remove.ensures in (
      table,
      (
        found-removed c.self.inside.far c.remove.new.self left c.self.inside.edges.edges last c.in-Some.ensures.edges removed c.self.invariant.1.0,
        record {
          from = parted-forgotten owner_of target_of refl c.pop.new.self.edges c.in-Some.edge c.self.inside.by_owner c.forget.new.self (was owner_of target_of c.self.inside.by_owner c.self.invariant.1.1.from) c.forget.ensures.none c.forget.ensures.others;
          to = parted-forgotten target_of owner_of refl c.pop.new.self.edges c.in-Some.edge c.self.inside.by_target c.forget-in-Some.new.self (was target_of owner_of c.self.inside.by_target c.self.invariant.1.1.to) c.forget-in-Some.ensures.none c.forget-in-Some.ensures.others;
        },
      ),
    )
  where
    was : (end other : Edge → ℕ) (kept : Kept) → AreParted (ends_at end other c.self.inside.edges.edges) (is_positive_at c.self.inside.edges.edges) kept
        → AreParted (ends_at end other (c.pop.new.self.edges ++ c.in-Some.edge ∷ [])) (is_positive_at (c.pop.new.self.edges ++ c.in-Some.edge ∷ [])) kept
    was end other kept = subst (λ (es : List Edge). AreParted (ends_at end other es) (is_positive_at es) kept) c.in-Some.ensures.edges
