use Rattle.std.proofs.Common.{◌++◌, ◌∷◌, ◌∙◌, [], ap, subst, sym}
use Rattle.edge_table.specs.Partition.{IsParted}
use Rattle.edge_table.proofs.PartitionLemmas.{parted-push}
use Rattle.edge_table.proofs.partition.Partition.push.Goals as goal

pub returns-clause-ok : goal.returns-clause-ok
returns-clause-ok c = λ ends counts parted free.
    let order = c.self.inside.order.items in
    let places = c.self.inside.places.items in
    let indices = c.self.inside.indices.items in
    let front = c.self.inside.front in
    let last = c.len-last.result in
    let was : IsParted ends counts (record { order = order; places = places; indices = indices; front = front }) = subst (IsParted ends counts) (sym c.self.view_is) parted in
    let pushed = parted-push ends counts order places indices front c.args.end last was free (c.len-last.ensures ∙ c.self.inside.order.ok.0) in
    let in_order = c.push_reserved.ensures.items ∙ ap (λ xs. xs ++ c.args.end ∷ []) c.reserve.ensures.items in
    let in_places = c.push_reserved-2.ensures.items ∙ ap (λ xs. xs ++ last ∷ []) c.reserve-2.ensures.items in
    let in_indices = c.push_reserved-3.ensures.items ∙ ap (λ xs. xs ++ last ∷ []) c.reserve-3.ensures.items in
    subst (λ xs. IsParted (ends ++ c.args.end ∷ []) counts (record { order = xs; places = c.push_reserved-2.new.self.items; indices = c.push_reserved-3.new.self.items; front = front })) (sym in_order)
    (subst (λ xs. IsParted (ends ++ c.args.end ∷ []) counts (record { order = order ++ c.args.end ∷ []; places = xs; indices = c.push_reserved-3.new.self.items; front = front })) (sym in_places)
    (subst (λ xs. IsParted (ends ++ c.args.end ∷ []) counts (record { order = order ++ c.args.end ∷ []; places = places ++ last ∷ []; indices = xs; front = front })) (sym in_indices) pushed))
