use Rattle.std.proofs.Common.{IsPermutation, subst, sym}
use Rattle.shadow_graph.proofs.OwnersLemmas.{owners-stop, sorted-owners}
use Rattle.shadow_graph.specs.Owners.{AreOwners}
use Rattle.shadow_graph.proofs.graph.ShadowGraph.owners.Goals as goal

pub returns-clause-owners : goal.returns-clause-owners
returns-clause-owners c =
    let sorted = c.sort_unstable.new.self.items in
    let moved = subst (λ bs. IsPermutation bs sorted) c.in_ok-owners.ensures.owners c.sort_unstable.ensures.permutation in
    subst (AreOwners c.args.self.now c.args.actor) (sym c.from_vec.ensures) (sorted-owners c.args.self.now c.owners_by_place.ensures.placed c.args.actor sorted moved c.sort_unstable.ensures.sorted)

pub returns-clause-stop : goal.returns-clause-stop
returns-clause-stop c =
    let sorted = c.sort_unstable.new.self.items in
    let moved = subst (λ bs. IsPermutation bs sorted) c.in_ok-owners.ensures.owners c.sort_unstable.ensures.permutation in
    let are = sorted-owners c.args.self.now c.owners_by_place.ensures.placed c.args.actor sorted moved c.sort_unstable.ensures.sorted in
    owners-stop c.args.self.now c.owners_by_place.ensures.placed c.args.actor c.from_vec.result (subst (AreOwners c.args.self.now c.args.actor) (sym c.from_vec.ensures) are)
