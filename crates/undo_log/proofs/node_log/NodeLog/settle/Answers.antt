use Rattle.std.proofs.Common.{◌+◌, ◌<◌, subst, sym}
use Rattle.std.proofs.ByRecursion.{All-append}
use Rattle.std.specs.List.{AllByRecursion}
use Rattle.undo_log.specs.declared.corrections.Correction.{Correction}
use Rattle.undo_log.specs.declared.corrections.Side.TheVariants.{Admitted, Told}
use Rattle.undo_log.proofs.NotedLemmas.{rows-stand}
use Rattle.undo_log.proofs.node_log.NodeLog.settle.Goals as goal

pub add_up-requires-clause-stand : goal.add_up-requires-clause-stand
add_up-requires-clause-stand c =
    let told = rows-stand Told c.messages.result.now c.pairs.result.now c.messages.ensures.stand c.pairs.ensures.stand in
    let admitted = rows-stand Admitted c.messages-2.result.now c.pairs-2.result.now c.messages-2.ensures.stand c.pairs-2.ensures.stand in
    let none = subst (AllByRecursion (λ (r : Correction). 0 < r.told + r.admitted)) (sym c.new-rows.ensures.items) tt in
    let first = subst (AllByRecursion (λ (r : Correction). 0 < r.told + r.admitted)) (sym c.in_ok-push_rows.ensures) (All-append (λ (r : Correction). 0 < r.told + r.admitted) _ _ none told) in
    subst (AllByRecursion (λ (r : Correction). 0 < r.told + r.admitted)) (sym c.in_ok-push_rows-2.ensures) (All-append (λ (r : Correction). 0 < r.told + r.admitted) _ _ first admitted)
