use Rattle.std.proofs.Common.{◌≤◌, ◌+◌, Option, Some, None, IfNone, arith}
use Rattle.crgc_ids.specs.Actor.{Actor}
use Rattle.ready_actors.specs.Ready.{IsAbove, IsOfNone}
use Rattle.ready_actors.proofs.NextLemmas.{none-above}
use Rattle.ready_actors.proofs.ready.ReadyActors.above.Goals as goal

if_none : (o : Option Actor) (P Q : Type 0) → (P → Q) → IfNone o P → IfNone o Q
if_none None P Q weaker holds = weaker holds
if_none (Some a) P Q weaker holds = tt

pub returns-in-None-clause-none : goal.returns-in-None-clause-none
returns-in-None-clause-none c =
    let actors = c.args.self.now in
    let after = c.args.after in
    if_none c.first_from.result (IsOfNone actors (λ a. c.get.result + 1 ≤ a.node)) (IsOfNone actors (IsAbove (Some after)))
    (λ beyond. none-above actors after c.node.result (c.serial.result + 1) (c.get.result + 1) c.node.ensures (let same = c.serial.ensures.number in omega arith) (let number = c.get.ensures.number in let same = c.node-in-None.ensures in omega arith)
    c.in-None.ensures.none beyond)
    c.first_from.ensures.none
