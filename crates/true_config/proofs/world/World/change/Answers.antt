use Rattle.std.proofs.Common.{cond, refl, subst, ap}
use Rattle.std.proofs.lemmas.Result.{IfOk-weaker}
use Rattle.true_config.specs.Applying.{CarriesFew, told_by_number}
use Rattle.true_config.specs.Steps.{MayFollow}
use Rattle.true_config.specs.declared.applied.Told.TheVariants.{Admitted, Born, Discarded, Taken}
use Rattle.true_config.proofs.Answering.{came-told, changed, changed-plain, first-taken, sent-told}
use Rattle.true_config.proofs.world.World.change.Goals as goal

pub seed-requires : goal.seed-requires
seed-requires c = subst (λ e. MayFollow e c.args.self.now) c.in-Seed.is c.requires.may

pub returns-in-Seed : goal.returns-in-Seed
returns-in-Seed c =
    changed c.args.event.now _ c.args.self.now c.seed.new.self (λ a. Born a) c.seed.result c.born.result c.in-Seed.is c.born.ensures
    (IfOk-weaker c.seed.result _ _ (λ a is. ap Born is) c.seed.ensures.born) c.seed.ensures.ok c.seed.ensures.err

pub tie-requires : goal.tie-requires
tie-requires c = subst (λ e. MayFollow e c.args.self.now) c.in-Tie.is c.requires.may

pub returns-in-Tie : goal.returns-in-Tie
returns-in-Tie c = changed-plain c.args.event.now _ c.args.self.now c.tie.new.self c.tie.result c.plain.result c.in-Tie.is refl c.plain.ensures c.tie.ensures.ok c.tie.ensures.err

pub wake-requires : goal.wake-requires
wake-requires c = subst (λ e. MayFollow e c.args.self.now) c.in-Wake.is c.requires.may

pub returns-in-Wake : goal.returns-in-Wake
returns-in-Wake c = changed-plain c.args.event.now _ c.args.self.now c.wake.new.self c.wake.result c.plain-in-Wake.result c.in-Wake.is refl c.plain-in-Wake.ensures c.wake.ensures.ok c.wake.ensures.err

pub take-requires : goal.take-requires
take-requires c = subst (λ e. MayFollow e c.args.self.now) c.in-Take.is c.requires.may

pub returns-in-Take : goal.returns-in-Take
returns-in-Take c =
    changed c.args.event.now _ c.args.self.now c.take.new.self (λ refs. Taken refs) c.take.result c.taken.result c.in-Take.is c.taken.ensures
    (IfOk-weaker c.take.result _ _ (λ refs is. ap Taken (first-taken _ refs is)) c.take.ensures.refs) c.take.ensures.ok c.take.ensures.err

pub spawn-requires : goal.spawn-requires
spawn-requires c = subst (λ e. MayFollow e c.args.self.now) c.in-Spawn.is c.requires.may

pub returns-in-Spawn : goal.returns-in-Spawn
returns-in-Spawn c =
    changed c.args.event.now _ c.args.self.now c.spawn.new.self (λ a. Born a) c.spawn.result c.born-in-Spawn.result c.in-Spawn.is c.born-in-Spawn.ensures
    (IfOk-weaker c.spawn.result _ _ (λ a is. ap Born is) c.spawn.ensures.born) c.spawn.ensures.ok c.spawn.ensures.err

pub send-requires-clause-may : goal.send-requires-clause-may
send-requires-clause-may c = subst (λ e. MayFollow e c.args.self.now) c.in-Send.is c.requires.may

pub send-requires-clause-few : goal.send-requires-clause-few
send-requires-clause-few c = subst CarriesFew c.in-Send.is c.requires.few

pub returns-in-Send : goal.returns-in-Send
returns-in-Send c =
    changed c.args.event.now _ c.args.self.now c.send.new.self told_by_number c.send.result c.sent.result c.in-Send.is c.sent.ensures
    (sent-told c.in-Send.from c.in-Send.to c.args.self.now.past c.send.result c.send.ensures.local c.send.ensures.number) c.send.ensures.ok c.send.ensures.err

pub drop_reference-requires : goal.drop_reference-requires
drop_reference-requires c = subst (λ e. MayFollow e c.args.self.now) c.in-Drop.is c.requires.may

pub returns-in-Drop : goal.returns-in-Drop
returns-in-Drop c = changed-plain c.args.event.now _ c.args.self.now c.drop_reference.new.self c.drop_reference.result c.plain-in-Drop.result c.in-Drop.is refl c.plain-in-Drop.ensures c.drop_reference.ensures.ok c.drop_reference.ensures.err

pub retire-requires : goal.retire-requires
retire-requires c = subst (λ e. MayFollow e c.args.self.now) c.in-Retire.is c.requires.may

pub returns-in-Retire : goal.returns-in-Retire
returns-in-Retire c = changed-plain c.args.event.now _ c.args.self.now c.retire.new.self c.retire.result c.plain-in-Retire.result c.in-Retire.is refl c.plain-in-Retire.ensures c.retire.ensures.ok c.retire.ensures.err

pub rest-requires : goal.rest-requires
rest-requires c = subst (λ e. MayFollow e c.args.self.now) c.in-Rest.is c.requires.may

pub returns-in-Rest : goal.returns-in-Rest
returns-in-Rest c = changed-plain c.args.event.now _ c.args.self.now c.rest.new.self c.rest.result c.plain-in-Rest.result c.in-Rest.is refl c.plain-in-Rest.ensures c.rest.ensures.ok c.rest.ensures.err

pub flush-requires : goal.flush-requires
flush-requires c = subst (λ e. MayFollow e c.args.self.now) c.in-Flush.is c.requires.may

pub returns-in-Flush : goal.returns-in-Flush
returns-in-Flush c = changed-plain c.args.event.now _ c.args.self.now c.flush.new.self c.flush.result c.plain-in-Flush.result c.in-Flush.is refl c.plain-in-Flush.ensures c.flush.ensures.ok c.flush.ensures.err

pub window-requires : goal.window-requires
window-requires c = subst (λ e. MayFollow e c.args.self.now) c.in-Window.is c.requires.may

pub returns-in-Window : goal.returns-in-Window
returns-in-Window c = changed-plain c.args.event.now _ c.args.self.now c.window.new.self c.window.result c.plain-in-Window.result c.in-Window.is refl c.plain-in-Window.ensures c.window.ensures.ok c.window.ensures.err

pub admit-requires : goal.admit-requires
admit-requires c = subst (λ e. MayFollow e c.args.self.now) c.in-Admit.is c.requires.may

pub returns-in-Admit : goal.returns-in-Admit
returns-in-Admit c =
    changed c.args.event.now _ c.args.self.now c.admit.new.self (λ first. cond first Admitted Discarded) c.admit.result c.came.result c.in-Admit.is c.came.ensures
    (IfOk-weaker c.admit.result _ _ (λ first is. came-told first _ is) c.admit.ensures.first) c.admit.ensures.ok c.admit.ensures.err

pub lose-requires : goal.lose-requires
lose-requires c = subst (λ e. MayFollow e c.args.self.now) c.in-Lose.is c.requires.may

pub returns-in-Lose : goal.returns-in-Lose
returns-in-Lose c = changed-plain c.args.event.now _ c.args.self.now c.lose.new.self c.lose.result c.plain-in-Lose.result c.in-Lose.is refl c.plain-in-Lose.ensures c.lose.ensures.ok c.lose.ensures.err

pub repeat-requires : goal.repeat-requires
repeat-requires c = subst (λ e. MayFollow e c.args.self.now) c.in-Repeat.is c.requires.may

pub returns-in-Repeat : goal.returns-in-Repeat
returns-in-Repeat c = changed-plain c.args.event.now _ c.args.self.now c.repeat.new.self c.repeat.result c.plain-in-Repeat.result c.in-Repeat.is refl c.plain-in-Repeat.ensures c.repeat.ensures.ok c.repeat.ensures.err

pub crash-requires : goal.crash-requires
crash-requires c = subst (λ e. MayFollow e c.args.self.now) c.in-Crash.is c.requires.may

pub returns-in-Crash : goal.returns-in-Crash
returns-in-Crash c = changed-plain c.args.event.now _ c.args.self.now c.crash.new.self c.crash.result c.plain-in-Crash.result c.in-Crash.is refl c.plain-in-Crash.ensures c.crash.ensures.ok c.crash.ensures.err

pub remove-requires : goal.remove-requires
remove-requires c = subst (λ e. MayFollow e c.args.self.now) c.in-Remove.is c.requires.may

pub returns-in-Remove : goal.returns-in-Remove
returns-in-Remove c = changed-plain c.args.event.now _ c.args.self.now c.remove.new.self c.remove.result c.plain-in-Remove.result c.in-Remove.is refl c.plain-in-Remove.ensures c.remove.ensures.ok c.remove.ensures.err

pub hand-requires : goal.hand-requires
hand-requires c = subst (λ e. MayFollow e c.args.self.now) c.in-Hand.is c.requires.may

pub returns-in-Hand : goal.returns-in-Hand
returns-in-Hand c = changed-plain c.args.event.now _ c.args.self.now c.hand.new.self c.hand.result c.plain-in-Hand.result c.in-Hand.is refl c.plain-in-Hand.ensures c.hand.ensures.ok c.hand.ensures.err
