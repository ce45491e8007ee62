use Rattle.std.proofs.Common.{◌≡◌, ◌⊎◌, ◌∙◌}
use Rattle.std.proofs.lemmas.Result.{IfOk-weaker}
use Rattle.operation_model.proofs.SoundCourses.{new-sound}
use Rattle.world_object.specs.State.{as_opening}
use Rattle.node_threads.specs.Collecting.{IsAllCollected, IsDown}
use Rattle.node_threads.proofs.RoundLemmas.{can-first, ended-since, over-first}
use Rattle.node_threads.proofs.collecting.collect.Goals as goal

pub all_done-requires : goal.all_done-requires
all_done-requires g c = record { lock_is = c.requires.lock; sound = (let lock = c.args.lock.now in new-sound (as_opening lock.start) c.requires.opening) }

pub collect_all-requires-clause-may : goal.collect_all-requires-clause-may
collect_all-requires-clause-may g c =
    let lock = c.args.lock.now in
    let asked = c.all_done.ensures.asked in
    can-first lock c.args.pass.now c.all_done.new.pass c.args.collector c.compact.new.self asked.0 c.requires.opening c.requires.collector c.compact.ensures
    (record { lock_is = c.requires.lock; sound = new-sound (as_opening lock.start) c.requires.opening }) asked.1

pub collect_all-requires-clause-over : goal.collect_all-requires-clause-over
collect_all-requires-clause-over g c =
    let asked = c.all_done.ensures.asked in
    over-first c.args.lock.now c.args.pass.now c.all_done.new.pass asked.0 c.in-Ok.over asked.1 c.in-Ok.ensures.own

pub returns-in-Ok-clause-done : goal.returns-in-Ok-clause-done
returns-in-Ok-clause-done g c =
    let lock = c.args.lock.now in
    let s = lock.start.script in
    let asked = c.all_done.ensures.asked in
    IfOk-weaker c.collect_all.result (λ d. IsAllCollected s c.all_done.new.pass c.collect_all.new.pass d ⊎ IsDown s c.collect_all.new.pass d)
    (λ d. IsAllCollected s c.args.pass.now c.collect_all.new.pass d ⊎ IsDown s c.collect_all.new.pass d)
    (λ d. ended-since s c.args.pass.now c.all_done.new.pass c.collect_all.new.pass c.args.pass.now.number asked.0 d asked.1.own) c.collect_all.ensures.done

pub returns-in-Ok-clause-node : goal.returns-in-Ok-clause-node
returns-in-Ok-clause-node g c =
    IfOk-weaker c.collect_all.result (λ d. d.node ≡ c.compact.new.self.node) (λ d. d.node ≡ c.args.collector.node) (λ d same. same ∙ c.compact.ensures.node) c.collect_all.ensures.node
