use Rattle.std.proofs.Common.{◌==◌, ◌||◌, ◌∙◌, ap}
use Rattle.std.specs.List.{list_any}
use Rattle.collector.proofs.collector.remember.Goals as goal

pub returns-clause-sets : goal.returns-clause-sets
returns-clause-sets c = λ k.
    c.set_all.ensures k ∙ ap (λ v. v || list_any (λ a. a.serial == k) c.args.found.now) (c.in_ok-make_room.ensures.same k)
