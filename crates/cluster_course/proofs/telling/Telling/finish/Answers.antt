use Rattle.std.proofs.Common.{◌≡◌, true, length, rules, ◌∙◌, ap}
use Rattle.std.specs.Result.{is_ok}
use Rattle.history_model.specs.Story.{Story}
use Rattle.cluster_course.proofs.Outcomes.{on-ok}
use Rattle.cluster_course.proofs.TellingLemmas.{telling-ends}
use Rattle.cluster_course.proofs.telling.Telling.finish.Goals as goal

pub returns-clause-ok : goal.returns-clause-ok
returns-clause-ok c =
    let s = c.args.collected.now in
    let ok : is_ok c.append_end.result ≡ true = search rules in
    telling-ends s c.args.self.now.has_swept c.args.self.now.text.items c.add_due.new.self.text.items c.append_end.new.out.items c.len-events.result c.stopped.result
    c.requires c.in_ok-add_due.ensures.ok (on-ok c.append_end.result _ ok c.append_end.ensures.ok)
    (c.len-events.ensures ∙ ap (λ (x : Story). length x.past) c.world.ensures) c.stopped.ensures
