use Rattle.std.proofs.Common.{take}
use Rattle.cluster_course.proofs.TellingLemmas.{telling-more}
use Rattle.cluster_course.proofs.course.happen.Goals as goal

pub returns-in-Ok-clause-telling : goal.returns-in-Ok-clause-telling
returns-in-Ok-clause-telling c =
    let text = c.args.telling.now.text.items in
    telling-more c.args.event c.args.collected.now c.follow.new.self c.args.telling.now.has_swept c.is_sweep-has_swept.result (take c.args.start text) text
    c.requires.telling c.requires.line c.in-Ok.ensures.ok c.is_sweep-has_swept.ensures
