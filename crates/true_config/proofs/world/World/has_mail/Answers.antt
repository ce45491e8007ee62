use Rattle.std.proofs.Common.{◌∙◌, ap, rules}
use Rattle.std.specs.Prelude.{nat_lt}
use Rattle.true_config.proofs.Readings.{some-mail}
use Rattle.true_config.proofs.world.World.has_mail.Goals as goal

pub returns : goal.returns
returns c = ap (nat_lt 0) (c.mail.ensures.stands c.args.self.now.cluster c.args.self.now.past (search rules)) ∙ some-mail _
