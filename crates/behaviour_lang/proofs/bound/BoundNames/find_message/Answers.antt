use Rattle.std.proofs.Common.{refl, sym, ◌∙◌, arith}
use Rattle.behaviour_lang.proofs.HeldLaws.{bound-flagged}
use Rattle.behaviour_lang.proofs.bound.BoundNames.find_message.Goals as goal

pub returns-then-has_flag : goal.returns-then-has_flag
returns-then-has_flag c =
    let names = c.args.self.now in
    c.copied.ensures ∙ c.get.ensures ∙ sym (bound-flagged c.args.k 0 c.args.k names.refs names.flags names.locals (omega arith) ∙ rw (← c.if-has_flag.ensures) refl)

pub returns-else-has_flag : goal.returns-else-has_flag
returns-else-has_flag c =
    let names = c.args.self.now in
    sym (bound-flagged c.args.k 0 c.args.k names.refs names.flags names.locals (omega arith) ∙ rw (← c.if-has_flag.ensures) refl)
