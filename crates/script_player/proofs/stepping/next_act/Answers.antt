use Rattle.script_player.proofs.Work.{work-smaller}
use Rattle.script_player.proofs.stepping.next_act.Goals as goal

pub loop-act-smaller : goal.loop-act-smaller
loop-act-smaller c =
    work-smaller c.args.code.now c.in_ok-act.field-0 c.loop-act.turn c.next_step.new.turn c.in-Work.steps c.in_ok-act.ensures.made c.in-Work.is
