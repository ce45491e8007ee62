use Rattle.std.proofs.Common.{◌≡◌, false, sym, ◌∙◌, ap}
use Rattle.history_model.specs.State.{is_up}
use Rattle.history_model.specs.Story.{Story}
use Rattle.cluster_round.proofs.HandLemmas.{none-handed}
use Rattle.cluster_round.proofs.handing.hand_from.Goals as goal

pub returns-clause-ok : goal.returns-clause-ok
returns-clause-ok c =
    let s = c.args.course.now in
    let down : is_up c.args.to s.past ≡ false = ap (λ (x : Story). is_up c.args.to x.past) (sym c.world.ensures) ∙ sym c.is_up.ensures ∙ c.if-is_up.false in
    none-handed s.cluster c.args.to c.args.origin s.past down
