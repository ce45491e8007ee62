use Rattle.std.proofs.Common.{◌≡◌, reverse, sym, ◌∙◌, ap}
use Rattle.std.proofs.lemmas.List.{reverse-reverse}
use Rattle.quiet_check.specs.Plain.{is_plain_quiet_point}
use Rattle.quiet_check.proofs.QuietPoints.{quiet_points_are_plain}
use Rattle.quiet_check.proofs.quiet_points.is_quiet_point.Goals as goal

pub returns-in-Ok : goal.returns-in-Ok
returns-in-Ok c =
    let h = c.args.history.now in
    let past : reverse c.as_slice.result.now ≡ h.past = ap reverse (c.as_slice.ensures.value ∙ c.in_ok-events.ensures) ∙ reverse-reverse h.past in
    let plain : c.in-Ok.quiet ≡ is_plain_quiet_point h.cluster c.args.node h.past = rw (past, c.of.ensures, c.get.ensures.number) at c.in-Ok.ensures in
    let points = quiet_points_are_plain h.cluster c.args.node h.past in
    (λ t. points.0 (sym plain ∙ t), λ quiet. plain ∙ points.1 quiet)
