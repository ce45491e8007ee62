use Rattle.std.proofs.Common.{◌≡◌, reverse, ◌∙◌, ap, sym}
use Rattle.std.proofs.lemmas.List.{reverse-reverse}
use Rattle.history_model.specs.Graph.{holds_actor}
use Rattle.quiet_check.specs.Plain.{plain_quiescent}
use Rattle.quiet_check.proofs.QuietSets.{quiescent_are_found}
use Rattle.quiet_check.proofs.quiescence.is_quiescent.Goals as goal

pub returns-in-Ok : goal.returns-in-Ok
returns-in-Ok c =
    let h = c.args.history.now in
    let past : reverse c.as_slice.result.now ≡ h.past = ap reverse (c.as_slice.ensures.value ∙ c.in_ok-events.ensures) ∙ reverse-reverse h.past in
    let plain : c.in-Ok.quiescent ≡ holds_actor (plain_quiescent h.cluster h.past) c.args.actor = rw (past, c.of.ensures) at c.in-Ok.ensures in
    let found = quiescent_are_found h.cluster h.past c.args.actor in
    (λ t. found.0 (sym plain ∙ t), λ quiescent. plain ∙ found.1 quiescent)
