use Rattle.std.proofs.Common.{◌∙◌, ap, reverse, sym}
use Rattle.history_model.specs.declared.events.Event.{Event}
use Rattle.quiet_check.specs.Plain.{is_missing}
use Rattle.quiet_check.proofs.links.is_message_missing.Goals as goal

pub returns-in-Send : goal.returns-in-Send
returns-in-Send c =
    c.is_send_missing.ensures ∙ ap (λ (e : Event). is_missing (reverse c.args.events.now) e (reverse c.args.earlier.now)) (sym c.in-Send.is)
