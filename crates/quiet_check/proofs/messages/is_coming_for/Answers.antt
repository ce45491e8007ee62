use Rattle.std.proofs.Common.{◌∙◌, ap, reverse, sym}
use Rattle.history_model.specs.declared.events.Event.{Event}
use Rattle.quiet_check.specs.Plain.{uses_coming}
use Rattle.quiet_check.proofs.messages.is_coming_for.Goals as goal

pub returns-in-Send : goal.returns-in-Send
returns-in-Send c =
    c.is_send_coming_for.ensures ∙ ap (λ (e : Event). uses_coming (reverse c.args.events.now) c.args.actor e (reverse c.args.earlier.now)) (sym c.in-Send.is)
