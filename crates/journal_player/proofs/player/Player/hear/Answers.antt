use Rattle.std.proofs.Common.{Ok, sym, ◌∙◌, ap}
use Rattle.journal_model.specs.declared.lines.Line.TheVariants as said
use Rattle.event_lines.proofs.LinesLaws.{read-spelling}
use Rattle.journal_player.proofs.player.Player.hear.Goals as goal

pub happen-requires-clause-line : goal.happen-requires-clause-line
happen-requires-clause-line c =
    sym (read-spelling c.args.line.now (said.Event c.in-Event.event) (c.requires.said ∙ ap Ok c.in-Event.is)).1
