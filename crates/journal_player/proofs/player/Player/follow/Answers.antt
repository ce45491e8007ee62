use Rattle.event_lines.proofs.LinesLaws.{read-spelling}
use Rattle.journal_player.proofs.Hearing.{few-printed}
use Rattle.journal_player.proofs.player.Player.follow.Goals as goal

pub hear-requires : goal.hear-requires
hear-requires c = record {
  few = few-printed c.in-Ok.said (read-spelling c.args.line.now c.in-Ok.said c.in-Ok.ensures).0;
  said = c.in-Ok.ensures;
}
