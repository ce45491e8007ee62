use Rattle.script_player.proofs.Standings.{stands-round}
use Rattle.script_player.proofs.driver.Driver.round.Goals as goal

pub returns-clause-made : goal.returns-clause-made
returns-clause-made c =
    stands-round c.args.self.now c.make_round.new.course c.requires c.in_ok-make_round.ensures.cluster c.in_ok-make_round.ensures.past c.in_ok-make_round.ensures.within
    c.a_round_is_legal.ensures.adds c.other_events_leave_the_actors.ensures.round c.other_events_leave_the_progress.ensures.round
