use Rattle.std.proofs.Common.{◌≡◌, false, Ok, subst}
use Rattle.journal_model.specs.Journals.{after_event}
use Rattle.journal_player.specs.Following.{Following, following}
use Rattle.journal_player.proofs.Outcomes.{event-followed}
use Rattle.journal_player.proofs.player.Player.happen.Goals as goal
use Rattle.journal_player.proofs.player.Player.happen.Goals.{in-Ok, in-Err}

pub returns-clause-ok : goal.returns-clause-ok
returns-clause-ok c =
    let s = c.self.inside.course in
    let s' = c.follow_line.new.self in
    let e = c.args.event in
    elim c.match-follow_line.branch [
      | in-Ok w ↦
          rw (w.result-is, w.self-is)
          (subst (λ (x : Following). after_event x.cluster x.replay e ≡ Ok (following s' 0 false).replay) c.self.view_is
          (event-followed e s s' c.self.inside.told c.self.inside.ended w.in-Ok.ensures.may w.in-Ok.ensures.ok))
      | in-Err w ↦ rw w.result-is tt
    ]
