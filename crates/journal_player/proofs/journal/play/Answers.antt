use Rattle.history_model.specs.Story.{Story}
use Rattle.journal_player.proofs.journal.play.Goals as goal

pub returns-clause-report : goal.returns-clause-report
returns-clause-report c =
    let p = c.in_ok-cluster.cluster in
    let told : Story = record { cluster = p.cluster; past = p.replay.past } in
    let legal = c.report.ensures.legal in
    (told, c.in_ok-cluster.ensures.told, legal, c.report.ensures.within, c.a_legal_history_is_rightly_collected.ensures p.cluster p.replay.past legal, c.in_ok-report.ensures.text)
