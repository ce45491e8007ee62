use Rattle.history_model.proofs.OneMoreBulletin.{counts-notice, cut-next, knows-notice, told_by-else, told_by-here, with_notice-of, with_notice-within}
use Rattle.history_model.proofs.bulletin_laws.one_more_bulletin_counts.Goals as goal

pub returns-clause-counts : goal.returns-clause-counts
returns-clause-counts c = counts-notice

pub returns-clause-knows : goal.returns-clause-knows
returns-clause-knows c = knows-notice

pub returns-clause-node : goal.returns-clause-node
returns-clause-node c = told_by-here

pub returns-clause-others : goal.returns-clause-others
returns-clause-others c = told_by-else

pub returns-clause-next : goal.returns-clause-next
returns-clause-next c = cut-next

pub returns-clause-within : goal.returns-clause-within
returns-clause-within c = with_notice-within

pub returns-clause-more : goal.returns-clause-more
returns-clause-more c = with_notice-of
