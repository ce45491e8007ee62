use Rattle.roster.proofs.Counting.{busy-total, flushed-due, news-due, stopped-counted}
use Rattle.roster.proofs.laws.counts_are_stood_for.Goals as goal

pub returns-clause-busy : goal.returns-clause-busy
returns-clause-busy c = busy-total

pub returns-clause-stopped : goal.returns-clause-stopped
returns-clause-stopped c = stopped-counted

pub returns-clause-flushed : goal.returns-clause-flushed
returns-clause-flushed c = flushed-due

pub returns-clause-news : goal.returns-clause-news
returns-clause-news c = news-due
