use Rattle.lock_callers.proofs.callers.+call_all+fn-call_all-join+arg2.Given as goal

abbrev pub decreases-call_all : goal.decreases-call_all
decreases-call_all g l = l.callers

abbrev pub decreases-join+arg2 : goal.decreases-join+arg2
decreases-join+arg2 g l = l.others
