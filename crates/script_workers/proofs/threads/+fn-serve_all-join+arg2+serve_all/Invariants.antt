use Rattle.script_workers.proofs.threads.+fn-serve_all-join+arg2+serve_all.Given as goal

abbrev pub decreases-join+arg2 : goal.decreases-join+arg2
decreases-join+arg2 g l = l.others

abbrev pub decreases-serve_all : goal.decreases-serve_all
decreases-serve_all g l = l.count
