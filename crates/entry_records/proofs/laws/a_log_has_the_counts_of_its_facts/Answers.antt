use Rattle.std.proofs.Common.{cond, sym, ◌∙◌, ap}
use Rattle.history_model.proofs.Basics.{same_actor-refl}
use Rattle.entry_records.specs.Unflushed.{actor_count}
use Rattle.entry_records.proofs.CountLemmas.{counted}
use Rattle.entry_records.proofs.laws.a_log_has_the_counts_of_its_facts.Goals as goal

pub returns-clause-received : goal.returns-clause-received
returns-clause-received c = λ l known is. sym (ap (λ v. cond v l.noted.received 0) (same_actor-refl l.actor)) ∙ (counted l known is).received l.actor

pub returns-clause-sent : goal.returns-clause-sent
returns-clause-sent c = λ l known a is. (counted l known is).sent a

pub returns-clause-created : goal.returns-clause-created
returns-clause-created c = λ l known b a is. (counted l known is).created b a

pub returns-clause-released : goal.returns-clause-released
returns-clause-released c = λ l known a is.
    sym (ap (λ v. cond v (actor_count a l.noted.released) 0) (same_actor-refl l.actor)) ∙ (counted l known is).released l.actor a
