use Rattle.std.proofs.Common.{◌≡◌, ◌<◌, ◌^◌, length, sym, ◌∙◌, subst}
use Rattle.crgc_ids.specs.Actor.{Actor}
use Rattle.history_model.specs.Graph.{rising_actors}
use Rattle.row_sums.specs.Totals.{actor_total, pair_total}
use Rattle.crgc_ids.specs.declared.rising.PairCount.{PairCount}
use Rattle.ingress_gateway.specs.Pending.{Pending, carried_count, message_count, named_count, names_in, pairs, recipients}
use Rattle.row_sums.proofs.OnesLemmas.{ones-stand}
use Rattle.ingress_gateway.proofs.KeepingLemmas.{carried-total, messages-total}
use Rattle.ingress_gateway.proofs.WindowLemmas.{named-same}
use Rattle.ingress_gateway.proofs.backlog.Backlog.into_sums.Goals as goal

pub sum_of_counts-requires-clause-fits : goal.sum_of_counts-requires-clause-fits
sum_of_counts-requires-clause-fits c = λ a.
    subst (λ n. n < 2 ^ 32) (sym (messages-total c.self.inside.messages.items c.self.inside.carried.items c.self.inside.names a c.self.invariant)) (c.self.invariant.messages_fit a)

pub sum_of_pairs-requires-clause-stand : goal.sum_of_pairs-requires-clause-stand
sum_of_pairs-requires-clause-stand c = ones-stand (λ (r : PairCount). r.count) c.self.inside.carried.items c.self.invariant.one_reference

pub sum_of_pairs-requires-clause-fits : goal.sum_of_pairs-requires-clause-fits
sum_of_pairs-requires-clause-fits c = λ b a.
    subst (λ n. n < 2 ^ 32) (sym (carried-total c.self.inside.messages.items c.self.inside.carried.items c.self.inside.names b a c.self.invariant)) (c.self.invariant.carried_fit b a)

pub returns-clause-messages : goal.returns-clause-messages
returns-clause-messages c = λ a.
    subst (λ (p : Pending). actor_total a c.sum_of_counts.result ≡ message_count a p.messages) c.self.view_is
    (c.sum_of_counts.ensures.totals a ∙ messages-total c.self.inside.messages.items c.self.inside.carried.items c.self.inside.names a c.self.invariant)

pub returns-clause-carried : goal.returns-clause-carried
returns-clause-carried c = λ b a.
    subst (λ (p : Pending). pair_total b a c.sum_of_pairs.result ≡ carried_count b a p.carried) c.self.view_is
    (c.sum_of_pairs.ensures.totals b a ∙ carried-total c.self.inside.messages.items c.self.inside.carried.items c.self.inside.names b a c.self.invariant)

pub returns-clause-named : goal.returns-clause-named
returns-clause-named c =
    let messages = λ (a : Actor). c.sum_of_counts.ensures.totals a ∙ messages-total c.self.inside.messages.items c.self.inside.carried.items c.self.inside.names a c.self.invariant in
    let carried = λ (b a : Actor). c.sum_of_pairs.ensures.totals b a ∙ carried-total c.self.inside.messages.items c.self.inside.carried.items c.self.inside.names b a c.self.invariant in
    subst (λ (p : Pending). length (rising_actors (names_in (recipients c.sum_of_counts.result) (pairs c.sum_of_pairs.result))) ≡ named_count p.messages p.carried) c.self.view_is
    (named-same c.sum_of_counts.result c.sum_of_pairs.result (recipients c.self.inside.messages.items) (pairs c.self.inside.carried.items) c.sum_of_counts.ensures.stand c.sum_of_pairs.ensures.stand messages carried)
