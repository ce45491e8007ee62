use Rattle.std.proofs.Common.{◌<◌, ◌^◌, ◌∷◌, sym, ◌∙◌, ap, subst}
use Rattle.crgc_ids.specs.declared.rising.ActorCount.{ActorCount}
use Rattle.crgc_ids.specs.declared.rising.PairCount.{PairCount}
use Rattle.history_model.specs.declared.records.Entry.{Entry}
use Rattle.history_model.specs.Facts.{flagged}
use Rattle.history_model.specs.Tells.{TellsEntry}
use Rattle.row_sums.proofs.OnesLemmas.{ones-stand}
use Rattle.row_sums.specs.Totals.{actor_total}
use Rattle.entry_records.specs.Keeping.{KeepActors}
use Rattle.entry_records.specs.Unflushed.{Unflushed, actors_in, facts_noted, pairs_in}
use Rattle.entry_records.proofs.EntryLemmas.{entry-ordered, entry-told}
use Rattle.entry_records.proofs.KeepingLemmas.{actors-total, pairs-total}
use Rattle.entry_records.proofs.notes.Notes.into_entry.Goals as goal

pub sum_of_pairs-created-requires-clause-stand : goal.sum_of_pairs-created-requires-clause-stand
sum_of_pairs-created-requires-clause-stand c = ones-stand (λ (r : PairCount). r.count) c.self.inside.created.items c.self.invariant.created.once

pub sum_of_pairs-created-requires-clause-fits : goal.sum_of_pairs-created-requires-clause-fits
sum_of_pairs-created-requires-clause-fits c = λ b a. subst (λ n. n < 2 ^ 32) (sym (pairs-total c.self.inside.created.items c.self.invariant.created b a)) (c.self.invariant.created.fit b a)

pub sum_of_counts-sent-requires-clause-stand : goal.sum_of_counts-sent-requires-clause-stand
sum_of_counts-sent-requires-clause-stand c =
    let kept = subst KeepActors (sym c.into_rows-ends.ensures.sent) c.self.invariant.sent in
    ones-stand (λ (r : ActorCount). r.count) c.into_rows-ends.result.sent.items kept.once

pub sum_of_counts-sent-requires-clause-fits : goal.sum_of_counts-sent-requires-clause-fits
sum_of_counts-sent-requires-clause-fits c = λ a.
    let kept = subst KeepActors (sym c.into_rows-ends.ensures.sent) c.self.invariant.sent in
    subst (λ n. n < 2 ^ 32) (sym (actors-total c.into_rows-ends.result.sent.items kept a)) (kept.fit a)

pub sum_of_counts-released-requires-clause-stand : goal.sum_of_counts-released-requires-clause-stand
sum_of_counts-released-requires-clause-stand c =
    let kept = subst KeepActors (sym c.into_rows-ends.ensures.released) c.self.invariant.released in
    ones-stand (λ (r : ActorCount). r.count) c.into_rows-ends.result.released.items kept.once

pub sum_of_counts-released-requires-clause-fits : goal.sum_of_counts-released-requires-clause-fits
sum_of_counts-released-requires-clause-fits c = λ a.
    let kept = subst KeepActors (sym c.into_rows-ends.ensures.released) c.self.invariant.released in
    subst (λ n. n < 2 ^ 32) (sym (actors-total c.into_rows-ends.result.released.items kept a)) (kept.fit a)

pub returns-clause-tells : goal.returns-clause-tells
returns-clause-tells c =
    let i = c.self.inside in
    let a = c.args.actor in
    let inside : Unflushed = record { received = i.received; sent = actors_in i.ends.sent; created = pairs_in i.created.items; released = actors_in i.ends.released } in
    let sent = c.sum_of_counts-sent.result in
    let created = c.sum_of_pairs-created.result in
    let released = c.sum_of_counts-released.result in
    let e : Entry = record { actor = a; received = i.received; busy = c.args.busy; root = c.args.root; created = created; sent = sent; released = released } in
    let tells = entry-told a inside c.args.busy c.args.root sent created released
    (λ x. c.sum_of_counts-sent.ensures.totals x ∙ ap (actor_total x) c.into_rows-ends.ensures.sent ∙ actors-total i.ends.sent c.self.invariant.sent x)
    (λ b x. c.sum_of_pairs-created.ensures.totals b x ∙ pairs-total i.created.items c.self.invariant.created b x)
    (λ x. c.sum_of_counts-released.ensures.totals x ∙ ap (actor_total x) c.into_rows-ends.ensures.released ∙ actors-total i.ends.released c.self.invariant.released x) in
    subst (λ (n : Unflushed). TellsEntry a e (flagged a (record { busy = c.args.busy; root = c.args.root }) ∷ facts_noted a n)) c.self.view_is tells

pub returns-clause-ordered : goal.returns-clause-ordered
returns-clause-ordered c =
    let e : Entry = record { actor = c.args.actor; received = c.self.inside.received; busy = c.args.busy; root = c.args.root; created = c.sum_of_pairs-created.result; sent = c.sum_of_counts-sent.result; released = c.sum_of_counts-released.result } in
    entry-ordered e c.sum_of_counts-sent.ensures.rise c.sum_of_pairs-created.ensures.rise c.sum_of_counts-released.ensures.rise
    c.sum_of_counts-sent.ensures.stand c.sum_of_pairs-created.ensures.stand c.sum_of_counts-released.ensures.stand
