use Rattle.std.proofs.Common.{◌+◌, ◌<◌, ◌^◌, [], ◌∷◌, ◌++◌, sym, ◌∙◌, ap, subst}
use Rattle.std.proofs.lemmas.Result.{on_ok_weaker}
use Rattle.std.specs.List.{count_by}
use Rattle.crgc_ids.specs.Actor.{same_actor}
use Rattle.history_model.specs.Facts.{message_facts}
use Rattle.entry_records.specs.Log.{Log, log_with}
use Rattle.entry_records.specs.Unflushed.{pair_count}
use Rattle.entry_records.proofs.LogLemmas.{with-references}
use Rattle.entry_records.proofs.actor_log.ActorLog.note_sent.Goals as goal

pub add_sent-requires-clause-created : goal.add_sent-requires-clause-created
add_sent-requires-clause-created c = λ a.
    subst (λ (l : Log). pair_count c.args.to a l.noted.created + count_by (same_actor a) c.args.refs.now < 2 ^ 32) (sym c.self.view_is) (c.requires.created a)

pub returns-clause-ok : goal.returns-clause-ok
returns-clause-ok c = on_ok_weaker c.add_sent.result (λ sent. (
    let i = c.self.inside in
    let to = c.args.to in
    let refs = c.args.refs.now in
    let noted = sent ∙ sym (with-references to refs (record i.notes { sent = i.notes.sent ++ to ∷ [] })) in
    (λ k. record { actor = i.actor; noted = noted k; flushed = i.flushed })
    ∙ ap (λ (l : Log). log_with (message_facts (record { from = l.actor; to = to; refs = refs })) l) c.self.view_is
    )) c.add_sent.ensures.ok
