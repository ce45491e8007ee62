use Rattle.std.proofs.Common.{rules, ◌≡◌, ◌-◌, length, take, sym, ◌∙◌, ap, subst}
use Rattle.crgc_ids.specs.declared.rising.ActorCount.{ActorCount}
use Rattle.crgc_ids.specs.declared.rising.PairCount.{PairCount}
use Rattle.entry_records.specs.Ends.{EndLists}
use Rattle.entry_records.specs.Keeping.{KeepActors, KeepPairs}
use Rattle.entry_records.specs.Unflushed.{actors_in, pairs_in, without_last_sent}
use Rattle.entry_records.proofs.KeepingLemmas.{actors-first, map-cut, pairs-first}
use Rattle.entry_records.proofs.notes.Notes.take_back_sent.Goals as goal

pub invariant_of-self : goal.invariant_of-self
invariant_of-self c =
    let i = c.self.inside in
    let ends = c.take_back_sent.ensures in
    record {
      sent = subst (λ (e : EndLists). KeepActors e.sent) (sym ends) (actors-first (length i.ends.sent - 1) i.ends.sent c.self.invariant.sent);
      created = subst KeepPairs (sym c.truncate.ensures.items) (pairs-first c.saturating_sub-created.result i.created.items c.self.invariant.created);
      released = subst (λ (e : EndLists). KeepActors e.released) (sym ends) c.self.invariant.released;
    }

pub returns : goal.returns
returns c =
    let i = c.self.inside in
    let ends = c.take_back_sent.ensures in
    let created_count : c.saturating_sub-created.result ≡ length i.created.items - c.args.refs = search rules in
    let sent : actors_in c.take_back_sent.new.self.sent ≡ take (length (actors_in i.ends.sent) - 1) (actors_in i.ends.sent) =
    ap (λ (e : EndLists). actors_in e.sent) ends ∙ map-cut (λ (r : ActorCount). r.actor) i.ends.sent 1 in
    let created : pairs_in c.truncate.new.self.items ≡ take (length (pairs_in i.created.items) - c.args.refs) (pairs_in i.created.items) =
    ap pairs_in (c.truncate.ensures.items ∙ ap (λ n. take n i.created.items) created_count) ∙ map-cut (λ (r : PairCount). (r.owner, r.target)) i.created.items c.args.refs in
    let released : actors_in c.take_back_sent.new.self.released ≡ actors_in i.ends.released = ap (λ (e : EndLists). actors_in e.released) ends in
    (λ k. record { received = i.received; sent = sent k; created = created k; released = released k })
    ∙ ap (without_last_sent c.args.refs) c.self.view_is
