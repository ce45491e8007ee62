use Rattle.std.proofs.Common.{◌≡◌, ◌+◌, ◌<◌, ◌^◌, List, [], ◌∷◌, ◌++◌, map, sym, ◌∙◌, ap, subst}
use Rattle.std.proofs.lemmas.List.{map-append}
use Rattle.std.specs.List.{count_by}
use Rattle.crgc_ids.specs.Actor.{Actor, same_actor}
use Rattle.crgc_ids.specs.declared.rising.ActorCount.{ActorCount}
use Rattle.crgc_ids.specs.declared.rising.PairCount.{PairCount}
use Rattle.entry_records.specs.Ends.{EndLists}
use Rattle.entry_records.specs.Keeping.{KeepActors, KeepPairs}
use Rattle.entry_records.specs.Unflushed.{Unflushed, actor_count, actors_in, pair_count, pairs_in}
use Rattle.entry_records.proofs.KeepingLemmas.{actors-push, one_actor, one_pair, pairs-more, pairs-moved}
use Rattle.entry_records.proofs.notes.Notes.add_sent.Goals as goal

pub invariant_of-self-2 : goal.invariant_of-self-2
invariant_of-self-2 c =
    let i = c.self.inside in
    let ends = c.in_ok-add_sent.ensures.ok in
    let sent_fits = subst (λ (n : Unflushed). actor_count c.args.to n.sent + 1 < 2 ^ 32) (sym c.self.view_is) c.requires.sent in
    let created_fits = λ (a : Actor). subst (λ (n : Unflushed). pair_count c.args.to a n.created + count_by (same_actor a) c.args.refs.now < 2 ^ 32) (sym c.self.view_is) (c.requires.created a) in
    let created = c.put_pairs.ensures ∙ ap (λ (rows : List PairCount). rows ++ map (one_pair c.args.to) c.args.refs.now) c.reserve.ensures.items in
    record {
      sent = subst (λ (e : EndLists). KeepActors e.sent) (sym ends) (actors-push i.ends.sent c.args.to c.self.invariant.sent sent_fits);
      created = subst KeepPairs (sym created) (pairs-more i.created.items c.args.to c.args.refs.now c.self.invariant.created created_fits);
      released = subst (λ (e : EndLists). KeepActors e.released) (sym ends) c.self.invariant.released;
    }

pub returns-clause-ok : goal.returns-clause-ok
returns-clause-ok c =
    let i = c.self.inside in
    let to = c.args.to in
    let pairs = map (λ (a : Actor). (to, a)) c.args.refs.now in
    let ends = c.in_ok-add_sent.ensures.ok in
    let sent : actors_in c.add_sent.new.self.sent ≡ actors_in i.ends.sent ++ to ∷ [] =
    ap (λ (e : EndLists). actors_in e.sent) ends ∙ map-append (λ (r : ActorCount). r.actor) i.ends.sent (one_actor to ∷ []) in
    let created : pairs_in c.put_pairs.new.rows.items ≡ pairs_in i.created.items ++ pairs =
    ap pairs_in (c.put_pairs.ensures ∙ ap (λ (rows : List PairCount). rows ++ map (one_pair to) c.args.refs.now) c.reserve.ensures.items)
    ∙ pairs-moved i.created.items to c.args.refs.now in
    let released : actors_in c.add_sent.new.self.released ≡ actors_in i.ends.released = ap (λ (e : EndLists). actors_in e.released) ends in
    let grown : (record { received = i.received; sent = actors_in c.add_sent.new.self.sent; created = pairs_in c.put_pairs.new.rows.items; released = actors_in c.add_sent.new.self.released })
    ≡ (record { received = i.received; sent = actors_in i.ends.sent ++ to ∷ []; created = pairs_in i.created.items ++ pairs; released = actors_in i.ends.released }) =
    λ k. record { received = i.received; sent = sent k; created = created k; released = released k } in
    grown ∙ ap (λ (n : Unflushed). record { received = n.received; sent = n.sent ++ to ∷ []; created = n.created ++ pairs; released = n.released }) c.self.view_is
