use Rattle.std.proofs.Common.{◌+◌, ◌<◌, ◌^◌, [], ◌∷◌, ◌++◌, sym, subst}
use Rattle.entry_records.specs.Ends.{EndLists}
use Rattle.entry_records.specs.Keeping.{KeepNotes}
use Rattle.entry_records.specs.Unflushed.{Unflushed, actor_count}
use Rattle.entry_records.proofs.KeepingLemmas.{actors-push, ends-after, one_actor}
use Rattle.entry_records.proofs.notes.Notes.add_released.Goals as goal

pub invariant_of-self : goal.invariant_of-self
invariant_of-self c =
    let i = c.self.inside in
    let fits = subst (λ (n : Unflushed). actor_count c.args.target n.released + 1 < 2 ^ 32) (sym c.self.view_is) c.requires in
    ends-after (λ (e : EndLists). KeepNotes e.sent i.created.items e.released) c.add_released.result i.ends (record i.ends { released = i.ends.released ++ one_actor c.args.target ∷ [] }) c.add_released.new.self
    c.self.invariant (record {
      sent = c.self.invariant.sent;
      created = c.self.invariant.created;
      released = actors-push i.ends.released c.args.target c.self.invariant.released fits;
    }) c.add_released.ensures.ok c.add_released.ensures.err
