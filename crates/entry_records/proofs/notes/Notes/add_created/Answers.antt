use Rattle.std.proofs.Common.{◌+◌, ◌<◌, ◌^◌, sym, subst}
use Rattle.std.specs.Result.{is_ok}
use Rattle.entry_records.specs.Unflushed.{Unflushed, pair_count}
use Rattle.entry_records.proofs.KeepingLemmas.{pairs-pushed}
use Rattle.entry_records.proofs.notes.Notes.add_created.Goals as goal

pub invariant_of-self : goal.invariant_of-self
invariant_of-self c =
    let i = c.self.inside in
    let fits = subst (λ (n : Unflushed). pair_count c.args.owner c.args.target n.created + 1 < 2 ^ 32) (sym c.self.view_is) c.requires in
    record {
      sent = c.self.invariant.sent;
      created = pairs-pushed (is_ok c.push.result) i.created.items c.push.new.self.items c.args.owner c.args.target c.self.invariant.created fits c.push.ensures.items;
      released = c.self.invariant.released;
    }
