use Rattle.std.proofs.Common.{◌≡◌, false, ap, subst, sym, ◌∙◌}
use Rattle.std.proofs.lemmas.Bool.{false≢true}
use Rattle.std.specs.Option.{is_some}
use Rattle.std.specs.Result.{is_err}
use Rattle.crgc_ids.proofs.SuccessLaws.{at_success}
use Rattle.edge_table.specs.Far.{Entries, IsFarAdded, far_number}
use Rattle.edge_table.proofs.FarLemmas.{far-put}
use Rattle.edge_table.proofs.far_edges.FarEdges.push.Goals as goal

pub returns-clause-ok : goal.returns-clause-ok
returns-clause-ok c =
    let old = c.self.inside.numbers.entries in
    let new = c.insert.new.self.entries in
    let none = subst (λ (entries : Entries). is_some (far_number entries c.args.owner_place c.args.target_place) ≡ false) (sym c.self.view_is) (ap is_some (sym c.number.ensures) ∙ sym c.is_some.ensures ∙ c.if-is_some.false) in
    let updates = at_success _ c.insert.result (λ e is. false≢true (sym (sym c.is_err.ensures.value ∙ c.if-is_err.false) ∙ ap is_err is)) c.insert.ensures.updates in
    rw (← c.self.view_is) (subst (IsFarAdded old new c.args.owner_place c.args.target_place c.args.number) (sym c.if-not-is_far.false)
    (far-put old new c.args.owner_place c.args.target_place c.args.number none updates.1 updates.2))
