use Rattle.std.proofs.Common.{◌≡◌, ◌++◌, [], ◌∷◌, append_assoc, cond, not, true, sym, ◌∙◌, ap}
use Rattle.std.specs.Result.{is_ok}
use Rattle.history_model.proofs.CodesLemmas.{past-pushed}
use Rattle.history_model.proofs.history.History.put_with.Goals as goal

pub returns-clause-ok : goal.returns-clause-ok
returns-clause-ok c =
    let further = c.self.inside.further.items in
    let pushed : is_ok c.push.result ≡ true = c.is_err-2.ensures.negation ∙ ap not c.if-is_err-2.false in
    let extended : is_ok c.extend_from_slice.result ≡ true = c.is_err-3.ensures.negation ∙ ap not c.if-is_err-3.false in
    let first = c.push.ensures.items ∙ ap (λ b. cond b (further ++ c.args.first ∷ []) further) pushed in
    let all = c.extend_from_slice.ensures.items ∙ ap (λ b. cond b (c.push.new.self.items ++ c.args.more.now) c.push.new.self.items) extended in
    let added = all ∙ ap (λ xs. xs ++ c.args.more.now) first ∙ append_assoc further (c.args.first ∷ []) c.args.more.now in
    rw (c.push_reserved.ensures.items, c.reserve.ensures.items, added, ← c.self.view_is)
    (past-pushed c.self.inside.codes.items c.args.code further (c.args.first ∷ c.args.more.now) c.self.invariant.4 (sym c.requires))
