use Rattle.std.proofs.Common.{◌≡◌, ◌++◌, ◌∷◌, [], cond, drop, not, reverse, slice_get, true, Some, sym, ◌∙◌, ap}
use Rattle.std.specs.Result.{is_ok}
use Rattle.history_model.proofs.CodesLemmas.{left-less, read-more}
use Rattle.history_model.proofs.history.History.to_vec.Goals as goal

pub loop-preserved : goal.loop-preserved
loop-preserved c =
    let es = reverse c.args.self.now.past in
    let i = c.loop.counter in
    let e = c.unwrap-event.result in
    let first : slice_get (drop i es) 0 ≡ Some e = sym (ap (λ xs. slice_get xs 0) c.loop.invariant.left) ∙ sym c.in_ok-next.ensures.event ∙ c.unwrap-event.ensures in
    let pushed : is_ok c.push.result ≡ true = c.is_err.ensures.negation ∙ ap not c.if-is_err.false in
    record {
      read = c.push.ensures.items ∙ ap (λ b. cond b (c.loop.all.items ++ e ∷ []) c.loop.all.items) pushed
          ∙ ap (λ xs. xs ++ e ∷ []) c.loop.invariant.read ∙ sym (read-more es i e first);
      left = c.in_ok-next.ensures.rest ∙ ap (drop 1) c.loop.invariant.left ∙ left-less es i e first;
    }
