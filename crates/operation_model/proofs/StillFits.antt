-- What fits still fits after further calls of other passes: it depends on the pass's own calls alone.
use Rattle.std.proofs.Common.{◌≡◌, ℕ, [], ◌++◌, sym, ◌∙◌, ap, subst}
use Rattle.turn_lock.specs.History.{calls_of}
use Rattle.turn_lock.proofs.Calls.{calls_of-append}
use Rattle.operation_model.specs.declared.operations.Op.{Op}
use Rattle.operation_model.specs.Fits.{Fits, FitsOwn}
use Rattle.operation_model.specs.Openings.{Opening}
use Rattle.operation_model.specs.Turns.{Calls}

-- calls of others are none of its own
own-same : (pass : ℕ) (later history : Calls) → calls_of pass later ≡ [] → calls_of pass (later ++ history) ≡ calls_of pass history
own-same pass later history none = calls_of-append pass later history ∙ ap (λ own. own ++ calls_of pass history) none

pub still-fits : (o : Opening) (later history : Calls) (op : Op) (pass : ℕ) → calls_of pass later ≡ [] → Fits o history op pass → Fits o (later ++ history) op pass
still-fits o later history op pass none fit = subst (λ own. FitsOwn o own op) (sym (own-same pass later history none)) fit
