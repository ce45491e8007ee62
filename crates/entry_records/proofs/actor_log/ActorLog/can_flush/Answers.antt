use Rattle.std.proofs.Common.{◌≡◌, ◌||◌, Bool, not, sym, ◌∙◌, ap, subst}
use Rattle.history_model.specs.Facts.{Flags}
use Rattle.history_model.specs.Streams.{are_flags}
use Rattle.entry_records.specs.Log.{Log, may_flush}
use Rattle.entry_records.proofs.LogLemmas.{nothing-blank}
use Rattle.entry_records.proofs.actor_log.ActorLog.can_flush.Goals as goal

pub returns-then-not-is_blank : goal.returns-then-not-is_blank
returns-then-not-is_blank c =
    let blank = c.is_blank-is_blank.result in
    let flags : Flags = record { busy = c.args.busy; root = c.args.root } in
    let other : Bool = not (are_flags c.self.inside.flushed flags) in
    let same = c.is_blank-is_blank.ensures ∙ nothing-blank c.self.inside.actor c.self.inside.notes in
    let some : not blank ≡ (not blank || other) = ap not c.if-not-is_blank.true ∙ sym (ap (λ v. not v || other) c.if-not-is_blank.true) in
    subst (λ (l : Log). not blank ≡ may_flush l flags) c.self.view_is (some ∙ ap (λ v. not v || other) same)
