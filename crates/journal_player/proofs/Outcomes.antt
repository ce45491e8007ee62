-- What follows the line of an event that nothing hinders.
use Rattle.std.proofs.Common.{◌≡◌, ℕ, Bool, false, ◌∷◌, None, Ok, sym, ap, ◌∙◌}
use Rattle.history_model.specs.declared.events.Event.{Event}
use Rattle.history_model.specs.Legal.{refusal}
use Rattle.history_model.specs.Story.{Story}
use Rattle.journal_model.specs.Journals.{Replay, after_event, allowed, due_after}
use Rattle.journal_model.specs.Limits.{limit_passed}
use Rattle.true_config.specs.Steps.{Adds, MayFollow}
use Rattle.cluster_course.specs.Due.{lines_made_due}
use Rattle.journal_player.specs.Following.{following}

-- no rule refuses the event, and it passes no limit
pub followed-allowed : (e : Event) (s : Story) (next : Replay) → MayFollow e s → allowed (refusal s.cluster e s.past) (limit_passed s.cluster e s.past) next ≡ Ok next
followed-allowed e s next may = ap (λ o. allowed o (limit_passed s.cluster e s.past) next) may.legal ∙ ap (λ l. allowed None l next) may.limit

-- the event is followed, after which only the lines that it makes due are due
pub event-followed : (e : Event) (s s' : Story) (told : ℕ) (over : Bool) → MayFollow e s → Adds e s s' → after_event s.cluster (following s told over).replay e ≡ Ok (following s' 0 false).replay
event-followed e s s' told over may adds =
    let next : Replay = record { past = e ∷ s.past; due = due_after s.cluster e s.past; ended = false } in
    let same : (following s' 0 false).replay ≡ next = λ i. record { past = adds.past i; due = lines_made_due (adds.cluster i) (adds.past i); ended = false } in
    followed-allowed e s next may ∙ ap Ok (sym same)
