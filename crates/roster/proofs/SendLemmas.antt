-- A send that is taken back.
use Rattle.std.proofs.Common.{◌≡◌, ◌+◌, ◌<◌, ◌∷◌, [], ◌++◌, List, length, length-append, refl, sym, ◌∙◌, ap, subst, arith}
use Rattle.crgc_ids.specs.Actor.{Actor}
use Rattle.history_model.specs.Facts.{message_facts}
use Rattle.entry_records.specs.Log.{log_with}
use Rattle.entry_records.specs.Unflushed.{Unflushed}
use Rattle.entry_records.proofs.LogLemmas.{message-taken_back, with-references}
use Rattle.refob_counts.specs.Counts.{count_of}
use Rattle.actor_states.specs.State.{IsAlike, Sends, State, noting, unsent}
use Rattle.roster.specs.Table.{Changes, IsAsBefore, Table, state_at}
use Rattle.roster.proofs.ActorCases.{at-actor}
use Rattle.roster.proofs.TieLemmas.{keeps-then}

-- an actor that sent has noted a message as sent
pub sends-noted : (s t : State) (to : Actor) (refs : List Actor) → Sends to refs s t → 0 < length t.log.noted.sent
sends-noted s t to refs sends =
    let n = s.log.noted in
    let noted = ap (λ (x : State). length x.log.noted.sent) sends ∙ ap (λ (x : Unflushed). length x.sent) (with-references to refs (record n { sent = n.sent ++ to ∷ [] })) in
    let long = length-append n.sent (to ∷ []) in
    omega arith

-- without it the state is what it was
unsent-alike : (s t u : State) (to : Actor) (refs : List Actor) → Sends to refs s t → u ≡ unsent (length refs) t → IsAlike s u
unsent-alike s t u to refs sends back =
    let same : u ≡ s = back ∙ ap (unsent (length refs)) sends
    ∙ ap (λ n. record s { log = record s.log { noted = n } }) (message-taken_back (record { from = s.log.actor; to = to; refs = refs }) s.log.noted) in
    (same ∙ ap (λ (x : State). record s { held = x.held }) (sym same), λ a. ap (λ (x : State). count_of x.held a) same)

-- so is the table
pub send-taken_back : (r s t : Table) (a to : Actor) (refs : List Actor) → Changes r s a (Sends to refs) → Changes s t a (λ x y. y ≡ unsent (length refs) x) → IsAsBefore r t
send-taken_back r s t a to refs sends back = (
  keeps-then r s t sends.kept back.kept,
  λ b. at-actor (λ x. IsAlike (state_at r x) (state_at t x)) a b
      (unsent-alike (state_at r a) (state_at s a) (state_at t a) to refs sends.changed back.changed)
      (λ apart. subst (IsAlike (state_at r b)) (sym (back.others b apart ∙ sends.others b apart)) (refl, λ c. refl)),
)
