-- Two bounds at each moment of the history: a member past its horizon has taken all its mail, and whoever is no member
-- holds no reference to one. `SoundnessStep` uses them at each event, `SoundnessQuiet` at the end.
use Rattle.std.proofs.Common.{◌≡◌, ◌<◌, ◌≤◌, ◌+◌, ◌⊎◌, ℕ, Bool, false, not, cond, List, ◌++◌, length, sum_by, filter, sym, ◌∙◌, ap, inl, inr, arith}
use Rattle.std.proofs.lemmas.List.Sums.{sum_by-take-le}
use Rattle.crgc_ids.specs.Actor.{Actor}
use Rattle.crgc_ids.specs.Members.{IsAmong}
use Rattle.history_model.specs.declared.events.Event.{Event}
use Rattle.history_model.specs.Tally.{tally}
use Rattle.history_model.specs.Cluster.{Cluster, same_actor}
use Rattle.history_model.specs.Messages.{Message, is_to, mail, takes, taken}
use Rattle.history_model.specs.Held.{carried, gifts, got, gave}
use Rattle.history_model.specs.Legal.{IsLegal}
use Rattle.history_model.proofs.Basics.{legal-before}
use Rattle.history_model.proofs.Sums.{all_sent, noted_sum}
use Rattle.history_model.proofs.AccountsGrowth.{mail-grows}
use Rattle.history_model.proofs.AccountsMail.{mail-sent}
use Rattle.history_model.proofs.AccountsNotes.{carries_from, sent-noted, created-noted}
use Rattle.history_model.proofs.FoldSumsNotes.{told-grows}
use Rattle.history_model.proofs.SoundnessSums.{tally-filter, sum_by-split, sum_by-one, carried-sum}
use Rattle.history_model.proofs.SoundnessTold.{is_sending, is_creation, counts_lost, IsToldSet, AreTold, received-below, released-below}

-- 1 for a message from a node that is not lost
abbrev pub counts_other : (ℕ → Bool) → Message → ℕ
counts_other lost m = cond (not (lost m.from.node)) 1 0

-- the references to a that a message from a node that is not lost carries
abbrev pub carries_other : (ℕ → Bool) → Actor → Message → ℕ
carries_other lost a m = carries_from (λ n. not (lost n)) a m

-- mail is from lost nodes and from others
pub mail-split : (lost : ℕ → Bool) (ms : List Message) → sum_by (counts_other lost) ms + sum_by (counts_lost lost) ms ≡ length ms
mail-split lost ms = sum_by-split (λ (m : Message). lost m.from.node) (λ _. 1) ms ∙ sum_by-one ms

-- and so are the references that it carries
pub carried-split : (lost : ℕ → Bool) (a : Actor) (ms : List Message) → sum_by (carries_other lost a) ms + sum_by (carries_from lost a) ms ≡ carried a ms
carried-split lost a ms =
    sum_by-split (λ (m : Message). lost m.from.node) (λ (m : Message). tally (same_actor a) m.refs) ms ∙ sym (carried-sum a ms)

-- the messages to a that are noted on other nodes than the lost ones
pub sendings-sent : (cl : Cluster) (p : List Event) (lost : ℕ → Bool) (a : Actor) → noted_sum cl (is_sending lost a) p ≡ sum_by (counts_other lost) (filter (is_to a) (all_sent p))
sendings-sent cl p lost a =
    sent-noted cl p (λ n. not (lost n)) a ∙ tally-filter (λ (m : Message). not (lost m.from.node)) (is_to a) (all_sent p)

-- the references to a for b that are noted there
pub creations-given : (cl : Cluster) (p : List Event) (lost : ℕ → Bool) (b a : Actor) → lost a.node ≡ false → noted_sum cl (is_creation lost b a) p ≡ gifts cl b a p + sum_by (carries_other lost a) (filter (is_to b) (all_sent p))
creations-given cl p lost b a out = created-noted cl p (λ n. not (lost n)) b a (ap not out)

-- taken messages carry no more than all mail does
pub taken-carried : (b a : Actor) (p : List Event) → carried a (taken b p) ≤ carried a (mail b p)
taken-carried b a p =
    let weight : Message → ℕ = λ m. tally (same_actor a) m.refs in
    let part = sum_by-take-le weight (mail b p) (takes b p) in
    omega (arith, part, carried-sum a (taken b p), carried-sum a (mail b p))

-- a member past its horizon has taken all its mail
pub no_take : (cl : Cluster) (lost : ℕ → Bool) (u : Actor → ℕ) (members : List Actor) (q p : List Event) → IsLegal cl (q ++ p) → IsToldSet cl (q ++ p) lost u members → AreTold cl lost u members p → (a : Actor) → IsAmong a members → u a ≤ length p → length (mail a p) ≤ takes a p
no_take cl lost u members q p legal set told a member past =
    let took = received-below cl u a q p past in
    let balance = set.balanced a member in
    let sent_later = told-grows cl u (is_sending lost a) q p in
    let sent_now = told.sendings a member in
    let sent_all = sendings-sent cl p lost a in
    let mail_others = mail-sent cl p (legal-before cl q p legal) a (counts_other lost) in
    let mail_later = mail-grows a (counts_lost lost) q p in
    omega (arith, took, balance, sent_later, sent_now, sent_all, mail_others, mail_later, mail-split lost (mail a p))

-- past its horizon, whoever is no member has given up all the references to a member that it got
pub no_hold : (cl : Cluster) (lost : ℕ → Bool) (u : Actor → ℕ) (members : List Actor) (q p : List Event) → IsLegal cl (q ++ p) → IsToldSet cl (q ++ p) lost u members → AreTold cl lost u members p → (b a : Actor) → IsAmong a members → b.node < cl.nodes → lost b.node ≡ false → u b ≤ length p → IsAmong b members ⊎ (got cl b a p ≤ gave b a p)
no_hold cl lost u members q p legal set told b a member node out past =
    let gave_all = released-below cl u b a q p past in
    let given_later = told-grows cl u (is_creation lost b a) q p in
    let given_now = told.creations b a member in
    let given_all = creations-given cl p lost b a (set.placed a member) in
    let mail_others = mail-sent cl p (legal-before cl q p legal) b (carries_other lost a) in
    let mail_later = mail-grows b (carries_from lost a) q p in
    let mail_all = carried-split lost a (mail b p) in
    let part = taken-carried b a p in
    elim (set.holders b a member node out) [
      | inl is_member ↦ inl is_member
      | inr released ↦ inr (omega (arith, released, gave_all, given_later, given_now, given_all, mail_others, mail_later, mail_all, part))
    ]
