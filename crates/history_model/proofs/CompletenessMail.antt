-- At a quiet point all that actors on nodes that are up sent was admitted, but for live messages. So what quiescent
-- actors took, and what their holders got, is all that was told or admitted for them.
use Rattle.std.proofs.Common.{◌≡◌, ◌≢◌, ◌<◌, ◌≤◌, ◌+◌, ℕ, zero, suc, Bool, true, false, not, List, [], ◌∷◌, length, drop, refl, sym, ◌∙◌, ap, subst, inl, inr, arith, IsTrue, IsFalse, cond, filter, sum_by, take-append-drop}
use Rattle.std.proofs.lemmas.Bool.{false≢true, false_from_ne_true, true_from_ne_false, not-true}
use Rattle.crgc_ids.specs.Actor.{Actor}
use Rattle.crgc_ids.specs.Members.{IsAmong}
use Rattle.history_model.specs.declared.events.Event.{Event}
use Rattle.history_model.specs.Tally.{tally}
use Rattle.history_model.specs.Cluster.{Cluster, same_actor}
use Rattle.history_model.specs.Messages.{Message, sent, message_at, was_admitted, is_to, mail, takes, taken, waiting, copies, is_closed}
use Rattle.history_model.specs.Held.{carried}
use Rattle.history_model.specs.State.{is_up}
use Rattle.history_model.specs.Legal.{IsLegal}
use Rattle.history_model.specs.Quiescent.{IsOnLink, IsLive, IsQuietPoint}
use Rattle.history_model.proofs.Sums.{all_sent}
use Rattle.history_model.proofs.AccountsBirths.{message_at-among, sent-among}
use Rattle.history_model.proofs.AccountsGrowth.{carried-append}
use Rattle.history_model.proofs.AccountsMail.{mail-all}
use Rattle.history_model.proofs.AccountsNotes.{carries_from}
use Rattle.history_model.proofs.AccountsTaken.{takes-mail}
use Rattle.history_model.proofs.LinksSettled.{closed-crashed}
use Rattle.history_model.proofs.SoundnessBounds.{carried-split, carries_other, counts_other, mail-split}
use Rattle.history_model.proofs.SoundnessTold.{counts_lost}
use Rattle.history_model.proofs.StabilityHeld.{tally-absent}
use Rattle.history_model.proofs.States.{waiting-live}
use Rattle.history_model.proofs.Lists.{place-within}
use Rattle.history_model.proofs.LinksMail.{cond_none}

-- ---- what lists count

drop-all : {A : Type 0} (n : ℕ) (xs : List A) → ((x : A) → ¬ IsAmong x (drop n xs)) → length xs ≤ n
drop-all n [] none = omega arith
drop-all zero (x ∷ xs) none = absurd (none x (inl refl))
drop-all (suc n) (x ∷ xs) none = let later = drop-all n xs none in omega arith

-- messages that carry none carry none together
carried-none : (a : Actor) (xs : List Message) → ((m : Message) → IsAmong m xs → ¬ IsAmong a m.refs) → carried a xs ≡ 0
carried-none a [] none = refl
carried-none a (x ∷ xs) none =
    let here = tally-absent a x.refs (none x (inl refl)) in
    let later = carried-none a xs (λ m among. none m (inr among)) in
    omega arith

-- ---- mail at a quiet point

-- what actors on nodes that are up sent to b was admitted or is live, so its live messages aside all of it is b's mail
pub quiet-mail : (cl : Cluster) (m : ℕ) (h : List Event) → IsLegal cl h → IsQuietPoint cl m h → (b : Actor) → IsTrue (is_up b.node h)
    → (w : Message → ℕ) → ((x : Message) → IsAmong x (all_sent h) → 0 < w x → IsTrue (is_up x.from.node h))
    → ((x : Message) → IsLive h x → x.to ≡ b → w x ≡ 0) → sum_by w (mail b h) ≡ sum_by w (filter (is_to b) (all_sent h))
quiet-mail cl m h legal quiet b up w senders live =
    mail-all cl h legal b w (λ s k apart x there to some.
    let among = sent-among s b.node h x (message_at-among s b.node k h x (subst (IsAmong x) (sym there) (inl refl))) in
    let sender : IsTrue (is_up s h) = subst (λ n. IsTrue (is_up n h)) among.1 (senders x among.0 some) in
    let within = place-within (sent s b.node h) k x there in
    let On : ℕ → ℕ → Type 0 = λ s d. (n : ℕ) × (message_at s d n h ≡ x ∷ []) × IsFalse (is_closed s d h) × IsFalse (was_admitted s d n h) × (0 < copies s d n h) × (s ≢ d) in
    let opened = false_from_ne_true (is_closed s b.node h) (λ t. false≢true (sym (closed-crashed cl h legal s b.node t) ∙ sender)) in
    let on_link : IsFalse (was_admitted s b.node k h) → 0 < copies s b.node k h → IsOnLink h x = λ fresh copy.
    subst (λ n. On n x.to.node) (sym among.1) (subst (On s) (sym among.2) (k, there, opened, fresh, copy, apart)) in
    elim (quiet.delivered s b.node k apart sender up within) [
      | inl admitted ↦ admitted
      | inr copy ↦ true_from_ne_false (was_admitted s b.node k h) (λ fresh.
          let none = live x (subst (λ n. IsTrue (is_up n h)) (sym among.2) up, inr (on_link fresh copy)) to in
          absurd (omega (arith, none, some)))
    ])

some_chosen : (v : Bool) (n : ℕ) → 0 < cond v n 0 → v ≡ true
some_chosen true n some = refl
some_chosen false n some = absurd (omega arith)

-- where no message for a is live, a took as many as nodes that are up sent to it and as it admitted from others
pub quiet-takes : (cl : Cluster) (m : ℕ) (h : List Event) → IsLegal cl h → IsQuietPoint cl m h → (lost : ℕ → Bool)
    → ((x : Message) → IsAmong x (all_sent h) → lost x.from.node ≡ false → IsTrue (is_up x.from.node h))
    → (a : Actor) → IsTrue (is_up a.node h) → ((x : Message) → IsLive h x → x.to ≡ a → ⊥) → takes a h ≡ sum_by (counts_other lost) (filter (is_to a) (all_sent h)) + sum_by (counts_lost lost) (mail a h)
quiet-takes cl m h legal quiet lost senders a up none =
    let from_up : (x : Message) → IsAmong x (all_sent h) → 0 < counts_other lost x → IsTrue (is_up x.from.node h) = λ x among some.
    senders x among (not-true (lost x.from.node) (some_chosen (not (lost x.from.node)) 1 some)) in
    let all = quiet-mail cl m h legal quiet a up (counts_other lost) from_up (λ x live to. absurd (none x live to)) in
    let split = mail-split lost (mail a h) in
    let most = takes-mail cl h legal a in
    let least = drop-all (takes a h) (mail a h) (λ x waits. (let found = waiting-live h a up x waits in none x found.0 found.1)) in
    omega (arith, all, split, most, least)

-- where no live message carries a to b, what b took carries as many references to a as nodes that are up sent it and as
-- it admitted from others
pub quiet-carried : (cl : Cluster) (m : ℕ) (h : List Event) → IsLegal cl h → IsQuietPoint cl m h → (lost : ℕ → Bool)
    → ((x : Message) → IsAmong x (all_sent h) → lost x.from.node ≡ false → IsTrue (is_up x.from.node h))
    → (b a : Actor) → IsTrue (is_up b.node h) → ((x : Message) → IsLive h x → ¬ IsAmong a x.refs) → carried a (taken b h) ≡ sum_by (carries_other lost a) (filter (is_to b) (all_sent h)) + sum_by (carries_from lost a) (mail b h)
quiet-carried cl m h legal quiet lost senders b a up none =
    let from_up : (x : Message) → IsAmong x (all_sent h) → 0 < carries_other lost a x → IsTrue (is_up x.from.node h) = λ x among some.
    senders x among (not-true (lost x.from.node) (some_chosen (not (lost x.from.node)) (tally (same_actor a) x.refs) some)) in
    let nothing : (x : Message) → IsLive h x → x.to ≡ b → carries_other lost a x ≡ 0 = λ x live _.
    cond_none (not (lost x.from.node)) (tally (same_actor a) x.refs) (tally-absent a x.refs (none x live)) in
    let all = quiet-mail cl m h legal quiet b up (carries_other lost a) from_up nothing in
    let split = carried-split lost a (mail b h) in
    let parts = ap (carried a) (sym (take-append-drop (takes b h) (mail b h))) ∙ carried-append a (taken b h) (waiting b h) in
    let waits = carried-none a (waiting b h) (λ x among. none x (waiting-live h b up x among).0) in
    omega (arith, all, split, parts, waits)
