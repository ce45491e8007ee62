-- Each message is admitted at most once: what was admitted to an actor, and what is open on links to it, is what was
-- sent to it.
use Rattle.std.proofs.Common.{◌≡◌, ◌≢◌, ◌<◌, ◌≤◌, ◌+◌, ℕ, zero, suc, Bool, true, false, List, [], ◌∷◌, ◌++◌, length, refl, sym, ◌∙◌, ap, subst, inl, inr, arith, IsTrue, cond, filter, sum_by, slice_get, option_to_list}
use Rattle.std.proofs.lemmas.Bool.{false≢true, cases_lt, eq-eqb, ne_eqb, not-true}
use Rattle.std.proofs.lemmas.List.Sums.{sum_by-append}
use Rattle.std.specs.Prelude.{◌==◌}
use Rattle.crgc_ids.specs.Actor.{Actor}
use Rattle.history_model.specs.declared.events.Event.{Event}
use Rattle.history_model.specs.declared.events.Event.TheVariants.{Send, Admit}
use Rattle.history_model.specs.Cluster.{Cluster, same_actor}
use Rattle.history_model.specs.Messages.{Message, sent, message_at, was_admitted, admitted_by, is_to, mail}
use Rattle.history_model.specs.Legal.{IsLegal}
use Rattle.history_model.specs.Quiescent.{IsOnLink}
use Rattle.history_model.proofs.Basics.{eqb-refl, same_actor-refl, same_actor-equal, legal-kept}
use Rattle.history_model.proofs.Sums.{all_sent}
use Rattle.history_model.proofs.AccountsGrowth.{sent-begins}
use Rattle.history_model.proofs.AccountsCopies.{admitted-was_sent}
use Rattle.history_model.proofs.AccountsOpen.{weigh, weigh-append, Admitted, admitting, admitting-again, open_part, open_sum, open-agree, open-admitting}

-- what history h admitted
abbrev pub admitted_in : List Event → Admitted
admitted_in h = λ s d k. was_admitted s d k h

-- what more mail adds
mail-append : (b : Actor) (w : Message → ℕ) (p : List Event) (ms : List Message) → sum_by w (mail b p ++ filter (is_to b) ms) ≡ sum_by w (mail b p) + weigh b w ms
mail-append b w p ms = sum_by-append w (mail b p) (filter (is_to b) ms)

-- a message on one node is admitted at once, one of a link is open
at-once : (b : Actor) (w : Message → ℕ) (m : Message) (local closed : Bool) → closed ≡ false →
    weigh b w (cond local (m ∷ []) []) + cond local 0 (cond closed 0 (weigh b w (m ∷ []))) ≡ weigh b w (m ∷ [])
at-once b w m true closed open_yet = omega arith
at-once b w m false closed open_yet = rw open_yet (omega arith)

-- the number that the next message of a link gets was not admitted
next-not_admitted : (cl : Cluster) (p : List Event) → IsLegal cl p → (s d : ℕ) → was_admitted s d (length (sent s d p)) p ≡ false
next-not_admitted cl p legal s d =
    let k = length (sent s d p) in
    let split = elim (was_admitted s d k p) as (λ v. was_admitted s d k p ≡ v → v ≡ false) [
      | true ↦ λ admitted. absurd (omega (arith, admitted-was_sent cl p legal s d k admitted))
      | false ↦ λ _. refl
    ] in
    split refl

-- an admission takes out of what is open what it adds to the mail
admission : (b : Actor) (w : Message → ℕ) (s d k : ℕ) (p : List Event) → (s == d) ≡ false →
    weigh b w (admitted_by (Admit s d k) p) + open_sum (admitting s d k (admitted_in p)) b w p ≡ open_sum (admitted_in p) b w p
admission b w s d k p apart =
    let after = open_sum (admitting s d k (admitted_in p)) b w p in
    let split = elim (was_admitted s d k p) as (λ v. was_admitted s d k p ≡ v → weigh b w (cond v [] (message_at s d k p)) + after ≡ open_sum (admitted_in p) b w p) [
      | true ↦ λ again. omega (arith, open-agree (admitting s d k (admitted_in p)) (admitted_in p) b w (admitting-again s d k (admitted_in p) again) p)
      | false ↦ λ first. open-admitting (admitted_in p) b w s d k apart first p
    ] in
    split refl

-- what was admitted to b, with what is open on links to it, weighs as much as what was sent to it
pub mail-and_open : (cl : Cluster) (h : List Event) → IsLegal cl h → (b : Actor) (w : Message → ℕ) → sum_by w (mail b h) + open_sum (admitted_in h) b w h ≡ weigh b w (all_sent h)
mail-and_open cl [] legal b w = refl
mail-and_open cl (Send f t refs ∷ p) legal b w =
    let one : Message = record { from = f; to = t; refs = refs } in
    let now = admitted_by (Send f t refs) p in
    let here = at-once b w one (f.node == t.node) (was_admitted f.node t.node (length (sent f.node t.node p)) p) (next-not_admitted cl p legal.1 f.node t.node) in
    omega (arith, mail-and_open cl p legal.1 b w, mail-append b w p now, weigh-append b w (all_sent p) (one ∷ []), here)
mail-and_open cl (Admit s d k ∷ p) legal b w =
    let kept = legal-kept cl (Admit s d k) p legal in
    let now = admitted_by (Admit s d k) p in
    omega (arith, mail-and_open cl p legal.1 b w, mail-append b w p now, admission b w s d k p (not-true (s == d) kept.1.1.0))
mail-and_open cl (_ ∷ p) legal b w = omega (arith, mail-and_open cl p legal.1 b w, mail-append b w p [])

-- what was admitted to b weighs at most what was sent to it
pub mail-sent : (cl : Cluster) (h : List Event) → IsLegal cl h → (b : Actor) (w : Message → ℕ) → sum_by w (mail b h) ≤ sum_by w (filter (is_to b) (all_sent h))
mail-sent cl h legal b w = omega (arith, mail-and_open cl h legal b w)

-- and with it a message under way
pub mail-open : (cl : Cluster) (h : List Event) → IsLegal cl h → (m : Message) → IsOnLink h m → (w : Message → ℕ) → sum_by w (mail m.to h) + w m ≤ sum_by w (filter (is_to m.to) (all_sent h))
mail-open cl h legal m on_link w =
    let s = m.from.node in
    let d = m.to.node in
    let weight : weigh m.to w (message_at s d on_link.0 h) ≡ w m = rw (on_link.1, same_actor-refl m.to) (omega arith) in
    let taken_out = open-admitting (admitted_in h) m.to w s d on_link.0 (ne_eqb s d on_link.5) on_link.3 h in
    omega (arith, weight, mail-and_open cl h legal m.to w, taken_out)

-- ---- where nothing that weighs is open

-- a message keeps its number
place-stays : (k : ℕ) (m : Message) (xs ys : List Message) → option_to_list (slice_get xs k) ≡ m ∷ [] → option_to_list (slice_get (xs ++ ys) k) ≡ m ∷ []
place-stays k m [] ys e = absurd (omega (arith, ap length e))
place-stays zero m (x ∷ xs) ys e = e
place-stays (suc k) m (x ∷ xs) ys e = place-stays k m xs ys e

-- the last message stands at the place after the others
place-last : (m : Message) (xs : List Message) → option_to_list (slice_get (xs ++ m ∷ []) (length xs)) ≡ m ∷ []
place-last m [] = refl
place-last m (x ∷ xs) = place-last m xs

-- so does one of a link, as the history goes on
pub message_at-stays : (s d k : ℕ) (q p : List Event) (m : Message) → message_at s d k p ≡ m ∷ [] → message_at s d k (q ++ p) ≡ m ∷ []
message_at-stays s d k q p m e =
    let begins = sent-begins s d q p in
    rw (begins.1) (place-stays k m (sent s d p) begins.0 e)

-- the message that is sent is the next one of its link
pub message_at-sent : (f t : Actor) (refs : List Actor) (p : List Event) → message_at f.node t.node (length (sent f.node t.node p)) (Send f t refs ∷ p) ≡ record { from = f; to = t; refs = refs } ∷ []
message_at-sent f t refs p =
    rw (eqb-refl f.node, eqb-refl t.node) (place-last (record { from = f; to = t; refs = refs }) (sent f.node t.node p))

-- each message to b from another node that has weight counts as admitted
abbrev pub AllAdmitted : Admitted → Actor → (Message → ℕ) → List Event → Type 0
AllAdmitted adm b w h = (s k : ℕ) → s ≢ b.node → (m : Message) → message_at s b.node k h ≡ m ∷ [] → m.to ≡ b → 0 < w m → IsTrue (adm s b.node k)

-- then the next message adds nothing
part-none : (adm : Admitted) (b : Actor) (w : Message → ℕ) (f t : Actor) (refs : List Actor) (p : List Event) → AllAdmitted adm b w (Send f t refs ∷ p) →
    open_part adm f.node t.node (length (sent f.node t.node p)) (weigh b w (record { from = f; to = t; refs = refs } ∷ [])) ≡ 0
part-none adm b w f t refs p each =
    let h : List Event = Send f t refs ∷ p in
    let one : Message = record { from = f; to = t; refs = refs } in
    let k = length (sent f.node t.node p) in
    let weight = weigh b w (one ∷ []) in
    let light : (f.node == t.node) ≡ false → adm f.node t.node k ≡ false → same_actor t b ≡ true → w one ≡ 0 = λ apart is_open to.
    let at_t = subst (λ c. AllAdmitted adm c w h) (sym (same_actor-equal t b to)) each in
    let two_nodes : f.node ≢ t.node = λ same. false≢true (sym apart ∙ eq-eqb f.node t.node same) in
    elim (cases_lt 0 (w one)) [
      | inl some ↦ absurd (false≢true (sym is_open ∙ at_t f.node k two_nodes one (message_at-sent f t refs p) refl some))
      | inr none ↦ omega arith
    ] in
    let weightless : (f.node == t.node) ≡ false → adm f.node t.node k ≡ false → weight ≡ 0 = λ apart is_open.
    let split = elim (same_actor t b) as (λ v. same_actor t b ≡ v → sum_by w (cond v (one ∷ []) []) ≡ 0) [
      | true ↦ λ to. omega (arith, light apart is_open to)
      | false ↦ λ _. refl
    ] in
    split refl in
    let link : (f.node == t.node) ≡ false → cond (adm f.node t.node k) 0 weight ≡ 0 = λ apart.
    let split = elim (adm f.node t.node k) as (λ v. adm f.node t.node k ≡ v → cond v 0 weight ≡ 0) [
      | true ↦ λ _. refl
      | false ↦ λ is_open. weightless apart is_open
    ] in
    split refl in
    let split = elim (f.node == t.node) as (λ v. (f.node == t.node) ≡ v → cond v 0 (cond (adm f.node t.node k) 0 weight) ≡ 0) [
      | true ↦ λ _. refl
      | false ↦ λ apart. link apart
    ] in
    split refl

-- where each that weighs counts as admitted, nothing is open
open-none : (adm : Admitted) (b : Actor) (w : Message → ℕ) (h : List Event) → AllAdmitted adm b w h → open_sum adm b w h ≡ 0
open-none adm b w [] each = refl
open-none adm b w (Send f t refs ∷ p) each =
    let earlier : AllAdmitted adm b w p = λ s k apart m e. each s k apart m (message_at-stays s b.node k (Send f t refs ∷ []) p m e) in
    omega (arith, open-none adm b w p earlier, part-none adm b w f t refs p each)
open-none adm b w (e ∷ p) each = open-none adm b w p each

-- it weighs as much as what was sent to b, where each message from another node that has weight was admitted
pub mail-all : (cl : Cluster) (h : List Event) → IsLegal cl h → (b : Actor) (w : Message → ℕ) → ((s k : ℕ) → s ≢ b.node → (m : Message) → message_at s b.node k h ≡ m ∷ [] → m.to ≡ b → 0 < w m → IsTrue (was_admitted s b.node k h)) → sum_by w (mail b h) ≡ sum_by w (filter (is_to b) (all_sent h))
mail-all cl h legal b w each = omega (arith, mail-and_open cl h legal b w, open-none (admitted_in h) b w h each)
