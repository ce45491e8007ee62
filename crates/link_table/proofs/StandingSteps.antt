-- A link that stands for a history stands for the longer one, where a call makes of it what the event says.
use Rattle.std.proofs.Common.{◌≡◌, ◌≢◌, ◌+◌, ◌-◌, ◌<◌, ◌≤◌, ◌==◌, ◌&&◌, ℕ, zero, suc, Bool, true, false, not, nat_lt, cond, List, [], ◌∷◌, ◌++◌, Option, None, Some, length, length-append, map, slice_get, option_to_list, append-nil, refl, sym, ◌∙◌, ap, subst, inl, inr, arith}
use Rattle.std.proofs.lemmas.Bool.{and_from, cases_Bool, cases_eq, cases_lt, cond-false, cond-true, false_from_ne_true, false≢true, le-ltb, lt-ltb, ltb-true, ne_eqb}
use Rattle.std.proofs.lemmas.Grind.{flat_map-append}
use Rattle.std.proofs.lemmas.List.{map-append}
use Rattle.std.proofs.lemmas.Option.{slice_get-get_or}
use Rattle.std.specs.Option.{IsSome, option_map}
use Rattle.crgc_ids.specs.Actor.{Actor}
use Rattle.history_model.specs.declared.events.Event.{Event}
use Rattle.history_model.specs.declared.events.Event.TheVariants.{Admit, Lose, Repeat, Send}
use Rattle.history_model.specs.Cluster.{Cluster}
use Rattle.history_model.specs.Legal.{IsLegal}
use Rattle.history_model.specs.Live.{under_way}
use Rattle.history_model.specs.Messages.{Message, copies, is_admit, is_closed, is_lose, is_repeat, message_at, sent, was_admitted}
use Rattle.history_model.specs.State.{is_up}
use Rattle.history_model.specs.Tally.{tally}
use Rattle.history_model.specs.Tells.{admitted_since, message_pairs, message_recipients}
use Rattle.history_model.proofs.AccountsCopies.{admitted-was_sent, copies-exact, copies-was_sent}
use Rattle.history_model.proofs.Basics.{eqb-refl, legal-kept}
use Rattle.ingress_gateway.specs.Gate.{Gate, is_admitted}
use Rattle.link_table.specs.declared.piles.Pile.{Pile}
use Rattle.link_table.specs.LinkState.{Admitted, GateAdmits, IsMoved, LinkState, Sends}
use Rattle.link_table.specs.Piled.{ChangesPile, fewer, kept_count, message_in, more, pile_at, stripped}
use Rattle.link_table.specs.Standing.{StandsFor, envelope_at, envelope_of, is_link_open, pile_of, pile_with}
use Rattle.link_table.proofs.KeepingLemmas.{gate-numbers}
use Rattle.link_table.proofs.StandingLemmas.{PilesFollow, message_in-with, pile-fewer, pile-more, pile-same, pile-stripped, piles-follow}

-- ---- numbers of one link

-- the link itself, by the test of its two ends
link-itself : (s d : ℕ) → ((s == s) && (d == d)) ≡ true
link-itself s d = rw (eqb-refl s, eqb-refl d) refl

-- number n of the link is the one that is meant
number-itself : (s d n : ℕ) → ((s == s) && ((d == d) && (n == n))) ≡ true
number-itself s d n = rw (eqb-refl s, eqb-refl d, eqb-refl n) refl

-- another number is not
number-other : (s d n k : ℕ) → k ≢ n → ((s == s) && ((d == d) && (n == k))) ≡ false
number-other s d n k apart = rw (eqb-refl s, eqb-refl d, ne_eqb n k (λ e. apart (sym e))) refl

-- ---- what a legal move of a copy says

pub record IsMove (s d n : ℕ) (p : List Event) : Type 0 where
  pub opened : is_link_open s d p ≡ true
  pub some : 0 < copies s d n p
  pub below : n < length (sent s d p)

move-from : (cl : Cluster) (s d n : ℕ) (p : List Event) → IsLegal cl p → is_up d p ≡ true → not (is_closed s d p) ≡ true → nat_lt 0 (copies s d n p) ≡ true → IsMove s d n p
move-from cl s d n p legal up open_yet there =
    let some = ltb-true 0 (copies s d n p) there in
    record { opened = and_from (is_up d p) (not (is_closed s d p)) up open_yet; some = some; below = copies-was_sent cl p legal s d n some }

lose-is_move : (cl : Cluster) (s d n : ℕ) (p : List Event) → IsLegal cl (Lose s d n ∷ p) → IsMove s d n p
lose-is_move cl s d n p legal =
    let kept = legal-kept cl (Lose s d n) p legal in
    move-from cl s d n p legal.1 kept.1.1.1.0 kept.1.1.1.1.0 kept.1.1.1.1.1.0

repeat-is_move : (cl : Cluster) (s d n : ℕ) (p : List Event) → IsLegal cl (Repeat s d n ∷ p) → IsMove s d n p
repeat-is_move cl s d n p legal =
    let kept = legal-kept cl (Repeat s d n) p legal in
    move-from cl s d n p legal.1 kept.1.1.1.0 kept.1.1.1.1.0 kept.1.1.1.1.1.0

admit-is_move : (cl : Cluster) (s d n : ℕ) (p : List Event) → IsLegal cl (Admit s d n ∷ p) → IsMove s d n p
admit-is_move cl s d n p legal =
    let kept = legal-kept cl (Admit s d n) p legal in
    move-from cl s d n p legal.1 kept.1.1.1.0 kept.1.1.1.1.0 kept.1.1.1.1.1.0

-- ---- copies

-- one less of the number that is lost or admitted, one more of the one that is repeated
copies-lose : (s d n : ℕ) (p : List Event) → copies s d n (Lose s d n ∷ p) ≡ copies s d n p - 1
copies-lose s d n p = rw (number-itself s d n) (omega arith)

copies-admit : (s d n : ℕ) (p : List Event) → copies s d n (Admit s d n ∷ p) ≡ copies s d n p - 1
copies-admit s d n p = rw (number-itself s d n) (omega arith)

copies-repeat : (s d n : ℕ) (p : List Event) → 0 < copies s d n p → copies s d n (Repeat s d n ∷ p) ≡ copies s d n p + 1
copies-repeat s d n p some = rw (number-itself s d n) (omega arith)

-- another number keeps its copies
copies-lose_other : (s d n k : ℕ) (p : List Event) → k ≢ n → copies s d k (Lose s d n ∷ p) ≡ copies s d k p
copies-lose_other s d n k p apart = rw (number-other s d n k apart) refl

copies-admit_other : (s d n k : ℕ) (p : List Event) → k ≢ n → copies s d k (Admit s d n ∷ p) ≡ copies s d k p
copies-admit_other s d n k p apart = rw (number-other s d n k apart) refl

copies-repeat_other : (s d n k : ℕ) (p : List Event) → k ≢ n → copies s d k (Repeat s d n ∷ p) ≡ copies s d k p
copies-repeat_other s d n k p apart = rw (number-other s d n k apart) refl

-- ---- a move

-- what is on the open link follows where the pile of number n alone changes, in what the event makes of it
pub moved : (cl : Cluster) (s d n : ℕ) (e : Event) (p : List Event) (old : LinkState) (piles : List (ℕ × Pile)) (pile : Option Pile) → IsLegal cl (e ∷ p) → IsMove s d n p → StandsFor s d p old
    → is_link_open s d (e ∷ p) ≡ is_link_open s d p → length (sent s d p) ≡ length (sent s d (e ∷ p)) → ((k : ℕ) → k ≢ n → pile_of s d (e ∷ p) k ≡ pile_of s d p k)
    → pile_of s d (e ∷ p) n ≡ pile → ChangesPile old.piles piles n pile → PilesFollow s d (e ∷ p) piles
moved cl s d n e p old piles pile legal move stands opened same others here changes =
    let below = move.below in
    piles-follow cl (e ∷ p) p legal legal.1 s d n old.piles piles (opened ∙ move.opened) move.opened (omega arith) (omega arith) others
    (record { piled = stands.piled; counted = stands.counted })
    (subst (ChangesPile old.piles piles n) (sym here) changes)

-- the pile of the number before
pile-before : (s d n : ℕ) (p : List Event) (old : LinkState) → IsMove s d n p → StandsFor s d p old → pile_at old.piles n ≡ pile_with true (copies s d n p) (envelope_at s d p n)
pile-before s d n p old move stands = stands.piled n ∙ ap (λ o. pile_with o (copies s d n p) (envelope_at s d p n)) move.opened

-- what a move leaves as it was, with the gate
pub record MovesOn (s d : ℕ) (e : Event) (p : List Event) (old new : LinkState) : Type 0 where
  pub link : (new.is_open ≡ old.is_open) × (new.sent ≡ old.sent)
  pub gate : new.gate ≡ old.gate
  pub opened : is_link_open s d (e ∷ p) ≡ is_link_open s d p
  pub sends : sent s d (e ∷ p) ≡ sent s d p
  pub admits : (k : ℕ) → was_admitted s d k (e ∷ p) ≡ was_admitted s d k p
  pub since : admitted_since s d (e ∷ p) ≡ admitted_since s d p

-- then the link stands for what the piles follow
moves-on : (s d : ℕ) (e : Event) (p : List Event) (old new : LinkState) → StandsFor s d p old → MovesOn s d e p old new → PilesFollow s d (e ∷ p) new.piles → StandsFor s d (e ∷ p) new
moves-on s d e p old new stands on follow = record {
  ends = subst (λ (g : Gate). (g.from ≡ s) × (g.at ≡ d)) (sym on.gate) stands.ends;
  opened = on.link.0 ∙ stands.opened ∙ sym on.opened;
  stamped = on.link.1 ∙ stands.stamped ∙ sym (ap length on.sends);
  piled = follow.piled;
  counted = follow.counted;
  admitted = λ k. ap (λ (g : Gate). is_admitted g k) on.gate ∙ stands.admitted k ∙ sym (on.admits k);
  messages = ap (λ (g : Gate). g.messages) on.gate ∙ stands.messages ∙ sym (ap message_recipients on.since);
  carried = ap (λ (g : Gate). g.carried) on.gate ∙ stands.carried ∙ sym (ap message_pairs on.since);
}

pub loses : (cl : Cluster) (s d n : ℕ) (p : List Event) (old new : LinkState) → IsLegal cl (Lose s d n ∷ p) → StandsFor s d p old → IsMoved old new n (fewer (pile_at old.piles n)) → new.gate ≡ old.gate → StandsFor s d (Lose s d n ∷ p) new
loses cl s d n p old new legal stands moves gate =
    let move = lose-is_move cl s d n p legal in
    let m = envelope_at s d p n in
    let others = λ (k : ℕ) (apart : k ≢ n). ap (λ c. pile_with (is_link_open s d p) c (envelope_at s d p k)) (copies-lose_other s d n k p apart) in
    let here = ap (λ o. pile_with o (copies s d n (Lose s d n ∷ p)) m) move.opened ∙ ap (λ c. pile_with true c m) (copies-lose s d n p)
    ∙ pile-fewer (copies s d n p) m move.some ∙ sym (ap fewer (pile-before s d n p old move stands)) in
    moves-on s d (Lose s d n) p old new stands
    (record { link = moves.link; gate = gate; opened = refl; sends = refl; admits = λ k. refl; since = refl })
    (moved cl s d n (Lose s d n) p old new.piles (fewer (pile_at old.piles n)) legal move stands refl refl others here moves.piles)

pub repeats : (cl : Cluster) (s d n : ℕ) (p : List Event) (old new : LinkState) → IsLegal cl (Repeat s d n ∷ p) → StandsFor s d p old → IsMoved old new n (more (pile_at old.piles n)) → new.gate ≡ old.gate → StandsFor s d (Repeat s d n ∷ p) new
repeats cl s d n p old new legal stands moves gate =
    let move = repeat-is_move cl s d n p legal in
    let m = envelope_at s d p n in
    let others = λ (k : ℕ) (apart : k ≢ n). ap (λ c. pile_with (is_link_open s d p) c (envelope_at s d p k)) (copies-repeat_other s d n k p apart) in
    let here = ap (λ o. pile_with o (copies s d n (Repeat s d n ∷ p)) m) move.opened ∙ ap (λ c. pile_with true c m) (copies-repeat s d n p move.some)
    ∙ pile-more (copies s d n p) m move.some ∙ sym (ap more (pile-before s d n p old move stands)) in
    moves-on s d (Repeat s d n) p old new stands
    (record { link = moves.link; gate = gate; opened = refl; sends = refl; admits = λ k. refl; since = refl })
    (moved cl s d n (Repeat s d n) p old new.piles (more (pile_at old.piles n)) legal move stands refl refl others here moves.piles)

-- ---- an admission

-- what the gate keeps goes on as the messages that were admitted
gate-lists : (v : Bool) (o : Option Message) (n : ℕ) (since : List Message) (old new : Gate) → IsSome o → GateAdmits old new n (cond v None (option_map envelope_of o))
    → old.messages ≡ message_recipients since → old.carried ≡ message_pairs since
    → ((new.messages ≡ message_recipients (since ++ cond v [] (option_to_list o))) × (new.carried ≡ message_pairs (since ++ cond v [] (option_to_list o)))) × ((new.from ≡ old.from) × (new.at ≡ old.at))
gate-lists true o n since old new some admits messages carried = (
  (
    ap (λ (g : Gate). g.messages) admits.1 ∙ messages ∙ sym (ap message_recipients (append-nil since)),
    ap (λ (g : Gate). g.carried) admits.1 ∙ carried ∙ sym (ap message_pairs (append-nil since)),
  ),
  (ap (λ (g : Gate). g.from) admits.1, ap (λ (g : Gate). g.at) admits.1),
)
gate-lists false None n since old new some admits messages carried = absurd (false≢true some)
gate-lists false (Some m) n since old new some admits messages carried = (
  (
    admits.1.messages ∙ ap (λ ms. ms ++ m.to ∷ []) messages ∙ sym (map-append (λ (x : Message). x.to) since (m ∷ [])),
    admits.1.carried ∙ ap (λ ps. ps ++ map (λ a. (m.to, a)) m.refs) carried
        ∙ ap (λ ps. message_pairs since ++ ps) (sym (append-nil (map (λ a. (m.to, a)) m.refs)))
        ∙ sym (flat_map-append (λ (x : Message). map (λ a. (x.to, a)) x.refs) since (m ∷ [])),
  ),
  (admits.1.link.1, admits.1.link.0),
)

-- a message that was sent is there
sent-there : (ms : List Message) (k : ℕ) → k < length ms → IsSome (slice_get ms k)
sent-there [] k below = absurd (omega arith)
sent-there (m ∷ ms) k below = subst IsSome (sym (slice_get-get_or (m ∷ ms) k m below)) refl

-- the numbers that were admitted, with this one
admits-itself : (s d n : ℕ) (p : List Event) → was_admitted s d n (Admit s d n ∷ p) ≡ true
admits-itself s d n p = rw (number-itself s d n) refl

admits-other : (s d n k : ℕ) (p : List Event) → k ≢ n → was_admitted s d k (Admit s d n ∷ p) ≡ was_admitted s d k p
admits-other s d n k p apart = rw (number-other s d n k apart) refl

since-admit : (s d n : ℕ) (p : List Event) → admitted_since s d (Admit s d n ∷ p) ≡ admitted_since s d p ++ cond (was_admitted s d n p) [] (message_at s d n p)
since-admit s d n p = rw (link-itself s d) refl

pub admits : (cl : Cluster) (s d n : ℕ) (p : List Event) (old new : LinkState) → IsLegal cl (Admit s d n ∷ p) → StandsFor s d p old → Admitted old new n → StandsFor s d (Admit s d n ∷ p) new
admits cl s d n p old new legal stands came =
    let move = admit-is_move cl s d n p legal in
    let h : List Event = Admit s d n ∷ p in
    let m = envelope_at s d p n in
    let pile = pile_at old.piles n in
    let was = pile-before s d n p old move stands in
    let others = λ (k : ℕ) (apart : k ≢ n).
    pile-same (is_link_open s d p) (is_link_open s d p) (copies s d k h) (copies s d k p) (envelope_at s d h k) (envelope_at s d p k) refl (copies-admit_other s d n k p apart)
    (ap (λ v. cond v None (option_map envelope_of (slice_get (sent s d p) k))) (admits-other s d n k p apart)) in
    let bare : envelope_at s d h n ≡ None = cond-true (was_admitted s d n h) None (option_map envelope_of (slice_get (sent s d p) n)) (admits-itself s d n p) in
    let here = pile-same (is_link_open s d p) true (copies s d n h) (copies s d n p - 1) (envelope_at s d h n) None move.opened (copies-admit s d n p) bare
    ∙ pile-fewer (copies s d n p) None move.some ∙ ap fewer (pile-stripped true (copies s d n p) m) ∙ sym (ap (λ o. fewer (stripped o)) was) in
    let follow = moved cl s d n (Admit s d n) p old new.piles (fewer (stripped pile)) legal move stands refl refl others here came.moved.piles in
    let message = ap message_in was ∙ message_in-with (copies s d n p) m move.some in
    let gate = subst (GateAdmits old.gate new.gate n) message came.gate in
    let numbers = gate-numbers old.gate new.gate n m gate in
    let lists = gate-lists (was_admitted s d n p) (slice_get (sent s d p) n) n (admitted_since s d p) old.gate new.gate (sent-there (sent s d p) n move.below) gate stands.messages stands.carried in
    let since = since-admit s d n p in
    record {
      ends = (lists.1.0 ∙ stands.ends.0, lists.1.1 ∙ stands.ends.1);
      opened = came.moved.link.0 ∙ stands.opened;
      stamped = came.moved.link.1 ∙ stands.stamped;
      piled = follow.piled;
      counted = follow.counted;
      admitted = λ k. elim (cases_eq k n) [
        | inl same ↦ subst (λ j. is_admitted new.gate j ≡ was_admitted s d j h) (sym same) (numbers.0 ∙ sym (admits-itself s d n p))
        | inr apart ↦ numbers.1 k apart ∙ stands.admitted k ∙ sym (admits-other s d n k p apart)
      ];
      messages = lists.0.0 ∙ sym (ap message_recipients since);
      carried = lists.0.1 ∙ sym (ap message_pairs since);
    }

-- ---- a send

-- one message more on the link
sent-next : (f t : Actor) (refs : List Actor) (p : List Event) → sent f.node t.node (Send f t refs ∷ p) ≡ sent f.node t.node p ++ record { from = f; to = t; refs = refs } ∷ []
sent-next f t refs p = rw (link-itself f.node t.node) refl

-- it is the last one, and the others are where they were
last-there : (ms : List Message) (m : Message) → slice_get (ms ++ m ∷ []) (length ms) ≡ Some m
last-there [] m = refl
last-there (x ∷ ms) m = last-there ms m

others-there : (ms : List Message) (m : Message) (k : ℕ) → k ≢ length ms → slice_get (ms ++ m ∷ []) k ≡ slice_get ms k
others-there [] m zero apart = absurd (apart refl)
others-there [] m (suc k) apart = refl
others-there (x ∷ ms) m zero apart = refl
others-there (x ∷ ms) m (suc k) apart = others-there ms m k (λ e. apart (ap suc e))

-- one where the number was sent
abbrev was_sent : ℕ → ℕ → ℕ
was_sent k n = cond (nat_lt k n) 1 0

-- the copies, by what was sent
copies-after : (s d k : ℕ) (e : Event) (p : List Event) → tally (is_repeat s d k) (e ∷ p) ≡ tally (is_repeat s d k) p → tally (is_lose s d k) (e ∷ p) ≡ tally (is_lose s d k) p → tally (is_admit s d k) (e ∷ p) ≡ tally (is_admit s d k) p
    → was_sent k (length (sent s d (e ∷ p))) ≡ was_sent k (length (sent s d p)) → copies s d k (e ∷ p) ≡ copies s d k p
copies-after s d k e p repeated lost admitted sends = omega arith

-- the next number had no copy, and has one now
copies-first : (cl : Cluster) (f t : Actor) (refs : List Actor) (p : List Event) → IsLegal cl p → copies f.node t.node (length (sent f.node t.node p)) (Send f t refs ∷ p) ≡ 1
copies-first cl f t refs p legal =
    let s = f.node in
    let d = t.node in
    let n = length (sent s d p) in
    let exact = copies-exact cl p legal s d n in
    let none : copies s d n p ≤ 0 = elim (cases_lt 0 (copies s d n p)) [ inl some ↦ (let below = copies-was_sent cl p legal s d n some in absurd (omega arith)) | inr zero_there ↦ zero_there ] in
    let longer = ap length (sent-next f t refs p) ∙ length-append (sent s d p) (record { from = f; to = t; refs = refs } ∷ []) in
    let after : was_sent n (length (sent s d (Send f t refs ∷ p))) ≡ was_sent n (n + 1) = ap (was_sent n) longer in
    let one : was_sent n (n + 1) ≡ 1 = cond-true (nat_lt n (n + 1)) 1 0 (lt-ltb n (n + 1) (omega arith)) in
    let zero_before : was_sent n n ≡ 0 = cond-false (nat_lt n n) 1 0 (le-ltb n n (omega arith)) in
    omega arith

-- other numbers have the copies that they had
copies-send_other : (f t : Actor) (refs : List Actor) (p : List Event) (k : ℕ) → k ≢ length (sent f.node t.node p) → copies f.node t.node k (Send f t refs ∷ p) ≡ copies f.node t.node k p
copies-send_other f t refs p k apart =
    let n = length (sent f.node t.node p) in
    let longer = ap length (sent-next f t refs p) ∙ length-append (sent f.node t.node p) (record { from = f; to = t; refs = refs } ∷ []) in
    let after : was_sent k (length (sent f.node t.node (Send f t refs ∷ p))) ≡ was_sent k (n + 1) = ap (was_sent k) longer in
    let same : was_sent k (n + 1) ≡ was_sent k n = elim (cases_lt k n) [
      | inl less ↦ cond-true (nat_lt k (n + 1)) 1 0 (lt-ltb k (n + 1) (omega arith)) ∙ sym (cond-true (nat_lt k n) 1 0 (lt-ltb k n less))
      | inr past ↦ cond-false (nat_lt k (n + 1)) 1 0 (le-ltb k (n + 1) (omega (arith, apart))) ∙ sym (cond-false (nat_lt k n) 1 0 (le-ltb k n past))
    ] in
    copies-after f.node t.node k (Send f t refs) p refl refl refl (after ∙ same)

-- what is on the link follows a send
send-follows : (cl : Cluster) (f t : Actor) (refs : List Actor) (p : List Event) (old new : LinkState) → IsLegal cl (Send f t refs ∷ p) → StandsFor f.node t.node p old → Sends old new (record { to = t; refs = refs })
    → PilesFollow f.node t.node (Send f t refs ∷ p) new.piles
send-follows cl f t refs p old new legal stands sends =
    let s = f.node in
    let d = t.node in
    let h : List Event = Send f t refs ∷ p in
    let m : Message = record { from = f; to = t; refs = refs } in
    let ms = sent s d p in
    let n = length ms in
    let next = sent-next f t refs p in
    let longer = ap length next ∙ length-append ms (m ∷ []) in
    let others = λ (k : ℕ) (apart : k ≢ n).
    pile-same (is_link_open s d p) (is_link_open s d p) (copies s d k h) (copies s d k p) (envelope_at s d h k) (envelope_at s d p k) refl (copies-send_other f t refs p k apart)
    (ap (λ o. cond (was_admitted s d k p) None (option_map envelope_of o)) (ap (λ xs. slice_get xs k) next ∙ others-there ms m k apart)) in
    elim (cases_Bool (is_link_open s d p)) [
      | inl opened ↦ (
          let fresh : was_admitted s d n p ≡ false = false_from_ne_true (was_admitted s d n p) (λ t. (let below = admitted-was_sent cl p legal.1 s d n t in absurd (omega arith))) in
          let brings : envelope_at s d h n ≡ Some (record { to = t; refs = refs }) =
          cond-false (was_admitted s d n p) None (option_map envelope_of (slice_get (sent s d h) n)) fresh
          ∙ ap (option_map envelope_of) (ap (λ xs. slice_get xs n) next ∙ last-there ms m) in
          let here : pile_of s d h n ≡ Some (record { copies = 1; message = Some (record { to = t; refs = refs }) }) =
          pile-same (is_link_open s d p) true (copies s d n h) 1 (envelope_at s d h n) (Some (record { to = t; refs = refs })) opened (copies-first cl f t refs p legal.1) brings in
          let changes = subst (λ k. ChangesPile old.piles new.piles k (Some (record { copies = 1; message = Some (record { to = t; refs = refs }) }))) stands.stamped (sends.opened (stands.opened ∙ opened)) in
          piles-follow cl h p legal legal.1 s d n old.piles new.piles opened opened (omega arith) (omega arith) others (record { piled = stands.piled; counted = stands.counted })
          (subst (ChangesPile old.piles new.piles n) (sym here) changes)
          )
      | inr shut ↦ (
          let same = sends.shut (stands.opened ∙ shut) in
          let none = λ (q : List Event) (e : is_link_open s d q ≡ false) (k : ℕ). ap (λ o. pile_with o (copies s d k q) (envelope_at s d q k)) e in
          record {
            piled = λ k. ap (λ ps. pile_at ps k) same ∙ stands.piled k ∙ none p shut k ∙ sym (none h shut k);
            counted = ap kept_count same ∙ stands.counted ∙ cond-false (is_link_open s d p) (under_way s d p) 0 shut ∙ sym (cond-false (is_link_open s d p) (under_way s d h) 0 shut);
          }
          )
    ]

pub sends-message : (cl : Cluster) (f t : Actor) (refs : List Actor) (p : List Event) (old new : LinkState) → IsLegal cl (Send f t refs ∷ p) → StandsFor f.node t.node p old → Sends old new (record { to = t; refs = refs })
    → StandsFor f.node t.node (Send f t refs ∷ p) new
sends-message cl f t refs p old new legal stands sends =
    let follow = send-follows cl f t refs p old new legal stands sends in
    let gate = sends.link.1 in
    let longer = ap length (sent-next f t refs p) ∙ length-append (sent f.node t.node p) (record { from = f; to = t; refs = refs } ∷ []) in
    record {
      ends = subst (λ (g : Gate). (g.from ≡ f.node) × (g.at ≡ t.node)) (sym gate) stands.ends;
      opened = sends.link.0 ∙ stands.opened;
      stamped = (let number = sends.number in let stamped = stands.stamped in omega arith);
      piled = follow.piled;
      counted = follow.counted;
      admitted = λ k. ap (λ (g : Gate). is_admitted g k) gate ∙ stands.admitted k;
      messages = ap (λ (g : Gate). g.messages) gate ∙ stands.messages;
      carried = ap (λ (g : Gate). g.carried) gate ∙ stands.carried;
    }
