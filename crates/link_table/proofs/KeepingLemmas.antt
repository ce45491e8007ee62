-- How a link keeps what is on it: what its calls leave of the invariant.
use Rattle.std.proofs.Common.{◌≡◌, ◌≢◌, ◌+◌, ◌-◌, ◌<◌, ◌≤◌, ◌==◌, ◌||◌, ℕ, Bool, true, false, not, List, Option, None, Some, Result, Ok, Err, refl, sym, ◌∙◌, ap, subst, inl, inr, arith}
use Rattle.std.proofs.lemmas.Bool.{both_ways, cases_Bool, cases_eq, cond_both, eq-eqb, eqb-false, ne_eqb, not-false, not-true, or_left}
use Rattle.std.specs.Option.{IfNone, OnSome}
use Rattle.std.specs.Result.{IfOk}
use Rattle.crgc_ids.specs.Actor.{Actor}
use Rattle.ingress_gateway.specs.Admission.{Admits, Answered}
use Rattle.ingress_gateway.specs.declared.ingress.Admit.{Admit}
use Rattle.ingress_gateway.specs.declared.ingress.Admit.TheVariants.{Admitted as admitted, Closed, Discarded}
use Rattle.history_model.specs.declared.records.Window.{Window}
use Rattle.ingress_gateway.specs.Gate.{Gate, emptied, is_admitted}
use Rattle.link_table.specs.declared.piles.Envelope.{Envelope}
use Rattle.link_table.specs.declared.piles.Pile.{Pile}
use Rattle.link_table.specs.Keeping.{IsKept}
use Rattle.link_table.specs.LinkState.{GateAdmits, IsMoved, LinkState, Sends}
use Rattle.link_table.specs.Piled.{ChangesPile, copies_in, fewer, has_message, kept_count, message_in, more, pile_at, stripped, weight}

-- ---- one pile

-- it has a copy, and its message or none
abbrev pub IsPileWith : Bool → Pile → Type 0
IsPileWith v p = (0 < p.copies) × (has_message p.message ≡ v)

-- so has each pile that may be there
abbrev pub ArePilesWith : Bool → Option Pile → Type 0
ArePilesWith v pile = (p : Pile) → pile ≡ Some p → IsPileWith v p

pub more-with : (v : Bool) (pile : Option Pile) → ArePilesWith v pile → ArePilesWith v (more pile)
more-with v None all p e = absurd (cc)
more-with v (Some q) all p e =
    let there = all q refl in
    let same : record q { copies = q.copies + 1 } ≡ p = cc in
    subst (IsPileWith v) same (omega arith, there.1)

pub fewer-with : (v : Bool) (pile : Option Pile) → ArePilesWith v pile → ArePilesWith v (fewer pile)
fewer-with v None all p e = absurd (cc)
fewer-with v (Some q) all p e =
    let there = all q refl in
    let left : Pile = record q { copies = q.copies - 1 } in
    cond_both (q.copies == 1) None (Some left) (λ o. o ≡ Some p → IsPileWith v p)
    (λ _ none. absurd (cc))
    (λ t some.
    let differ : q.copies ≢ 1 = eqb-false q.copies 1 t in
    let same : left ≡ p = cc in
    subst (IsPileWith v) same (omega arith, there.1)) e

pub stripped-with : (v : Bool) (pile : Option Pile) → ArePilesWith v pile → ArePilesWith false (stripped pile)
stripped-with v None all p e = absurd (cc)
stripped-with v (Some q) all p e =
    let there = all q refl in
    let same : record q { message = None } ≡ p = cc in
    subst (IsPileWith false) same (there.0, refl)

-- no message weighs more with fewer copies, or more of them
pub weight-more : (pile : Option Pile) → weight (more pile) ≡ weight pile
weight-more None = refl
weight-more (Some q) = refl

pub weight-fewer : (pile : Option Pile) → weight (fewer pile) ≤ weight pile
weight-fewer None = omega arith
weight-fewer (Some q) =
    let left : Pile = record q { copies = q.copies - 1 } in
    cond_both (q.copies == 1) None (Some left) (λ o. weight o ≤ weight (Some q)) (λ _. omega arith) (λ _. omega arith)

pub weight-stripped : (pile : Option Pile) → weight (stripped pile) ≤ weight pile
weight-stripped None = omega arith
weight-stripped (Some q) = omega arith

-- what has no message has none to take out
pub stripped-bare : (pile : Option Pile) → message_in pile ≡ None → stripped pile ≡ pile
stripped-bare None none = refl
stripped-bare (Some q) none = ap (λ m. Some (record { copies = q.copies; message = m })) (sym none)

-- a number with a copy has a pile
pub some-pile : (pile : Option Pile) → 0 < copies_in pile → (p : Pile) × (pile ≡ Some p)
some-pile None some = absurd (omega arith)
some-pile (Some p) some = (p, refl)

-- two changes of one number are one
pub changes-twice : (old mid new : List (ℕ × Pile)) (k : ℕ) (first last : Option Pile) → ChangesPile old mid k first → ChangesPile mid new k last → ChangesPile old new k last
changes-twice old mid new k first last one two = record {
  changed = two.changed;
  others = λ j apart. two.others j apart ∙ one.others j apart;
  count =
      let here = ap weight one.changed in
      omega (arith, one.count, two.count);
}

-- ---- the gate

-- an open gate admits a number that it did not admit before
pub gate-admits : {E : Type 0} (old new : Gate) (number : ℕ) (to : Actor) (refs : List Actor) (r : Result Admit E) → ((e : E) → r ≡ Err e → ⊥) → IfOk r (Answered old new number to refs)
    → old.is_closed ≡ false → is_admitted old number ≡ false → Admits old new number to refs
gate-admits old new number to refs (Err e) never told opened fresh = absurd (never e refl)
gate-admits old new number to refs (Ok Closed) never told opened fresh = absurd (both_ways old.is_closed opened told.0)
gate-admits old new number to refs (Ok Discarded) never told opened fresh = absurd (both_ways (is_admitted old number) fresh told.1)
gate-admits old new number to refs (Ok admitted) never told opened fresh = told.2

-- what a message does to the gate, by number
pub gate-numbers : (old new : Gate) (number : ℕ) (message : Option Envelope) → GateAdmits old new number message → (is_admitted new number ≡ true) × ((k : ℕ) → k ≢ number → is_admitted new k ≡ is_admitted old k)
gate-numbers old new number None admits = (subst (λ (g : Gate). is_admitted g number ≡ true) (sym admits.1) admits.0, λ k _. ap (λ (g : Gate). is_admitted g k) admits.1)
gate-numbers old new number (Some m) admits = (
  admits.1.numbers number ∙ or_left (number == number) (is_admitted old number) (eq-eqb number number refl),
  λ k apart. admits.1.numbers k ∙ ap (λ v. v || is_admitted old k) (ne_eqb k number apart),
)

-- it stays as open as it was
pub gate-open : (old new : Gate) (number : ℕ) (message : Option Envelope) → GateAdmits old new number message → old.is_closed ≡ false → new.is_closed ≡ false
gate-open old new number None admits opened = ap (λ (g : Gate). g.is_closed) admits.1 ∙ opened
gate-open old new number (Some m) admits opened = admits.1.link.2

-- ---- the link

-- a number that has a copy was sent, and its link is open
pub some-sent : (l : LinkState) (number : ℕ) → IsKept l → 0 < copies_in (pile_at l.piles number) → (number < l.sent) × (l.is_open ≡ true)
some-sent l number kept some =
    let found = some-pile (pile_at l.piles number) some in
    let sent : l.sent ≤ number → ⊥ = λ past. (let none = (kept.unsent number past).0 ∙ refl in absurd (cc (found.1, none))) in
    let opened : l.is_open ≡ false → ⊥ = λ shut. (let none : pile_at l.piles number ≡ None = ap (λ ps. pile_at ps number) (kept.shut shut) in absurd (cc (found.1, none))) in
    (omega (arith, sent), elim (cases_Bool l.is_open) [ inl e ↦ e | inr e ↦ absurd (opened e) ])

-- the link keeps what one number changed
pub keeps-moved : (old new : LinkState) (number : ℕ) (pile : Option Pile) → IsKept old → IsMoved old new number pile → 0 < copies_in (pile_at old.piles number)
    → ((k : ℕ) → k ≢ number → is_admitted new.gate k ≡ is_admitted old.gate k) → ArePilesWith (not (is_admitted new.gate number)) pile → weight pile ≤ weight (pile_at old.piles number)
    → (old.gate.is_closed ≡ false → new.gate.is_closed ≡ false) → IsKept new
keeps-moved old new number pile kept moved some gates with_ light opened =
    let there = some-sent old number kept some in
    record {
      unsent = λ k past.
          let apart : k ≢ number = λ e. (let less = there.0 in let sent = moved.link.1 in absurd (omega arith)) in
          let before = kept.unsent k (let sent = moved.link.1 in omega arith) in
          (moved.piles.others k apart ∙ before.0, gates k apart ∙ before.1);
      piles = λ k p e. elim (cases_eq k number) [
        | inl same ↦ subst (λ j. IsPileWith (not (is_admitted new.gate j)) p) (sym same) (with_ p (sym moved.piles.changed ∙ ap (pile_at new.piles) (sym same) ∙ e))
        | inr apart ↦ (
            let before = kept.piles k p (sym (moved.piles.others k apart) ∙ e) in
            (before.0, before.1 ∙ ap not (sym (gates k apart)))
            )
      ];
      count = (let sent = moved.link.1 in omega (arith, moved.piles.count, kept.count));
      shut = λ e. absurd (both_ways old.is_open (sym moved.link.0 ∙ e) there.1);
      opened = λ e. opened (kept.opened there.1);
    }

-- the link keeps what was sent
pub keeps-sent : (old new : LinkState) (message : Envelope) → IsKept old → Sends old new message → IsKept new
keeps-sent old new message kept sends =
    let number = old.sent in
    let next = sends.number in
    let gate = sends.link.1 in
    let first : Pile = record { copies = 1; message = Some message } in
    let fresh = kept.unsent number (omega arith) in
    let same_gate = λ (k : ℕ). ap (λ (g : Gate). is_admitted g k) gate in
    let open_still = λ (e : new.is_open ≡ true). ap (λ (g : Gate). g.is_closed) gate ∙ kept.opened (sym sends.link.0 ∙ e) in
    elim (cases_Bool old.is_open) [
      | inl is_open ↦ (
          let changes = sends.opened is_open in
          record {
            unsent = λ k past.
                let apart : k ≢ number = λ e. absurd (omega arith) in
                let before = kept.unsent k (omega arith) in
                (changes.others k apart ∙ before.0, same_gate k ∙ before.1);
            piles = λ k p e. elim (cases_eq k number) [
              | inl same ↦ (
                  let is : first ≡ p = (let now = sym changes.changed ∙ ap (pile_at new.piles) (sym same) ∙ e in cc) in
                  let none : is_admitted new.gate k ≡ false = same_gate k ∙ ap (is_admitted old.gate) same ∙ fresh.1 in
                  subst (IsPileWith (not (is_admitted new.gate k))) is (omega arith, sym (ap not none))
                  )
              | inr apart ↦ (
                  let before = kept.piles k p (sym (changes.others k apart) ∙ e) in
                  (before.0, before.1 ∙ ap not (sym (same_gate k)))
                  )
            ];
            count = (let none = ap weight fresh.0 in omega (arith, changes.count, kept.count));
            shut = λ e. absurd (both_ways old.is_open (sym sends.link.0 ∙ e) is_open);
            opened = open_still;
          }
          )
      | inr shut ↦ (
          let same = sends.shut shut in
          record {
            unsent = λ k past. (let before = kept.unsent k (omega arith) in (ap (λ ps. pile_at ps k) same ∙ before.0, same_gate k ∙ before.1));
            piles = λ k p e. (
                let before = kept.piles k p (sym (ap (λ ps. pile_at ps k) same) ∙ e) in
                (before.0, before.1 ∙ ap not (sym (same_gate k)))
                );
            count = (let piles = ap kept_count same in omega (arith, kept.count));
            shut = λ e. same ∙ kept.shut (sym sends.link.0 ∙ e);
            opened = open_still;
          }
          )
    ]

-- a pile without its message is of a number that was admitted before
pub gate-again : (l : LinkState) (number : ℕ) → IsKept l → 0 < copies_in (pile_at l.piles number) → message_in (pile_at l.piles number) ≡ None → GateAdmits l.gate l.gate number (message_in (pile_at l.piles number))
gate-again l number kept some none =
    let found = some-pile (pile_at l.piles number) some in
    let bare : has_message (message_in (pile_at l.piles number)) ≡ false = ap has_message none in
    let told : has_message (message_in (pile_at l.piles number)) ≡ not (is_admitted l.gate number) = ap (λ o. has_message (message_in o)) found.1 ∙ (kept.piles number found.0 found.1).1 in
    subst (GateAdmits l.gate l.gate number) (sym none) (not-false (is_admitted l.gate number) (sym told ∙ bare), refl)

-- a pile with its message is of a number that was not
pub gate-fresh : (l : LinkState) (number : ℕ) (message : Envelope) → IsKept l → 0 < copies_in (pile_at l.piles number) → Some message ≡ message_in (pile_at l.piles number) → is_admitted l.gate number ≡ false
gate-fresh l number message kept some there =
    let found = some-pile (pile_at l.piles number) some in
    let told : has_message (message_in (pile_at l.piles number)) ≡ not (is_admitted l.gate number) = ap (λ o. has_message (message_in o)) found.1 ∙ (kept.piles number found.0 found.1).1 in
    not-true (is_admitted l.gate number) (sym told ∙ ap has_message (sym there))

-- the link after a copy came to the gate
abbrev pub with_gate : LinkState → Gate → List (ℕ × Pile) → LinkState
with_gate l gate piles = record { is_open = l.is_open; sent = l.sent; gate = gate; piles = piles }

pub admits-kept : (l : LinkState) (gate : Gate) (piles : List (ℕ × Pile)) (number : ℕ) → IsKept l → 0 < copies_in (pile_at l.piles number) → GateAdmits l.gate gate number (message_in (pile_at l.piles number))
    → ChangesPile l.piles piles number (fewer (stripped (pile_at l.piles number))) → IsKept (with_gate l gate piles)
admits-kept l gate piles number kept some admits changes =
    let pile = pile_at l.piles number in
    let gates = gate-numbers l.gate gate number (message_in pile) admits in
    let bare = fewer-with false (stripped pile) (stripped-with (not (is_admitted l.gate number)) pile (kept.piles number)) in
    keeps-moved l (with_gate l gate piles) number (fewer (stripped pile)) kept (record { link = (refl, refl); piles = changes }) some gates.1
    (subst (λ v. ArePilesWith v (fewer (stripped pile))) (sym (ap not gates.0)) bare)
    (omega (arith, weight-fewer (stripped pile), weight-stripped pile))
    (gate-open l.gate gate number (message_in pile) admits)

-- a window leaves what is on the link
pub cut-kept : (l : LinkState) (gate : Gate) (window : Option Window) → IsKept l → OnSome window (gate ≡ emptied l.gate) → IfNone window (gate ≡ l.gate) → IsKept (with_gate l gate l.piles)
cut-kept l gate None kept some none = subst (λ g. IsKept (with_gate l g l.piles)) (sym none) kept
cut-kept l gate (Some w) kept some none =
    let after : IsKept (with_gate l (emptied l.gate) l.piles) = record { unsent = kept.unsent; piles = kept.piles; count = kept.count; shut = kept.shut; opened = kept.opened } in
    subst (λ g. IsKept (with_gate l g l.piles)) (sym some) after
