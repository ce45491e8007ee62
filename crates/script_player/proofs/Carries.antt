-- What can be carried: the first link that has a head, and none where no link has one.
use Rattle.std.proofs.Common.{◌≡◌, ◌≢◌, ◌+◌, ◌-◌, ◌<◌, ◌==◌, ◌&&◌, ℕ, Bool, true, false, not, is_none, nat_lt, List, ◌∷◌, length, option_to_list, Some, None, refl, sym, ◌∙◌, ap, subst, arith, inl, inr, if◌then◌else◌}
use Rattle.std.specs.List.{filter_map, find, list_any}
use Rattle.std.specs.Option.{option_map}
use Rattle.std.proofs.lemmas.Bool.{cases_lt, false_from_ne_true, lt-ltb, ltb-true, ne_eqb}
use Rattle.crgc_ids.specs.Nodes.{nodes_below}
use Rattle.history_model.specs.declared.events.Event.{Event}
use Rattle.history_model.specs.declared.events.Event.TheVariants.{Admit, Lose, Repeat}
use Rattle.history_model.specs.Legal.{IsLegal}
use Rattle.history_model.specs.Messages.{copies, is_admit, is_lose, is_repeat, sent}
use Rattle.history_model.specs.Tally.{tally}
use Rattle.history_model.proofs.AccountsCopies.{copies-was_sent}
use Rattle.fault_plan.specs.Rows.{Planned}
use Rattle.script_reader.specs.Valid.{Scripted}
use Rattle.traffic.specs.Readings.{IsHead, IsOnOpenLink}
use Rattle.run_model.specs.Doing.{cluster_of}
use Rattle.run_model.specs.Planned.{carry, has_row, is_possible, lowest_copy, next_on_link}
use Rattle.run_model.specs.Schedule.{carries}
use Rattle.script_player.specs.Links.{AreStillBefore, IsLinkBefore, IsStill}
use Rattle.script_player.specs.Making.{NothingCarried}
use Rattle.script_player.proofs.Searching.{filter_map-joined, first-in, none-in, one-fails, one-passes}
use Rattle.run_model.proofs.Numbers.{first-number}
use Rattle.run_model.proofs.Carrying.{carry-legal, carry-open}

-- ---- the first link with a head

module _ (s : Scripted) (h : List Event) where
  -- what is next on the link, as a list of at most one
  abbrev on_link : ℕ → ℕ → List Event
  on_link f d = option_to_list (next_on_link s f d h)

  abbrev may : Event → Bool
  may e = is_possible s e h

  link-none : (f d : ℕ) → (f ≢ d → IsStill f d h) → find may (on_link f d) ≡ None
  link-none f d still =
      elim (lowest_copy f d h) as (λ v. find may (option_to_list (option_map (λ k. carry s f d k h) v)) ≡ None) [
        | None ↦ refl
        | Some k ↦ one-fails may (carry s f d k h) (false_from_ne_true (may (carry s f d k h)) (λ possible. (let there = carry-open s f d k h possible in still there.0 k there.1)))
      ]

  row-none : (f : ℕ) → ((d : ℕ) → d < s.nodes → f ≢ d → IsStill f d h) → find may (filter_map (λ d. next_on_link s f d h) (nodes_below s.nodes)) ≡ None
  row-none f still =
      ap (find may) (filter_map-joined (λ d. next_on_link s f d h) (nodes_below s.nodes))
      ∙ none-in may (on_link f) s.nodes 0 (λ d _ below. link-none f d (λ apart. still d (omega (arith, below)) apart))

  -- nothing can be carried where nothing can on any link
  pub none-carried : AreStillBefore s.nodes s.nodes 0 h → NothingCarried s h
  none-carried still =
      none-in may (λ f. filter_map (λ d. next_on_link s f d h) (nodes_below s.nodes)) s.nodes 0
      (λ f _ below. row-none f (λ d small apart. still f d (inl (omega (arith, below))) small apart))

  -- the head is the lowest copy
  head-lowest : IsLegal (cluster_of s) h → (f d k : ℕ) → IsHead f d h (Some k) → lowest_copy f d h ≡ Some k
  head-lowest legal f d k head =
      let sent_k = copies-was_sent (cluster_of s) h legal f d k head.0.1 in
      first-number (λ j. nat_lt 0 (copies f d j h)) (length (sent f d h)) 0 k (omega arith) (omega (arith, sent_k))
      (λ j _ under. false_from_ne_true (nat_lt 0 (copies f d j h)) (λ some. (let least = head.1 j (head.0.0, ltb-true 0 (copies f d j h) some) in absurd (omega (arith, least, under)))))
      (lt-ltb 0 (copies f d k h) head.0.1)

  -- the head of the first link that has one is carried next
  pub first-carried : IsLegal (cluster_of s) h → (f d k : ℕ) → f < s.nodes → d < s.nodes → f ≢ d → IsHead f d h (Some k) → AreStillBefore s.nodes f d h
      → find may (carries s h) ≡ Some (carry s f d k h)
  first-carried legal f d k source at apart head still =
      let e = carry s f d k h in
      let possible : may e ≡ true = ap is_none (carry-legal s f d k h source at apart head.0) in
      let here : find may (on_link f d) ≡ Some e =
      ap (λ v. find may (option_to_list (option_map (λ k. carry s f d k h) v))) (head-lowest legal f d k head) ∙ one-passes may e possible in
      first-in may (λ f. filter_map (λ d. next_on_link s f d h) (nodes_below s.nodes)) s.nodes 0 f e (omega arith) (omega (arith, source))
      (λ j _ under. row-none j (λ t small apart. still j t (inl under) small apart))
      (ap (find may) (filter_map-joined (λ d. next_on_link s f d h) (nodes_below s.nodes))
      ∙ first-in may (on_link f) s.nodes 0 d e (omega arith) (omega (arith, at)) (λ t _ under. link-none f t (λ apart. still f t (inr (refl, under)) (omega (arith, at, under)) apart)) here)

-- ---- what is carried on one link leaves those before it still

apart-test : (x y f d n k : ℕ) → IsLinkBefore x y f d → ((f == x) && ((d == y) && (n == k))) ≡ false
apart-test x y f d n k (inl less) = rw (ne_eqb f x (λ e. omega (arith, e, less))) refl
apart-test x y f d n k (inr (same, less)) = rw (ne_eqb d y (λ e. omega (arith, less, e))) (elim (f == x) as (λ v. (v && false) ≡ false) [ true ↦ refl | false ↦ refl ])

open-before : (x y f d k n : ℕ) (h : List Event) → IsLinkBefore x y f d → (IsOnOpenLink x y (Admit f d n ∷ h) k → IsOnOpenLink x y h k) × (IsOnOpenLink x y (Lose f d n ∷ h) k → IsOnOpenLink x y h k) × (IsOnOpenLink x y (Repeat f d n ∷ h) k → IsOnOpenLink x y h k)
open-before x y f d k n h before =
    let apart = apart-test x y f d n k before in (
      λ there. (there.0, subst (λ m. 0 < m) (ap (λ v. ((if nat_lt k (length (sent x y h)) then 1 else 0) + tally (is_repeat x y k) h) - (tally (is_lose x y k) h + (if v then tally (is_admit x y k) h + 1 else tally (is_admit x y k) h))) apart) there.1),
      λ there. (there.0, subst (λ m. 0 < m) (ap (λ v. ((if nat_lt k (length (sent x y h)) then 1 else 0) + tally (is_repeat x y k) h) - ((if v then tally (is_lose x y k) h + 1 else tally (is_lose x y k) h) + tally (is_admit x y k) h)) apart) there.1),
      λ there. (there.0, subst (λ m. 0 < m) (ap (λ v. ((if nat_lt k (length (sent x y h)) then 1 else 0) + (if v then tally (is_repeat x y k) h + 1 else tally (is_repeat x y k) h)) - (tally (is_lose x y k) h + tally (is_admit x y k) h)) apart) there.1),
    )

pub still-kept : (s : Scripted) (nodes f d n : ℕ) (h g : List Event) → AreStillBefore nodes f d h → AreStillBefore nodes f d (carry s f d n g ∷ h)
still-kept s nodes f d n h g still =
    let plan : Planned = s.plan in
    let repeats = has_row f d n plan.repeats && not (list_any (is_repeat f d n) g) in
    let loses = has_row f d n plan.losses && not (list_any (is_lose f d n) g) in
    elim repeats as (λ v. AreStillBefore nodes f d ((if v then Repeat f d n else if loses then Lose f d n else Admit f d n) ∷ h)) [
      | true ↦ λ x y before small apart k there. still x y before small apart k ((open-before x y f d k n h before).2 there)
      | false ↦ elim loses as (λ v. AreStillBefore nodes f d ((if v then Lose f d n else Admit f d n) ∷ h)) [
        | true ↦ λ x y before small apart k there. still x y before small apart k ((open-before x y f d k n h before).1 there)
        | false ↦ λ x y before small apart k there. still x y before small apart k ((open-before x y f d k n h before).0 there)
      ]
    ]

-- ---- the walk over the links

-- the next link of the row
pub still-next : (nodes f d : ℕ) (h : List Event) → AreStillBefore nodes f d h → (f ≢ d → IsStill f d h) → AreStillBefore nodes f (d + 1) h
still-next nodes f d h still here x y (inl less) small apart = still x y (inl less) small apart
still-next nodes f d h still here x y (inr (same, less)) small apart =
    elim (cases_lt y d) [
      | inl under ↦ still x y (inr (same, under)) small apart
      | inr over ↦ (let at : d ≡ y = omega (arith, less, over) in subst (λ z. IsStill x z h) at (subst (λ z. IsStill z d h) (sym same) (here (λ e. apart (same ∙ e ∙ at)))))
    ]
