-- How the number of live messages of a node changes with one event: what waits there, and what comes there.
use Rattle.std.proofs.Common.{◌≡◌, ◌≢◌, ◌+◌, ◌<◌, ◌≤◌, ◌==◌, ℕ, ◌&&◌, not, nat_lt, Bool, true, false, cond, List, [], ◌∷◌, length, map, sum_by, refl, sym, ◌∙◌, ap, subst, inl, inr, arith}
use Rattle.std.proofs.lemmas.Bool.{cases_eq, cond-false, cond-true, eq-eqb, false≢true, ltb-true, ne_eqb}
use Rattle.std.proofs.lemmas.List.Sums.{sum_by-cons}
use Rattle.std.specs.List.{range_with_len}
use Rattle.crgc_ids.specs.Actor.{Actor}
use Rattle.crgc_ids.specs.Members.{IsAmong}
use Rattle.crgc_ids.proofs.MembersLaws.{IsAmong-range}
use Rattle.crgc_ids.specs.Nodes.{nodes_below}
use Rattle.history_model.specs.declared.events.Event.{Event}
use Rattle.history_model.specs.Cluster.{Cluster, births, is_born}
use Rattle.history_model.specs.Legal.{IsLegal}
use Rattle.history_model.specs.Live.{coming_to, is_under_way, live_at, under_way, waiting_at}
use Rattle.history_model.specs.Messages.{Message, copies, is_closed, sent, waiting, was_admitted}
use Rattle.history_model.specs.State.{is_up}
use Rattle.history_model.proofs.AccountsBirths.{mail-among, mail-born, waiting-among}
use Rattle.history_model.proofs.LinksSums.{sum_by-member, sum_by-same}
use Rattle.history_model.proofs.Lists.{tally-none}
use Rattle.link_table.specs.Standing.{is_of_link}
use Rattle.link_table.proofs.StandingLemmas.{say-the_same, under_way-same}
use Rattle.traffic.proofs.SumLemmas.{sum-changed, sum-next}

-- ---- what waits

-- how many messages wait for the actor with this serial
abbrev pub waits_for : ℕ → List Event → ℕ → ℕ
waits_for n h s = length (waiting (record { node = n; serial = s }) h)

-- a node's messages, by the serials of its actors
pub waiting_at-sum : (n : ℕ) (h : List Event) → waiting_at n h ≡ sum_by (waits_for n h) (nodes_below (births n h))
waiting_at-sum n h = over (range_with_len 0 (births n h))
  where
    over : (xs : List ℕ) → sum_by (λ (a : Actor). length (waiting a h)) (map (λ s. record { node = n; serial = s }) xs) ≡ sum_by (waits_for n h) xs
    over [] = refl
    over (x ∷ xs) =
        sum_by-cons (λ (a : Actor). length (waiting a h)) (record { node = n; serial = x }) (map (λ s. record { node = n; serial = s }) xs)
        ∙ ap (λ k. waits_for n h x + k) (over xs) ∙ sym (sum_by-cons (waits_for n h) x xs)

-- nothing waits for who was not born
pub none-waits : (cl : Cluster) (h : List Event) → IsLegal cl h → (a : Actor) → is_born a h ≡ false → length (waiting a h) ≡ 0
none-waits cl h legal a unborn = none (waiting a h) no-one
  where
    no-one : (m : Message) → IsAmong m (waiting a h) → ⊥
    no-one m among =
        let before = waiting-among a h m among in
        let born = subst (λ b. is_born b h ≡ true) (mail-among a h m before).1 (mail-born cl h legal a m before).1 in
        absurd (false≢true (sym unborn ∙ born))

    none : (ms : List Message) → ((m : Message) → IsAmong m ms → ⊥) → length ms ≡ 0
    none [] empty = refl
    none (m ∷ ms) empty = absurd (empty m (inl refl))

-- as many messages wait at a node where nobody is born, and as many wait for each of its actors
pub waiting_at-same : (n : ℕ) (h p : List Event) → births n h ≡ births n p → ((s : ℕ) → waits_for n h s ≡ waits_for n p s) → waiting_at n h ≡ waiting_at n p
waiting_at-same n h p born same =
    waiting_at-sum n h ∙ ap (λ k. sum_by (waits_for n h) (nodes_below k)) born
    ∙ sum_by-same (waits_for n h) (waits_for n p) (nodes_below (births n p)) (λ s _. same s) ∙ sym (waiting_at-sum n p)

-- and where one more is born, for whom nothing waits
pub waiting_at-born : (n : ℕ) (h p : List Event) → births n h ≡ births n p + 1 → waits_for n h (births n p) ≡ 0 → ((s : ℕ) → waits_for n h s ≡ waits_for n p s) → waiting_at n h ≡ waiting_at n p
waiting_at-born n h p born none same =
    let more = sum-next (waits_for n h) (births n p) in
    let before = sum_by-same (waits_for n h) (waits_for n p) (nodes_below (births n p)) (λ s _. same s) in
    waiting_at-sum n h ∙ ap (λ k. sum_by (waits_for n h) (nodes_below k)) born ∙ omega (arith, more, before, none) ∙ sym (waiting_at-sum n p)

-- where it changes for one actor, it changes by that
pub waiting_at-changed : (b : Actor) (h p : List Event) → births b.node h ≡ births b.node p → is_born b p ≡ true → ((s : ℕ) → s ≢ b.serial → waits_for b.node h s ≡ waits_for b.node p s)
    → waiting_at b.node h + length (waiting b p) ≡ waiting_at b.node p + length (waiting b h)
waiting_at-changed b h p born is same =
    let n = b.node in
    let left = waiting_at-sum n h ∙ ap (λ k. sum_by (waits_for n h) (nodes_below k)) born in
    let right = waiting_at-sum n p in
    let change = sum-changed (waits_for n h) (waits_for n p) b.serial (births n p) (ltb-true b.serial (births n p) is) same in
    omega (arith, left, right, change)

-- ---- what comes

-- how many messages come to a node from another one
abbrev pub comes_from : ℕ → List Event → ℕ → ℕ
comes_from d h s = cond (s == d) 0 (under_way s d h)

-- an event that is not of the link leaves what is under way there
pub under_way-left : (s d : ℕ) (e : Event) (p : List Event) → is_of_link s d e ≡ false → under_way s d (e ∷ p) ≡ under_way s d p
under_way-left s d e p other = under_way-same s d (e ∷ p) p (say-the_same s d e p other)

-- nothing is under way on a closed link
pub under_way-closed : (s d : ℕ) (h : List Event) → is_closed s d h ≡ true → under_way s d h ≡ 0
under_way-closed s d h shut =
    tally-none (is_under_way s d h) (range_with_len 0 (length (sent s d h))) (λ k _. shut-way (is_closed s d h) shut k)
  where
    shut-way : (c : Bool) → c ≡ true → (k : ℕ) → (not c && (not (was_admitted s d k h) && nat_lt 0 (copies s d k h))) ≡ false
    shut-way true e k = refl
    shut-way false e k = absurd (false≢true e)

comes-left : (d : ℕ) (e : Event) (p : List Event) (s : ℕ) → (s ≢ d → is_of_link s d e ≡ false) → comes_from d (e ∷ p) s ≡ comes_from d p s
comes-left d e p s other =
    elim (cases_eq s d) [
      | inl same ↦ cond-true (s == d) 0 (under_way s d (e ∷ p)) (eq-eqb s d same) ∙ sym (cond-true (s == d) 0 (under_way s d p) (eq-eqb s d same))
      | inr apart ↦ ap (λ k. cond (s == d) 0 k) (under_way-left s d e p (other apart))
    ]

-- as much comes to a node where the event is of no link that leads there
pub coming-same : (cl : Cluster) (d : ℕ) (e : Event) (p : List Event) → ((s : ℕ) → s ≢ d → is_of_link s d e ≡ false) → coming_to cl d (e ∷ p) ≡ coming_to cl d p
coming-same cl d e p other = sum_by-same (comes_from d (e ∷ p)) (comes_from d p) (nodes_below cl.nodes) (λ s _. comes-left d e p s (other s))

-- where it is of one, what comes changes by that
pub coming-changed : (cl : Cluster) (s d : ℕ) (e : Event) (p : List Event) → s ≢ d → s < cl.nodes → ((x : ℕ) → x ≢ s → is_of_link x d e ≡ false)
    → coming_to cl d (e ∷ p) + under_way s d p ≡ coming_to cl d p + under_way s d (e ∷ p)
coming-changed cl s d e p apart below other =
    let change = sum-changed (comes_from d (e ∷ p)) (comes_from d p) s cl.nodes below (λ x differ. comes-left d e p x (λ _. other x differ)) in
    let before = cond-false (s == d) 0 (under_way s d p) (ne_eqb s d apart) in
    let after = cond-false (s == d) 0 (under_way s d (e ∷ p)) (ne_eqb s d apart) in
    omega (arith, change, before, after)

-- what is under way on one link comes to its end
pub coming-member : (cl : Cluster) (s d : ℕ) (h : List Event) → s ≢ d → s < cl.nodes → under_way s d h ≤ coming_to cl d h
coming-member cl s d h apart below =
    let one = sum_by-member (comes_from d h) s (nodes_below cl.nodes) (IsAmong-range s 0 cl.nodes (omega arith) (omega (arith, below))) in
    let here = cond-false (s == d) 0 (under_way s d h) (ne_eqb s d apart) in
    omega (arith, one, here)

-- ---- what is live

abbrev live_with : Bool → ℕ → ℕ → ℕ
live_with up waits comes = cond up (waits + comes) 0

-- as much is live at a node that is as it was
pub live-same : (cl : Cluster) (n : ℕ) (h p : List Event) → is_up n h ≡ is_up n p → waiting_at n h ≡ waiting_at n p → coming_to cl n h ≡ coming_to cl n p → live_at cl n h ≡ live_at cl n p
live-same cl n h p up waits comes = same (is_up n h) (is_up n p) (waiting_at n h) (waiting_at n p) (coming_to cl n h) (coming_to cl n p) up waits comes
  where
    same : (u u' : Bool) (w w' c c' : ℕ) → u ≡ u' → w ≡ w' → c ≡ c' → live_with u w c ≡ live_with u' w' c'
    same u u' w w' c c' e f g = cc

-- nothing is live at a node that is down
pub live-down : (cl : Cluster) (n : ℕ) (h : List Event) → is_up n h ≡ false → live_at cl n h ≡ 0
live-down cl n h down = cond-false (is_up n h) (waiting_at n h + coming_to cl n h) 0 down

pub live-up : (cl : Cluster) (n : ℕ) (h : List Event) → is_up n h ≡ true → live_at cl n h ≡ waiting_at n h + coming_to cl n h
live-up cl n h up = cond-true (is_up n h) (waiting_at n h + coming_to cl n h) 0 up

-- at a node that is up, what is live changes as what waits and what comes
pub live-changed : (cl : Cluster) (n : ℕ) (h p : List Event) (more less : ℕ) → is_up n h ≡ true → is_up n p ≡ true
    → waiting_at n h + coming_to cl n h + less ≡ waiting_at n p + coming_to cl n p + more → live_at cl n h + less ≡ live_at cl n p + more
live-changed cl n h p more less now then change = omega (arith, live-up cl n h now, live-up cl n p then, change)
