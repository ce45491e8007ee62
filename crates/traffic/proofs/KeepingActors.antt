-- The traffic after an event that admits no message, by the actors: those that wake, rest, take, and all others.
use Rattle.std.proofs.Common.{◌≡◌, ◌≢◌, ◌==◌, ◌&&◌, ◌||◌, ◌+◌, ◌-◌, ◌++◌, not, nat_lt, ℕ, Bool, true, false, cond, Result, OnOk, List, [], ◌∷◌, drop, filter, length, append-nil, refl, sym, ◌∙◌, ap, subst, inl, inr, arith}
use Rattle.std.proofs.lemmas.Bool.{and_right, cases_Bool, cases_eq, cond-false, cond-true, false≢true, lt-ltb, ne_eqb}
use Rattle.std.specs.List.{list_any}
use Rattle.crgc_ids.specs.Actor.{Actor, same_actor}
use Rattle.history_model.specs.declared.events.Event.{Event}
use Rattle.history_model.specs.declared.events.Event.TheVariants.{Seed, Tie, Wake, Take, Spawn, Send, Drop, Retire, Rest, Flush, Publish, Window, Admit, Lose, Repeat, Crash, Remove, Hand, Sweep}
use Rattle.history_model.specs.Cluster.{Cluster, births, is_birth_on, newborn}
use Rattle.history_model.specs.Legal.{IsLegal, has_nothing}
use Rattle.history_model.specs.Live.{is_ready, live_at, under_way, waiting_at}
use Rattle.history_model.specs.Messages.{Message, copies, is_closed, is_to, waiting}
use Rattle.history_model.specs.State.{is_busy, is_crash, is_up}
use Rattle.history_model.proofs.AccountsBirths.{newborn-not_born}
use Rattle.history_model.proofs.Basics.{eqb-refl, eqb-sym, legal-kept, same_actor-refl}
use Rattle.link_table.specs.LinkState.{LinkState, abandoned}
use Rattle.link_table.specs.Standing.{StandsFor, envelope_at, is_link_open, is_of_link, pile_with}
use Rattle.link_table.proofs.StandingLemmas.{say-the_same, stands-still}
use Rattle.link_table.specs.Table.{IsLink, link_at}
use Rattle.mail_laws.specs.Standing.{AdmitsNone, StandsForMail}
use Rattle.mail_laws.proofs.WaitingLemmas.{all_refs, mail-left, mail-taken, waiting-admitted, waiting-other, waiting-taken}
use Rattle.mailboxes.specs.Mail.{mail_of}
use Rattle.ready_actors.specs.Ready.{has_actor}
use Rattle.traffic.specs.Changes.{NodeGoesDown, Rests, TakesMessage, Wakes}
use Rattle.traffic.specs.Loads.{ChangesLive, Loads, live_in, up_in}
use Rattle.traffic.specs.Standing.{AlwaysKeeps, IsTrafficOf, Keeps, is_beside}
use Rattle.traffic.specs.TrafficState.{TrafficState, link_of}
use Rattle.traffic.proofs.LiveSums.{coming-same, live-changed, live-down, live-same, none-waits, waiting_at-born, waiting_at-changed, waiting_at-same}
use Rattle.traffic.proofs.Outcomes.{on-ok}
use Rattle.traffic.proofs.ReadySteps.{busy-not_ready, by-actor, neither, ready-if, ready-left, ready-same, ready-with, ready-without}
use Rattle.traffic.proofs.TableSteps.{links-stay}

-- ---- what waits, where nothing is admitted and nobody takes

pub waiting-left : (cl : Cluster) (e : Event) (p : List Event) → IsLegal cl p → AdmitsNone e p → (a : Actor) → waiting a (e ∷ p) ≡ waiting a p
waiting-left cl e p legal none a =
    waiting-admitted cl e p legal a (none.1 a) ∙ ap (λ ms. waiting a p ++ filter (is_to a) ms) none.0 ∙ append-nil (waiting a p)

pub waiting_at-left : (cl : Cluster) (e : Event) (p : List Event) → IsLegal cl p → AdmitsNone e p → (n : ℕ) → waiting_at n (e ∷ p) ≡ waiting_at n p
waiting_at-left cl e p legal none n =
    let same = λ (s : ℕ). ap length (waiting-left cl e p legal none (record { node = n; serial = s })) in
    elim (cases_Bool (is_birth_on n e)) [
      | inl birth ↦
          waiting_at-born n (e ∷ p) p (cond-true (is_birth_on n e) (births n p + 1) (births n p) birth)
          (same (births n p) ∙ none-waits cl p legal (newborn n p) (newborn-not_born n p)) same
      | inr other ↦ waiting_at-same n (e ∷ p) p (cond-false (is_birth_on n e) (births n p + 1) (births n p) other) same
    ]

-- ---- events that touch no link, and by which no node goes down

-- what such an event leaves as it was
pub record LeavesAll (e : Event) (p : List Event) : Type 0 where
  pub mail : AdmitsNone e p
  pub up : (n : ℕ) → is_up n (e ∷ p) ≡ is_up n p
  pub links : (s d : ℕ) → is_of_link s d e ≡ false

-- all but the actors that may take a message
pub leaves : (cl : Cluster) (e : Event) (p : List Event) (old new : TrafficState) → IsLegal cl (e ∷ p) → LeavesAll e p → (new.nodes ≡ old.nodes) × (new.loads ≡ old.loads) → new.links ≡ old.links → new.boxes ≡ old.boxes
    → ((a : Actor) → has_actor new.ready a ≡ is_ready a (e ∷ p)) → IsTrafficOf cl p old → IsTrafficOf cl (e ∷ p) new
leaves cl e p old new legal all same links boxes ready stands = record {
  nodes = same.0 ∙ stands.nodes;
  few = stands.few;
  up = λ n. ap (λ (l : Loads). up_in l n) same.1 ∙ stands.up n ∙ sym (all.up n);
  live = λ n. ap (λ (l : Loads). live_in l n) same.1 ∙ stands.live n
      ∙ sym (live-same cl n (e ∷ p) p (all.up n) (waiting_at-left cl e p legal.1 all.mail n) (coming-same cl n e p (λ s _. all.links s n)));
  links = links-stay e p old.links new.links (λ x y _. all.links x y) (λ x y _. ap (λ ls. link_at ls x y) links) stands.links;
  mail = mail-left cl e p new.boxes legal all.mail.0 all.mail.1 (subst (StandsForMail p) (sym boxes) stands.mail);
  ready = ready;
}

-- an event beside the traffic leaves all
pub beside : (cl : Cluster) (e : Event) (p : List Event) (t : TrafficState) → IsLegal cl (e ∷ p) → LeavesAll e p → ((a : Actor) → is_busy a (e ∷ p) ≡ is_busy a p) → IsTrafficOf cl p t → IsTrafficOf cl (e ∷ p) t
beside cl e p t legal all busy stands =
    leaves cl e p t t legal all (refl, refl) refl refl
    (λ a. stands.ready a ∙ sym (ready-same a (e ∷ p) p (all.up a.node) (busy a) (waiting-left cl e p legal.1 all.mail a))) stands

-- where what it leaves computes
pub beside-leaves : (e : Event) (p : List Event) → is_beside e ≡ true → LeavesAll e p × ((a : Actor) → is_busy a (e ∷ p) ≡ is_busy a p)
beside-leaves (Seed n) p is = (record { mail = (refl, λ a. refl); up = λ n. refl; links = λ s d. refl }, λ a. refl)
beside-leaves (Tie o t) p is = (record { mail = (refl, λ a. refl); up = λ n. refl; links = λ s d. refl }, λ a. refl)
beside-leaves (Spawn b) p is = (record { mail = (refl, λ a. refl); up = λ n. refl; links = λ s d. refl }, λ a. refl)
beside-leaves (Drop b t) p is = (record { mail = (refl, λ a. refl); up = λ n. refl; links = λ s d. refl }, λ a. refl)
beside-leaves (Retire b) p is = (record { mail = (refl, λ a. refl); up = λ n. refl; links = λ s d. refl }, λ a. refl)
beside-leaves (Flush b) p is = (record { mail = (refl, λ a. refl); up = λ n. refl; links = λ s d. refl }, λ a. refl)
beside-leaves (Publish n) p is = (record { mail = (refl, λ a. refl); up = λ n. refl; links = λ s d. refl }, λ a. refl)
beside-leaves (Hand m o k) p is = (record { mail = (refl, λ a. refl); up = λ n. refl; links = λ s d. refl }, λ a. refl)
beside-leaves (Sweep m) p is = (record { mail = (refl, λ a. refl); up = λ n. refl; links = λ s d. refl }, λ a. refl)
beside-leaves (Wake b) p is = absurd (false≢true is)
beside-leaves (Take b) p is = absurd (false≢true is)
beside-leaves (Rest b) p is = absurd (false≢true is)
beside-leaves (Send f t refs) p is = absurd (false≢true is)
beside-leaves (Window d s) p is = absurd (false≢true is)
beside-leaves (Admit s d k) p is = absurd (false≢true is)
beside-leaves (Lose s d k) p is = absurd (false≢true is)
beside-leaves (Repeat s d k) p is = absurd (false≢true is)
beside-leaves (Crash n) p is = absurd (false≢true is)
beside-leaves (Remove d s) p is = absurd (false≢true is)

-- ---- wakes and rests

pub wakes : (cl : Cluster) (b : Actor) (p : List Event) (old new : TrafficState) → Wakes old new b → Keeps cl (Wake b) p old new
wakes cl b p old new change legal stands =
    let h : List Event = Wake b ∷ p in
    let all : LeavesAll (Wake b) p = record { mail = (refl, λ a. refl); up = λ n. refl; links = λ s d. refl } in
    let others = λ (a : Actor) (other : same_actor b a ≡ false). ready-same a h p refl (cond-false (same_actor b a) true (is_busy a p) other) (waiting-left cl (Wake b) p legal.1 all.mail a) in
    leaves cl (Wake b) p old new legal all change.rest.nodes change.rest.links change.rest.boxes
    (ready-without old.ready new.ready h p b change.ready (cond-true (same_actor b b) true (is_busy b p) (same_actor-refl b)) others stands.ready) stands

-- something waits where the list of it is not empty
pub waits-some : (ms : List Message) → nat_lt 0 (length (all_refs ms)) ≡ not (has_nothing ms)
waits-some [] = refl
waits-some (m ∷ ms) = lt-ltb 0 (length (all_refs (m ∷ ms))) (omega arith)

pub rests : (cl : Cluster) (b : Actor) (p : List Event) (old new : TrafficState) → Rests old new b → Keeps cl (Rest b) p old new
rests cl b p old new change legal stands =
    let h : List Event = Rest b ∷ p in
    let kept = legal-kept cl (Rest b) p legal in
    let all : LeavesAll (Rest b) p = record { mail = (refl, λ a. refl); up = λ n. refl; links = λ s d. refl } in
    let waits = waiting-left cl (Rest b) p legal.1 all.mail in
    let others = λ (a : Actor) (other : same_actor b a ≡ false). ready-same a h p refl (cond-false (same_actor b a) false (is_busy a p) other) (waits a) in
    let test = nat_lt 0 (length (mail_of old.boxes b)) in
    let some : test ≡ not (has_nothing (waiting b p)) = ap (λ ms. nat_lt 0 (length ms)) (stands.mail b) ∙ waits-some (waiting b p) in
    let idle : is_busy b h ≡ false = cond-true (same_actor b b) false (is_busy b p) (same_actor-refl b) in
    let now : is_ready b h ≡ test = ready-if b h true test kept.1.0 (ap not idle) (ap (λ ms. not (has_nothing ms)) (waits b) ∙ sym some) in
    let before : is_ready b p ≡ false = busy-not_ready b p kept.1.1.0 in
    leaves cl (Rest b) p old new legal all change.rest.nodes change.rest.links change.rest.boxes
    (ready-with old.ready new.ready h p b test change.ready (now ∙ or-none test (is_ready b p) before) others stands.ready) stands
  where
    or-none : (t r : Bool) → r ≡ false → t ≡ (t || r)
    or-none true r e = refl
    or-none false r e = sym e

-- so where a call succeeded
pub rests-kept : {A E : Type 0} (r : Result A E) (b : Actor) (old new : TrafficState) → OnOk r (Rests old new b) → OnOk r (AlwaysKeeps (Rest b) old new)
rests-kept r b old new rest = on-ok (Rests old new b) (AlwaysKeeps (Rest b) old new) r rest (λ change cl p. rests cl b p old new change)

-- a rest of a busy actor is undone where it wakes again
pub rest-undone : (cl : Cluster) (h : List Event) (b : Actor) (old mid new : TrafficState) → is_busy b h ≡ true → Rests old mid b → Wakes mid new b → IsTrafficOf cl h old → IsTrafficOf cl h new
rest-undone cl h b old mid new busy rest wake stands = record {
  nodes = wake.rest.nodes.0 ∙ rest.rest.nodes.0 ∙ stands.nodes;
  few = stands.few;
  up = λ n. ap (λ (l : Loads). up_in l n) (wake.rest.nodes.1 ∙ rest.rest.nodes.1) ∙ stands.up n;
  live = λ n. ap (λ (l : Loads). live_in l n) (wake.rest.nodes.1 ∙ rest.rest.nodes.1) ∙ stands.live n;
  links = subst (λ ls. (s d : ℕ) → IsLink s d → StandsFor s d h (link_at ls s d)) (sym (wake.rest.links ∙ rest.rest.links)) stands.links;
  mail = subst (StandsForMail h) (sym (wake.rest.boxes ∙ rest.rest.boxes)) stands.mail;
  ready = λ a. by-actor (λ x. has_actor new.ready x ≡ is_ready x h) b a
      (wake.ready b ∙ ap (λ v. not v && has_actor mid.ready b) (same_actor-refl b) ∙ sym (busy-not_ready b h busy))
      (λ other. wake.ready a ∙ ap (λ v. not v && has_actor mid.ready a) other ∙ rest.ready a
      ∙ ap (λ v. (nat_lt 0 (length (mail_of old.boxes b)) && v) || has_actor old.ready a) other ∙ neither (nat_lt 0 (length (mail_of old.boxes b))) (has_actor old.ready a) ∙ stands.ready a);
}

-- ---- takes

-- of a list that is not empty, the rest is one shorter
one-shorter : {X : Type 0} (xs : List X) → not (has_nothing xs) ≡ true → length (drop 1 xs) + 1 ≡ length xs
one-shorter [] some = absurd (false≢true some)
one-shorter (x ∷ xs) some = omega arith

-- a node's number, by whether it is this one
pub by-node : (P : ℕ → Type 0) (d n : ℕ) → P d → (n ≢ d → P n) → P n
by-node P d n here there = elim (cases_eq n d) [ inl e ↦ subst P (sym e) here | inr apart ↦ there apart ]

-- the count of this one, and that of another
pub live-here : (old new : Loads) (d v : ℕ) → ChangesLive old new d v → live_in new d ≡ v
live-here old new d v change = change.live d ∙ cond-true (d == d) v (live_in old d) (eqb-refl d)

pub live-there : (old new : Loads) (d v n : ℕ) → ChangesLive old new d v → n ≢ d → live_in new n ≡ live_in old n
live-there old new d v n change apart = change.live n ∙ cond-false (d == n) v (live_in old n) (ne_eqb d n (λ e. apart (sym e)))

-- another actor's serial, where it is of the same node
pub another : (b : Actor) (s : ℕ) → s ≢ b.serial → same_actor b (record { node = b.node; serial = s }) ≡ false
another b s apart = and_right (b.node == b.node) (b.serial == s) (ne_eqb b.serial s (λ e. apart (sym e)))

pub elsewhere : (b : Actor) (n s : ℕ) → n ≢ b.node → same_actor b (record { node = n; serial = s }) ≡ false
elsewhere b n s apart = ap (λ v. v && (b.serial == s)) (ne_eqb b.node n (λ e. apart (sym e)))

pub takes : (cl : Cluster) (b : Actor) (p : List Event) (old new : TrafficState) → TakesMessage old new b → Keeps cl (Take b) p old new
takes cl b p old new change legal stands =
    let h : List Event = Take b ∷ p in
    let kept = legal-kept cl (Take b) p legal in
    let n = b.node in
    let comes = λ (m : ℕ). coming-same cl m (Take b) p (λ s _. refl) in
    let waits = λ (m s : ℕ) (other : same_actor b (record { node = m; serial = s }) ≡ false). ap length (waiting-other (record { node = m; serial = s }) b p other) in
    let at_node = waiting_at-changed b h p refl kept.0 (λ s apart. waits n s (another b s apart)) in
    let fewer = ap length (waiting-taken b p) in
    let shorter = one-shorter (waiting b p) kept.1.1.1.0 in
    let live = live-changed cl n h p 0 1 kept.1.0 kept.1.0 (omega (arith, at_node, fewer, shorter, comes n)) in
    let others = λ (a : Actor) (other : same_actor b a ≡ false). ready-same a h p refl (cond-false (same_actor b a) true (is_busy a p) other) (waiting-other a b p other) in
    record {
      nodes = change.nodes ∙ stands.nodes;
      few = stands.few;
      up = λ m. change.loads.up m ∙ stands.up m;
      live = λ m. by-node (λ k. live_in new.loads k ≡ live_at cl k h) n m
          (live-here old.loads new.loads n (live_in old.loads n - 1) change.loads ∙ (let before = stands.live n in omega (arith, before, live)))
          (λ apart. live-there old.loads new.loads n (live_in old.loads n - 1) m change.loads apart ∙ stands.live m
          ∙ sym (live-same cl m h p refl (waiting_at-same m h p refl (λ s. waits m s (elsewhere b m s apart))) (comes m)));
      links = links-stay (Take b) p old.links new.links (λ x y _. refl) (λ x y _. ap (λ ls. link_at ls x y) change.links) stands.links;
      mail = mail-taken p b old.boxes new.boxes change.mail stands.mail;
      ready = ready-without old.ready new.ready h p b change.ready (cond-true (same_actor b b) true (is_busy b p) (same_actor-refl b)) others stands.ready;
    }

-- ---- crashes

-- the link as the crash leaves it: abandoned if it leads to the node
after-crash : (n : ℕ) (p : List Event) (s d : ℕ) (l : LinkState) → StandsFor s d p l → StandsFor s d (Crash n ∷ p) (cond (d == n) (abandoned l) l)
after-crash n p s d l stands =
    elim (d == n) as (λ v. (d == n) ≡ v → StandsFor s d (Crash n ∷ p) (cond v (abandoned l) l)) [
      | true ↦ λ same.
          let down : is_link_open s d (Crash n ∷ p) ≡ false = ap (λ v. not (v || list_any (is_crash d) p) && not (is_closed s d p)) (eqb-sym n d ∙ same) in
          record {
            ends = stands.ends;
            opened = sym down;
            stamped = stands.stamped;
            piled = λ k. sym (ap (λ o. pile_with o (copies s d k p) (envelope_at s d p k)) down);
            counted = sym (ap (λ o. cond o (under_way s d p) 0) down);
            admitted = stands.admitted;
            messages = stands.messages;
            carried = stands.carried;
          }
      | false ↦ λ other. stands-still s d (Crash n ∷ p) p l (say-the_same s d (Crash n) p (eqb-sym n d ∙ other)) stands
    ] refl

pub crashes : (cl : Cluster) (n : ℕ) (p : List Event) (old new : TrafficState) → NodeGoesDown old new n → Keeps cl (Crash n) p old new
crashes cl n p old new change legal stands =
    let h : List Event = Crash n ∷ p in
    let none : AdmitsNone (Crash n) p = (refl, λ a. refl) in
    let down : is_up n h ≡ false = ap (λ v. not (v || list_any (is_crash n) p)) (eqb-refl n) in
    let up = λ (m : ℕ) (other : (n == m) ≡ false). ap (λ v. not (v || list_any (is_crash m) p)) other in
    let another_node = λ (m : ℕ) (apart : m ≢ n). ne_eqb n m (λ e. apart (sym e)) in
    let waits = waiting-left cl (Crash n) p legal.1 none in
    record {
      nodes = change.nodes ∙ stands.nodes;
      few = stands.few;
      up = λ m. change.loads.up m ∙ by-node (λ k. cond (n == k) false (up_in old.loads k) ≡ is_up k h) n m
          (cond-true (n == n) false (up_in old.loads n) (eqb-refl n) ∙ sym down)
          (λ apart. cond-false (n == m) false (up_in old.loads m) (another_node m apart) ∙ stands.up m ∙ sym (up m (another_node m apart)));
      live = λ m. change.loads.live m ∙ by-node (λ k. cond (n == k) 0 (live_in old.loads k) ≡ live_at cl k h) n m
          (cond-true (n == n) 0 (live_in old.loads n) (eqb-refl n) ∙ sym (live-down cl n h down))
          (λ apart. cond-false (n == m) 0 (live_in old.loads m) (another_node m apart) ∙ stands.live m
          ∙ sym (live-same cl m h p (up m (another_node m apart)) (waiting_at-left cl (Crash n) p legal.1 none m) (coming-same cl m (Crash n) p (λ s _. another_node m apart))));
      links = λ s d link. subst (StandsFor s d h) (sym (change.links s d link)) (after-crash n p s d (link_of old s d) (stands.links s d link));
      mail = mail-left cl (Crash n) p new.boxes legal none.0 none.1 (subst (StandsForMail p) (sym change.boxes) stands.mail);
      ready = ready-left old.ready new.ready h p n change.ready down
          (λ a other. ready-same a h p (up a.node (flip a other)) refl (waits a)) stands.ready;
    }
  where
    flip : (a : Actor) → (a.node == n) ≡ false → (n == a.node) ≡ false
    flip a other = eqb-sym n a.node ∙ other
