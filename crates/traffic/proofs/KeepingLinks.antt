-- The traffic after an event on one link: a send between two nodes, a copy lost or repeated, a window, a removal.
use Rattle.std.proofs.Common.{◌≡◌, ◌≢◌, ◌==◌, ◌&&◌, ◌||◌, ◌+◌, ◌-◌, ◌<◌, ◌≤◌, not, nat_lt, ℕ, Bool, true, false, cond, OnSome, Option, Some, None, List, [], ◌∷◌, length, refl, sym, ◌∙◌, ap, subst, inl, inr, arith}
use Rattle.std.proofs.lemmas.Bool.{and_from, and_right, cases_Bool, cases_lt, cond-false, cond-true, eq-eqb, false≢true, le-ltb, ltb-true, ne_eqb, not-true}
use Rattle.std.specs.List.{list_any}
use Rattle.crgc_ids.specs.Actor.{Actor}
use Rattle.history_model.specs.declared.events.Event.{Event}
use Rattle.history_model.specs.declared.events.Event.TheVariants.{Lose, Remove, Repeat, Send, Window}
use Rattle.history_model.specs.Cluster.{Cluster}
use Rattle.history_model.specs.Legal.{IsLegal}
use Rattle.history_model.specs.Live.{live_at, under_way}
use Rattle.history_model.specs.Messages.{admitted_by, copies, is_closed, is_removal, sent}
use Rattle.history_model.specs.State.{is_busy, is_up}
use Rattle.history_model.specs.Tells.{admitted_since, message_pairs, message_recipients}
use Rattle.history_model.proofs.AccountsBirths.{born-on_node}
use Rattle.history_model.proofs.AccountsCopies.{copies-was_sent}
use Rattle.history_model.proofs.Basics.{eqb-refl, eqb-sym, legal-kept}
use Rattle.link_table.specs.LinkState.{LinkState, closed, cut}
use Rattle.link_table.specs.Piled.{kept_count, pile_at, weight}
use Rattle.link_table.specs.Standing.{StandsFor, envelope_at, is_link_open, pile_of, pile_with}
use Rattle.link_table.specs.Table.{IsLink, OthersStay}
use Rattle.link_table.proofs.KeepingLemmas.{weight-fewer, weight-more}
use Rattle.link_table.proofs.StandingSteps.{loses, repeats, sends-message}
use Rattle.mail_laws.specs.Standing.{AdmitsNone, StandsForMail}
use Rattle.mail_laws.proofs.WaitingLemmas.{mail-left}
use Rattle.ready_actors.specs.Ready.{has_actor}
use Rattle.traffic.specs.Changes.{ClosesLink, CutsWindow, IsOfLinks, LosesCopy, RepeatsCopy, SendsOnLink}
use Rattle.traffic.specs.Loads.{ChangesLive, Loads, live_in, up_in}
use Rattle.traffic.specs.Standing.{AlwaysKeeps, IsTrafficOf, Keeps}
use Rattle.traffic.specs.TrafficState.{TrafficState, link_of}
use Rattle.traffic.proofs.Outcomes.{on-some}
use Rattle.traffic.proofs.KeepingActors.{by-node, live-here, live-there, waiting-left, waiting_at-left}
use Rattle.traffic.proofs.LiveSums.{coming-changed, coming-member, coming-same, live-changed, live-down, live-same, live-up, under_way-closed}
use Rattle.traffic.proofs.ReadySteps.{ready-same}
use Rattle.traffic.proofs.TableSteps.{IsOfOne, links-follow, not-both}

-- ---- one link

-- an event of the link from s to d alone, which admits no message and brings no node down
pub record IsOnLinkAlone (cl : Cluster) (s d : ℕ) (e : Event) (p : List Event) : Type 0 where
  pub link : IsLink s d
  pub source : s < cl.nodes
  pub one : IsOfOne s d e
  pub mail : AdmitsNone e p
  pub up : (n : ℕ) → is_up n (e ∷ p) ≡ is_up n p
  pub busy : (a : Actor) → is_busy a (e ∷ p) ≡ is_busy a p

-- what is live at the end of the link changes as what is under way on it
abbrev pub FollowsLink : Cluster → ℕ → ℕ → Event → List Event → ℕ → Type 0
FollowsLink cl s d e p v = (is_up d p ≡ false → v ≡ 0) × (is_up d p ≡ true → v + under_way s d p ≡ live_at cl d p + under_way s d (e ∷ p))

pub on-link : (cl : Cluster) (s d : ℕ) (e : Event) (p : List Event) (old new : TrafficState) (v : ℕ) → IsLegal cl (e ∷ p) → IsOnLinkAlone cl s d e p → IsOfLinks old new → OthersStay old.links new.links s d
    → StandsFor s d (e ∷ p) (link_of new s d) → ChangesLive old.loads new.loads d v → FollowsLink cl s d e p v → IsTrafficOf cl p old → IsTrafficOf cl (e ∷ p) new
on-link cl s d e p old new v legal alone rest others here change follows stands =
    let h : List Event = e ∷ p in
    let waits = waiting_at-left cl e p legal.1 alone.mail in
    let comes = coming-changed cl s d e p alone.link.2 alone.source (λ x differ. alone.one x d (λ both. differ both.0)) in
    let at_end : v ≡ live_at cl d h = elim (cases_Bool (is_up d p)) [
      | inl up ↦ (
          let both = live-changed cl d h p (under_way s d h) (under_way s d p) (alone.up d ∙ up) up (omega (arith, comes, waits d)) in
          let given = follows.1 up in
          omega (arith, both, given)
          )
      | inr down ↦ follows.0 down ∙ sym (live-down cl d h (alone.up d ∙ down))
    ] in
    record {
      nodes = rest.nodes ∙ stands.nodes;
      few = stands.few;
      up = λ n. change.up n ∙ stands.up n ∙ sym (alone.up n);
      live = λ n. by-node (λ k. live_in new.loads k ≡ live_at cl k h) d n (live-here old.loads new.loads d v change ∙ at_end)
          (λ apart. live-there old.loads new.loads d v n change apart ∙ stands.live n
          ∙ sym (live-same cl n h p (alone.up n) (waits n) (coming-same cl n e p (λ x _. alone.one x n (λ both. apart both.1)))));
      links = links-follow s d e p old.links new.links alone.one others here stands.links;
      mail = mail-left cl e p new.boxes legal alone.mail.0 alone.mail.1 (subst (StandsForMail p) (sym rest.boxes) stands.mail);
      ready = λ a. ap (λ actors. has_actor actors a) rest.ready ∙ stands.ready a
          ∙ sym (ready-same a h p (alone.up a.node) (alone.busy a) (waiting-left cl e p legal.1 alone.mail a));
    }

-- the messages that an open link keeps are those under way there
pub kept-under_way : (s d : ℕ) (h : List Event) (l : LinkState) → StandsFor s d h l → is_link_open s d h ≡ true → kept_count l.piles ≡ under_way s d h
kept-under_way s d h l stands opened = stands.counted ∙ cond-true (is_link_open s d h) (under_way s d h) 0 opened

-- counts that stay are those that change by nothing
pub stays-live : (old new : Loads) (d : ℕ) → new ≡ old → ChangesLive old new d (live_in old d)
stays-live old new d same = record {
  live = λ n. ap (λ (l : Loads). live_in l n) same ∙ by-node (λ k. live_in old k ≡ cond (d == k) (live_in old d) (live_in old k)) d n
      (sym (cond-true (d == d) (live_in old d) (live_in old d) (eqb-refl d)))
      (λ apart. sym (cond-false (d == n) (live_in old d) (live_in old n) (ne_eqb d n (λ e. apart (sym e)))));
  up = λ n. ap (λ (l : Loads). up_in l n) same;
}

-- what the rules of a link say
pub record IsLinkLegal (cl : Cluster) (s d : ℕ) (p : List Event) : Type 0 where
  pub source : s < cl.nodes
  pub end : d < cl.nodes
  pub apart : s ≢ d
  pub up : is_up d p ≡ true
  pub opened : is_link_open s d p ≡ true

pub link-legal : (cl : Cluster) (s d : ℕ) (p : List Event) → nat_lt s cl.nodes ≡ true → nat_lt d cl.nodes ≡ true → not (s == d) ≡ true → is_up d p ≡ true → not (is_closed s d p) ≡ true → IsLinkLegal cl s d p
link-legal cl s d p node other differ up open_yet = record {
  source = ltb-true s cl.nodes node;
  end = ltb-true d cl.nodes other;
  apart = λ e. absurd (false≢true (sym (not-true (s == d) differ) ∙ eq-eqb s d e));
  up = up;
  opened = and_from (is_up d p) (not (is_closed s d p)) up open_yet;
}

-- so there is such a link
pub is-link : (cl : Cluster) (s d : ℕ) → cl.nodes ≤ 16 → s < cl.nodes → d < cl.nodes → s ≢ d → IsLink s d
is-link cl s d few source end apart = (omega (arith, few, source), omega (arith, few, end), apart)

-- where so many fewer are live as fewer are under way, that follows
fewer-follows : (cl : Cluster) (s d : ℕ) (e : Event) (p : List Event) (old : Loads) (before after : ℕ) → IsLinkLegal cl s d p → live_in old d ≡ live_at cl d p → before ≡ under_way s d p → after ≡ under_way s d (e ∷ p)
    → after ≤ before → FollowsLink cl s d e p (live_in old d - (before - after))
fewer-follows cl s d e p old before after link live was is less = (
  λ down. absurd (false≢true (sym down ∙ link.up)),
  λ up. (
      let most = coming-member cl s d p link.apart link.source in
      let all = live-up cl d p up in
      omega (arith, most, all, live, was, is, less)),
)

-- ---- copies lost and repeated

pub loses-copy : (cl : Cluster) (s d k : ℕ) (p : List Event) (old new : TrafficState) → LosesCopy old new s d k → Keeps cl (Lose s d k) p old new
loses-copy cl s d k p old new change legal stands =
    let e : Event = Lose s d k in
    let kept = legal-kept cl e p legal in
    let rules = link-legal cl s d p kept.0 kept.1.0 kept.1.1.0 kept.1.1.1.0 kept.1.1.1.1.0 in
    let link = is-link cl s d stands.few rules.source rules.end rules.apart in
    let before = stands.links s d link in
    let after = loses cl s d k p (link_of old s d) (link_of new s d) legal before change.link.0 change.link.1 in
    let was = kept-under_way s d p (link_of old s d) before rules.opened in
    let is = kept-under_way s d (e ∷ p) (link_of new s d) after rules.opened in
    let count = change.link.0.piles.count in
    let less = weight-fewer (pile_at (link_of old s d).piles k) in
    let fewer_kept : kept_count (link_of new s d).piles ≤ kept_count (link_of old s d).piles = omega (arith, count, less) in
    on-link cl s d e p old new (live_in old.loads d - (kept_count (link_of old s d).piles - kept_count (link_of new s d).piles)) legal
    (record { link = link; source = rules.source; one = λ x y apart. not-both s d x y apart; mail = (refl, λ a. refl); up = λ n. refl; busy = λ a. refl })
    change.rest change.others after change.loads
    (fewer-follows cl s d e p old.loads (kept_count (link_of old s d).piles) (kept_count (link_of new s d).piles) rules (stands.live d) was is fewer_kept) stands

pub repeats-copy : (cl : Cluster) (s d k : ℕ) (p : List Event) (old new : TrafficState) → RepeatsCopy old new s d k → Keeps cl (Repeat s d k) p old new
repeats-copy cl s d k p old new change legal stands =
    let e : Event = Repeat s d k in
    let kept = legal-kept cl e p legal in
    let rules = link-legal cl s d p kept.0 kept.1.0 kept.1.1.0 kept.1.1.1.0 kept.1.1.1.1.0 in
    let link = is-link cl s d stands.few rules.source rules.end rules.apart in
    let before = stands.links s d link in
    let after = repeats cl s d k p (link_of old s d) (link_of new s d) legal before change.link.0 change.link.1 in
    let was = kept-under_way s d p (link_of old s d) before rules.opened in
    let is = kept-under_way s d (e ∷ p) (link_of new s d) after rules.opened in
    let count = change.link.0.piles.count in
    let same = weight-more (pile_at (link_of old s d).piles k) in
    let live = stands.live d in
    on-link cl s d e p old new (live_in old.loads d) legal
    (record { link = link; source = rules.source; one = λ x y apart. not-both s d x y apart; mail = (refl, λ a. refl); up = λ n. refl; busy = λ a. refl })
    change.rest change.others after (stays-live old.loads new.loads d change.loads)
    (λ down. absurd (false≢true (sym down ∙ rules.up)), λ _. omega (arith, was, is, count, same, live)) stands

-- ---- windows and removals

-- the link with the window of it
itself : (s d : ℕ) → ((s == s) && (d == d)) ≡ true
itself s d = rw (eqb-refl s, eqb-refl d) refl

cut-stands : (s d : ℕ) (p : List Event) (l : LinkState) → StandsFor s d p l → StandsFor s d (Window d s ∷ p) (cut l)
cut-stands s d p l stands =
    let none : admitted_since s d (Window d s ∷ p) ≡ [] = cond-true ((s == s) && (d == d)) [] (admitted_since s d p) (itself s d) in
    record {
      ends = stands.ends;
      opened = stands.opened;
      stamped = stands.stamped;
      piled = stands.piled;
      counted = stands.counted;
      admitted = stands.admitted;
      messages = sym (ap message_recipients none);
      carried = sym (ap message_pairs none);
    }

pub cuts-window : (cl : Cluster) (s d : ℕ) (p : List Event) (old new : TrafficState) → CutsWindow old new s d → Keeps cl (Window d s) p old new
cuts-window cl s d p old new change legal stands =
    let e : Event = Window d s in
    let kept = legal-kept cl e p legal in
    let rules = link-legal cl s d p kept.1.0 kept.0 (ap not (eqb-sym s d) ∙ kept.1.1.0) kept.1.1.1.0 kept.1.1.1.1.0 in
    let link = is-link cl s d stands.few rules.source rules.end rules.apart in
    let before = stands.links s d link in
    let after = subst (StandsFor s d (e ∷ p)) (sym change.link) (cut-stands s d p (link_of old s d) before) in
    let was = kept-under_way s d p (link_of old s d) before rules.opened in
    let is = kept-under_way s d (e ∷ p) (link_of new s d) after rules.opened in
    let same = ap (λ (l : LinkState). kept_count l.piles) change.link in
    let live = stands.live d in
    on-link cl s d e p old new (live_in old.loads d) legal
    (record { link = link; source = rules.source; one = λ x y apart. not-both s d x y apart; mail = (refl, λ a. refl); up = λ n. refl; busy = λ a. refl })
    change.rest change.others after (stays-live old.loads new.loads d change.loads)
    (λ down. absurd (false≢true (sym down ∙ rules.up)), λ _. omega (arith, was, is, same, live)) stands

-- so where a call gave a window
pub cuts-kept : {A : Type 0} (o : Option A) (s d : ℕ) (old new : TrafficState) → OnSome o (CutsWindow old new s d) → OnSome o (AlwaysKeeps (Window d s) old new)
cuts-kept o s d old new cuts = on-some (CutsWindow old new s d) (AlwaysKeeps (Window d s) old new) o cuts (λ change cl p. cuts-window cl s d p old new change)

closed-stands : (s d : ℕ) (p : List Event) (l : LinkState) → StandsFor s d p l → StandsFor s d (Remove d s ∷ p) (closed l)
closed-stands s d p l stands =
    let h : List Event = Remove d s ∷ p in
    let shut : is_closed s d h ≡ true = ap (λ v. v || list_any (is_removal s d) p) (itself s d) in
    let down : is_link_open s d h ≡ false = and_right (is_up d p) (not (is_closed s d h)) (ap not shut) in
    let none : admitted_since s d h ≡ [] = cond-true ((s == s) && (d == d)) [] (admitted_since s d p) (itself s d) in
    record {
      ends = stands.ends;
      opened = sym down;
      stamped = stands.stamped;
      piled = λ k. sym (ap (λ o. pile_with o (copies s d k p) (envelope_at s d p k)) down);
      counted = sym (ap (λ o. cond o (under_way s d h) 0) down);
      admitted = stands.admitted;
      messages = sym (ap message_recipients none);
      carried = sym (ap message_pairs none);
    }

pub closes-link : (cl : Cluster) (s d : ℕ) (p : List Event) (old new : TrafficState) → ClosesLink old new s d → Keeps cl (Remove d s) p old new
closes-link cl s d p old new change legal stands =
    let e : Event = Remove d s in
    let kept = legal-kept cl e p legal in
    let rules = link-legal cl s d p kept.1.0 kept.0 (ap not (eqb-sym s d) ∙ kept.1.1.0) kept.1.1.1.0 kept.1.1.1.1.1.0 in
    let link = is-link cl s d stands.few rules.source rules.end rules.apart in
    let before = stands.links s d link in
    let after = subst (StandsFor s d (e ∷ p)) (sym change.link) (closed-stands s d p (link_of old s d) before) in
    let was = kept-under_way s d p (link_of old s d) before rules.opened in
    let shut : is_closed s d (e ∷ p) ≡ true = ap (λ v. v || list_any (is_removal s d) p) (itself s d) in
    let none = under_way-closed s d (e ∷ p) shut in
    let bare : kept_count (link_of new s d).piles ≡ 0 = ap (λ (l : LinkState). kept_count l.piles) change.link in
    on-link cl s d e p old new (live_in old.loads d - (kept_count (link_of old s d).piles - kept_count (link_of new s d).piles)) legal
    (record { link = link; source = rules.source; one = λ x y apart. not-both s d x y apart; mail = (refl, λ a. refl); up = λ n. refl; busy = λ a. refl })
    change.rest change.others after change.loads
    (fewer-follows cl s d e p old.loads (kept_count (link_of old s d).piles) (kept_count (link_of new s d).piles) rules (stands.live d) was (omega (arith, bare, none)) (omega (arith, bare))) stands

-- ---- sends between two nodes

-- the next number of a link has no pile yet
next-none : (cl : Cluster) (p : List Event) → IsLegal cl p → (s d : ℕ) (l : LinkState) → StandsFor s d p l → weight (pile_at l.piles l.sent) ≡ 0
next-none cl p legal s d l stands =
    let n = length (sent s d p) in
    let no_copy : copies s d n p ≤ 0 = elim (cases_lt 0 (copies s d n p)) [ inl some ↦ (let below = copies-was_sent cl p legal s d n some in absurd (omega arith)) | inr none ↦ none ] in
    let test : (is_link_open s d p && nat_lt 0 (copies s d n p)) ≡ false = and_right (is_link_open s d p) (nat_lt 0 (copies s d n p)) (le-ltb 0 (copies s d n p) no_copy) in
    let none : pile_of s d p n ≡ None = cond-false (is_link_open s d p && nat_lt 0 (copies s d n p)) (Some (record { copies = copies s d n p; message = envelope_at s d p n })) None test in
    ap (λ k. weight (pile_at l.piles k)) stands.stamped ∙ ap weight (stands.piled n ∙ none)

-- one where a link is open
abbrev one_if : Bool → ℕ
one_if opened = cond opened 1 0

-- what is under way follows the message, where the link is open, and else nothing is
send-follows : (cl : Cluster) (f t : Actor) (refs : List Actor) (p : List Event) (old new : TrafficState) → IsLegal cl (Send f t refs ∷ p) → f.node ≢ t.node → SendsOnLink old new f.node t refs
    → StandsFor f.node t.node p (link_of old f.node t.node) → StandsFor f.node t.node (Send f t refs ∷ p) (link_of new f.node t.node) → live_in old.loads t.node ≡ live_at cl t.node p
    → FollowsLink cl f.node t.node (Send f t refs) p (live_in old.loads t.node + one_if (link_of old f.node t.node).is_open)
send-follows cl f t refs p old new legal apart change before after live =
    let s = f.node in
    let d = t.node in
    let e : Event = Send f t refs in
    let l = link_of old s d in (
      λ down. (
          let shut : l.is_open ≡ false = before.opened ∙ ap (λ v. v && not (is_closed s d p)) down in
          let nothing = live-down cl d p down in
          let adds : one_if l.is_open ≡ 0 = ap one_if shut in
          omega (arith, nothing, adds, live)),
      λ up. elim (cases_Bool (is_closed s d p)) [
        | inl shut ↦ (
            let none = under_way-closed s d p shut in
            let none_after = under_way-closed s d (e ∷ p) shut in
            let is_shut : l.is_open ≡ false = before.opened ∙ and_right (is_up d p) (not (is_closed s d p)) (ap not shut) in
            let adds : one_if l.is_open ≡ 0 = ap one_if is_shut in
            omega (arith, none, none_after, adds, live))
        | inr open_yet ↦ (
            let opened : is_link_open s d p ≡ true = and_from (is_up d p) (not (is_closed s d p)) up (ap not open_yet) in
            let is_open : l.is_open ≡ true = before.opened ∙ opened in
            let was = kept-under_way s d p l before opened in
            let is = kept-under_way s d (e ∷ p) (link_of new s d) after opened in
            let count = (change.link.opened is_open).count in
            let none = next-none cl p legal.1 s d l before in
            let adds : one_if l.is_open ≡ 1 = ap one_if is_open in
            omega (arith, was, is, count, none, adds, live))
      ],
    )

pub sends-on_link : (cl : Cluster) (f t : Actor) (refs : List Actor) (p : List Event) (old new : TrafficState) → f.node ≢ t.node → SendsOnLink old new f.node t refs → Keeps cl (Send f t refs) p old new
sends-on_link cl f t refs p old new apart change legal stands =
    let s = f.node in
    let d = t.node in
    let e : Event = Send f t refs in
    let kept = legal-kept cl e p legal in
    let source = born-on_node cl p legal.1 f kept.0 in
    let link = is-link cl s d stands.few source (born-on_node cl p legal.1 t kept.1.0) apart in
    let before = stands.links s d link in
    let after = sends-message cl f t refs p (link_of old s d) (link_of new s d) legal before change.link in
    let none : admitted_by e p ≡ [] = cond-false (s == d) (record { from = f; to = t; refs = refs } ∷ []) [] (ne_eqb s d link.2) in
    on-link cl s d e p old new (live_in old.loads d + one_if (link_of old s d).is_open) legal
    (record { link = link; source = source; one = λ x y apart. not-both s d x y apart; mail = (none, λ a. refl); up = λ n. refl; busy = λ a. refl })
    change.rest change.others after change.loads
    (send-follows cl f t refs p old new legal link.2 change before after (stands.live d)) stands
