-- The traffic after an event by which a message may come to its recipient's node: a send within a node, and an admission.
use Rattle.std.proofs.Common.{◌≡◌, ◌≢◌, ◌⊎◌, ◌==◌, ◌&&◌, ◌||◌, ◌+◌, ◌-◌, ◌<◌, ◌++◌, not, ℕ, Bool, true, false, cond, Option, Some, None, List, [], ◌∷◌, filter, length, length-append, option_to_list, slice_get, append-nil, refl, sym, ◌∙◌, ap, subst, inl, inr, arith}
use Rattle.std.proofs.lemmas.Bool.{cond-true, eq-eqb, ltb-true}
use Rattle.std.specs.Option.{option_map}
use Rattle.crgc_ids.specs.Actor.{Actor, same_actor}
use Rattle.crgc_ids.specs.Members.{IsAmong}
use Rattle.history_model.specs.declared.events.Event.{Event}
use Rattle.history_model.specs.declared.events.Event.TheVariants.{Admit, Send}
use Rattle.history_model.specs.Cluster.{Cluster, births, is_born}
use Rattle.history_model.specs.Legal.{IsLegal, has_nothing}
use Rattle.history_model.specs.Live.{coming_to, is_ready, live_at, waiting_at}
use Rattle.history_model.specs.Messages.{Message, admitted_by, copies, is_to, message_at, sent, waiting, was_admitted}
use Rattle.history_model.specs.State.{is_busy, is_up}
use Rattle.history_model.proofs.AccountsBirths.{message_at-among, sent-among, sent-born}
use Rattle.history_model.proofs.AccountsCopies.{copies-was_sent}
use Rattle.history_model.proofs.Basics.{legal-kept, same_actor-refl}
use Rattle.history_model.proofs.LiveCounts.{place-has}
use Rattle.history_model.proofs.States.{legal-send}
use Rattle.link_table.specs.declared.piles.Envelope.{Envelope}
use Rattle.link_table.specs.declared.piles.Pile.{Pile}
use Rattle.link_table.specs.LinkState.{LinkState}
use Rattle.link_table.specs.Piled.{fewer, has_message, message_in, pile_at, stripped, weight}
use Rattle.link_table.specs.Standing.{StandsFor, envelope_at, envelope_of, pile_with}
use Rattle.link_table.specs.Table.{IsLink}
use Rattle.link_table.proofs.StandingLemmas.{message_in-with}
use Rattle.link_table.proofs.StandingSteps.{admits}
use Rattle.mail_laws.specs.Standing.{AdmitsNone, AdmitsOne, ChangesMail}
use Rattle.mail_laws.proofs.WaitingLemmas.{mail-admitted, mail-left, waiting-admitted}
use Rattle.mailboxes.specs.Mail.{mail_of}
use Rattle.traffic.specs.Changes.{AdmitsCopy, Arrives, Delivers, IsReadyIf, SameMail, SameReady}
use Rattle.traffic.specs.Loads.{Loads, live_in, up_in}
use Rattle.traffic.specs.Standing.{IsTrafficOf, Keeps, TellsIdle}
use Rattle.traffic.specs.TrafficState.{TrafficState, link_of, message_on, recipient_on}
use Rattle.traffic.proofs.KeepingActors.{another, by-node, elsewhere, live-here, live-there, waiting-left, waiting_at-left}
use Rattle.traffic.proofs.KeepingLinks.{IsLinkLegal, is-link, kept-under_way, link-legal}
use Rattle.traffic.proofs.LiveSums.{coming-changed, coming-same, live-changed, live-same, waiting_at-changed, waiting_at-same}
use Rattle.traffic.proofs.ReadySteps.{HasReady, ready-if, ready-same, ready-with}
use Rattle.traffic.proofs.TableSteps.{links-follow, links-stay, not-both}

-- ---- a message that comes

-- the event admits this one message, to an actor that was born on a node that is up, and changes no actor
pub record IsArrival (e : Event) (p : List Event) (m : Message) : Type 0 where
  pub one : AdmitsOne e p m
  pub up : (n : ℕ) → is_up n (e ∷ p) ≡ is_up n p
  pub busy : (a : Actor) → is_busy a (e ∷ p) ≡ is_busy a p
  pub births : (n : ℕ) → births n (e ∷ p) ≡ births n p
  pub born : is_born m.to p ≡ true
  pub node_up : is_up m.to.node p ≡ true

-- it waits last for its recipient, and no other mail changes
pub arrives-last : (cl : Cluster) (e : Event) (p : List Event) (m : Message) → IsLegal cl p → IsArrival e p m → waiting m.to (e ∷ p) ≡ waiting m.to p ++ m ∷ []
arrives-last cl e p m legal comes =
    waiting-admitted cl e p legal m.to (comes.one.1 m.to) ∙ ap (λ ms. waiting m.to p ++ filter (is_to m.to) ms) comes.one.0
    ∙ ap (λ v. waiting m.to p ++ cond v (m ∷ []) []) (same_actor-refl m.to)

arrives-elsewhere : (cl : Cluster) (e : Event) (p : List Event) (m : Message) → IsLegal cl p → IsArrival e p m → (a : Actor) → same_actor m.to a ≡ false → waiting a (e ∷ p) ≡ waiting a p
arrives-elsewhere cl e p m legal comes a other =
    waiting-admitted cl e p legal a (comes.one.1 a) ∙ ap (λ ms. waiting a p ++ filter (is_to a) ms) comes.one.0
    ∙ ap (λ v. waiting a p ++ cond v (m ∷ []) []) other ∙ append-nil (waiting a p)

-- one message more waits at its node, and as many as before elsewhere
pub waits-more : (cl : Cluster) (e : Event) (p : List Event) (m : Message) → IsLegal cl p → IsArrival e p m → waiting_at m.to.node (e ∷ p) ≡ waiting_at m.to.node p + 1
waits-more cl e p m legal comes =
    let b = m.to in
    let changed = waiting_at-changed b (e ∷ p) p (comes.births b.node) comes.born (λ s apart. ap length (arrives-elsewhere cl e p m legal comes (record { node = b.node; serial = s }) (another b s apart))) in
    let longer = ap length (arrives-last cl e p m legal comes) ∙ length-append (waiting b p) (m ∷ []) in
    omega (arith, changed, longer)

pub waits-same : (cl : Cluster) (e : Event) (p : List Event) (m : Message) → IsLegal cl p → IsArrival e p m → (n : ℕ) → n ≢ m.to.node → waiting_at n (e ∷ p) ≡ waiting_at n p
waits-same cl e p m legal comes n apart =
    waiting_at-same n (e ∷ p) p (comes.births n) (λ s. ap length (arrives-elsewhere cl e p m legal comes (record { node = n; serial = s }) (elsewhere m.to n s apart)))

-- its recipient may take it if it is idle
ready-arrived : (cl : Cluster) (e : Event) (p : List Event) (m : Message) (old new : List Actor) (idle : Bool) → IsLegal cl p → IsArrival e p m → idle ≡ not (is_busy m.to p) → IsReadyIf idle old new m.to → HasReady p old → HasReady (e ∷ p) new
ready-arrived cl e p m old new idle legal comes told change has =
    let h : List Event = e ∷ p in
    let b = m.to in
    let some : not (has_nothing (waiting b h)) ≡ true = ap (λ ms. not (has_nothing ms)) (arrives-last cl e p m legal comes) ∙ last-some (waiting b p) m in
    let now : is_ready b h ≡ (idle && true) = ready-if b h idle true (comes.up b.node ∙ comes.node_up) (ap not (comes.busy b) ∙ sym told) some in
    let before : is_ready b p ≡ (idle && not (has_nothing (waiting b p))) = ready-if b p idle (not (has_nothing (waiting b p))) comes.node_up (sym told) refl in
    ready-with old new h p b idle change (now ∙ idle-either idle (not (has_nothing (waiting b p))) ∙ ap (λ v. idle || v) (sym before))
    (λ a other. ready-same a h p (comes.up a.node) (comes.busy a) (arrives-elsewhere cl e p m legal comes a other)) has
  where
    last-some : (ms : List Message) (x : Message) → not (has_nothing (ms ++ x ∷ [])) ≡ true
    last-some [] x = refl
    last-some (y ∷ ms) x = refl

    idle-either : (i w : Bool) → (i && true) ≡ (i || (i && w))
    idle-either true w = refl
    idle-either false w = refl

-- ---- a send within one node

-- its message is admitted at once
pub local-arrival : (cl : Cluster) (f t : Actor) (refs : List Actor) (p : List Event) → f.node ≡ t.node → IsLegal cl (Send f t refs ∷ p) → IsArrival (Send f t refs) p (record { from = f; to = t; refs = refs })
local-arrival cl f t refs p local legal = record {
  one = (cond-true (f.node == t.node) (record { from = f; to = t; refs = refs } ∷ []) [] (eq-eqb f.node t.node local), λ a. refl);
  up = λ k. refl;
  busy = λ a. refl;
  births = λ k. refl;
  born = (legal-kept cl (Send f t refs) p legal).1.0;
  node_up = subst (λ k. is_up k p ≡ true) local (legal-send cl f t refs p legal).up;
}

pub delivers : (cl : Cluster) (f t : Actor) (refs : List Actor) (p : List Event) (old new : TrafficState) (idle : Bool) → f.node ≡ t.node → Delivers old new t refs idle → idle ≡ not (is_busy t p) → Keeps cl (Send f t refs) p old new
delivers cl f t refs p old new idle local change told legal stands =
    let e : Event = Send f t refs in
    let h : List Event = e ∷ p in
    let m : Message = record { from = f; to = t; refs = refs } in
    let n = t.node in
    let comes = local-arrival cl f t refs p local legal in
    let no_link = λ (x y : ℕ) (apart : x ≢ y). not-both f.node n x y (λ both. apart (both.0 ∙ local ∙ sym both.1)) in
    let coming = λ (k : ℕ). coming-same cl k e p (λ s apart. no_link s k apart) in
    let live = live-changed cl n h p 1 0 comes.node_up comes.node_up (omega (arith, waits-more cl e p m legal.1 comes, coming n)) in
    record {
      nodes = change.nodes ∙ stands.nodes;
      few = stands.few;
      up = λ k. change.loads.up k ∙ stands.up k;
      live = λ k. by-node (λ j. live_in new.loads j ≡ live_at cl j h) n k
          (live-here old.loads new.loads n (live_in old.loads n + 1) change.loads ∙ (let before = stands.live n in omega (arith, before, live)))
          (λ apart. live-there old.loads new.loads n (live_in old.loads n + 1) k change.loads apart ∙ stands.live k
          ∙ sym (live-same cl k h p refl (waits-same cl e p m legal.1 comes k apart) (coming k)));
      links = links-stay e p old.links new.links no_link change.links stands.links;
      mail = mail-admitted cl e p m old.boxes new.boxes legal comes.one.0 comes.one.1 change.mail stands.mail;
      ready = ready-arrived cl e p m old.ready new.ready idle legal.1 comes told change.ready stands.ready;
    }

-- ---- an admission

-- what the number brings: nothing where it was admitted, else the message
abbrev pub Brings : Bool → List Message → ℕ → Type 0
Brings v ms k =
    ((cond v None (option_map envelope_of (slice_get ms k)) ≡ None) × (cond v [] (option_to_list (slice_get ms k)) ≡ []))
    ⊎ ((m : Message) × (cond v None (option_map envelope_of (slice_get ms k)) ≡ Some (envelope_of m)) × (cond v [] (option_to_list (slice_get ms k)) ≡ m ∷ []))

pub brings : (v : Bool) (ms : List Message) (k : ℕ) → k < length ms → Brings v ms k
brings true ms k below = inl (refl, refl)
brings false ms k below = (let found = place-has ms k below in inr (found.0, there (slice_get ms k) found.0 found.1, found.1))
  where
    there : (o : Option Message) (m : Message) → option_to_list o ≡ m ∷ [] → option_map envelope_of o ≡ Some (envelope_of m)
    there None m e = absurd (cc)
    there (Some x) m e = cc

-- of a pile without its message, nothing weighs
weight-bare : (pile : Option Pile) → weight (fewer (stripped pile)) ≡ 0
weight-bare None = refl
weight-bare (Some q) = elim (q.copies == 1) as (λ v. weight (cond v None (Some (record q { message = None; copies = q.copies - 1 }))) ≡ 0) [ true ↦ refl | false ↦ refl ]

-- it weighs one with its message, and nothing without
abbrev weight_of : Option Envelope → ℕ
weight_of o = cond (has_message o) 1 0

weight-there : (pile : Option Pile) (m : Envelope) → message_in pile ≡ Some m → weight pile ≡ 1
weight-there pile m e = ap weight_of e

weight-none : (pile : Option Pile) → message_in pile ≡ None → weight pile ≡ 0
weight-none pile e = ap weight_of e

-- what the rules of an admission say of the number
pub record IsAdmission (cl : Cluster) (s d k : ℕ) (p : List Event) : Type 0 where
  pub link : IsLinkLegal cl s d p
  pub some : 0 < copies s d k p
  pub below : k < length (sent s d p)

pub admission : (cl : Cluster) (s d k : ℕ) (p : List Event) → IsLegal cl (Admit s d k ∷ p) → IsAdmission cl s d k p
admission cl s d k p legal =
    let kept = legal-kept cl (Admit s d k) p legal in
    let some = ltb-true 0 (copies s d k p) kept.1.1.1.1.1.0 in
    record { link = link-legal cl s d p kept.0 kept.1.0 kept.1.1.0 kept.1.1.1.0 kept.1.1.1.1.0; some = some; below = copies-was_sent cl p legal.1 s d k some }

-- the message of the copy is the one of its number
message-brought : (cl : Cluster) (s d k : ℕ) (p : List Event) (l : LinkState) → IsAdmission cl s d k p → StandsFor s d p l → message_in (pile_at l.piles k) ≡ envelope_at s d p k
message-brought cl s d k p l is stands =
    ap message_in (stands.piled k ∙ ap (λ o. pile_with o (copies s d k p) (envelope_at s d p k)) is.link.opened) ∙ message_in-with (copies s d k p) (envelope_at s d p k) is.some

-- what both kinds of admission share: nodes, links, and what comes
record AdmissionSteps (cl : Cluster) (s d k : ℕ) (p : List Event) (old new : TrafficState) : Type 0 where
  nodes : new.nodes ≡ cl.nodes
  up : (n : ℕ) → up_in new.loads n ≡ is_up n p
  links : (x y : ℕ) → IsLink x y → StandsFor x y (Admit s d k ∷ p) (link_of new x y)
  comes : (n : ℕ) → n ≢ d → coming_to cl n (Admit s d k ∷ p) ≡ coming_to cl n p
  here : coming_to cl d (Admit s d k ∷ p) + weight (pile_at (link_of old s d).piles k) ≡ coming_to cl d p

admission-steps : (cl : Cluster) (s d k : ℕ) (p : List Event) (old new : TrafficState) (idle : Bool) → IsLink s d → IsAdmission cl s d k p → AdmitsCopy old new s d k idle → IsLegal cl (Admit s d k ∷ p) → IsTrafficOf cl p old
    → AdmissionSteps cl s d k p old new
admission-steps cl s d k p old new idle link is change legal stands =
    let e : Event = Admit s d k in
    let before = stands.links s d link in
    let after = admits cl s d k p (link_of old s d) (link_of new s d) legal before change.link in
    let one = λ (x y : ℕ) (apart : (x ≡ s) × (y ≡ d) → ⊥). not-both s d x y apart in
    let was = kept-under_way s d p (link_of old s d) before is.link.opened in
    let now = kept-under_way s d (e ∷ p) (link_of new s d) after is.link.opened in
    let count = change.link.moved.piles.count in
    let bare = weight-bare (pile_at (link_of old s d).piles k) in
    let coming = coming-changed cl s d e p is.link.apart is.link.source (λ x differ. one x d (λ both. differ both.0)) in
    record {
      nodes = change.nodes.0 ∙ stands.nodes;
      up = λ n. ap (λ (l : Loads). up_in l n) change.nodes.1 ∙ stands.up n;
      links = links-follow s d e p old.links new.links one change.others after stands.links;
      comes = λ n apart. coming-same cl n e p (λ x _. one x n (λ both. apart both.1));
      here = omega (arith, was, now, count, bare, coming);
    }

-- a copy of a number that was admitted before is discarded
discards : (cl : Cluster) (s d k : ℕ) (p : List Event) (old new : TrafficState) → IsAdmission cl s d k p → AdmissionSteps cl s d k p old new → new.loads ≡ old.loads → SameMail old new → SameReady old new
    → message_on old s d k ≡ None → admitted_by (Admit s d k) p ≡ [] → IsLegal cl (Admit s d k ∷ p) → IsTrafficOf cl p old → IsTrafficOf cl (Admit s d k ∷ p) new
discards cl s d k p old new is steps loads mail ready bare none legal stands =
    let e : Event = Admit s d k in
    let h : List Event = e ∷ p in
    let quiet : AdmitsNone e p = (none, λ a. refl) in
    let weighs = weight-none (pile_at (link_of old s d).piles k) bare in
    let here = steps.here in
    record {
      nodes = steps.nodes;
      few = stands.few;
      up = steps.up;
      live = λ n. ap (λ (l : Loads). live_in l n) loads ∙ stands.live n
          ∙ sym (live-same cl n h p refl (waiting_at-left cl e p legal.1 quiet n) (by-node (λ j. coming_to cl j h ≡ coming_to cl j p) d n (omega (arith, here, weighs)) (steps.comes n)));
      links = steps.links;
      mail = mail-left cl e p new.boxes legal quiet.0 quiet.1 (λ a. mail a ∙ stands.mail a);
      ready = λ a. ready a ∙ stands.ready a ∙ sym (ready-same a h p refl refl (waiting-left cl e p legal.1 quiet a));
    }

-- the message that the number brings is one to the node
first-to : (s d k : ℕ) (p : List Event) (m : Message) → message_at s d k p ≡ m ∷ [] → m.to.node ≡ d
first-to s d k p m number = (sent-among s d p m (message_at-among s d k p m (subst (IsAmong m) (sym number) (inl refl)))).2

-- it is admitted
pub first-arrival : (cl : Cluster) (s d k : ℕ) (p : List Event) (m : Message) → is_up d p ≡ true → IsLegal cl (Admit s d k ∷ p) → message_at s d k p ≡ m ∷ [] → admitted_by (Admit s d k) p ≡ m ∷ [] → IsArrival (Admit s d k) p m
first-arrival cl s d k p m up legal number one =
    let was_sent = sent-among s d p m (message_at-among s d k p m (subst (IsAmong m) (sym number) (inl refl))) in
    record {
      one = (one, λ a. refl);
      up = λ n. refl;
      busy = λ a. refl;
      births = λ n. refl;
      born = (sent-born cl p legal.1 m was_sent.0).1;
      node_up = subst (λ n. is_up n p ≡ true) (sym was_sent.2) up;
    }

-- a message that is admitted waits for its recipient
admits-first : (cl : Cluster) (s d k : ℕ) (p : List Event) (old new : TrafficState) (m : Message) (idle : Bool) → IsAdmission cl s d k p → AdmissionSteps cl s d k p old new → new.loads ≡ old.loads
    → ChangesMail old.boxes new.boxes m.to (mail_of old.boxes m.to ++ m.refs ∷ []) → IsReadyIf idle old.ready new.ready m.to → message_on old s d k ≡ Some (envelope_of m) → message_at s d k p ≡ m ∷ [] → admitted_by (Admit s d k) p ≡ m ∷ []
    → idle ≡ not (is_busy m.to p) → IsLegal cl (Admit s d k ∷ p) → IsTrafficOf cl p old → IsTrafficOf cl (Admit s d k ∷ p) new
admits-first cl s d k p old new m idle is steps loads mail ready message number one told legal stands =
    let e : Event = Admit s d k in
    let h : List Event = e ∷ p in
    let comes = first-arrival cl s d k p m is.link.up legal number one in
    let on = first-to s d k p m number in
    let weighs = weight-there (pile_at (link_of old s d).piles k) (envelope_of m) message in
    let here = steps.here in
    let waits = subst (λ n. waiting_at n h ≡ waiting_at n p + 1) on (waits-more cl e p m legal.1 comes) in
    let live = live-changed cl d h p 0 0 is.link.up is.link.up (omega (arith, here, weighs, waits)) in
    record {
      nodes = steps.nodes;
      few = stands.few;
      up = steps.up;
      live = λ n. ap (λ (l : Loads). live_in l n) loads ∙ stands.live n
          ∙ by-node (λ j. live_at cl j p ≡ live_at cl j h) d n (omega (arith, live))
          (λ apart. sym (live-same cl n h p refl (waits-same cl e p m legal.1 comes n (λ same. apart (same ∙ on))) (steps.comes n apart)));
      links = steps.links;
      mail = mail-admitted cl e p m old.boxes new.boxes legal one comes.one.1 mail stands.mail;
      ready = ready-arrived cl e p m old.ready new.ready idle legal.1 comes told ready stands.ready;
    }

-- what is brought is the message of the number
pub at-first : (v : Bool) (m : Message) (ms : List Message) → cond v [] ms ≡ m ∷ [] → ms ≡ m ∷ []
at-first true m ms e = absurd (cc)
at-first false m ms e = e

pub copy-admitted : (cl : Cluster) (s d k : ℕ) (p : List Event) (old new : TrafficState) (idle : Bool) → AdmitsCopy old new s d k idle → TellsIdle idle (recipient_on old s d k) p → Keeps cl (Admit s d k) p old new
copy-admitted cl s d k p old new idle change told legal stands =
    let is = admission cl s d k p legal in
    let link = is-link cl s d stands.few is.link.source is.link.end is.link.apart in
    let steps = admission-steps cl s d k p old new idle link is change legal stands in
    let brought = message-brought cl s d k p (link_of old s d) is (stands.links s d link) in
    elim (brings (was_admitted s d k p) (sent s d p) k is.below) [
      | inl none ↦ (
          let bare : message_on old s d k ≡ None = brought ∙ none.0 in
          let arrives = subst (λ o. Arrives old new o idle) bare change.arrives in
          discards cl s d k p old new is steps change.nodes.1 arrives.0 arrives.1 bare none.1 legal stands
          )
      | inr some ↦ (
          let m : Message = some.0 in
          let message : message_on old s d k ≡ Some (envelope_of m) = brought ∙ some.1 in
          let arrives = subst (λ o. Arrives old new o idle) message change.arrives in
          let tells = subst (λ o. TellsIdle idle (option_map (λ (x : Envelope). x.to) o) p) message told in
          admits-first cl s d k p old new m idle is steps change.nodes.1 arrives.0 arrives.1 message (at-first (was_admitted s d k p) m (message_at s d k p) some.2) some.2 tells legal stands
          )
    ]
