-- What quiescence is good for: the only event that is still of a quiescent actor is its flush, and it is flushed once at
-- most; and no message that is moved goes to it or carries it. What is moved was live, so what is not live is never taken.
use Rattle.std.proofs.Common.{◌≡◌, ◌⊎◌, ◌||◌, ℕ, zero, suc, Bool, true, false, not, cond, List, [], ◌∷◌, ◌++◌, take, refl, sym, ◌∙◌, ap, subst, inl, inr, IsTrue, IsFalse, Option, Some, append-nil, flat_map}
use Rattle.std.proofs.lemmas.Bool.{false_from_ne_true, false≢true}
use Rattle.crgc_ids.specs.Actor.{Actor}
use Rattle.crgc_ids.specs.Members.{IsAmong}
use Rattle.crgc_ids.proofs.MembersLaws.{IsAmong-append_cases, IsAmong-append_left, IsAmong-append_right}
use Rattle.history_model.specs.declared.events.Event.{Event}
use Rattle.history_model.specs.declared.events.Event.TheVariants.{Seed, Tie, Take, Spawn, Send, Drop, Flush}
use Rattle.history_model.specs.Cluster.{Cluster, same_actor, newborn}
use Rattle.history_model.specs.Messages.{Message, admitted_by, waiting}
use Rattle.history_model.specs.Facts.{Fact, Flags, received, created, released, Note, note_by, notes, message_facts}
use Rattle.history_model.specs.Held.{held}
use Rattle.history_model.specs.State.{is_busy, is_root}
use Rattle.history_model.specs.Streams.{facts_by, is_flush_of, log, flags_at, flushed_flags, are_flags, is_blank, can_flush}
use Rattle.history_model.specs.Legal.{IsLegal}
use Rattle.history_model.specs.Quiescent.{IsLive, IsQuietSet, IsQuiescent}
use Rattle.history_model.specs.Uses.{actors_in, sent_by, taken_by, messages_in, IsUnused, OnlyLiveMove}
use Rattle.history_model.proofs.Basics.{legal-before, legal-kept, same_actor-equal, same_actor-refl}
use Rattle.history_model.proofs.AccountsBirths.{each-notes_of_spawn}
use Rattle.history_model.proofs.FoldSumsLogs.{log-next}
use Rattle.history_model.proofs.Lists.{Each, each-map, each-none, each-one}
use Rattle.history_model.proofs.Stability.{sent-outside, stability, stability-step}
use Rattle.history_model.proofs.StabilityHeld.{held-next}
use Rattle.history_model.proofs.StabilityMessages.{admitted-live, live-next}
use Rattle.history_model.proofs.States.{waiting-live}
use Rattle.history_model.proofs.UsesActors.{only-flush}

-- ---- what is moved was live

among-take : {A : Type 0} (n : ℕ) (x : A) (xs : List A) → IsAmong x (take n xs) → IsAmong x xs
among-take zero x xs among = absurd among
among-take (suc n) x [] among = absurd among
among-take (suc n) x (y ∷ ys) (inl e) = inl e
among-take (suc n) x (y ∷ ys) (inr later) = inr (among-take n x ys later)

taken-live : (cl : Cluster) (e : Event) (p : List Event) → IsLegal cl (e ∷ p) → (m : Message) → IsAmong m (taken_by e p) → IsLive p m
taken-live cl (Take a) p legal m among =
    (waiting-live p a (legal-kept cl (Take a) p legal).1.0 m (among-take 1 m (waiting a p) among)).0
taken-live cl _ p legal m among = absurd among

-- what an event moves was live, or the event sends it
moved-live : (cl : Cluster) (e : Event) (p : List Event) → IsLegal cl (e ∷ p) → (m : Message) → IsAmong m (messages_in e p)
    → IsLive p m ⊎ IsAmong m (sent_by e)
moved-live cl e p legal m among =
    elim (IsAmong-append_cases m (sent_by e) (admitted_by e p ++ taken_by e p) among) [
      | inl new ↦ inr new
      | inr old ↦ elim (IsAmong-append_cases m (admitted_by e p) (taken_by e p) old) [
        | inl admitted ↦ admitted-live cl e p legal m admitted
        | inr taken ↦ inl (taken-live cl e p legal m taken)
      ]
    ]

-- what is live later was live before, or was sent since
live-since : (cl : Cluster) (q h : List Event) → IsLegal cl (q ++ h) → (m : Message) → IsLive (q ++ h) m
    → IsLive h m ⊎ IsAmong m (flat_map sent_by q)
live-since cl [] h legal m live = inl live
live-since cl (e ∷ q) h legal m live =
    elim (live-next cl e (q ++ h) legal m live) [
      | inr new ↦ inr (IsAmong-append_left m (sent_by e) (flat_map sent_by q) new)
      | inl before ↦ elim (live-since cl q h legal.1 m before) [
        | inl then ↦ inl then
        | inr since ↦ inr (IsAmong-append_right m (sent_by e) (flat_map sent_by q) since)
      ]
    ]

-- so whatever an event moves was live before, or was sent since
pub moved-since : (cl : Cluster) (h : List Event) → OnlyLiveMove cl h
moved-since cl h e q legal m among =
    elim (moved-live cl e (q ++ h) legal m among) [
      | inr new ↦ inr (IsAmong-append_left m (sent_by e) (flat_map sent_by q) new)
      | inl live ↦ elim (live-since cl q h legal.1 m live) [
        | inl then ↦ inl then
        | inr since ↦ inr (IsAmong-append_right m (sent_by e) (flat_map sent_by q) since)
      ]
    ]

-- ---- members of quiet sets

-- nothing that is moved goes to a member or carries one
moved-outside : (cl : Cluster) (e : Event) (p : List Event) (q : List Actor) → IsLegal cl (e ∷ p) → IsQuietSet cl p q → (m : Message)
    → IsAmong m (messages_in e p) → (a : Actor) → IsAmong a q → ¬ IsAmong a (m.to ∷ m.refs)
moved-outside cl e p q legal quiet m among a member named =
    elim (moved-live cl e p legal m among) [
      | inr new ↦ sent-outside cl e p q legal quiet m new a named member
      | inl live ↦ elim named [
        | inl to ↦ quiet.no_mail m live (subst (λ x. IsAmong x q) to member)
        | inr carried ↦ quiet.not_carried m live a member carried
      ]
    ]

-- who notes is one of the actors that the event is of
abbrev IsNoterIn : Event → List Event → Note → Type 0
IsNoterIn e p x = IsAmong x.by (actors_in e p)

noter-in : (cl : Cluster) (e : Event) (p : List Event) → Each (IsNoterIn e p) (notes cl e p)
noter-in cl (Seed n) p = each-one (IsNoterIn (Seed n) p) (note_by (newborn n p) (created (newborn n p) (newborn n p))) (inl refl)
noter-in cl (Tie o t) p = each-one (IsNoterIn (Tie o t) p) (note_by t (created o t)) (inr (inl refl))
noter-in cl (Take a) p = each-one (IsNoterIn (Take a) p) (note_by a (received a)) (inl refl)
noter-in cl (Spawn a) p = each-notes_of_spawn cl a p (IsNoterIn (Spawn a) p) (inr (inl refl)) (inr (inl refl)) (inl refl)
noter-in cl (Send f t refs) p =
    each-map (IsNoterIn (Send f t refs) p) (note_by f) (message_facts (record { from = f; to = t; refs = refs })) (λ x among. inl refl)
noter-in cl (Drop a t) p = each-one (IsNoterIn (Drop a t) p) (note_by a (released a t)) (inl refl)
noter-in cl e p = each-none (IsNoterIn e p)

-- nothing stands in a's log where none of the notes is a's
facts_by-none : (a : Actor) (ns : List Note) → Each (λ (x : Note). x.by ≡ a → ⊥) ns → facts_by a ns ≡ []
facts_by-none a [] none = refl
facts_by-none a (n ∷ ns) none =
    let other = false_from_ne_true (same_actor n.by a) (λ same. none n (inl refl) (same_actor-equal n.by a same)) in
    ap (λ v. cond v (n.fact ∷ facts_by a ns) (facts_by a ns)) other ∙ facts_by-none a ns (λ x among. none x (inr among))

-- a member notes nothing
notes-none : (cl : Cluster) (e : Event) (p : List Event) (q : List Actor) → IsLegal cl (e ∷ p) → IsQuietSet cl p q → (a : Actor) → IsAmong a q
    → facts_by a (notes cl e p) ≡ []
notes-none cl e p q legal quiet a member = facts_by-none a (notes cl e p) (λ x among by.
    let flush = only-flush cl p q quiet e legal a (subst (λ b. IsAmong b (actors_in e p)) by (noter-in cl e p x among)) member in
    subst (λ f. IsAmong x (notes cl f p)) flush among)

-- ---- the last flush

-- who was just flushed has nothing to flush
flushed-nothing : (cl : Cluster) (a : Actor) (p : List Event) → IsFalse (can_flush cl a (Flush a ∷ p))
flushed-nothing cl a p = rw (same_actor-refl a) (same (is_busy a p) (is_root a p))
  where
    same : (b r : Bool) → not (are_flags (Some (record { busy = b; root = r })) (record { busy = b; root = r })) ≡ false
    same true true = refl
    same true false = refl
    same false true = refl
    same false false = refl

-- a flush needs something to flush
flush-some : (cl : Cluster) (a : Actor) (e : Event) (p : List Event) → IsLegal cl (e ∷ p) → is_flush_of a e ≡ true → IsTrue (can_flush cl a p)
flush-some cl a (Flush b) p legal same = subst (λ c. IsTrue (can_flush cl c p)) (same_actor-equal b a same) (legal-kept cl (Flush b) p legal).1.1.0
flush-some cl a _ p legal same = absurd (false≢true same)

-- the flags of the last flush stay
flags-kept : (a : Actor) (e : Event) (p : List Event) → is_flush_of a e ≡ false → flushed_flags a (e ∷ p) ≡ flushed_flags a p
flags-kept a (Flush b) p other = ap (λ v. cond v (Some (flags_at a p)) (flushed_flags a p)) other
flags-kept a _ p other = refl

-- a member that has nothing to flush has nothing after the next event either
nothing-next : (cl : Cluster) (e : Event) (p : List Event) (q : List Actor) → IsLegal cl (e ∷ p) → IsQuietSet cl p q → (a : Actor) → IsAmong a q
    → IsFalse (can_flush cl a p) → IsFalse (can_flush cl a (e ∷ p))
nothing-next cl e p q legal quiet a member nothing =
    let later = stability-step cl e p q legal quiet in
    let other = false_from_ne_true (is_flush_of a e) (λ flush. false≢true (sym nothing ∙ flush-some cl a e p legal flush)) in
    let same_log : log cl a (e ∷ p) ≡ log cl a p =
    log-next cl a e p other ∙ ap (λ fs. log cl a p ++ fs) (notes-none cl e p q legal quiet a member) ∙ append-nil (log cl a p) in
    let Can : List Fact → Option Flags → Bool → Bool → Bool = λ l o b r. not (is_blank l) || not (are_flags o (record { busy = b; root = r })) in
    ap (λ l. Can l (flushed_flags a (e ∷ p)) (is_busy a (e ∷ p)) (is_root a (e ∷ p))) same_log
    ∙ ap (λ o. Can (log cl a p) o (is_busy a (e ∷ p)) (is_root a (e ∷ p))) (flags-kept a e p other)
    ∙ ap (λ b. Can (log cl a p) (flushed_flags a p) b (is_root a (e ∷ p))) (later.idle a member ∙ sym (quiet.idle a member))
    ∙ ap (λ r. Can (log cl a p) (flushed_flags a p) (is_busy a p) r) (later.no_root a member ∙ sym (quiet.no_root a member))
    ∙ nothing

-- ---- quiescent actors

-- after one flush a quiescent actor is never flushed again
flushed-once : (cl : Cluster) (h : List Event) (a : Actor) → IsQuiescent cl h a → (q : List Event) → IsLegal cl (q ++ (Flush a ∷ h))
    → IsFalse (can_flush cl a (q ++ (Flush a ∷ h)))
flushed-once cl h a quiescent [] legal = flushed-nothing cl a h
flushed-once cl h a quiescent (e ∷ q) legal =
    let set = quiescent.0 in
    let then = stability-step cl (Flush a) h set (legal-before cl q (Flush a ∷ h) legal.1) quiescent.2 in
    let now = stability cl q (Flush a ∷ h) set legal.1 then in
    nothing-next cl e (q ++ (Flush a ∷ h)) set legal now a quiescent.1 (flushed-once cl h a quiescent q legal.1)

-- the references to it stay where they are
held-same : (cl : Cluster) (h : List Event) (a : Actor) → IsQuiescent cl h a → (q : List Event) → IsLegal cl (q ++ h) → (b : Actor)
    → held cl b a (q ++ h) ≡ held cl b a h
held-same cl h a quiescent [] legal b = refl
held-same cl h a quiescent (e ∷ q) legal b =
    let now = stability cl q h quiescent.0 legal.1 quiescent.2 in
    held-next cl e (q ++ h) quiescent.0 legal now b a quiescent.1 ∙ held-same cl h a quiescent q legal.1 b

-- nobody uses it any more
pub quiescent-unused : (cl : Cluster) (h : List Event) (a : Actor) → IsQuiescent cl h a → IsUnused cl h a
quiescent-unused cl h a quiescent =
    let set = quiescent.0 in
    record {
      actors = λ e q legal among. only-flush cl (q ++ h) set (stability cl q h set legal.1 quiescent.2) e legal a among quiescent.1;
      flushed = flushed-once cl h a quiescent;
      messages = λ e q legal m among. moved-outside cl e (q ++ h) set legal (stability cl q h set legal.1 quiescent.2) m among a quiescent.1;
      references = held-same cl h a quiescent;
    }
