-- What an operation makes where its events happen.
use Rattle.std.proofs.Common.{◌≡◌, ◌+◌, ◌-◌, ◌<◌, ◌==◌, ◌++◌, ◌&&◌, ℕ, Bool, nat_lt, true, false, List, [], ◌∷◌, length, option_to_list, Option, Some, None, refl, sym, ◌∙◌, ap, subst, if◌then◌else◌, arith, inl, inr}
use Rattle.std.specs.Prelude.{IfErr, OnErr, OnOk, Result, Ok, Err, unwrap_or}
use Rattle.std.specs.Option.{option_or}
use Rattle.crgc_ids.specs.declared.Which.{Which}
use Rattle.history_model.specs.declared.events.Rule.{Rule}
use Rattle.history_model.specs.Cluster.{Cluster, is_born}
use Rattle.history_model.specs.Legal.{checks, refusal}
use Rattle.history_model.specs.State.{is_busy, is_up}
use Rattle.history_model.specs.Streams.{stream}
use Rattle.history_model.proofs.LiveCounts.{ready-takes}
use Rattle.run_model.proofs.ActsLegal.{none-broken}
use Rattle.journal_model.specs.Limits.{limit_passed}
use Rattle.behaviour_lang.specs.declared.act.Act.{Act}
use Rattle.run_model.specs.Doing.{cluster_of}
use Rattle.true_config.specs.Applying.{answer_to_both, hindered}
use Rattle.true_config.specs.declared.applied.Applied.TheVariants.{Done}
use Rattle.true_config.specs.declared.applied.Told.{Told}
use Rattle.true_config.specs.declared.applied.Told.TheVariants.{Plain}
use Rattle.operation_model.specs.declared.operations.Op.TheVariants as ops
use Rattle.operation_model.specs.Answers.{MayFollow, refusals, unknown}
use Rattle.operation_model.proofs.Granted.{none-holds}
use Rattle.operation_model.proofs.GrantedTurns.{found, not-false, not-true}
use Rattle.crgc_ids.specs.Actor.{Actor}
use Rattle.history_model.specs.declared.events.Event.{Event}
use Rattle.history_model.specs.declared.events.Event.TheVariants.{Flush, Hand, Publish, Take, Wake}
use Rattle.history_model.proofs.Basics.{eqb-refl, first_broken-none}
use Rattle.bulletin_streams.specs.Standing.{queued as queued_there}
use Rattle.script_reader.specs.Valid.{Scripted}
use Rattle.run_model.specs.Follows.{added, queued}
use Rattle.run_model.specs.Planned.{actors, is_possible, is_within_budget, next_wake, wakes_left}
use Rattle.run_model.specs.declared.round_laws.TheConstants.{FLUSHES_PER_PUBLISH}
use Rattle.operation_model.specs.declared.operations.Op.{Op}
use Rattle.operation_model.specs.declared.replies.Halt.{Halt}
use Rattle.operation_model.specs.declared.replies.Halt.TheVariants.{Limit, Memory}
use Rattle.operation_model.specs.declared.replies.Reply.{Reply}
use Rattle.world_object.specs.declared.parts.ClusterParts.{ClusterParts}
use Rattle.world_object.specs.Answering.{Grants, Halts, HaltsBefore, Happens, IsDone, Makes, events_of, refused_by}
use Rattle.world_object.specs.Standing.{Stands, opening_of}
use Rattle.std.proofs.lemmas.Bool.{and_parts, cases_eq, eq-eqb, ltb-true, ne_eqb}
use Rattle.run_model.proofs.Possible.{possible-legal}
use Rattle.world_object.proofs.Standings.{stands-round, stands-rounds}

pub happens-makes : (events : List Event) (old new : ClusterParts) → Happens events old new → Makes events old new
happens-makes events old new happens = record {
  follow = happens.follow;
  past = happens.past;
  script = ap (λ (p : ClusterParts). p.script.value) happens.others;
  claims = ap (λ (p : ClusterParts). p.claims) happens.others;
  halt = ap (λ (p : ClusterParts). p.halt) happens.others;
  verdicts = ap (λ (p : ClusterParts). p.verdicts) happens.others;
}

-- the operation is done, whose events happened
pub happens-done : (op : Op) (old new : ClusterParts) (r : Reply) (events : List Event) → Grants old op r → events ≡ events_of old op r → Happens events old new → IsDone op old new r
happens-done op old new r events granted same happens = record {
  granted = granted;
  makes = subst (λ es. Makes es old new) same (happens-makes events old new happens);
}

-- the operation halts before its events
pub halts-before : (op : Op) (old : ClusterParts) (r : Reply) (events : List Event) (why : Halt) → Grants old op r → events ≡ events_of old op r → HaltsBefore old events why → Halts old op why
halts-before op old r events (Limit limit) granted same halts = (r, granted, subst (λ es. HaltsBefore old es (Limit limit)) same halts)
halts-before op old r events Memory granted same halts = tt

-- ---- flushes

queued-same : (n : ℕ) (h : List Event) → queued n h ≡ queued_there n h
queued-same n [] = refl
queued-same n (Flush a ∷ p) = ap (λ k. if a.node == n then k + 1 else k) (queued-same n p)
queued-same n (Publish m ∷ p) = ap (λ k. if m == n then 0 else k) (queued-same n p)
queued-same n (e ∷ p) = queued-same n p

-- the publish that is due to a flush, by the entries that wait
pub flush-adds : (s : Scripted) (a : Actor) (h : List Event) (k : ℕ) → k ≡ queued_there a.node h → added s (Flush a) h ≡ (if k + 1 == FLUSHES_PER_PUBLISH then Some (Publish a.node) else None)
flush-adds s a h k is =
    let one : queued a.node (Flush a ∷ h) ≡ k + 1 = ap (λ v. if v then queued a.node h + 1 else queued a.node h) (eqb-refl a.node) ∙ ap (λ n. n + 1) (queued-same a.node h ∙ sym is) in
    ap (λ n. if n == FLUSHES_PER_PUBLISH then Some (Publish a.node) else None) one

-- one less on both sides
one-less : (k n : ℕ) → 0 < n → (k + 1 == n) ≡ (k == n - 1)
one-less k n some = elim (cases_eq (k + 1) n) [
  | inl same ↦ eq-eqb (k + 1) n same ∙ sym (eq-eqb k (n - 1) (omega (arith, same)))
  | inr other ↦ ne_eqb (k + 1) n other ∙ sym (ne_eqb k (n - 1) (λ e. other (omega (arith, e, some))))
]

pub flush-due : (s : Scripted) (a : Actor) (h : List Event) (k : ℕ) → k ≡ queued_there a.node h → added s (Flush a) h ≡ (if k == FLUSHES_PER_PUBLISH - 1 then Some (Publish a.node) else None)
flush-due s a h k is = flush-adds s a h k is ∙ ap (λ v. if v then Some (Publish a.node) else None) (one-less k FLUSHES_PER_PUBLISH (omega arith))

-- the parts stand after a flush and what is due with it
pub stands-flushed : (old new : ClusterParts) (a : Actor) → Stands old → Happens (Flush a ∷ option_to_list (added old.script.value (Flush a) old.world.past)) old new → Stands new
stands-flushed old new a stands happens = by_test (queued a.node (Flush a ∷ old.world.past) == FLUSHES_PER_PUBLISH) happens
  where
    by_test : (v : Bool) → Happens (Flush a ∷ option_to_list (if v then Some (Publish a.node) else None)) old new → Stands new
    by_test true happens = stands-rounds old new (Flush a) (Publish a.node) stands refl refl happens
    by_test false happens = stands-round old new (Flush a) stands refl happens

-- ---- results

-- either the change happened, or all is as before
pub kept-or : {A B : Type 0} (X : Type 0) (old new : ClusterParts) (r : Result A B) → OnOk r X → OnErr r (new ≡ old) → Stands old → (X → Stands new) → Stands new
kept-or X old new (Ok a) ok err stands change = change ok
kept-or X old new (Err e) ok err stands change = subst Stands (sym err) stands

-- the parts that no event of the world changes
pub happens-progress : (es : List Event) (old new : ClusterParts) → Happens es old new → new.progress ≡ old.progress
happens-progress es old new happens = ap (λ (p : ClusterParts). p.progress) happens.others

pub happens-actors : (es : List Event) (old new : ClusterParts) → Happens es old new → new.actors ≡ old.actors
happens-actors es old new happens = ap (λ (p : ClusterParts). p.actors) happens.others

-- ---- two events

-- what was done was not hindered
follow-cases : (told : Told) (r1 r2 : Option Rule) (l1 l2 : Option Which) → Done told ≡ unwrap_or (option_or (hindered r1 l1) (hindered r2 l2)) (Done Plain) → (r1 ≡ None) × (l1 ≡ None) × (r2 ≡ None) × (l2 ≡ None)
follow-cases told (Some x) r2 l1 l2 e = absurd (cc)
follow-cases told None r2 (Some w) l2 e = absurd (cc)
follow-cases told None (Some x) None l2 e = absurd (cc)
follow-cases told None None None (Some w) e = absurd (cc)
follow-cases told None None None None e = (refl, refl, refl, refl)

pub both-follow : (s : Scripted) (cl : Cluster) (e f : Event) (h : List Event) (told : Told) → cl ≡ cluster_of s → Done told ≡ answer_to_both cl e f h → MayFollow s (e ∷ f ∷ []) h
both-follow s cl e f h told same done =
    let none = follow-cases told (refusal cl e h) (refusal cl f (e ∷ h)) (limit_passed cl e h) (limit_passed cl f (e ∷ h)) done in
    subst (λ c. (refusal c e h ≡ None) × (limit_passed c e h ≡ None) × ((refusal c f (e ∷ h) ≡ None) × (limit_passed c f (e ∷ h) ≡ None) × Unit {0})) same (none.0, none.1, (none.2, none.3, tt))

-- ---- refusals

-- whose node is up, as the act is not refused
pub act-up : (p : ClusterParts) (a : Actor) (act : Act) → refused_by p (ops.Act a act) ≡ None → is_up a.node p.world.past ≡ true
act-up p a act none =
    let s = p.script.value in
    let w = p.world.past in
    let o = opening_of p in
    let holds = none-holds (unknown s.nodes (a.node ∷ []) ++ refusals s o.claims (ops.Act a act) w) none in
    not-false (is_up a.node w) holds.1.0

pub rest-up : (p : ClusterParts) (a : Actor) (locals : List (List ℕ × Actor)) → refused_by p (ops.Rest a locals) ≡ None → is_up a.node p.world.past ≡ true
rest-up p a locals none =
    let s = p.script.value in
    let w = p.world.past in
    let o = opening_of p in
    let holds = none-holds (unknown s.nodes (a.node ∷ []) ++ refusals s o.claims (ops.Rest a locals) w) none in
    not-false (is_up a.node w) holds.1.0

-- ---- who may begin a turn

-- what is so where a take is not refused
pub record MayTake (p : ClusterParts) (a : Actor) : Type 0 where
  pub legal : refusal (cluster_of p.script.value) (Take a) p.world.past ≡ None
  pub born : is_born a p.world.past ≡ true
  pub idle : is_busy a p.world.past ≡ false
  pub budget : is_within_budget p.script.value p.world.past ≡ true

pub may-take : (p : ClusterParts) → Stands p → (a : Actor) → refused_by p (ops.Take a) ≡ None → MayTake p a
may-take p stands a none =
    let s = p.script.value in
    let w = p.world.past in
    let o = opening_of p in
    let sound = stands.sound in
    let holds = none-holds (unknown s.nodes (a.node ∷ []) ++ refusals s o.claims (ops.Take a) w) none in
    let up = not-false (is_up a.node w) holds.1.0 in
    let idle = holds.1.1.1.0 in
    let mail = holds.1.1.1.1.0 in
    let legal = (ready-takes (cluster_of s) w sound.0 a).0 (rw (up, idle, mail) refl) in
    let kept = first_broken-none (checks (cluster_of s) (Take a) w) legal in
    record { legal = legal; born = kept.0; idle = idle; budget = not-false (is_within_budget s w) holds.1.1.0 }

-- what is so where the planned wake is that of the actor
pub record MayWake (p : ClusterParts) (a : Actor) : Type 0 where
  pub legal : refusal (cluster_of p.script.value) (Wake a) p.world.past ≡ None
  pub born : is_born a p.world.past ≡ true
  pub idle : is_busy a p.world.past ≡ false
  pub left : 0 < wakes_left p.script.value a p.world.past

pub may-wake : (p : ClusterParts) (a : Actor) → next_wake p.script.value p.world.past ≡ Some a → MayWake p a
may-wake p a next =
    let s = p.script.value in
    let w = p.world.past in
    let passes = and_parts (nat_lt 0 (wakes_left s a w)) (is_possible s (Wake a) w) (found (λ b. nat_lt 0 (wakes_left s b w) && is_possible s (Wake b) w) (actors s w) a next) in
    let legal = possible-legal s (Wake a) w passes.1 in
    let kept = first_broken-none (checks (cluster_of s) (Wake a) w) legal in
    record { legal = legal; born = kept.0; idle = not-true (is_busy a w) kept.1.1.1.0; left = ltb-true 0 (wakes_left s a w) passes.0 }

-- the budget has a turn left, where a wake is not refused
pub wake-budget : (p : ClusterParts) → refused_by p ops.Wake ≡ None → is_within_budget p.script.value p.world.past ≡ true
wake-budget p none =
    let s = p.script.value in
    let w = p.world.past in
    let o = opening_of p in
    let holds = none-holds (unknown s.nodes [] ++ refusals s o.claims ops.Wake w) none in
    not-false (is_within_budget s w) holds.0

-- ---- nodes that are there

pub rest-node : (p : ClusterParts) (a : Actor) (locals : List (List ℕ × Actor)) → refused_by p (ops.Rest a locals) ≡ None → a.node < (let s = p.script.value in s.nodes)
rest-node p a locals none =
    let s = p.script.value in
    let w = p.world.past in
    let o = opening_of p in
    let holds = none-holds (unknown s.nodes (a.node ∷ []) ++ refusals s o.claims (ops.Rest a locals) w) none in
    ltb-true a.node s.nodes (not-false (nat_lt a.node s.nodes) holds.0)

pub carry-nodes : (p : ClusterParts) (f d : ℕ) → refused_by p (ops.Carry f d) ≡ None → (let s = p.script.value in (f < s.nodes) × (d < s.nodes))
carry-nodes p f d none =
    let s = p.script.value in
    let w = p.world.past in
    let o = opening_of p in
    let holds = none-holds (unknown s.nodes (f ∷ d ∷ []) ++ refusals s o.claims (ops.Carry f d) w) none in
    (ltb-true f s.nodes (not-false (nat_lt f s.nodes) holds.0), ltb-true d s.nodes (not-false (nat_lt d s.nodes) holds.1.0))

pub hand-number : (p : ClusterParts) (n x k : ℕ) → refused_by p (ops.Hand n x k) ≡ None → k < length (stream (cluster_of p.script.value) x p.world.past)
hand-number p n x k none =
    let s = p.script.value in
    let w = p.world.past in
    let o = opening_of p in
    let holds = none-holds (unknown s.nodes (n ∷ x ∷ []) ++ refusals s o.claims (ops.Hand n x k) w) none in
    ltb-true k (length (stream (cluster_of s) x w)) (not-false (nat_lt k (length (stream (cluster_of s) x w))) holds.1.1.1.0)

pub hand-legal : (p : ClusterParts) (n x k : ℕ) → refused_by p (ops.Hand n x k) ≡ None → refusal (cluster_of p.script.value) (Hand n x k) p.world.past ≡ None
hand-legal p n x k none =
    let s = p.script.value in
    let w = p.world.past in
    let o = opening_of p in
    let holds = none-holds (unknown s.nodes (n ∷ x ∷ []) ++ refusals s o.claims (ops.Hand n x k) w) none in
    none-broken (checks (cluster_of s) (Hand n x k) w)
    (not-false (nat_lt n s.nodes) holds.0, (not-false (nat_lt x s.nodes) holds.1.0, (not-false (is_up n w) holds.1.1.0, (not-false (nat_lt k (length (stream (cluster_of s) x w))) holds.1.1.1.0, tt))))

-- want of memory halts whatever it was
pub memory-halts : {A : Type 0} (p : ClusterParts) (op : Op) (r : Result A Halt) → IfErr r (λ why. why ≡ Memory) → IfErr r (Halts p op)
memory-halts p op (Ok a) is = tt
memory-halts p op (Err why) is = subst (Halts p op) (sym is) tt
