-- What is granted in a lock that was made with a sound cluster is legal, and so is what is added to it.
use Rattle.std.proofs.Common.{◌≡◌, ◌==◌, ◌&&◌, ◌++◌, ◌⊎◌, ℕ, Bool, true, false, not, nat_lt, List, [], ◌∷◌, length, option_map, option_to_list, Option, Some, None, refl, sym, ap, subst, if◌then◌else◌, inl, inr}
use Rattle.std.specs.List.{find}
use Rattle.std.proofs.lemmas.Bool.{and_parts, lt-ltb}
use Rattle.crgc_ids.specs.Actor.{Actor}
use Rattle.crgc_ids.specs.Nodes.{nodes_below}
use Rattle.crgc_ids.specs.declared.Which.{Which}
use Rattle.history_model.specs.declared.events.Event.{Event}
use Rattle.history_model.specs.declared.events.Event.TheVariants as events
use Rattle.history_model.specs.Facts.{Fact}
use Rattle.history_model.specs.Legal.{IsLegal, checks, has_nothing, refusal}
use Rattle.history_model.specs.Messages.{waiting}
use Rattle.history_model.specs.State.{is_busy, is_up}
use Rattle.history_model.specs.Streams.{is_blank, queue, stream}
use Rattle.history_model.proofs.AccountsBirths.{born-on_node}
use Rattle.history_model.proofs.Basics.{eqb-refl, first_broken-none}
use Rattle.history_model.proofs.LiveCounts.{ready-takes}
use Rattle.journal_model.specs.Limits.{limit_passed}
use Rattle.fault_plan.specs.Rows.{Planned, crash_of}
use Rattle.script_reader.specs.Valid.{Scripted}
use Rattle.run_model.specs.Doing.{cluster_of}
use Rattle.run_model.specs.Follows.{added, queued}
use Rattle.run_model.specs.Planned.{actors, ended_on, is_possible, next_on_link, next_wake, node_if, wakes_left}
use Rattle.run_model.specs.declared.round_laws.TheConstants.{FLUSHES_PER_PUBLISH}
use Rattle.run_model.proofs.ActsLegal.{none-broken}
use Rattle.operation_model.specs.declared.operations.Op.{Op}
use Rattle.operation_model.specs.declared.operations.Op.TheVariants as ops
use Rattle.operation_model.specs.declared.replies.Reply.{Reply}
use Rattle.operation_model.specs.Answers.{AreLegal, IsCourse, IsGranted, MayFollow, PassesLimit, refusals, refused, unknown}
use Rattle.operation_model.specs.Courses.{claim_at, event_by, events_by, if_possible, next_removal, next_window, with_added, world}
use Rattle.operation_model.specs.Deeds.{deed_of}
use Rattle.operation_model.specs.Fits.{Fits}
use Rattle.operation_model.specs.Openings.{IsSoundOpening, Opening}
use Rattle.operation_model.specs.Turns.{Calls}
use Rattle.operation_model.proofs.Granted.{none-holds}
use Rattle.operation_model.proofs.GrantedTurns.{deed-act, found, not-false}
use Rattle.operation_model.proofs.SoundCourses.{act-legal, rest-legal, sound-course}
use Rattle.run_model.proofs.Possible.{possible-legal}

-- no rule refuses the event, if there is one
abbrev IsLegalEvent : Scripted → List Event → Option Event → Type 0
IsLegalEvent s w None = Unit {0}
IsLegalEvent s w (Some e) = refusal (cluster_of s) e w ≡ None

-- the lowest node that is possible is possible
found-legal : (s : Scripted) (make : ℕ → Event) (w : List Event) (v : Option ℕ) → find (λ n. is_possible s (make n) w) (nodes_below s.nodes) ≡ v → IsLegalEvent s w (option_map make v)
found-legal s make w None is = tt
found-legal s make w (Some n) is = possible-legal s (make n) w (found (λ m. is_possible s (make m) w) (nodes_below s.nodes) n is)

if_possible-legal : (s : Scripted) (v : Option Event) (w : List Event) → IsLegalEvent s w (if_possible s v w)
if_possible-legal s None w = tt
if_possible-legal s (Some e) w =
    elim (is_possible s e w) as (λ v. is_possible s e w ≡ v → IsLegalEvent s w (if v then Some e else None)) [ true ↦ λ is. possible-legal s e w is | false ↦ λ _. tt ] refl

-- ---- what is added

-- a queue to which an entry was added is not blank
more-not_blank : (xs : List Fact) (f : Fact) (fs : List Fact) → is_blank (xs ++ f ∷ fs) ≡ false
more-not_blank [] f fs = refl
more-not_blank (x ∷ xs) f fs = refl

module _ (s : Scripted) (w : List Event) (legal : IsLegal (cluster_of s) w) where
  -- the crash that is due to a rest
  crash-legal : (a : Actor) → refusal (cluster_of s) (events.Rest a) w ≡ None → (planned_turns : Option ℕ) (turns : ℕ) → AreLegal s (option_to_list (option_map events.Crash (node_if planned_turns a.node turns))) (events.Rest a ∷ w)
  crash-legal a rest None turns = tt
  crash-legal a rest (Some after) turns =
      let kept = first_broken-none (checks (cluster_of s) (events.Rest a) w) rest in
      let node = lt-ltb a.node s.nodes (born-on_node (cluster_of s) w legal a kept.0) in
      elim (after == turns) as (λ v. AreLegal s (option_to_list (option_map events.Crash (if v then Some a.node else None))) (events.Rest a ∷ w)) [
        | true ↦ (none-broken (checks (cluster_of s) (events.Crash a.node) (events.Rest a ∷ w)) (node, (kept.1.0, tt)), tt)
        | false ↦ tt
      ]

  -- the publish that is due to a flush
  publish-legal : (a : Actor) → refusal (cluster_of s) (events.Flush a) w ≡ None → (v : Bool) → AreLegal s (option_to_list (if v then Some (events.Publish a.node) else None)) (events.Flush a ∷ w)
  publish-legal a flush false = tt
  publish-legal a flush true =
      let cl = cluster_of s in
      let kept = first_broken-none (checks cl (events.Flush a) w) flush in
      let node = lt-ltb a.node s.nodes (born-on_node cl w legal a kept.0) in
      let filled : not (is_blank (queue cl a.node (events.Flush a ∷ w))) ≡ true = rw (eqb-refl a.node) (ap not (more-not_blank (queue cl a.node w) _ _)) in
      (none-broken (checks cl (events.Publish a.node) (events.Flush a ∷ w)) (node, (kept.1.0, (filled, tt))), tt)

  pub added-legal : (e : Event) → refusal (cluster_of s) e w ≡ None → AreLegal s (option_to_list (added s e w)) (e ∷ w)
  added-legal (events.Rest a) none = (let plan : Planned = s.plan in crash-legal a none (crash_of a.node plan.crashes) (ended_on a.node (events.Rest a ∷ w)))
  added-legal (events.Flush a) none = publish-legal a none (queued a.node (events.Flush a ∷ w) == FLUSHES_PER_PUBLISH)
  added-legal e none = tt

  with_added-legal : (v : Option Event) → IsLegalEvent s w v → AreLegal s (with_added s v w) w
  with_added-legal None none = tt
  with_added-legal (Some e) none = (none, added-legal e none)

-- ---- what is granted

module _ (o : Opening) (opening : IsSoundOpening o) (h : Calls) (course : IsCourse o h) (p : ℕ) where
  abbrev S : Scripted
  S = o.script

  abbrev W : List Event
  W = world o h

  world-legal : IsLegal (cluster_of S) W
  world-legal = (sound-course o opening h course).0.0

  -- its first event
  abbrev First : Op → Reply → Type 0
  First op r = IsLegalEvent S W (event_by S (deed_of op r) W)

  take-legal : (a : Actor) → is_up a.node W ≡ true → is_busy a W ≡ false → has_nothing (waiting a W) ≡ false → refusal (cluster_of S) (events.Take a) W ≡ None
  take-legal a up idle mail = (ready-takes (cluster_of S) W world-legal a).0 (rw (up, idle, mail) refl)

  wake-legal : (a : Actor) → next_wake S W ≡ Some a → refusal (cluster_of S) (events.Wake a) W ≡ None
  wake-legal a next =
      let passes = found (λ x. nat_lt 0 (wakes_left S x W) && is_possible S (events.Wake x) W) (actors S W) a next in
      possible-legal S (events.Wake a) W (and_parts (nat_lt 0 (wakes_left S a W)) (is_possible S (events.Wake a) W) passes).1

  first-legal : (op : Op) (r : Reply) → Fits o h op p → refused S (claim_at o h) op W ≡ None → IsGranted o h op W r → First op r
  first-legal (ops.Claim n) r fit not_refused done = subst (First (ops.Claim n)) (sym done) tt
  first-legal ops.Wake r fit not_refused done = subst (First ops.Wake) (sym done.1) (let b = done.0 in wake-legal b.actor done.2)
  first-legal (ops.Take a) r fit not_refused done =
      let none = none-holds (unknown S.nodes (a.node ∷ []) ++ refusals S (claim_at o h) (ops.Take a) W) not_refused in
      let b = done.0 in
      subst (First (ops.Take a)) (sym done.1) (subst (λ x. refusal (cluster_of S) (events.Take x) W ≡ None) (sym done.2) (take-legal a (not-false (is_up a.node W) none.1.0) none.1.1.1.0 none.1.1.1.1.0))
  first-legal (ops.Act a act) r fit not_refused done =
      let none = none-holds (unknown S.nodes (a.node ∷ []) ++ refusals S (claim_at o h) (ops.Act a act) W) not_refused in
      subst (First (ops.Act a act)) (sym done)
      (subst (IsLegalEvent S W) (sym (ap (λ d. event_by S d W) (deed-act a act W))) (act-legal o opening h course a p (not-false (is_up a.node W) none.1.0) act fit))
  first-legal (ops.Rest a locals) r fit not_refused done =
      let none = none-holds (unknown S.nodes (a.node ∷ []) ++ refusals S (claim_at o h) (ops.Rest a locals) W) not_refused in
      subst (First (ops.Rest a locals)) (sym done) (rest-legal o opening h course a p (not-false (is_up a.node W) none.1.0) locals fit)
  first-legal (ops.Flush a) r fit not_refused done =
      let none = none-holds (unknown S.nodes (a.node ∷ []) ++ refusals S (claim_at o h) (ops.Flush a) W) not_refused in
      subst (First (ops.Flush a)) (sym done) (possible-legal S (events.Flush a) W (not-false (is_possible S (events.Flush a) W) none.1.1.0))
  first-legal (ops.Publish n) r fit not_refused done =
      let none = none-holds (unknown S.nodes (n ∷ []) ++ refusals S (claim_at o h) (ops.Publish n) W) not_refused in
      subst (First (ops.Publish n)) (sym done) (possible-legal S (events.Publish n) W (not-false (is_possible S (events.Publish n) W) none.1.1.0))
  first-legal (ops.Window d) r fit not_refused done = subst (First (ops.Window d)) (sym done) (found-legal S (events.Window d) W (next_window S d W) refl)
  first-legal (ops.Remove d) r fit not_refused done = subst (First (ops.Remove d)) (sym done) (found-legal S (events.Remove d) W (next_removal S d W) refl)
  first-legal (ops.Carry f d) r fit not_refused done = subst (First (ops.Carry f d)) (sym done) (if_possible-legal S (next_on_link S f d W) W)
  first-legal (ops.Hand n x k) r fit not_refused done =
      let none = none-holds (unknown S.nodes (n ∷ x ∷ []) ++ refusals S (claim_at o h) (ops.Hand n x k) W) not_refused in
      subst (First (ops.Hand n x k)) (sym done.2)
      (none-broken (checks (cluster_of S) (events.Hand n x k) W)
      (not-false (nat_lt n S.nodes) none.0, (not-false (nat_lt x S.nodes) none.1.0, (not-false (is_up n W) none.1.1.0, (not-false (nat_lt k (length (stream (cluster_of S) x W))) none.1.1.1.0, tt)))))
  first-legal (ops.Sweep v) r fit not_refused done =
      let none = none-holds (unknown S.nodes (v.node ∷ []) ++ refusals S (claim_at o h) (ops.Sweep v) W) not_refused in
      subst (First (ops.Sweep v)) (sym done)
      (none-broken (checks (cluster_of S) (events.Sweep v.node) W) (not-false (nat_lt v.node S.nodes) none.0, (not-false (is_up v.node W) none.1.0, tt)))
  first-legal ops.GiveUp r fit not_refused done = absurd done
  first-legal (ops.Refill skip) r fit not_refused done = tt
  first-legal ops.Finished r fit not_refused done = subst (First ops.Finished) (sym done) tt

  pub granted-legal : (op : Op) (r : Reply) → Fits o h op p → refused S (claim_at o h) op W ≡ None → IsGranted o h op W r → AreLegal S (events_by S (deed_of op r) W) W
  granted-legal op r fit not_refused done = with_added-legal S W world-legal (event_by S (deed_of op r) W) (first-legal op r fit not_refused done)

-- what is legal follows, or passes a limit
pub follows-or_passes : (s : Scripted) (es w : List Event) → AreLegal s es w → MayFollow s es w ⊎ ((limit : Which) × PassesLimit s limit es w)
follows-or_passes s [] w legal = inl tt
follows-or_passes s (e ∷ es) w legal =
    elim (limit_passed (cluster_of s) e w) as (λ v. limit_passed (cluster_of s) e w ≡ v → MayFollow s (e ∷ es) w ⊎ ((limit : Which) × PassesLimit s limit (e ∷ es) w)) [
      | Some limit ↦ λ is. inr (limit, (legal.0, inl is))
      | None ↦ λ is. elim (follows-or_passes s es (e ∷ w) legal.1) [
        | inl follow ↦ inl (legal.0, is, follow)
        | inr would ↦ inr (would.0, (legal.0, inr (is, would.1)))
      ]
    ] refl
