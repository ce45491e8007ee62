-- What a course of calls makes of a cluster: its world, the behaviours and names of its actors, its claims, and whether it halts.
use Rattle.std.specs.Prelude.{ℕ, Bool, true, false, ◌==◌, ◌++◌, if◌then◌else◌, List, [], ◌∷◌, Option, Some, None, option_map, option_to_list}
use Rattle.std.specs.List.{find, list_any}
use Rattle.crgc_ids.specs.Actor.{Actor, same_actor}
use Rattle.crgc_ids.specs.Nodes.{nodes_below}
use Rattle.history_model.specs.declared.events.Event.{Event}
use Rattle.history_model.specs.declared.events.Event.TheVariants as events
use Rattle.history_model.specs.Rows.{onto}
use Rattle.history_model.specs.declared.records.Verdict.{Verdict}
use Rattle.behaviour_lang.specs.Bound.{Names, local_names}
use Rattle.script_reader.specs.Valid.{Scripted}
use Rattle.run_model.specs.Doing.{event_of, own_name, spawned}
use Rattle.run_model.specs.Follows.{added}
use Rattle.run_model.specs.Planned.{is_possible, next_on_link}
use Rattle.operation_model.specs.declared.replies.Halt.{Halt}
use Rattle.operation_model.specs.declared.replies.Reply.{Reply}
use Rattle.operation_model.specs.declared.replies.Reply.TheVariants as replies
use Rattle.operation_model.specs.Deeds.{Deed, woke, took, acted, rested, flushed, published, cut, removed, carried, claimed, handed, swept, was_over, nothing, deed_of}
use Rattle.operation_model.specs.Openings.{Opening}
use Rattle.operation_model.specs.Turns.{Calls}

-- ---- what is next

-- the lowest node from which d may cut a window, and the lowest one that d may remove
abbrev pub next_window : Scripted → ℕ → List Event → Option ℕ
next_window s d w = find (λ n. is_possible s (events.Window d n) w) (nodes_below s.nodes)

abbrev pub next_removal : Scripted → ℕ → List Event → Option ℕ
next_removal s d w = find (λ n. is_possible s (events.Remove d n) w) (nodes_below s.nodes)

abbrev pub if_possible : Scripted → Option Event → List Event → Option Event
if_possible s None w = None
if_possible s (Some e) w = if is_possible s e w then Some e else None

-- what is planned for the lowest number with a copy on the link, where the link is open and leads to a node that is up
abbrev pub next_carried : Scripted → ℕ → ℕ → List Event → Option Event
next_carried s f d w = if_possible s (next_on_link s f d w) w

-- ---- the world

-- the event of a deed
abbrev pub event_by : Scripted → Deed → List Event → Option Event
event_by s (woke b) w = Some (events.Wake b.actor)
event_by s (took b) w = Some (events.Take b.actor)
event_by s (acted a act child) w = Some (event_of a (Some act))
event_by s (rested a locals) w = Some (events.Rest a)
event_by s (flushed a) w = Some (events.Flush a)
event_by s (published n) w = Some (events.Publish n)
event_by s (cut d) w = option_map (events.Window d) (next_window s d w)
event_by s (removed d) w = option_map (events.Remove d) (next_removal s d w)
event_by s (carried f d) w = next_carried s f d w
event_by s (claimed n) w = None
event_by s (handed n o k bytes) w = Some (events.Hand n o k)
event_by s (swept v) w = Some (events.Sweep v.node)
event_by s was_over w = None
event_by s nothing w = None

-- the event, and then what is added to it: the crash that is due to a rest, and the publish that is due to a flush
abbrev pub with_added : Scripted → Option Event → List Event → List Event
with_added s None w = []
with_added s (Some e) w = e ∷ option_to_list (added s e w)

-- the events of a deed, in order
abbrev pub events_by : Scripted → Deed → List Event → List Event
events_by s d w = with_added s (event_by s d w) w

-- the history of the world: the one with which the lock was made, and then the events of the deeds
abbrev pub world : Opening → Calls → List Event
world o [] = o.past
world o (e ∷ earlier) = onto (world o earlier) (events_by o.script (deed_of e.op e.reply) (world o earlier))

-- ---- actors

-- the names of an actor that is in no turn: those of its last rest, or those of its birth
abbrev pub names_after : Deed → Actor → Names → Names
names_after (rested b locals) a before = if same_actor b a then local_names locals else before
names_after (acted b act (Some child)) a before = if same_actor child a then own_name a else before
names_after d a before = before

abbrev pub names_at : Opening → Calls → Actor → Names
names_at o [] a = o.names a
names_at o (e ∷ earlier) a = names_after (deed_of e.op e.reply) a (names_at o earlier a)

-- its behaviour is that of its birth
abbrev pub behaviour_after : Deed → Actor → ℕ → ℕ
behaviour_after (acted b act (Some child)) a before = if same_actor child a then spawned (Some act) else before
behaviour_after d a before = before

abbrev pub behaviour_at : Opening → Calls → Actor → ℕ
behaviour_at o [] a = o.behaviours a
behaviour_at o (e ∷ earlier) a = behaviour_after (deed_of e.op e.reply) a (behaviour_at o earlier a)

-- ---- the end

-- at one of the calls nothing was left to do
abbrev pub is_end : Deed → Bool
is_end was_over = true
is_end d = false

abbrev pub was_all_done : Calls → Bool
was_all_done h = list_any (λ e. is_end (deed_of e.op e.reply)) h

-- ---- claims, and the halt

-- the pass that has claimed a node
abbrev pub claim_after : Deed → ℕ → ℕ → Option ℕ → Option ℕ
claim_after (claimed m) pass n before = if m == n then Some pass else before
claim_after d pass n before = before

abbrev pub claim_at : Opening → Calls → ℕ → Option ℕ
claim_at o [] n = o.claims n
claim_at o (e ∷ earlier) n = claim_after (deed_of e.op e.reply) e.pass n (claim_at o earlier n)

-- whether the cluster has halted, and why
abbrev pub halt_after : Reply → Option Halt → Option Halt
halt_after (replies.Halted why) before = Some why
halt_after r before = before

abbrev pub halt_at : Opening → Calls → Option Halt
halt_at o [] = o.halt
halt_at o (e ∷ earlier) = halt_after e.reply (halt_at o earlier)

-- ---- verdicts

-- the verdicts of the sweeps, the last one first
abbrev pub verdict_of : Deed → List Verdict
verdict_of (swept v) = v ∷ []
verdict_of d = []

abbrev pub verdicts : Calls → List Verdict
verdicts [] = []
verdicts (e ∷ earlier) = verdict_of (deed_of e.op e.reply) ++ verdicts earlier
