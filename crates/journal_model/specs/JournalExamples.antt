-- Journals that are read, and the first faults of others, computed.
use Rattle.std.proofs.Common.{ap}
use Rattle.std.specs.Prelude.{◌≡◌, ℕ, if◌then◌else◌, nat_lt, List, [], ◌∷◌, ◌++◌, length, Some, None, Result, Ok, Err, codes, refl}
use Rattle.std.specs.Fmt.{digits}
use Rattle.crgc_ids.specs.Greatest.{greatest}
use Rattle.crgc_ids.specs.LostNodes.{lost_nodes}
use Rattle.crgc_ids.specs.declared.Which.{Which}
use Rattle.crgc_ids.specs.declared.Which.TheVariants.{Input}
use Rattle.history_model.specs.declared.events.Event.{Event}
use Rattle.history_model.specs.declared.events.Event.TheVariants.{Sweep}
use Rattle.history_model.specs.declared.events.Rule.{Rule}
use Rattle.history_model.specs.declared.events.Rule.TheVariants.{NoMail, NotHeld, NotOnLink, Supervisor}
use Rattle.history_model.specs.Cluster.{Cluster}
use Rattle.history_model.specs.Graph.{dead}
use Rattle.history_model.specs.Legal.{refusal}
use Rattle.history_model.specs.Rows.{cluster, dropped_child}
use Rattle.history_model.specs.Story.{Story}
use Rattle.journal_model.specs.declared.lines.LineFault.TheVariants.{Word, Field, Extra}
use Rattle.journal_model.specs.Fields.{pieces, number_of, actor_of}
use Rattle.journal_model.specs.Journals.{Fault, Replay, after_event, header, spelling, after_end, rule, limit, differs, journal_lines, journal_of}
use Rattle.journal_model.specs.Limits.{limit_passed}
use Rattle.journal_model.specs.Lines.{lines_of, text_of}
use Rattle.journal_model.specs.Reading.{any_line, actor_line, node_line, pair_line, link_line}
use Rattle.journal_model.specs.Report.{report_lines}

empty_input : journal_of (text_of (
    []
    )) ≡ Err (1, header)
unfolding pieces number_of actor_of any_line actor_line node_line pair_line link_line dead greatest lost_nodes digits
empty_input = refl

header_cr_lf : journal_of (text_of (
    (codes "crgc 1 nodes 1" ++ 13 ∷ []) ∷ []
    )) ≡ Err (1, header)
unfolding pieces number_of actor_of any_line actor_line node_line pair_line link_line dead greatest lost_nodes digits
header_cr_lf = refl

nodes_17 : journal_of (text_of (
    codes "crgc 1 nodes 17" ∷ []
    )) ≡ Err (1, header)
unfolding pieces number_of actor_of any_line actor_line node_line pair_line link_line dead greatest lost_nodes digits
nodes_17 = refl

line_empty : journal_of (text_of (
    codes "crgc 1 nodes 1" ∷ [] ∷ codes "seed 0" ∷ []
    )) ≡ Err (2, spelling Word)
unfolding pieces number_of actor_of any_line actor_line node_line pair_line link_line dead greatest lost_nodes digits
line_empty = refl

line_capital : journal_of (text_of (
    codes "crgc 1 nodes 1" ∷ codes "Seed 0" ∷ []
    )) ≡ Err (2, spelling Word)
unfolding pieces number_of actor_of any_line actor_line node_line pair_line link_line dead greatest lost_nodes digits
line_capital = refl

line_two_spaces : journal_of (text_of (
    codes "crgc 1 nodes 1" ∷ codes "seed  0" ∷ []
    )) ≡ Err (2, spelling Field)
unfolding pieces number_of actor_of any_line actor_line node_line pair_line link_line dead greatest lost_nodes digits
line_two_spaces = refl

line_space_at_end : journal_of (text_of (
    codes "crgc 1 nodes 1" ∷ codes "seed 0 " ∷ []
    )) ≡ Err (2, spelling Extra)
unfolding pieces number_of actor_of any_line actor_line node_line pair_line link_line dead greatest lost_nodes digits
line_space_at_end = refl

line_leading_zero : journal_of (text_of (
    codes "crgc 1 nodes 1" ∷ codes "seed 00" ∷ []
    )) ≡ Err (2, spelling Field)
unfolding pieces number_of actor_of any_line actor_line node_line pair_line link_line dead greatest lost_nodes digits
line_leading_zero = refl

line_byte_ff : journal_of (text_of (
    codes "crgc 1 nodes 1" ∷ (codes "seed " ++ 255 ∷ []) ∷ []
    )) ≡ Err (2, spelling Field)
unfolding pieces number_of actor_of any_line actor_line node_line pair_line link_line dead greatest lost_nodes digits
line_byte_ff = refl

line_serial_262144 : journal_of (text_of (
    codes "crgc 1 nodes 1" ∷ codes "wake 0.262144" ∷ []
    )) ≡ Err (2, spelling Field)
unfolding pieces number_of actor_of any_line actor_line node_line pair_line link_line dead greatest lost_nodes digits
line_serial_262144 = refl

line_seventeen_references : journal_of (text_of (
    codes "crgc 1 nodes 1" ∷ codes "send 0.0 0.0 0.0 0.0 0.0 0.0 0.0 0.0 0.0 0.0 0.0 0.0 0.0 0.0 0.0 0.0 0.0 0.0 0.0" ∷ []
    )) ≡ Err (2, spelling Extra)
unfolding pieces number_of actor_of any_line actor_line node_line pair_line link_line dead greatest lost_nodes digits
line_seventeen_references = refl

line_cr_lf : journal_of (text_of (
    codes "crgc 1 nodes 1" ∷ (codes "seed 0" ++ 13 ∷ []) ∷ []
    )) ≡ Err (2, spelling Field)
unfolding pieces number_of actor_of any_line actor_line node_line pair_line link_line dead greatest lost_nodes digits
line_cr_lf = refl

line_cut_not_due : journal_of (text_of (
    codes "crgc 1 nodes 1" ∷ codes "cut 0 0 lost" ∷ []
    )) ≡ Err (2, differs)
unfolding pieces number_of actor_of any_line actor_line node_line pair_line link_line dead greatest lost_nodes digits
line_cut_not_due = refl

line_after_end : journal_of (text_of (
    codes "crgc 1 nodes 1" ∷ codes "end events 0 stopped 0" ∷ codes "seed 0" ∷ []
    )) ≡ Err (3, after_end)
unfolding pieces number_of actor_of any_line actor_line node_line pair_line link_line dead greatest lost_nodes digits
line_after_end = refl

dropped_child_changed_stop : journal_of (text_of (
    codes "crgc 1 nodes 1" ∷ codes "seed 0" ∷ codes "wake 0.0" ∷ codes "spawn 0.0" ∷ codes "drop 0.0 0.1" ∷ codes "rest 0.0" ∷
    codes "flush 0.0" ∷ codes "flush 0.1" ∷ codes "publish 0" ∷ codes "hand 0 0 0" ∷ codes "sweep 0" ∷ codes "cut 0 1 lost" ∷
    codes "stop 0.1 by 0 received 1 told 0 admitted 0 owners 0.1" ∷ codes "end events 10 stopped 1" ∷ []
    )) ≡ Err (13, differs)
unfolding pieces number_of actor_of any_line actor_line node_line pair_line link_line dead greatest lost_nodes digits
dropped_child_changed_stop = refl

not_held : journal_of (text_of (
    codes "crgc 1 nodes 1" ∷ codes "seed 0" ∷ codes "seed 0" ∷ codes "wake 0.0" ∷ codes "drop 0.0 0.1" ∷ codes "sweep 0" ∷ []
    )) ≡ Err (5, rule NotHeld)
unfolding pieces number_of actor_of any_line actor_line node_line pair_line link_line dead greatest lost_nodes digits
not_held = refl

third_take : journal_of (text_of (
    codes "crgc 1 nodes 2" ∷ codes "seed 0" ∷ codes "seed 1" ∷ codes "tie 0.0 1.0" ∷ codes "wake 0.0" ∷ codes "send 0.0 1.0" ∷
    codes "repeat 0 1 0" ∷ codes "admit 0 1 0" ∷ codes "admit 0 1 0" ∷ codes "take 1.0" ∷ codes "rest 1.0" ∷ codes "take 1.0" ∷ []
    )) ≡ Err (12, rule NoMail)
unfolding pieces number_of actor_of any_line actor_line node_line pair_line link_line dead greatest lost_nodes digits
third_take = refl

third_admit : journal_of (text_of (
    codes "crgc 1 nodes 2" ∷ codes "seed 0" ∷ codes "seed 1" ∷ codes "tie 0.0 1.0" ∷ codes "wake 0.0" ∷ codes "send 0.0 1.0" ∷
    codes "repeat 0 1 0" ∷ codes "admit 0 1 0" ∷ codes "admit 0 1 0" ∷ codes "take 1.0" ∷ codes "rest 1.0" ∷ codes "admit 0 1 0" ∷ []
    )) ≡ Err (12, rule NotOnLink)
unfolding pieces number_of actor_of any_line actor_line node_line pair_line link_line dead greatest lost_nodes digits
third_admit = refl

supervisor : journal_of (text_of (
    codes "crgc 2 nodes 1" ∷ codes "seed 0" ∷ codes "wake 0.0" ∷ codes "spawn 0.0" ∷ codes "send 0.0 0.1" ∷ codes "take 0.1" ∷
    codes "drop 0.1 0.0" ∷ []
    )) ≡ Err (7, rule Supervisor)
unfolding pieces number_of actor_of any_line actor_line node_line pair_line link_line dead greatest lost_nodes digits
supervisor = refl

supervisor_version_1 : journal_of (text_of (
    codes "crgc 1 nodes 1" ∷ codes "seed 0" ∷ codes "wake 0.0" ∷ codes "spawn 0.0" ∷ codes "send 0.0 0.1" ∷ codes "take 0.1" ∷
    codes "drop 0.1 0.0" ∷ []
    )) ≡ Err (7, rule NotHeld)
unfolding pieces number_of actor_of any_line actor_line node_line pair_line link_line dead greatest lost_nodes digits
supervisor_version_1 = refl

-- the report of a history as input tells that history
dropped_child-told : journal_of (text_of (
    codes "crgc 1 nodes 1" ∷ codes "seed 0" ∷ codes "wake 0.0" ∷ codes "spawn 0.0" ∷ codes "drop 0.0 0.1" ∷ codes "rest 0.0" ∷
    codes "flush 0.0" ∷ codes "flush 0.1" ∷ codes "publish 0" ∷ codes "hand 0 0 0" ∷ codes "sweep 0" ∷ codes "cut 0 1 lost" ∷
    codes "stop 0.1 by 0 received 0 told 0 admitted 0 owners 0.1" ∷ codes "end events 10 stopped 1" ∷ []
    )) ≡ Ok (record { cluster = cluster 1 1; past = Sweep 0 ∷ dropped_child })
unfolding pieces number_of actor_of any_line actor_line node_line pair_line link_line dead greatest lost_nodes digits
dropped_child-told = refl

-- the report of what a journal tells
abbrev replayed : Result Story (ℕ × Fault) → List (List ℕ)
replayed (Err fault) = []
replayed (Ok story) = report_lines story.cluster story.past

crash_after_18_events : replayed (journal_of (text_of (
    codes "crgc 1 nodes 2" ∷ codes "seed 0" ∷ codes "seed 1" ∷ codes "tie 0.0 1.0" ∷ codes "wake 0.0" ∷ codes "spawn 0.0" ∷
    codes "wake 1.0" ∷ codes "spawn 1.0" ∷ codes "send 0.0 1.0 0.1" ∷ codes "rest 1.0" ∷ codes "admit 0 1 0" ∷ codes "take 1.0" ∷
    codes "send 1.0 0.1 1.1" ∷ codes "send 1.0 1.1 0.1" ∷ codes "drop 1.0 0.1" ∷ codes "drop 1.0 1.1" ∷ codes "rest 1.0" ∷
    codes "drop 0.0 0.1" ∷ codes "rest 0.0" ∷ codes "crash 1" ∷ codes "remove 0 1" ∷ codes "flush 0.0" ∷ codes "flush 0.1" ∷
    codes "publish 0" ∷ codes "hand 0 0 0" ∷ codes "hand 0 0 1" ∷ codes "sweep 0" ∷ []
    )))
    ≡ codes "crgc 1 nodes 2" ∷ codes "seed 0" ∷ codes "seed 1" ∷ codes "tie 0.0 1.0" ∷ codes "wake 0.0" ∷ codes "spawn 0.0" ∷
    codes "wake 1.0" ∷ codes "spawn 1.0" ∷ codes "send 0.0 1.0 0.1" ∷ codes "rest 1.0" ∷ codes "admit 0 1 0" ∷ codes "take 1.0" ∷
    codes "send 1.0 0.1 1.1" ∷ codes "send 1.0 1.1 0.1" ∷ codes "drop 1.0 0.1" ∷ codes "drop 1.0 1.1" ∷ codes "rest 1.0" ∷
    codes "drop 0.0 0.1" ∷ codes "rest 0.0" ∷ codes "crash 1" ∷ codes "remove 0 1" ∷ codes "flush 0.0" ∷ codes "flush 0.1" ∷
    codes "publish 0" ∷ codes "hand 0 0 0" ∷ codes "hand 0 0 1" ∷ codes "sweep 0" ∷ codes "cut 0 2 0 lost 1" ∷
    codes "stop 0.1 by 0 received 0 told 0 admitted 0 owners 0.1" ∷ codes "end events 26 stopped 1" ∷ []
unfolding pieces number_of actor_of any_line actor_line node_line pair_line link_line dead greatest lost_nodes digits
crash_after_18_events = refl

crash_after_21_events : replayed (journal_of (text_of (
    codes "crgc 1 nodes 2" ∷ codes "seed 0" ∷ codes "seed 1" ∷ codes "tie 0.0 1.0" ∷ codes "wake 0.0" ∷ codes "spawn 0.0" ∷
    codes "wake 1.0" ∷ codes "spawn 1.0" ∷ codes "send 0.0 1.0 0.1" ∷ codes "rest 1.0" ∷ codes "admit 0 1 0" ∷ codes "take 1.0" ∷
    codes "send 1.0 0.1 1.1" ∷ codes "send 1.0 1.1 0.1" ∷ codes "drop 1.0 0.1" ∷ codes "drop 1.0 1.1" ∷ codes "rest 1.0" ∷
    codes "drop 0.0 0.1" ∷ codes "rest 0.0" ∷ codes "admit 1 0 0" ∷ codes "take 0.1" ∷ codes "rest 0.1" ∷ codes "crash 1" ∷
    codes "remove 0 1" ∷ codes "flush 0.0" ∷ codes "flush 0.1" ∷ codes "publish 0" ∷ codes "hand 0 0 0" ∷ codes "hand 0 0 1" ∷
    codes "sweep 0" ∷ []
    )))
    ≡ codes "crgc 1 nodes 2" ∷ codes "seed 0" ∷ codes "seed 1" ∷ codes "tie 0.0 1.0" ∷ codes "wake 0.0" ∷ codes "spawn 0.0" ∷
    codes "wake 1.0" ∷ codes "spawn 1.0" ∷ codes "send 0.0 1.0 0.1" ∷ codes "rest 1.0" ∷ codes "admit 0 1 0" ∷ codes "take 1.0" ∷
    codes "send 1.0 0.1 1.1" ∷ codes "send 1.0 1.1 0.1" ∷ codes "drop 1.0 0.1" ∷ codes "drop 1.0 1.1" ∷ codes "rest 1.0" ∷
    codes "drop 0.0 0.1" ∷ codes "rest 0.0" ∷ codes "admit 1 0 0" ∷ codes "take 0.1" ∷ codes "rest 0.1" ∷ codes "crash 1" ∷
    codes "remove 0 1" ∷ codes "flush 0.0" ∷ codes "flush 0.1" ∷ codes "publish 0" ∷ codes "hand 0 0 0" ∷ codes "hand 0 0 1" ∷
    codes "sweep 0" ∷ codes "cut 0 2 0 lost 1" ∷ codes "stop 0.1 by 0 received 1 told 0 admitted 1 owners 0.1" ∷
    codes "end events 29 stopped 1" ∷ []
unfolding pieces number_of actor_of any_line actor_line node_line pair_line link_line dead greatest lost_nodes digits
crash_after_21_events = refl

-- after an end line, too, a fault of the spelling comes first
misspelled_after_end : journal_of (text_of (
    codes "crgc 1 nodes 1" ∷ codes "end events 0 stopped 0" ∷ codes "Seed 0" ∷ []
    )) ≡ Err (3, spelling Word)
unfolding pieces number_of actor_of any_line actor_line node_line pair_line link_line dead greatest lost_nodes digits
misspelled_after_end = refl

-- an end line has the counts so far
end_differs : journal_of (text_of (
    codes "crgc 1 nodes 1" ∷ codes "seed 0" ∷ codes "end events 2 stopped 0" ∷ []
    )) ≡ Err (3, differs)
unfolding pieces number_of actor_of any_line actor_line node_line pair_line link_line dead greatest lost_nodes digits
end_differs = refl

-- lines that are due may be left out at their end
stop_left_out : journal_of (text_of (
    codes "crgc 1 nodes 1" ∷ codes "seed 0" ∷ codes "wake 0.0" ∷ codes "spawn 0.0" ∷ codes "drop 0.0 0.1" ∷ codes "rest 0.0" ∷
    codes "flush 0.0" ∷ codes "flush 0.1" ∷ codes "publish 0" ∷ codes "hand 0 0 0" ∷ codes "sweep 0" ∷ codes "cut 0 1 lost" ∷
    codes "end events 10 stopped 1" ∷ []
    )) ≡ Ok (record { cluster = cluster 1 1; past = Sweep 0 ∷ dropped_child })
unfolding pieces number_of actor_of any_line actor_line node_line pair_line link_line dead greatest lost_nodes digits
stop_left_out = refl

-- but not before others
cut_left_out : journal_of (text_of (
    codes "crgc 1 nodes 1" ∷ codes "seed 0" ∷ codes "wake 0.0" ∷ codes "spawn 0.0" ∷ codes "drop 0.0 0.1" ∷ codes "rest 0.0" ∷
    codes "flush 0.0" ∷ codes "flush 0.1" ∷ codes "publish 0" ∷ codes "hand 0 0 0" ∷ codes "sweep 0" ∷
    codes "stop 0.1 by 0 received 0 told 0 admitted 0 owners 0.1" ∷ codes "end events 10 stopped 1" ∷ []
    )) ≡ Err (12, differs)
unfolding pieces number_of actor_of any_line actor_line node_line pair_line link_line dead greatest lost_nodes digits
cut_left_out = refl

-- the line feed of the last line may be missing
no_last_line_feed : journal_of (codes "crgc 2 nodes 16") ≡ Ok (record { cluster = cluster 16 2; past = [] })
unfolding pieces number_of actor_of any_line actor_line node_line pair_line link_line dead greatest lost_nodes digits
no_last_line_feed = refl

-- a text of one byte more than 16,777,216 is too long, whatever its lines say
too_long : (text : List ℕ) → length text ≡ 16777217 → journal_of text ≡ Err (0, limit Input)
too_long text e = ap (λ n. if nat_lt 16777216 n then Err (0, limit Input) else journal_lines (lines_of text)) e

-- of an event, a broken rule comes before a limit that it passes
rule_first : (cl : Cluster) (r : Replay) (e : Event) (broken : Rule) → refusal cl e r.past ≡ Some broken → after_event cl r e ≡ Err (rule broken)
rule_first cl r e broken refused = rw refused refl

limit_next : (cl : Cluster) (r : Replay) (e : Event) (which : Which)
    → refusal cl e r.past ≡ None → limit_passed cl e r.past ≡ Some which → after_event cl r e ≡ Err (limit which)
limit_next cl r e which legal passed = rw (legal, passed) refl
