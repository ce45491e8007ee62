-- The reports of worked histories, computed: on one node and on clusters, in both versions, with losses, crashes and removals.
use Rattle.std.specs.Prelude.{◌≡◌, [], ◌∷◌, refl, codes}
use Rattle.std.specs.Fmt.{digits}
use Rattle.crgc_ids.specs.Greatest.{greatest}
use Rattle.crgc_ids.specs.LostNodes.{lost_nodes}
use Rattle.history_model.specs.declared.events.Event.TheVariants.{Sweep}
use Rattle.history_model.specs.Graph.{dead}
use Rattle.history_model.specs.Rows.{cluster, crash_after_admission_removed, crash_before_admission_removed, handed_second_last, masked_count_told, message_lost, message_told, no_final_missing, no_own_entry, other_half_of_cycle, parent_outlives_child, retired_seed, stopped_owner_is_told, taken_message_marks_none, two_nodes_lost_together, unflushed_child_marks_parent}
use Rattle.journal_model.specs.Report.{report_lines}

no_own_entry-report : report_lines (cluster 1 1) (Sweep 0 ∷ no_own_entry)
    ≡ codes "crgc 1 nodes 1" ∷ codes "seed 0" ∷ codes "wake 0.0" ∷ codes "spawn 0.0" ∷ codes "flush 0.1" ∷ codes "publish 0" ∷
    codes "hand 0 0 0" ∷ codes "sweep 0" ∷ codes "cut 0 1 lost" ∷ codes "end events 7 stopped 0" ∷ []
unfolding dead greatest lost_nodes digits
no_own_entry-report = refl

cycle_over_two_nodes-report : report_lines (cluster 2 1) (Sweep 1 ∷ other_half_of_cycle)
    ≡ codes "crgc 1 nodes 2" ∷ codes "seed 0" ∷ codes "seed 1" ∷ codes "tie 0.0 1.0" ∷ codes "wake 0.0" ∷ codes "spawn 0.0" ∷
    codes "wake 1.0" ∷ codes "spawn 1.0" ∷ codes "send 0.0 1.0 0.1" ∷ codes "rest 1.0" ∷ codes "admit 0 1 0" ∷ codes "take 1.0" ∷
    codes "send 1.0 0.1 1.1" ∷ codes "send 1.0 1.1 0.1" ∷ codes "drop 1.0 0.1" ∷ codes "drop 1.0 1.1" ∷ codes "rest 1.0" ∷
    codes "drop 0.0 0.1" ∷ codes "rest 0.0" ∷ codes "admit 1 0 0" ∷ codes "take 0.1" ∷ codes "rest 0.1" ∷ codes "take 1.1" ∷
    codes "rest 1.1" ∷ codes "flush 0.0" ∷ codes "flush 0.1" ∷ codes "flush 1.0" ∷ codes "flush 1.1" ∷ codes "publish 0" ∷
    codes "publish 1" ∷ codes "hand 0 0 0" ∷ codes "hand 0 1 0" ∷ codes "hand 1 0 0" ∷ codes "hand 1 1 0" ∷ codes "sweep 0" ∷
    codes "cut 0 1 1 lost" ∷ codes "stop 0.1 by 0 received 1 told 1 admitted 0 owners 0.1 1.1" ∷ codes "sweep 1" ∷ codes "cut 1 1 1 lost" ∷
    codes "stop 1.1 by 1 received 1 told 1 admitted 0 owners 0.1 1.1" ∷ codes "end events 35 stopped 2" ∷ []
unfolding dead greatest lost_nodes digits
cycle_over_two_nodes-report = refl

masked_count-report : report_lines (cluster 2 1) (Sweep 0 ∷ masked_count_told)
    ≡ codes "crgc 1 nodes 2" ∷ codes "seed 0" ∷ codes "seed 1" ∷ codes "tie 0.0 1.0" ∷ codes "wake 0.0" ∷ codes "spawn 0.0" ∷
    codes "spawn 0.0" ∷ codes "send 0.0 0.2 0.1 1.0" ∷ codes "send 0.0 1.0 0.1" ∷ codes "drop 0.0 0.1" ∷ codes "drop 0.0 0.2" ∷
    codes "rest 0.0" ∷ codes "flush 0.0" ∷ codes "flush 0.1" ∷ codes "publish 0" ∷ codes "take 0.2" ∷ codes "send 0.2 1.0 0.1" ∷
    codes "admit 0 1 1" ∷ codes "take 1.0" ∷ codes "drop 1.0 0.1" ∷ codes "rest 1.0" ∷ codes "flush 1.0" ∷ codes "publish 1" ∷
    codes "hand 0 0 0" ∷ codes "hand 0 1 0" ∷ codes "sweep 0" ∷ codes "cut 0 1 1 lost" ∷ codes "drop 0.2 0.1" ∷ codes "drop 0.2 1.0" ∷
    codes "rest 0.2" ∷ codes "flush 0.2" ∷ codes "publish 0" ∷ codes "admit 0 1 0" ∷ codes "take 1.0" ∷ codes "drop 1.0 0.1" ∷
    codes "rest 1.0" ∷ codes "flush 1.0" ∷ codes "publish 1" ∷ codes "hand 0 0 1" ∷ codes "hand 0 1 1" ∷ codes "sweep 0" ∷
    codes "cut 0 2 2 lost" ∷ codes "stop 0.1 by 0 received 0 told 0 admitted 0 owners 0.1" ∷
    codes "stop 0.2 by 0 received 1 told 1 admitted 0 owners 0.2" ∷ codes "end events 39 stopped 2" ∷ []
unfolding dead greatest lost_nodes digits
masked_count-report = refl

on_the_link-report : report_lines (cluster 2 1) (Sweep 1 ∷ message_told)
    ≡ codes "crgc 1 nodes 2" ∷ codes "seed 0" ∷ codes "seed 1" ∷ codes "tie 1.0 0.0" ∷ codes "wake 1.0" ∷ codes "spawn 1.0" ∷
    codes "send 1.0 0.0 1.1" ∷ codes "drop 1.0 1.1" ∷ codes "rest 1.0" ∷ codes "admit 1 0 0" ∷ codes "take 0.0" ∷ codes "send 0.0 1.1" ∷
    codes "drop 0.0 1.1" ∷ codes "rest 0.0" ∷ codes "flush 0.0" ∷ codes "flush 1.0" ∷ codes "flush 1.1" ∷ codes "publish 0" ∷
    codes "publish 1" ∷ codes "hand 1 0 0" ∷ codes "hand 1 1 0" ∷ codes "sweep 1" ∷ codes "cut 1 1 1 lost" ∷ codes "admit 0 1 0" ∷
    codes "take 1.1" ∷ codes "rest 1.1" ∷ codes "sweep 1" ∷ codes "cut 1 1 1 lost" ∷ codes "flush 1.1" ∷ codes "publish 1" ∷
    codes "hand 1 1 1" ∷ codes "sweep 1" ∷ codes "cut 1 1 2 lost" ∷ codes "stop 1.1 by 1 received 1 told 1 admitted 0 owners 1.1" ∷
    codes "end events 29 stopped 1" ∷ []
unfolding dead greatest lost_nodes digits
on_the_link-report = refl

lost_on_the_link-report : report_lines (cluster 2 1) (Sweep 1 ∷ message_lost)
    ≡ codes "crgc 1 nodes 2" ∷ codes "seed 0" ∷ codes "seed 1" ∷ codes "tie 1.0 0.0" ∷ codes "wake 1.0" ∷ codes "spawn 1.0" ∷
    codes "send 1.0 0.0 1.1" ∷ codes "drop 1.0 1.1" ∷ codes "rest 1.0" ∷ codes "admit 1 0 0" ∷ codes "take 0.0" ∷ codes "send 0.0 1.1" ∷
    codes "drop 0.0 1.1" ∷ codes "rest 0.0" ∷ codes "flush 0.0" ∷ codes "flush 1.0" ∷ codes "flush 1.1" ∷ codes "publish 0" ∷
    codes "publish 1" ∷ codes "lose 0 1 0" ∷ codes "hand 1 0 0" ∷ codes "hand 1 1 0" ∷ codes "sweep 1" ∷ codes "cut 1 1 1 lost" ∷
    codes "end events 22 stopped 0" ∷ []
unfolding dead greatest lost_nodes digits
lost_on_the_link-report = refl

crash_before_admission-report : report_lines (cluster 2 1) (Sweep 1 ∷ crash_before_admission_removed)
    ≡ codes "crgc 1 nodes 2" ∷ codes "seed 0" ∷ codes "seed 1" ∷ codes "tie 1.0 0.0" ∷ codes "wake 1.0" ∷ codes "spawn 1.0" ∷
    codes "send 1.0 0.0 1.1" ∷ codes "drop 1.0 1.1" ∷ codes "rest 1.0" ∷ codes "admit 1 0 0" ∷ codes "take 0.0" ∷ codes "send 0.0 1.1" ∷
    codes "drop 0.0 1.1" ∷ codes "rest 0.0" ∷ codes "flush 0.0" ∷ codes "flush 1.0" ∷ codes "flush 1.1" ∷ codes "publish 0" ∷
    codes "publish 1" ∷ codes "crash 0" ∷ codes "hand 1 0 0" ∷ codes "hand 1 1 0" ∷ codes "sweep 1" ∷ codes "cut 1 1 1 lost" ∷
    codes "remove 1 0" ∷ codes "hand 1 1 1" ∷ codes "sweep 1" ∷ codes "cut 1 1 2 lost 0" ∷
    codes "stop 1.1 by 1 received 0 told 0 admitted 0 owners 1.1" ∷ codes "end events 25 stopped 1" ∷ []
unfolding dead greatest lost_nodes digits
crash_before_admission-report = refl

crash_after_admission-report : report_lines (cluster 2 1) (Sweep 1 ∷ crash_after_admission_removed)
    ≡ codes "crgc 1 nodes 2" ∷ codes "seed 0" ∷ codes "seed 1" ∷ codes "tie 1.0 0.0" ∷ codes "wake 1.0" ∷ codes "spawn 1.0" ∷
    codes "send 1.0 0.0 1.1" ∷ codes "drop 1.0 1.1" ∷ codes "rest 1.0" ∷ codes "admit 1 0 0" ∷ codes "take 0.0" ∷ codes "send 0.0 1.1" ∷
    codes "admit 0 1 0" ∷ codes "take 1.1" ∷ codes "rest 1.1" ∷ codes "crash 0" ∷ codes "flush 1.0" ∷ codes "flush 1.1" ∷
    codes "publish 1" ∷ codes "hand 1 1 0" ∷ codes "sweep 1" ∷ codes "cut 1 0 1 lost" ∷ codes "remove 1 0" ∷ codes "hand 1 1 1" ∷
    codes "sweep 1" ∷ codes "cut 1 0 2 lost 0" ∷ codes "stop 1.1 by 1 received 1 told 0 admitted 1 owners 1.1" ∷
    codes "end events 23 stopped 1" ∷ []
unfolding dead greatest lost_nodes digits
crash_after_admission-report = refl

one_final_missing-report : report_lines (cluster 3 1) (Sweep 1 ∷ no_final_missing)
    ≡ codes "crgc 1 nodes 3" ∷ codes "seed 0" ∷ codes "seed 1" ∷ codes "tie 1.0 0.0" ∷ codes "wake 1.0" ∷ codes "spawn 1.0" ∷
    codes "send 1.0 0.0 1.1" ∷ codes "drop 1.0 1.1" ∷ codes "rest 1.0" ∷ codes "admit 1 0 0" ∷ codes "take 0.0" ∷ codes "flush 1.0" ∷
    codes "flush 1.1" ∷ codes "publish 1" ∷ codes "crash 0" ∷ codes "remove 1 0" ∷ codes "remove 2 0" ∷ codes "hand 1 1 0" ∷
    codes "hand 1 1 1" ∷ codes "sweep 1" ∷ codes "cut 1 0 2 0 lost" ∷ codes "hand 1 2 0" ∷ codes "sweep 1" ∷ codes "cut 1 0 2 1 lost 0" ∷
    codes "stop 1.1 by 1 received 0 told 0 admitted 0 owners 1.1" ∷ codes "end events 21 stopped 1" ∷ []
unfolding dead greatest lost_nodes digits
one_final_missing-report = refl

two_nodes_lost_together-report : report_lines (cluster 4 1) (Sweep 0 ∷ two_nodes_lost_together)
    ≡ codes "crgc 1 nodes 4" ∷ codes "seed 0" ∷ codes "crash 2" ∷ codes "crash 3" ∷ codes "remove 0 2" ∷ codes "remove 0 3" ∷
    codes "remove 1 2" ∷ codes "remove 1 3" ∷ codes "hand 0 0 0" ∷ codes "hand 0 0 1" ∷ codes "hand 0 1 0" ∷ codes "sweep 0" ∷
    codes "cut 0 2 1 0 0 lost" ∷ codes "hand 0 1 1" ∷ codes "sweep 0" ∷ codes "cut 0 2 2 0 0 lost 2 3" ∷ codes "end events 13 stopped 0" ∷ []
unfolding dead greatest lost_nodes digits
two_nodes_lost_together-report = refl

handed_out_of_order-report : report_lines (cluster 1 1) (Sweep 0 ∷ handed_second_last)
    ≡ codes "crgc 1 nodes 1" ∷ codes "seed 0" ∷ codes "flush 0.0" ∷ codes "publish 0" ∷ codes "wake 0.0" ∷ codes "flush 0.0" ∷
    codes "publish 0" ∷ codes "rest 0.0" ∷ codes "flush 0.0" ∷ codes "publish 0" ∷ codes "hand 0 0 2" ∷ codes "sweep 0" ∷
    codes "cut 0 0 lost" ∷ codes "hand 0 0 0" ∷ codes "hand 0 0 0" ∷ codes "sweep 0" ∷ codes "cut 0 1 lost" ∷ codes "hand 0 0 1" ∷
    codes "sweep 0" ∷ codes "cut 0 3 lost" ∷ codes "end events 16 stopped 0" ∷ []
unfolding dead greatest lost_nodes digits
handed_out_of_order-report = refl

retired_seed-report : report_lines (cluster 1 1) (Sweep 0 ∷ retired_seed)
    ≡ codes "crgc 1 nodes 1" ∷ codes "seed 0" ∷ codes "wake 0.0" ∷ codes "retire 0.0" ∷ codes "rest 0.0" ∷ codes "flush 0.0" ∷
    codes "publish 0" ∷ codes "hand 0 0 0" ∷ codes "sweep 0" ∷ codes "cut 0 1 lost" ∷
    codes "stop 0.0 by 0 received 0 told 0 admitted 0 owners 0.0" ∷ codes "end events 8 stopped 1" ∷ []
unfolding dead greatest lost_nodes digits
retired_seed-report = refl

balance_marks_child-report : report_lines (cluster 1 1) (Sweep 0 ∷ taken_message_marks_none)
    ≡ codes "crgc 1 nodes 1" ∷ codes "seed 0" ∷ codes "wake 0.0" ∷ codes "spawn 0.0" ∷ codes "spawn 0.0" ∷ codes "send 0.0 0.1 0.2" ∷
    codes "drop 0.0 0.1" ∷ codes "drop 0.0 0.2" ∷ codes "rest 0.0" ∷ codes "flush 0.0" ∷ codes "flush 0.1" ∷ codes "flush 0.2" ∷
    codes "publish 0" ∷ codes "hand 0 0 0" ∷ codes "sweep 0" ∷ codes "cut 0 1 lost" ∷ codes "take 0.1" ∷ codes "rest 0.1" ∷
    codes "flush 0.1" ∷ codes "publish 0" ∷ codes "hand 0 0 1" ∷ codes "sweep 0" ∷ codes "cut 0 2 lost" ∷
    codes "stop 0.1 by 0 received 1 told 1 admitted 0 owners 0.1" ∷ codes "stop 0.2 by 0 received 0 told 0 admitted 0 owners 0.1 0.2" ∷
    codes "end events 20 stopped 2" ∷ []
unfolding dead greatest lost_nodes digits
balance_marks_child-report = refl

stopped_owner_is_told-report : report_lines (cluster 1 1) (Sweep 0 ∷ stopped_owner_is_told)
    ≡ codes "crgc 1 nodes 1" ∷ codes "seed 0" ∷ codes "seed 0" ∷ codes "tie 0.0 0.1" ∷ codes "wake 0.0" ∷ codes "retire 0.0" ∷
    codes "rest 0.0" ∷ codes "flush 0.0" ∷ codes "publish 0" ∷ codes "hand 0 0 0" ∷ codes "sweep 0" ∷ codes "cut 0 1 lost" ∷
    codes "stop 0.0 by 0 received 0 told 0 admitted 0 owners 0.0" ∷ codes "wake 0.1" ∷ codes "retire 0.1" ∷ codes "rest 0.1" ∷
    codes "flush 0.1" ∷ codes "publish 0" ∷ codes "hand 0 0 1" ∷ codes "sweep 0" ∷ codes "cut 0 2 lost" ∷
    codes "stop 0.1 by 0 received 0 told 0 admitted 0 owners 0.0 0.1" ∷ codes "end events 17 stopped 2" ∷ []
unfolding dead greatest lost_nodes digits
stopped_owner_is_told-report = refl

unflushed_child_marks_parent-report : report_lines (cluster 1 2) (Sweep 0 ∷ unflushed_child_marks_parent)
    ≡ codes "crgc 2 nodes 1" ∷ codes "seed 0" ∷ codes "wake 0.0" ∷ codes "spawn 0.0" ∷ codes "retire 0.0" ∷ codes "rest 0.0" ∷
    codes "flush 0.0" ∷ codes "publish 0" ∷ codes "hand 0 0 0" ∷ codes "sweep 0" ∷ codes "cut 0 1 lost" ∷ codes "end events 9 stopped 0" ∷ []
unfolding dead greatest lost_nodes digits
unflushed_child_marks_parent-report = refl

parent_outlives_child-report : report_lines (cluster 1 2) (Sweep 0 ∷ parent_outlives_child)
    ≡ codes "crgc 2 nodes 1" ∷ codes "seed 0" ∷ codes "seed 0" ∷ codes "tie 0.0 0.1" ∷ codes "wake 0.0" ∷ codes "spawn 0.0" ∷
    codes "send 0.0 0.1 0.2" ∷ codes "drop 0.0 0.2" ∷ codes "drop 0.0 0.1" ∷ codes "retire 0.0" ∷ codes "rest 0.0" ∷ codes "take 0.1" ∷
    codes "rest 0.1" ∷ codes "flush 0.0" ∷ codes "flush 0.1" ∷ codes "flush 0.2" ∷ codes "publish 0" ∷ codes "hand 0 0 0" ∷
    codes "sweep 0" ∷ codes "cut 0 1 lost" ∷ codes "wake 0.1" ∷ codes "drop 0.1 0.2" ∷ codes "rest 0.1" ∷ codes "flush 0.1" ∷
    codes "publish 0" ∷ codes "hand 0 0 1" ∷ codes "sweep 0" ∷ codes "cut 0 2 lost" ∷
    codes "stop 0.0 by 0 received 0 told 0 admitted 0 owners 0.0 0.2" ∷ codes "stop 0.2 by 0 received 0 told 0 admitted 0 owners 0.2" ∷
    codes "end events 25 stopped 2" ∷ []
unfolding dead greatest lost_nodes digits
parent_outlives_child-report = refl
