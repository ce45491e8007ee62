-- The report of a dropped child in full and in brief, and the report of no events, computed.
use Rattle.std.specs.Prelude.{◌≡◌, [], ◌∷◌, refl, length, codes}
use Rattle.std.specs.Fmt.{digits}
use Rattle.crgc_ids.specs.Greatest.{greatest}
use Rattle.crgc_ids.specs.LostNodes.{lost_nodes}
use Rattle.history_model.specs.declared.events.Event.TheVariants.{Sweep}
use Rattle.history_model.specs.Graph.{dead}
use Rattle.history_model.specs.Rows.{cluster, dropped_child}
use Rattle.journal_model.specs.Lines.{text_of}
use Rattle.journal_model.specs.Report.{report_lines, report_of, brief_of}

dropped_child-report : report_lines (cluster 1 1) (Sweep 0 ∷ dropped_child)
    ≡ codes "crgc 1 nodes 1" ∷ codes "seed 0" ∷ codes "wake 0.0" ∷ codes "spawn 0.0" ∷ codes "drop 0.0 0.1"
    ∷ codes "rest 0.0" ∷ codes "flush 0.0" ∷ codes "flush 0.1" ∷ codes "publish 0" ∷ codes "hand 0 0 0" ∷ codes "sweep 0"
    ∷ codes "cut 0 1 lost" ∷ codes "stop 0.1 by 0 received 0 told 0 admitted 0 owners 0.1"
    ∷ codes "end events 10 stopped 1" ∷ []
unfolding dead greatest lost_nodes digits
dropped_child-report = refl

dropped_child-brief : brief_of (cluster 1 1) (Sweep 0 ∷ dropped_child)
    ≡ text_of (codes "crgc 1 nodes 1" ∷ codes "node 0 born 2 stopped 1" ∷ codes "total born 2 stopped 1" ∷ [])
unfolding dead greatest lost_nodes digits
dropped_child-brief = refl

no_events-report : length (report_of (cluster 1 1) []) ≡ 38
unfolding digits
no_events-report = refl
