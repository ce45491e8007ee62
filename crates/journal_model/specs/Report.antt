-- The report of a history, in full and in brief form.
use Rattle.std.specs.Prelude.{ℕ, ◌+◌, ◌==◌, if◌then◌else◌, List, [], ◌∷◌, ◌++◌, length, map, sum_by, decimal, codes}
use Rattle.crgc_ids.specs.Nodes.{nodes_below}
use Rattle.history_model.specs.declared.events.Event.{Event}
use Rattle.history_model.specs.declared.events.Event.TheVariants.{Sweep}
use Rattle.history_model.specs.Cluster.{Cluster, births}
use Rattle.history_model.specs.Folds.{cut_at, lost_of, folded}
use Rattle.history_model.specs.Sweeps.{stopped_by, stops_of}
use Rattle.journal_model.specs.Lines.{spell, header_line, event_line, cut_words, stop_words, end_words, text_of}

-- the lines that a sweep of m adds: its cut and its stops
abbrev pub verdict_lines : Cluster → ℕ → List Event → List (List ℕ)
verdict_lines cl m h =
    spell (cut_words m (map (cut_at cl m h) (nodes_below cl.nodes)) (lost_of cl (folded cl m h)))
    ∷ map (λ s. spell (stop_words m s)) (stops_of cl m h)

-- each event's line, and after a sweep its verdict
abbrev pub told_lines : Cluster → List Event → List (List ℕ)
told_lines cl [] = []
told_lines cl (Sweep m ∷ p) = told_lines cl p ++ event_line (Sweep m) ∷ verdict_lines cl m p
told_lines cl (e ∷ p) = told_lines cl p ++ event_line e ∷ []

-- how many actors of node n were stopped
abbrev pub stopped_on : Cluster → ℕ → List Event → ℕ
stopped_on cl n [] = 0
stopped_on cl n (Sweep m ∷ p) = stopped_on cl n p + (if m == n then length (stopped_by cl m p) else 0)
stopped_on cl n (_ ∷ p) = stopped_on cl n p

abbrev pub stopped_total : Cluster → List Event → ℕ
stopped_total cl [] = 0
stopped_total cl (Sweep m ∷ p) = stopped_total cl p + length (stopped_by cl m p)
stopped_total cl (_ ∷ p) = stopped_total cl p

abbrev pub report_lines : Cluster → List Event → List (List ℕ)
report_lines cl h =
    header_line cl ∷ (told_lines cl h ++ spell (end_words (length h) (stopped_total cl h)) ∷ [])

-- the report of the history
abbrev pub report_of : Cluster → List Event → List ℕ
report_of cl h = text_of (report_lines cl h)

abbrev pub node_words : Cluster → List Event → ℕ → List (List ℕ)
node_words cl h n =
    codes "node" ∷ decimal n ∷ codes "born" ∷ decimal (births n h) ∷ codes "stopped" ∷ decimal (stopped_on cl n h) ∷ []

abbrev pub total_words : Cluster → List Event → List (List ℕ)
total_words cl h =
    codes "total" ∷ codes "born" ∷ decimal (sum_by (λ n. births n h) (nodes_below cl.nodes))
    ∷ codes "stopped" ∷ decimal (stopped_total cl h) ∷ []

-- the report in brief
abbrev pub brief_of : Cluster → List Event → List ℕ
brief_of cl h =
    text_of (header_line cl ∷ (map (λ n. spell (node_words cl h n)) (nodes_below cl.nodes) ++ spell (total_words cl h) ∷ []))
