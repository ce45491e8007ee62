-- How many actors the sweeps stop.
use Rattle.std.proofs.Common.{◌≡◌, ◌≤◌, ◌+◌, ◌∷◌, ℕ, List, length, ◌∙◌, ap, arith}
use Rattle.std.proofs.lemmas.List.{length-map}
use Rattle.history_model.specs.declared.events.Event.{Event}
use Rattle.history_model.specs.declared.events.Event.TheVariants.{Sweep}
use Rattle.history_model.specs.declared.records.Verdict.{Verdict}
use Rattle.history_model.specs.Cluster.{Cluster}
use Rattle.history_model.specs.Legal.{IsLegal}
use Rattle.history_model.specs.Sweeps.{IsVerdict, stopped_by}
use Rattle.journal_model.specs.Report.{stopped_total}
use Rattle.evidence_report.proofs.Totals.{births-within, stopped-within}

-- with the verdict of one more sweep
pub stops-more : (cl : Cluster) (m : ℕ) (p : List Event) (v : Verdict) → IsVerdict cl m p v → stopped_total cl p + length v.stops ≡ stopped_total cl (Sweep m ∷ p)
stops-more cl m p v is =
    let count : length v.stops ≡ length (stopped_by cl m p) = ap length is.stops ∙ length-map (stopped_by cl m p) _ in
    ap (λ n. stopped_total cl p + n) count

-- no more are stopped than there are events
pub stops-fit : (cl : Cluster) (h : List Event) → IsLegal cl h → stopped_total cl h ≤ length h
stops-fit cl h legal = omega (arith, stopped-within cl h legal, births-within h cl.nodes)
