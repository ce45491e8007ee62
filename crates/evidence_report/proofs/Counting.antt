-- What verdicts say of stops is what the history says.
use Rattle.std.proofs.Common.{◌≡◌, ◌≤◌, ◌==◌, ℕ, cond, List, [], ◌∷◌, length, reverse, sum_by, refl, sym, ◌∙◌, ap, arith}
use Rattle.std.proofs.lemmas.List.{length-map}
use Rattle.std.proofs.lemmas.List.Sorted.{IsPermutation-reverse, sum_by-IsPermutation}
use Rattle.std.proofs.lemmas.List.Sums.{sum_by-cons}
use Rattle.crgc_ids.specs.Nodes.{nodes_below}
use Rattle.history_model.specs.declared.events.Event.{Event}
use Rattle.history_model.specs.declared.events.Event.TheVariants.{Sweep}
use Rattle.history_model.specs.declared.records.Verdict.{Verdict}
use Rattle.history_model.specs.Cluster.{Cluster, births}
use Rattle.history_model.specs.Legal.{IsLegal}
use Rattle.history_model.specs.Sweeps.{IsVerdict, stopped_by}
use Rattle.journal_model.specs.Report.{stopped_total}
use Rattle.journal_model.specs.Verdicts.{AreVerdicts}
use Rattle.evidence_report.specs.Stops.{stops_in}
use Rattle.evidence_report.proofs.Totals.{births-within, stopped-within}

-- a verdict stops as many as the sweep
stops-counted : (cl : Cluster) (m : ℕ) (p : List Event) (v : Verdict) → IsVerdict cl m p v → length v.stops ≡ length (stopped_by cl m p)
stops-counted cl m p v is = ap length is.stops ∙ length-map (stopped_by cl m p) _

-- the verdicts stop what the sweeps stop
stops-total : (cl : Cluster) (h : List Event) (vs : List Verdict) → AreVerdicts cl h vs → stops_in vs ≡ stopped_total cl h
stops-total cl [] [] are = refl
stops-total cl [] (v ∷ vs) are = absurd are
stops-total cl (Sweep m ∷ p) [] are = absurd are
stops-total cl (Sweep m ∷ p) (v ∷ vs) are =
    omega (arith, sum_by-cons (λ w. length w.stops) v vs, stops-counted cl m p v are.0, stops-total cl p vs are.1)
stops-total cl (_ ∷ p) vs are = stops-total cl p vs are

-- in whatever order the verdicts come
pub total-stopped : (cl : Cluster) (h : List Event) (vs : List Verdict) → AreVerdicts cl h (reverse vs) → stops_in vs ≡ stopped_total cl h
total-stopped cl h vs are =
    sym (sum_by-IsPermutation (λ v. length v.stops) vs (reverse vs) (IsPermutation-reverse vs)) ∙ stops-total cl h (reverse vs) are

-- they are no more than the born, and no more than the events
total-born : (cl : Cluster) (h : List Event) (vs : List Verdict) → IsLegal cl h → AreVerdicts cl h (reverse vs) → stops_in vs ≤ sum_by (λ n. births n h) (nodes_below cl.nodes)
total-born cl h vs legal are = omega (arith, total-stopped cl h vs are, stopped-within cl h legal)

pub total-fits : (cl : Cluster) (h : List Event) (vs : List Verdict) → IsLegal cl h → AreVerdicts cl h (reverse vs) → stops_in vs ≤ length h
total-fits cl h vs legal are = omega (arith, total-born cl h vs legal are, births-within h cl.nodes)
