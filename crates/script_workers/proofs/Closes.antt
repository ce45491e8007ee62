-- How a history that is made anew, event by event, goes on to its closing round.
use Rattle.std.proofs.Common.{◌≡◌, ◌<◌, ◌++◌, Bool, true, List, [], ◌∷◌, append_assoc, append-nil, arith, drop, length, reverse, slice_get, Option, Some, None, sym, ◌∙◌, ap, subst, inl, inr}
use Rattle.std.specs.Prelude.{IfErr, Result, Ok, Err}
use Rattle.std.proofs.lemmas.List.{reverse-append}
use Rattle.std.proofs.lemmas.Option.{none-some, same_Some}
use Rattle.crgc_ids.specs.declared.Which.{Which}
use Rattle.history_model.specs.declared.events.Event.{Event}
use Rattle.history_model.specs.declared.events.Event.TheVariants as events
use Rattle.history_model.specs.Cluster.{Cluster}
use Rattle.history_model.specs.Legal.{IsLegal, refusal}
use Rattle.history_model.specs.Story.{Story}
use Rattle.history_model.proofs.Basics.{legal-before}
use Rattle.journal_model.specs.Limits.{limit_passed}
use Rattle.journal_model.specs.Lines.{AreWithinRanges, IsWithinRanges}
use Rattle.journal_model.specs.Verdicts.{report_text}
use Rattle.script_reader.specs.Valid.{Scripted}
use Rattle.run_model.specs.Doing.{cluster_of}
use Rattle.run_model.specs.Follows.{IsClosing, IsRun, is_over}
use Rattle.run_model.specs.Round.{round}
use Rattle.run_model.specs.Schedule.{IsWithinLimits}
use Rattle.run_model.proofs.RoundQuiet.{round-more}
use Rattle.cluster_course.specs.Halting.{StopsBefore}
use Rattle.true_config.specs.Applying.{CarriesFew}
use Rattle.script_workers.specs.Closed.{CarryFew, IsClosed, IsHalfClosed}
use Rattle.script_workers.specs.Ended.{IsFinishedRun, IsHaltedRun, IsWorked, IsWorkersFault}
use Rattle.script_workers.specs.declared.fault.WorkersFault.{WorkersFault}
use Rattle.script_workers.specs.declared.fault.WorkersFault.TheVariants as faults
use Rattle.script_workers.specs.declared.runs.Finished.{Finished}

-- ---- the history made anew

carries-few : (e : Event) → IsWithinRanges e → CarriesFew e
carries-few (events.Send a b refs) in_range = in_range.3
carries-few e in_range = tt

pub carry-few : (h : List Event) → AreWithinRanges h → CarryFew h
carry-few [] ranges = tt
carry-few (e ∷ p) ranges = (carries-few e ranges.0, carry-few p ranges.1)

pub within-before : (cl : Cluster) (q p : List Event) → IsWithinLimits cl (q ++ p) → IsWithinLimits cl p
within-before cl [] p within = within
within-before cl (e ∷ q) p within = within-before cl q p within.1

few-before : (q p : List Event) → CarryFew (q ++ p) → CarryFew p
few-before [] p few = few
few-before (e ∷ q) p few = few-before q p few.1

-- the event is the next one on the way to the history
pub record IsNextOf (cl : Cluster) (e : Event) (p : List Event) : Type 0 where
  pub legal : refusal cl e p ≡ None
  pub limit : limit_passed cl e p ≡ None
  pub few : CarriesFew e

pub next-of : (cl : Cluster) (q : List Event) (e : Event) (p h : List Event) → q ++ e ∷ p ≡ h → IsLegal cl h → IsWithinLimits cl h → CarryFew h → IsNextOf cl e p
next-of cl q e p h way legal within few = record {
  legal = (legal-before cl q (e ∷ p) (subst (IsLegal cl) (sym way) legal)).0;
  limit = (within-before cl q (e ∷ p) (subst (IsWithinLimits cl) (sym way) within)).0;
  few = (few-before q (e ∷ p) (subst CarryFew (sym way) few)).0;
}

pub next-on : (s w : Story) (q : List Event) (e : Event) → s.cluster ≡ w.cluster → q ++ e ∷ s.past ≡ w.past → IsLegal w.cluster w.past → IsWithinLimits w.cluster w.past → CarryFew w.past → IsNextOf s.cluster e s.past
next-on s w q e same way legal within few = subst (λ c. IsNextOf c e s.past) (sym same) (next-of w.cluster q e s.past w.past way legal within few)

-- the first of the events that are left goes to the course
pub given-on : (left past whole : List Event) (e : Event) → Some e ≡ slice_get left 0 → reverse left ++ past ≡ whole → reverse (drop 1 left) ++ e ∷ past ≡ whole
given-on [] past whole e is way = absurd (none-some e (sym is))
given-on (x ∷ left) past whole e is way =
    ap (λ y. reverse left ++ y ∷ past) (same_Some e x is)
    ∙ sym (ap (λ l. l ++ past) (reverse-append (x ∷ []) left) ∙ append_assoc (reverse left) (x ∷ []) past) ∙ way

pub given-all : (left past whole : List Event) → None ≡ slice_get left 0 → reverse left ++ past ≡ whole → past ≡ whole
given-all [] past whole is way = way
given-all (x ∷ left) past whole is way = absurd (none-some x is)

pub fewer-left : (left : List Event) (e : Event) → Some e ≡ slice_get left 0 → length (drop 1 left) < length left
fewer-left [] e is = absurd (none-some e (sym is))
fewer-left (x ∷ left) e is = omega arith

-- ---- the limit at which the round stops

abbrev tail : List Event → List Event
tail [] = []
tail (x ∷ xs) = xs

-- an event that passes a limit stands after a history that passed none
after : (cl : Cluster) (q p later now : List Event) (e : Event) (w : Which) → q ++ p ≡ later ++ e ∷ now → IsWithinLimits cl p → limit_passed cl e now ≡ Some w
    → (x : List Event) × (now ≡ x ++ p)
after cl [] p later now e w way within passed =
    absurd (none-some w (sym (within-before cl later (e ∷ now) (subst (IsWithinLimits cl) way within)).0 ∙ passed))
after cl (f ∷ q) p [] now e w way within passed = (q, sym (ap tail way))
after cl (f ∷ q) p (g ∷ later) now e w way within passed = after cl q p later now e w (ap tail way) within passed

module _ (s : Scripted) (p : List Event) (run : IsRun s p) (over : is_over s p ≡ true) where
  closing : (now later : List Event) → round (cluster_of s) p ≡ later ++ now → (x : List Event) → now ≡ x ++ p → IsClosing s now
  closing now later way x more = (p, x, later, run, over, more, way)

  halted : (h : Story) (w : Which) → h.cluster ≡ cluster_of s → IsWithinLimits (cluster_of s) p → StopsBefore (cluster_of s) (round (cluster_of s) p) h.past w → IsHaltedRun s w h
  halted h w cluster within (later, e, way, passed) =
      let cl = cluster_of s in
      let q = round-more cl p in
      let x = after cl q.0 p later h.past e w (sym q.1 ∙ way) within passed in
      record {
        cluster = cluster;
        unfinished = inr (closing h.past (later ++ e ∷ []) (way ∙ sym (append_assoc later (e ∷ []) h.past)) x.0 x.1);
        could_pass = (e, inr (closing (e ∷ h.past) later way (e ∷ x.0) (ap (λ l. e ∷ l) x.1), passed));
      }

-- ---- the whole run

pub closed-run : (s : Scripted) (brief : Bool) (w : Story) (f : Finished) → IsWorked s w None → IsClosed w brief f → IsFinishedRun s brief f.report.items f.history
closed-run s brief w f worked closed =
    let same = worked.cluster in
    let past : f.history.past ≡ round (cluster_of s) w.past = closed.past ∙ ap (λ c. round c w.past) same in
    record {
      cluster = closed.cluster ∙ same;
      follows = (w.past, worked.run, worked.ends, past);
      within = subst (IsWithinLimits (cluster_of s)) (sym past) (subst (λ c. IsWithinLimits c (round c w.past)) same closed.within);
      written = closed.written ∙ ap (λ c. report_text c (round c w.past) brief) same ∙ ap (λ h. report_text (cluster_of s) h brief) (sym past);
    }

pub half-closed : (s : Scripted) (w : Story) (f : WorkersFault) → IsWorked s w None → IsHalfClosed w f → IsWorkersFault s f
half-closed s w (faults.Limit limit h) worked half =
    halted s w.past worked.run worked.ends h limit (half.0 ∙ worked.cluster) worked.within
    (subst (λ c. StopsBefore c (round c w.past) h.past limit) worked.cluster half.1)
half-closed s w faults.NoMemory worked half = tt

pub halted-run : (s : Scripted) (w : Story) (limit : Which) → IsWorked s w (Some limit) → IsHaltedRun s limit w
halted-run s w limit worked = record { cluster = worked.cluster; unfinished = inl worked.run; could_pass = worked.ends }

pub half-closed-all : (w : Story) (stopped : Option Which) (r : Result Finished WorkersFault) → stopped ≡ None → IfErr r (IsHalfClosed w) → IfErr r (λ f. (s : Scripted) → IsWorked s w stopped → IsWorkersFault s f)
half-closed-all w stopped (Ok f) is half = tt
half-closed-all w stopped (Err f) is half = λ s worked. half-closed s w f (subst (IsWorked s w) is worked) half
