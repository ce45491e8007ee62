-- A journal is read line by line, up to what its lines tell.
use Rattle.std.proofs.Common.{◌≡◌, ◌<◌, ◌^◌, ◌+◌, ◌==◌, ℕ, Bool, true, false, if◌then◌else◌, List, [], ◌∷◌, ◌++◌, length, map, Option, None, Result, Ok, Err, refl, sym, ◌∙◌, ap, subst}
use Rattle.std.proofs.lemmas.Bool.{and_from, eq-eqb}
use Rattle.std.proofs.lemmas.Slice.Eq.{bytes_eq-Decides}
use Rattle.std.specs.List.{AllByRecursion}
use Rattle.crgc_ids.specs.Nodes.{nodes_below}
use Rattle.crgc_ids.specs.declared.Which.{Which}
use Rattle.history_model.specs.declared.events.Event.{Event}
use Rattle.history_model.specs.declared.events.Rule.{Rule}
use Rattle.history_model.specs.declared.records.Stop.{Stop}
use Rattle.history_model.specs.Cluster.{Cluster}
use Rattle.history_model.specs.Folds.{cut_at, folded, lost_of}
use Rattle.history_model.specs.Legal.{refusal}
use Rattle.history_model.specs.Sweeps.{stops_of}
use Rattle.journal_model.specs.declared.lines.Line.TheVariants as lines
use Rattle.journal_model.specs.Journals.{Fault, Replay, after_line, after_lines, after_read, after_told, allowed, at_line, differs, due_after}
use Rattle.journal_model.specs.Limits.{limit_passed}
use Rattle.journal_model.specs.Lines.{IsPrintableCut, IsPrintableStop, IsWithinRanges, event_line, spell, spelling, stop_words, end_words}
use Rattle.journal_model.specs.Report.{stopped_total, verdict_lines}
use Rattle.event_lines.proofs.FreeLaws.{spelling-free}
use Rattle.event_lines.proofs.LinesLaws.{spelling-read}
use Rattle.event_lines.proofs.PiecesLaws.{IsFreeOf}

-- these events were read, these lines are due, and an end line came or not
abbrev pub reading : List Event → List (List ℕ) → Bool → Replay
reading past due ended = record { past = past; due = due; ended = ended }

-- the line has no line feed, and with it what was read becomes this
pub record IsReadOn (cl : Cluster) (r : Replay) (line : List ℕ) (next : Replay) : Type 0 where
  pub free : IsFreeOf 10 line
  pub reads : after_line cl r line ≡ Ok next

-- so it is with each of the lines, one after the other
abbrev pub AreReadOn : Cluster → Replay → List (List ℕ) → Replay → Type 0
AreReadOn cl r [] last = r ≡ last
AreReadOn cl r (line ∷ rest) last = (next : Replay) × IsReadOn cl r line next × AreReadOn cl next rest last

-- ---- lines after lines

pub read-append : (cl : Cluster) (r mid last : Replay) (xs ys : List (List ℕ)) → AreReadOn cl r xs mid → AreReadOn cl mid ys last → AreReadOn cl r (xs ++ ys) last
read-append cl r mid last [] ys first later = subst (λ (q : Replay). AreReadOn cl q ys last) (sym first) later
read-append cl r mid last (x ∷ xs) ys first later = (first.0, first.1, read-append cl first.0 mid last xs ys first.2 later)

pub read-free : (cl : Cluster) (r last : Replay) (xs : List (List ℕ)) → AreReadOn cl r xs last → AllByRecursion (IsFreeOf 10) xs
read-free cl r last [] read = tt
read-free cl r last (x ∷ xs) read = (read.1.free, read-free cl read.0 last xs read.2)

-- whatever the number of the first line is
pub read-lines : (cl : Cluster) (r last : Replay) (xs : List (List ℕ)) → AreReadOn cl r xs last → (n : ℕ) → after_lines cl n r xs ≡ Ok last
read-lines cl r last [] read n = ap Ok read
read-lines cl r last (x ∷ xs) read n =
    ap (λ a. at_line n a (λ next. after_lines cl (n + 1) next xs)) read.1.reads ∙ read-lines cl read.0 last xs read.2 (n + 1)

-- ---- one line

-- an event that breaks no rule and passes no limit
pub event-read : (cl : Cluster) (e : Event) (p : List Event) (due : List (List ℕ)) → IsWithinRanges e → refusal cl e p ≡ None → limit_passed cl e p ≡ None → IsReadOn cl (reading p due false) (event_line e) (reading (e ∷ p) (due_after cl e p) false)
event-read cl e p due ranges legal within = record {
  free = spelling-free (lines.Event e) ranges;
  reads =
      ap (after_read cl (reading p due false) (event_line e)) (spelling-read (lines.Event e) ranges)
      ∙ ap (λ (broken : Option Rule). allowed broken (limit_passed cl e p) (reading (e ∷ p) (due_after cl e p) false)) legal
      ∙ ap (λ (passed : Option Which). allowed None passed (reading (e ∷ p) (due_after cl e p) false)) within;
}

-- the first line that is due
due-same : (p : List Event) (first : List ℕ) (later : List (List ℕ)) → after_told (reading p (first ∷ later) false) (first ∷ later) first ≡ Ok (reading p later false)
due-same p first later =
    let choose : Bool → Result Replay Fault = λ b. if b then Ok (reading p later false) else Err differs in
    ap choose ((bytes_eq-Decides first first).1 refl)

cut-read : (cl : Cluster) (p : List Event) (m : ℕ) (counts lost : List ℕ) (later : List (List ℕ)) → IsPrintableCut m counts lost → IsReadOn cl (reading p (spelling (lines.Cut m counts lost) ∷ later) false) (spelling (lines.Cut m counts lost)) (reading p later false)
cut-read cl p m counts lost later fits = record {
  free = spelling-free (lines.Cut m counts lost) fits;
  reads =
      ap (after_read cl (reading p (spelling (lines.Cut m counts lost) ∷ later) false) (spelling (lines.Cut m counts lost))) (spelling-read (lines.Cut m counts lost) fits)
      ∙ due-same p (spelling (lines.Cut m counts lost)) later;
}

stop-read : (cl : Cluster) (p : List Event) (m : ℕ) (s : Stop) (later : List (List ℕ)) → IsPrintableStop m s → IsReadOn cl (reading p (spelling (lines.Stop m s) ∷ later) false) (spelling (lines.Stop m s)) (reading p later false)
stop-read cl p m s later fits = record {
  free = spelling-free (lines.Stop m s) fits;
  reads =
      ap (after_read cl (reading p (spelling (lines.Stop m s) ∷ later) false) (spelling (lines.Stop m s))) (spelling-read (lines.Stop m s) fits)
      ∙ due-same p (spelling (lines.Stop m s)) later;
}

-- the end, with its counts
pub end-read : (cl : Cluster) (p : List Event) (due : List (List ℕ)) → length p < 2 ^ 32 → stopped_total cl p < 2 ^ 32 → IsReadOn cl (reading p due false) (spell (end_words (length p) (stopped_total cl p))) (reading p due true)
end-read cl p due events stopped =
    let choose : Bool → Result Replay Fault = λ b. if b then Ok (reading p due true) else Err differs in
    let same = and_from (length p == length p) (stopped_total cl p == stopped_total cl p) (eq-eqb (length p) (length p) refl) (eq-eqb (stopped_total cl p) (stopped_total cl p) refl) in
    record {
      free = spelling-free (lines.End (length p) (stopped_total cl p)) (events, stopped);
      reads =
          ap (after_read cl (reading p due false) (spelling (lines.End (length p) (stopped_total cl p)))) (spelling-read (lines.End (length p) (stopped_total cl p)) (events, stopped))
          ∙ ap choose same;
    }

-- ---- the lines of a verdict

stops-read : (cl : Cluster) (p : List Event) (m : ℕ) (stops : List Stop) → AllByRecursion (IsPrintableStop m) stops → AreReadOn cl (reading p (map (λ s. spell (stop_words m s)) stops) false) (map (λ s. spell (stop_words m s)) stops) (reading p [] false)
stops-read cl p m [] fits = refl
stops-read cl p m (s ∷ stops) fits =
    let later : List (List ℕ) = map (λ t. spell (stop_words m t)) stops in
    (reading p later false, stop-read cl p m s later fits.0, stops-read cl p m stops fits.1)

-- they are due after a sweep of m, and none is due after them
pub verdict-read : (cl : Cluster) (m : ℕ) (p q : List Event) → IsPrintableCut m (map (cut_at cl m p) (nodes_below cl.nodes)) (lost_of cl (folded cl m p)) → AllByRecursion (IsPrintableStop m) (stops_of cl m p)
    → AreReadOn cl (reading q (verdict_lines cl m p) false) (verdict_lines cl m p) (reading q [] false)
verdict-read cl m p q cut stops =
    let later : List (List ℕ) = map (λ s. spell (stop_words m s)) (stops_of cl m p) in
    (reading q later false, cut-read cl q m (map (cut_at cl m p) (nodes_below cl.nodes)) (lost_of cl (folded cl m p)) later cut, stops-read cl q m (stops_of cl m p) stops)
