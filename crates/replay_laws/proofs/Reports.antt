-- The report of a history is a journal that tells it.
use Rattle.std.proofs.Common.{◌≡◌, ◌≤◌, ℕ, Bool, true, false, if◌then◌else◌, nat_lt, List, [], ◌∷◌, ◌++◌, length, Option, Result, Ok, Err, refl, ◌∙◌, ap, arith}
use Rattle.std.proofs.lemmas.Bool.Decides.{nat_tests}
use Rattle.crgc_ids.specs.declared.Which.TheVariants.{Input}
use Rattle.history_model.specs.declared.events.Event.{Event}
use Rattle.history_model.specs.declared.events.Event.TheVariants.{Sweep}
use Rattle.history_model.specs.Cluster.{Cluster}
use Rattle.history_model.specs.Legal.{IsLegal}
use Rattle.history_model.specs.Story.{Story}
use Rattle.journal_model.specs.Journals.{Fault, after_header, journal_lines, journal_of, limit, told_of}
use Rattle.journal_model.specs.Lines.{event_line, header_line, lines_of, spell, end_words}
use Rattle.journal_model.specs.Report.{stopped_total, told_lines, verdict_lines}
use Rattle.journal_model.specs.Verdicts.{report_text}
use Rattle.event_lines.proofs.ClusterHeaders.{header_of-header}
use Rattle.event_lines.proofs.FreeLaws.{header_line-free}
use Rattle.evidence_report.proofs.Totals.{births-within, stopped-within}
use Rattle.replay_laws.specs.Tellable.{IsTellable, IsWithinInput}
use Rattle.replay_laws.proofs.LimitLemmas.{events-few}
use Rattle.replay_laws.proofs.PrintedVerdicts.{cut-printable, stops-printable}
use Rattle.replay_laws.proofs.ReadingOn.{AreReadOn, end-read, event-read, read-append, read-free, read-lines, reading, verdict-read}
use Rattle.replay_laws.proofs.TextLines.{lines_of-text}

-- what came before may be told too
before-tellable : (cl : Cluster) (e : Event) (p : List Event) → IsTellable cl (e ∷ p) → IsTellable cl p
before-tellable cl e p tellable = record {
  cluster = tellable.cluster;
  legal = tellable.legal.1;
  ranges = tellable.ranges.1;
  limits = tellable.limits.1;
}

-- the events are read, each with the lines of its verdict
told-read : (cl : Cluster) (h : List Event) → IsTellable cl h → AreReadOn cl (reading [] [] false) (told_lines cl h) (reading h [] false)
told-read cl [] tellable = refl
told-read cl (Sweep m ∷ p) tellable =
    let before = before-tellable cl (Sweep m) p tellable in
    let earlier = told-read cl p before in
    let event = event-read cl (Sweep m) p [] tellable.ranges.0 tellable.legal.0 tellable.limits.0 in
    let cut = cut-printable cl m p before.cluster before.limits tellable.ranges.0 in
    let stops = stops-printable cl m p before.cluster before.legal before.limits tellable.ranges.0 in
    read-append cl (reading [] [] false) (reading p [] false) (reading (Sweep m ∷ p) [] false) (told_lines cl p) (event_line (Sweep m) ∷ verdict_lines cl m p)
    earlier (reading (Sweep m ∷ p) (verdict_lines cl m p) false, event, verdict-read cl m p (Sweep m ∷ p) cut stops)
told-read cl (e ∷ p) tellable =
    read-append cl (reading [] [] false) (reading p [] false) (reading (e ∷ p) [] false) (told_lines cl p) (event_line e ∷ [])
    (told-read cl p (before-tellable cl e p tellable))
    (reading (e ∷ p) [] false, event-read cl e p [] tellable.ranges.0 tellable.legal.0 tellable.limits.0, refl)

-- no more actors are stopped than there are events
stops-few : (cl : Cluster) (h : List Event) → IsLegal cl h → stopped_total cl h ≤ length h
stops-few cl h legal = omega (arith, stopped-within cl h legal, births-within h cl.nodes)

-- the lines after the header
abbrev after_first : Cluster → List Event → List (List ℕ)
after_first cl h = told_lines cl h ++ spell (end_words (length h) (stopped_total cl h)) ∷ []

report-read : (cl : Cluster) (h : List Event) → IsTellable cl h → AreReadOn cl (reading [] [] false) (after_first cl h) (reading h [] true)
report-read cl h tellable =
    let events = events-few cl h tellable.limits in
    let stops = stops-few cl h tellable.legal in
    read-append cl (reading [] [] false) (reading h [] false) (reading h [] true) (told_lines cl h) (spell (end_words (length h) (stopped_total cl h)) ∷ [])
    (told-read cl h tellable) (reading h [] true, end-read cl h [] (omega (arith, events)) (omega (arith, events, stops)), refl)

-- a text within the input limit is read by its lines
journal-short : (text : List ℕ) → IsWithinInput text → journal_of text ≡ journal_lines (lines_of text)
journal-short text short =
    let test : nat_lt 16777216 (length text) ≡ false = grind (arith, nat_tests, short) in
    let choose : Bool → Result Story (ℕ × Fault) = λ b. if b then Err (0, limit Input) else journal_lines (lines_of text) in
    ap choose test

-- the report tells its history
pub report-told : (cl : Cluster) (h : List Event) → IsTellable cl h → IsWithinInput (report_text cl h false) → journal_of (report_text cl h false) ≡ Ok (let s : Story = record { cluster = cl; past = h } in s)
report-told cl h tellable short =
    let range = tellable.cluster in
    let rest = after_first cl h in
    let read = report-read cl h tellable in
    let lines = lines_of-text (header_line cl ∷ rest) (header_line-free cl range.nodes range.version, read-free cl (reading [] [] false) (reading h [] true) rest read) in
    journal-short (report_text cl h false) short
    ∙ ap journal_lines lines
    ∙ ap (λ (o : Option Cluster). after_header o rest) (header_of-header cl range.some_node range.nodes range.some_version range.version)
    ∙ ap (told_of cl) (read-lines cl (reading [] [] false) (reading h [] true) rest read 2)
