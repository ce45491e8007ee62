-- What a journal tells may be told.
use Rattle.std.proofs.Common.{◌≡◌, ◌+◌, ℕ, Bool, true, false, if◌then◌else◌, nat_lt, List, [], ◌∷◌, length, Option, Some, None, Result, Ok, Err, refl}
use Rattle.std.specs.Str.{bytes_eq}
use Rattle.crgc_ids.specs.declared.Which.{Which}
use Rattle.crgc_ids.specs.declared.Which.TheVariants.{Input}
use Rattle.history_model.specs.declared.events.Event.{Event}
use Rattle.history_model.specs.declared.events.Rule.{Rule}
use Rattle.history_model.specs.Cluster.{Cluster}
use Rattle.history_model.specs.Legal.{IsLegal, refusal}
use Rattle.history_model.specs.Story.{Story}
use Rattle.journal_model.specs.declared.lines.Line.{Line}
use Rattle.journal_model.specs.declared.lines.Line.TheVariants as lines
use Rattle.journal_model.specs.declared.lines.LineFault.{LineFault}
use Rattle.journal_model.specs.Journals.{Fault, Replay, after_end, after_header, after_line, after_lines, after_read, after_said, after_told, allowed, at_line, differs, due_after, header_of, journal_lines, journal_of, limit, told_of}
use Rattle.journal_model.specs.Limits.{limit_passed}
use Rattle.journal_model.specs.Lines.{AreWithinRanges, IsPrintable, IsWithinRanges, lines_of}
use Rattle.journal_model.specs.Reading.{read_line}
use Rattle.event_lines.proofs.ClusterHeaders.{header_of-cluster}
use Rattle.event_lines.proofs.LinesLaws.{read-spelling}
use Rattle.event_lines.proofs.ShapesLaws.{made}
use Rattle.run_model.specs.Schedule.{IsWithinLimits}
use Rattle.replay_laws.specs.Tellable.{IsClusterInRange, IsTellable}

-- the history that was read is as a journal's has to be
record IsReadSo (cl : Cluster) (p : List Event) : Type 0 where
  legal : IsLegal cl p
  ranges : AreWithinRanges p
  limits : IsWithinLimits cl p

-- ---- one line

module _ (cl : Cluster) (r next : Replay) (so : IsReadSo cl r.past) where
  abbrev Goal : Replay → Type 0
  Goal q = IsReadSo cl q.past

  event-so : (e : Event) → IsWithinRanges e → (broken : Option Rule) (passed : Option Which) → refusal cl e r.past ≡ broken → limit_passed cl e r.past ≡ passed
      → allowed broken passed (record { past = e ∷ r.past; due = due_after cl e r.past; ended = false }) ≡ Ok next → Goal next
  event-so e ranges (Some rule) passed legal within is = absurd (cc)
  event-so e ranges None (Some which) legal within is = absurd (cc)
  event-so e ranges None None legal within is =
      made Goal (record { past = e ∷ r.past; due = due_after cl e r.past; ended = false }) next is
      (record { legal = (legal, so.legal); ranges = (ranges, so.ranges); limits = (within, so.limits) })

  told-so : (due : List (List ℕ)) (line : List ℕ) → after_told r due line ≡ Ok next → Goal next
  told-so [] line is = absurd (cc)
  told-so (first ∷ later) line is = chosen (bytes_eq line first) is
    where
      chosen : (b : Bool) → (if b then Ok (record r { due = later }) else Err differs) ≡ Ok next → Goal next
      chosen true same = made Goal (record r { due = later }) next same so
      chosen false other = absurd (cc)

  counts-so : (b : Bool) → (if b then Ok (record r { ended = true }) else Err differs) ≡ Ok next → Goal next
  counts-so true same = made Goal (record r { ended = true }) next same so
  counts-so false other = absurd (cc)

  said-so : (line : List ℕ) (l : Line) → IsPrintable l → after_said cl r line l ≡ Ok next → Goal next
  said-so line (lines.Event e) fits is = event-so e fits (refusal cl e r.past) (limit_passed cl e r.past) refl refl is
  said-so line (lines.Cut m counts lost) fits is = told-so r.due line is
  said-so line (lines.Stop m stop) fits is = told-so r.due line is
  said-so line (lines.End events stopped) fits is = counts-so _ is

  read-so : (line : List ℕ) (read : Result Line LineFault) → read_line line ≡ read → after_read cl r line read ≡ Ok next → Goal next
  read-so line (Err fault) reads is = absurd (cc)
  read-so line (Ok l) reads is = chosen r.ended is
    where
      chosen : (b : Bool) → (if b then Err after_end else after_said cl r line l) ≡ Ok next → Goal next
      chosen true late = absurd (cc)
      chosen false said = said-so line l (read-spelling line l reads).0 said

-- ---- all lines

lines-so : (cl : Cluster) (n : ℕ) (r last : Replay) (xs : List (List ℕ)) → IsReadSo cl r.past → after_lines cl n r xs ≡ Ok last → IsReadSo cl last.past
lines-so cl n r last [] so is = made (λ (q : Replay). IsReadSo cl q.past) r last is so
lines-so cl n r last (line ∷ rest) so is = chosen (λ next. lines-so cl (n + 1) next last rest) (after_line cl r line) refl is
  where
    chosen : ((next : Replay) → IsReadSo cl next.past → after_lines cl (n + 1) next rest ≡ Ok last → IsReadSo cl last.past) → (next : Result Replay Fault) → after_line cl r line ≡ next
        → at_line n next (λ q. after_lines cl (n + 1) q rest) ≡ Ok last → IsReadSo cl last.past
    chosen later (Err fault) reads faulty = absurd (cc)
    chosen later (Ok next) reads goes_on = later next (read-so cl r next so line (read_line line) refl reads) goes_on

header-in_range : (first : List ℕ) (cl : Cluster) → header_of first ≡ Some cl → IsClusterInRange cl
header-in_range first cl header =
    let found = header_of-cluster first cl header in
    record { some_node = found.0; nodes = found.1; some_version = found.2; version = found.3 }

header-so : (first : List ℕ) (rest : List (List ℕ)) (s : Story) (o : Option Cluster) → header_of first ≡ o → after_header o rest ≡ Ok s → IsTellable s.cluster s.past
header-so first rest s None header is = absurd (cc)
header-so first rest s (Some cl) header is = chosen (after_lines cl 2 (record { past = []; due = []; ended = false }) rest) refl is
  where
    chosen : (all : Result Replay (ℕ × Fault)) → after_lines cl 2 (record { past = []; due = []; ended = false }) rest ≡ all → told_of cl all ≡ Ok s → IsTellable s.cluster s.past
    chosen (Err fault) reads told = absurd (cc)
    chosen (Ok last) reads told =
        let so = lines-so cl 2 (record { past = []; due = []; ended = false }) last rest (record { legal = tt; ranges = tt; limits = tt }) reads in
        made (λ (t : Story). IsTellable t.cluster t.past) (record { cluster = cl; past = last.past }) s told
        (record { cluster = header-in_range first cl header; legal = so.legal; ranges = so.ranges; limits = so.limits })

lines_of-so : (ls : List (List ℕ)) (s : Story) → journal_lines ls ≡ Ok s → IsTellable s.cluster s.past
lines_of-so [] s is = absurd (cc)
lines_of-so (first ∷ rest) s is = header-so first rest s (header_of first) refl is

-- what a journal tells may be told
pub journal-tellable : (text : List ℕ) (s : Story) → journal_of text ≡ Ok s → IsTellable s.cluster s.past
journal-tellable text s is = chosen (nat_lt 16777216 (length text)) is
  where
    chosen : (b : Bool) → (if b then Err (0, limit Input) else journal_lines (lines_of text)) ≡ Ok s → IsTellable s.cluster s.past
    chosen true long = absurd (cc)
    chosen false short = lines_of-so (lines_of text) s short
