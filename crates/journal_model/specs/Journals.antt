-- The history that a journal tells, or the fault of its first faulty line.
use Rattle.std.specs.Prelude.{ℕ, ◌+◌, ◌==◌, ◌&&◌, Bool, true, false, if◌then◌else◌, nat_lt, List, [], ◌∷◌, length, map, flat_map, Option, Some, None, Result, Ok, Err}
use Rattle.std.specs.List.{find, range_with_len}
use Rattle.std.specs.Str.{bytes_eq}
use Rattle.crgc_ids.specs.declared.Which.{Which}
use Rattle.crgc_ids.specs.declared.Which.TheVariants.{Input}
use Rattle.history_model.specs.declared.events.Event.{Event}
use Rattle.history_model.specs.declared.events.Event.TheVariants.{Sweep}
use Rattle.history_model.specs.declared.events.Rule.{Rule}
use Rattle.history_model.specs.Cluster.{Cluster}
use Rattle.history_model.specs.Legal.{refusal}
use Rattle.history_model.specs.Story.{Story}
use Rattle.journal_model.specs.declared.lines.Line.{Line}
use Rattle.journal_model.specs.declared.lines.Line.TheVariants as lines
use Rattle.journal_model.specs.declared.lines.LineFault.{LineFault}
use Rattle.journal_model.specs.Limits.{limit_passed}
use Rattle.journal_model.specs.Lines.{header_line, lines_of}
use Rattle.journal_model.specs.Reading.{read_line}
use Rattle.journal_model.specs.Report.{stopped_total, verdict_lines}
use Rattle.crgc_ids.specs.declared.limits.TheConstants.{MOST_BYTES}

-- what is wrong with a line of a journal
pub data Fault : Type 0 where
  -- the first line is no header
  header : Fault
  -- it is not spelled as its form asks
  spelling : LineFault → Fault
  -- it comes after an end line
  after_end : Fault
  -- its event breaks the rule
  rule : Rule → Fault
  -- its event passes the limit
  limit : Which → Fault
  -- it is a cut or a stop and not the line that is due, or an end whose counts are others
  differs : Fault

-- what was read before a line: the events, the lines that are due since the last sweep, and whether an end line came
pub record Replay : Type 0 where
  pub past : List Event
  pub due : List (List ℕ)
  pub ended : Bool

-- a sweep makes the lines of its verdict due, and any other event none
abbrev pub due_after : Cluster → Event → List Event → List (List ℕ)
due_after cl (Sweep m) p = verdict_lines cl m p
due_after cl _ p = []

-- what follows where no rule is broken and no limit is passed
abbrev pub allowed : Option Rule → Option Which → Replay → Result Replay Fault
allowed (Some broken) passed next = Err (rule broken)
allowed None (Some which) next = Err (limit which)
allowed None None next = Ok next

abbrev pub after_event : Cluster → Replay → Event → Result Replay Fault
after_event cl r e =
    allowed (refusal cl e r.past) (limit_passed cl e r.past)
    (record { past = e ∷ r.past; due = due_after cl e r.past; ended = false })

-- a cut or a stop is the first line that is due, which is then due no more
abbrev pub after_told : Replay → List (List ℕ) → List ℕ → Result Replay Fault
after_told r [] bytes = Err differs
after_told r (first ∷ later) bytes = if bytes_eq bytes first then Ok (record r { due = later }) else Err differs

-- an end has the counts so far
abbrev pub after_counts : Cluster → Replay → ℕ → ℕ → Result Replay Fault
after_counts cl r events stopped =
    if (events == length r.past) && (stopped == stopped_total cl r.past) then Ok (record r { ended = true }) else Err differs

abbrev pub after_said : Cluster → Replay → List ℕ → Line → Result Replay Fault
after_said cl r bytes (lines.Event e) = after_event cl r e
after_said cl r bytes (lines.Cut m counts lost) = after_told r r.due bytes
after_said cl r bytes (lines.Stop m stop) = after_told r r.due bytes
after_said cl r bytes (lines.End events stopped) = after_counts cl r events stopped

-- with what the next line says, or its first fault: of its spelling, of its place, and then of what it says
abbrev pub after_read : Cluster → Replay → List ℕ → Result Line LineFault → Result Replay Fault
after_read cl r bytes (Err fault) = Err (spelling fault)
after_read cl r bytes (Ok line) = if r.ended then Err after_end else after_said cl r bytes line

abbrev pub after_line : Cluster → Replay → List ℕ → Result Replay Fault
after_line cl r bytes = after_read cl r bytes (read_line bytes)

-- a fault is that of line n; without one, it goes on
abbrev pub at_line : ℕ → Result Replay Fault → (Replay → Result Replay (ℕ × Fault)) → Result Replay (ℕ × Fault)
at_line n (Err fault) more = Err (n, fault)
at_line n (Ok r) more = more r

-- after all lines, of which the first is line n
abbrev pub after_lines : Cluster → ℕ → Replay → List (List ℕ) → Result Replay (ℕ × Fault)
after_lines cl n r [] = Ok r
after_lines cl n r (bytes ∷ rest) = at_line n (after_line cl r bytes) (λ next. after_lines cl (n + 1) next rest)

-- the clusters of which a history may be told
abbrev pub clusters : List Cluster
clusters = flat_map (λ v. map (λ n. record { nodes = n; version = v }) (range_with_len 1 16)) (1 ∷ 2 ∷ [])

-- the cluster whose header the line is
abbrev pub header_of : List ℕ → Option Cluster
header_of bytes = find (λ cl. bytes_eq bytes (header_line cl)) clusters

abbrev pub told_of : Cluster → Result Replay (ℕ × Fault) → Result Story (ℕ × Fault)
told_of cl (Err fault) = Err fault
told_of cl (Ok r) = Ok (record { cluster = cl; past = r.past })

abbrev pub after_header : Option Cluster → List (List ℕ) → Result Story (ℕ × Fault)
after_header None rest = Err (1, header)
after_header (Some cl) rest = told_of cl (after_lines cl 2 (record { past = []; due = []; ended = false }) rest)

abbrev pub journal_lines : List (List ℕ) → Result Story (ℕ × Fault)
journal_lines [] = Err (1, header)
journal_lines (first ∷ rest) = after_header (header_of first) rest

-- the history that the text tells, or its first faulty line, counted from 1, and what is wrong with it; a text that is too long
-- is at fault as a whole, at line 0
abbrev pub journal_of : List ℕ → Result Story (ℕ × Fault)
journal_of text = if nat_lt MOST_BYTES (length text) then Err (0, limit Input) else journal_lines (lines_of text)
