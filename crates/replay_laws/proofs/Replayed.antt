-- The report of a journal tells what the journal tells.
use Rattle.std.proofs.Common.{◌≡◌, ℕ, Bool, false, List, Result, Ok, ap}
use Rattle.history_model.specs.Story.{Story}
use Rattle.journal_model.specs.Journals.{Fault, journal_of}
use Rattle.journal_model.specs.Verdicts.{report_text}
use Rattle.replay_laws.specs.Tellable.{IsWithinInput}
use Rattle.replay_laws.proofs.Reports.{report-told}
use Rattle.replay_laws.proofs.Telling.{journal-tellable}

-- the report of what a journal tells
abbrev report : Story → List ℕ
report s = report_text s.cluster s.past false

pub replayed-same : (text : List ℕ) (s : Story) → journal_of text ≡ Ok s → IsWithinInput (report s) → journal_of (report s) ≡ Ok s
replayed-same text s is short = report-told s.cluster s.past (journal-tellable text s is) short

-- one result tells one history
told-once : (r : Result Story (ℕ × Fault)) (s t : Story) → r ≡ Ok s → r ≡ Ok t → t ≡ s
told-once r s t first second = cc

-- in full and in brief
pub replayed-itself : (text : List ℕ) (s t : Story) (brief : Bool) → journal_of text ≡ Ok s → IsWithinInput (report s) → journal_of (report s) ≡ Ok t
    → report_text t.cluster t.past brief ≡ report_text s.cluster s.past brief
replayed-itself text s t brief is short again =
    ap (λ (u : Story). report_text u.cluster u.past brief) (told-once (journal_of (report s)) s t (replayed-same text s is short) again)
