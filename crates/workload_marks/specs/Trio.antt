-- How the collectors of one node stand and change.
use Rattle.std.specs.Prelude.{◌≡◌, ℕ, List}
use Rattle.history_model.specs.declared.records.Verdict.{Verdict}
use Rattle.journal_model.specs.Lines.{text_of}
use Rattle.cluster_course.specs.Due.{lines_of_verdict}
use Rattle.collector.specs.Collected.{IsNew, IsSettled}
use Rattle.collector.specs.Sweeping.{Sweeps}
use Rattle.collector.specs.Taking.{IsTaken, Takes}
use Rattle.workload_marks.specs.declared.collectors.Collectors.{Collectors}
use Rattle.workload_marks.specs.declared.collectors.Verdicts.{Verdicts}

-- nothing was given to them
pub record AreNew (node nodes : ℕ) (c : Collectors) : Type 0 where
  pub watched : IsNew node nodes c.watched
  pub plain : IsNew node nodes c.plain
  pub rounds : IsNew node nodes c.rounds

-- those that sweep have folded all that they can
abbrev pub AreSettled : Collectors → Type 0
AreSettled c = IsSettled c.plain × IsSettled c.rounds

-- all take the bytes under the origin's number
pub record TakeIn (origin number : ℕ) (bytes : List ℕ) (old new : Collectors) : Type 0 where
  pub watched : Takes origin number bytes old.watched new.watched
  pub plain : Takes origin number bytes old.plain new.plain
  pub rounds : Takes origin number bytes old.rounds new.rounds
  pub is_watched : IsTaken origin number new.watched
  pub is_plain : IsTaken origin number new.plain
  pub is_rounds : IsTaken origin number new.rounds

-- the last two sweep, and find this
pub record SweepBoth (old new : Collectors) (found : Verdicts) : Type 0 where
  pub watched : new.watched ≡ old.watched
  pub plain : Sweeps old.plain new.plain found.plain
  pub rounds : Sweeps old.rounds new.rounds found.rounds

-- the cut line and the stop lines of a verdict
abbrev pub verdict_text : ℕ → Verdict → List ℕ
verdict_text nodes v = text_of (lines_of_verdict nodes v)
