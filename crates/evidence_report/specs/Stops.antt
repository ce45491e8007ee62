-- What verdicts say of stops.
use Rattle.std.specs.Prelude.{ℕ, List, length, sum_by}
use Rattle.history_model.specs.declared.records.Verdict.{Verdict}

-- how many actors the verdicts stop
abbrev pub stops_in : List Verdict → ℕ
stops_in verdicts = sum_by (λ v. length v.stops) verdicts
