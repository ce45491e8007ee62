-- The lines that tell why there is no report.
use Rattle.std.specs.Prelude.{ℕ, List, ◌++◌, codes, decimal}
use Rattle.crgc_ids.specs.declared.Which.{Which}
use Rattle.journal_model.specs.Lines.{line_of}
use Rattle.journal_player.specs.declared.fault.Cause.{Cause}
use Rattle.script_reader.specs.declared.fault.ScriptFault.{ScriptFault}
use Rattle.cluster_top.specs.Words.{cause_word, fault_words, limit_word}

abbrev pub usage_line : List ℕ
usage_line = line_of (codes "fault 2 usage")

-- the first fault of a script
abbrev pub script_line : ScriptFault → List ℕ
script_line fault = line_of (codes "fault 3 " ++ fault_words fault)

abbrev pub read_line : List ℕ
read_line = line_of (codes "fault 4 read")

abbrev pub limit_line : Which → List ℕ
limit_line which = line_of (codes "fault 6 limit " ++ limit_word which)

-- the first faulty line of a journal, and what is wrong with it
abbrev pub journal_line : ℕ → Cause → List ℕ
journal_line line cause = line_of (codes "fault 7 line " ++ (decimal line ++ (codes " " ++ cause_word cause)))

abbrev pub memory_line : List ℕ
memory_line = line_of (codes "fault 8 memory")
