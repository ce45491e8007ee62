use Rattle.std.proofs.Common.{sym, ◌∙◌}
use Rattle.collector.proofs.TakeLemmas.{read_accepted, read_fault, read_foreign, read_trailing}
use Rattle.collector.proofs.read.read_whole.Goals as goal

pub returns-in-Err-clause-refused : goal.returns-in-Err-clause-refused
returns-in-Err-clause-refused c =
    rw c.take_fault.ensures (read_fault c.args.nodes c.args.origin c.args.bytes.now c.in-Err.fault c.in-Err.ensures.exact)

pub returns-then-len-bytes-clause-refused : goal.returns-then-len-bytes-clause-refused
returns-then-len-bytes-clause-refused c =
    read_trailing c.args.nodes c.args.origin c.args.bytes.now c.in-Ok.read c.in-Ok.ensures.exact c.if-len-bytes.true

pub returns-then-is_foreign-clause-refused : goal.returns-then-is_foreign-clause-refused
returns-then-is_foreign-clause-refused c =
    read_foreign c.args.nodes c.args.origin c.args.bytes.now c.in-Ok.read c.in-Ok.ensures.exact c.if-len-bytes.false (sym c.is_foreign.ensures ∙ c.if-is_foreign.true)

pub returns-clause-read : goal.returns-clause-read
returns-clause-read c =
    read_accepted c.args.nodes c.args.origin c.args.bytes.now c.in-Ok.read c.in-Ok.ensures.exact c.if-len-bytes.false (sym c.is_foreign.ensures ∙ c.if-is_foreign.false)
