use Rattle.std.proofs.Common.{sym, ◌∙◌}
use Rattle.script_reader.proofs.Trees.{has_only-keys}
use Rattle.script_reader.proofs.walk.object_at.Goals as goal

pub returns-then-has_only : goal.returns-then-has_only
returns-then-has_only c =
    rw (← c.in-Some.ensures, has_only-keys c.args.table.now c.in-Some.members.now.entries, sym c.has_only.ensures ∙ c.if-has_only.true)

pub returns-else-has_only : goal.returns-else-has_only
returns-else-has_only c =
    rw (← c.in-Some.ensures, has_only-keys c.args.table.now c.in-Some.members.now.entries, sym c.has_only.ensures ∙ c.if-has_only.false)
