use Rattle.serde_json.specs.View.{view}
use Rattle.script_reader.proofs.DraftLaws.{draft-sound}
use Rattle.script_reader.proofs.KeptLaws.{script-kept}
use Rattle.script_reader.proofs.read.script.Goals as goal

pub numbered-requires : goal.numbered-requires
numbered-requires c = draft-sound (view c.args.value.now) c.in_ok-draft.draft c.in_ok-draft.ensures

pub returns-clause-keeps : goal.returns-clause-keeps
returns-clause-keeps c = script-kept (view c.args.value.now) c.in_ok-draft.draft c.numbered.result c.in_ok-draft.ensures c.numbered.ensures
