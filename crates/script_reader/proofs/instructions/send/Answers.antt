use Rattle.std.proofs.Common.{sym, ◌∙◌}
use Rattle.serde_json.specs.View.{view}
use Rattle.script_reader.proofs.Trees.{list_all-map}
use Rattle.script_reader.specs.Instructions.{is_text, send_of}
use Rattle.script_reader.proofs.instructions.send.Goals as goal

pub returns-then-are_texts : goal.returns-then-are_texts
unfolding send_of
returns-then-are_texts c = rw (list_all-map is_text view c.args.operands.now, sym c.are_texts.ensures ∙ c.if-are_texts.true) c.send_to.ensures

pub returns-else-are_texts : goal.returns-else-are_texts
unfolding send_of
returns-else-are_texts c = rw (list_all-map is_text view c.args.operands.now, sym c.are_texts.ensures ∙ c.if-are_texts.false)
