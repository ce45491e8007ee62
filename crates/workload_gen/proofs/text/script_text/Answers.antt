use Rattle.std.proofs.lemmas.Str.{IsUtf8-string_bytes}
use Rattle.workload_gen.proofs.text.script_text.Goals as goal

pub returns-clause-utf8 : goal.returns-clause-utf8
returns-clause-utf8 c = IsUtf8-string_bytes c.push_str-2.new.self
