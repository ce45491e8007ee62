-- The text that is written, and the script that it stands for.
use Rattle.std.proofs.Common.{◌≡◌, ◌≤◌, ◌%◌, ℕ, List, IsUtf8, ap, ◌∙◌, arith}
use Rattle.serde_json.specs.Read.{read}
use Rattle.script_reader.specs.Scripts.{StandsFor}
use Rattle.workload_gen.specs.Makers.{makers}
use Rattle.workload_gen.specs.Scripts.{workload_script}
use Rattle.workload_gen.specs.Texts.{pieces, workload_text}
use Rattle.workload_gen.specs.Trees.{tree}
use Rattle.workload_gen.proofs.MakersLemmas.{length-makers}
use Rattle.workload_gen.proofs.ScriptLaws.{tree-stands}
use Rattle.workload_gen.proofs.TreeLaws.{makers-fit, pieces-text, tree-read}

pub pieces-are-text : (seed size : ℕ) → pieces (makers (seed % 65536) size) ≡ workload_text seed size
unfolding workload_text
pieces-are-text seed size = pieces-text (makers (seed % 65536) size)

pub pieces-stand : (seed size : ℕ) (t : List ℕ) → size ≤ 10000 → t ≡ pieces (makers (seed % 65536) size) → IsUtf8 t → StandsFor t (workload_script seed size)
unfolding workload_script makers
pieces-stand seed size t h is utf8 =
    let x = seed % 65536 in
    let ms = makers x size in
    let len = length-makers x size in
    let fit = makers-fit 16 0 x size h in
    (tree ms, (utf8, ap read (is ∙ pieces-text ms) ∙ tree-read ms (omega (arith, len)) fit), tree-stands ms len fit)
