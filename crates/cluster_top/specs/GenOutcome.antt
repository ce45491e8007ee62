-- What `gen` comes to: the status, and the text that is then to be written.
use Rattle.std.specs.Prelude.{ℕ, ◌≡◌, List}
use Rattle.workload_gen.specs.Texts.{workload_text}
use Rattle.cluster_top.specs.declared.status.Status.{Status}
use Rattle.cluster_top.specs.declared.status.Status.TheVariants.{Done, NoMemory}
use Rattle.cluster_top.specs.FaultLines.{memory_line}

-- the source is as it was, and the text is that of the script, or memory ran out
abbrev pub GenCameTo : {S : Type 0} → (old new : S) (seed size : ℕ) → Status → List ℕ → Type 0
GenCameTo old new seed size Done text = (new ≡ old) × (text ≡ workload_text seed size)
GenCameTo old new seed size NoMemory text = (new ≡ old) × (text ≡ memory_line)
GenCameTo old new seed size _ text = ⊥
