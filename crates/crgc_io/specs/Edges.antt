-- What a source or a sink over std has inside.
use Rattle.std.specs.Prelude.{ℕ, Bool, List}
use Rattle.crgc_io.specs.declared.edges.StdSource.{StdSource}
use Rattle.crgc_io.specs.declared.edges.StdSink.{StdSink}

abbrev pub source_inner : {R : Type 0} → StdSource R → R
source_inner s = s.inner

abbrev pub source_given : {R : Type 0} → StdSource R → List ℕ
source_given s = s.given

abbrev pub source_ended : {R : Type 0} → StdSource R → Bool
source_ended s = s.ended

abbrev pub source_faults : {R : Type 0} → StdSource R → ℕ
source_faults s = s.faults

abbrev pub sink_inner : {W : Type 0} → StdSink W → W
sink_inner s = s.inner

abbrev pub sink_taken : {W : Type 0} → StdSink W → List ℕ
sink_taken s = s.taken

abbrev pub sink_faults : {W : Type 0} → StdSink W → ℕ
sink_faults s = s.faults
