use Rattle.std.proofs.Common.{◌≡◌, reverse}
use Rattle.quiet_check.specs.Plain.{all_below, is_folded}
use Rattle.quiet_check.proofs.streams.are_streams_folded.Given as goal

abbrev pub invariant-loop-origin : goal.invariant-loop-origin
invariant-loop-origin l = l.folded ≡ all_below (is_folded l.to (reverse l.events)) l.origin
