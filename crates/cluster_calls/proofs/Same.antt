-- Calls, one after another, leave all else of a pass the same.
use Rattle.std.proofs.Common.{◌∙◌, ap}
use Rattle.cluster_calls.specs.Calling.{IsSame, Knows}

pub same-then : (old mid new : Knows) → IsSame old mid → IsSame mid new → IsSame old new
same-then old mid new first later = later ∙ ap (λ (p : Knows). record p { seen = new.seen; own = new.own }) first
