-- The order of rows, as a comparison: by actor, and of pairs by owner, then by target.
use Rattle.std.specs.Ordering.{nat_cmp, ordering_then}
use Rattle.std.specs.declared.cmp.Ordering.{Ordering}
use Rattle.crgc_ids.specs.Actor.{Actor}

-- actors are compared by node, then by serial
abbrev pub compare_actors : Actor → Actor → Ordering
compare_actors a b = ordering_then (nat_cmp a.node b.node) (nat_cmp a.serial b.serial)

-- pairs are compared by owner, then by target
abbrev pub compare_pairs : Actor × Actor → Actor × Actor → Ordering
compare_pairs p q = ordering_then (compare_actors p.0 q.0) (compare_actors p.1 q.1)
