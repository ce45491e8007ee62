use Rattle.std.proofs.Common.{◌≡◌, drop}
use Rattle.behaviour_lang.specs.Held.{first_flag}
use Rattle.behaviour_lang.proofs.bound.first_flag.Given as goal

-- none of the first k references has its flag set
abbrev pub invariant-loop-k : goal.invariant-loop-k
invariant-loop-k l = first_flag 0 l.refs l.flags ≡ first_flag l.k (drop l.k l.refs) (drop l.k l.flags)
