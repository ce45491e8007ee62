use Rattle.std.proofs.Common.{◌≡◌, drop}
use Rattle.behaviour_lang.specs.Held.{names_of}
use Rattle.behaviour_lang.specs.Turn.{bound_all}
use Rattle.behaviour_lang.proofs.HeldLaws.{found_before}
use Rattle.behaviour_lang.proofs.bound.BoundNames.find_all.Given as goal

-- what was found comes before what is found of the later names
abbrev pub invariant-loop-name : goal.invariant-loop-name
invariant-loop-name l = bound_all l.name-items (names_of l.self) ≡ found_before l.refs (bound_all (drop l.name-index l.name-items) (names_of l.self))
