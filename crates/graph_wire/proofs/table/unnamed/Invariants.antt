use Rattle.std.proofs.Common.{◌≡◌, ◌+◌, ◌*◌, List, drop}
use Rattle.crgc_ids.specs.Actor.{Actor}
use Rattle.wire_grammar.specs.Reading.{unnamed}
use Rattle.graph_wire.specs.Marks.{actors_of, AreNamed}
use Rattle.graph_wire.proofs.table.unnamed.Given as goal

abbrev pub invariant-loop-i : goal.invariant-loop-i
invariant-loop-i l =
    (names : List Actor) → AreNamed names l.table → unnamed names (l.first + 5 * l.i) (actors_of (drop l.i l.table)) ≡ unnamed names l.first (actors_of l.table)
