use Rattle.std.proofs.Common.{◌∙◌}
use Rattle.behaviour_lang.specs.Held.{names_of}
use Rattle.behaviour_lang.proofs.NameLaws.{first-bind}
use Rattle.behaviour_lang.proofs.turn.Turn.born.Goals.{in-Some+in-Ok, in_default}
use Rattle.behaviour_lang.proofs.turn.Turn.born.Goals as goal

-- no message name is bound by a birth
pub invariant_of-self-2 : goal.invariant_of-self-2
invariant_of-self-2 c = record {
  end = elim c.match-self.branch [
    | in-Some+in-Ok w ↦ rw w.self-inside-is (λ e. rw w.in-Ok.ensures.ok (first-bind w.in-Some.name c.args.child (names_of c.self.inside.run.names) ∙ c.self.invariant.end e))
    | in_default w ↦ rw w.self-inside-is c.self.invariant.end
  ];
  owed = tt;
}
