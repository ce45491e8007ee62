use Rattle.std.proofs.Common.{refl, sym, ◌∙◌, ap}
use mathlib.Core.Bool.{true≢false}
use Rattle.behaviour_lang.specs.Held.{names_of}
use Rattle.behaviour_lang.specs.TurnState.{TurnState, is_spawn}
use Rattle.behaviour_lang.proofs.EndLaws.{step_stops_well, owed_unbound}
use Rattle.behaviour_lang.proofs.BirthLaws.{step-owes}
use Rattle.behaviour_lang.proofs.turn.Turn.next.Goals as goal

-- at the end no message name is bound
pub invariant_of-self : goal.invariant_of-self
invariant_of-self c =
    let well = step_stops_well c.instrs_of-instrs.result.now c.self.inside.run c.next.new.self c.in-Ok-End.field-0 c.in-Ok-End.ensures.ok in
    record { end = λ _. well.end (rw c.in-Ok-End.field-0-is refl); owed = owed_unbound c.next.new.self.owed (names_of c.next.new.self.names) well.owed }

-- the turn goes on
pub invariant_of-self-in-Ok : goal.invariant_of-self-in-Ok
invariant_of-self-in-Ok c =
    let well = step_stops_well c.instrs_of-instrs.result.now c.self.inside.run c.next.new.self c.in-Ok.step c.in-Ok.ensures.ok in
    record {
      end = λ e. absurd (true≢false (sym e ∙ ap (λ (t : TurnState). t.ended) c.self.view_is ∙ c.requires.running));
      owed = owed_unbound c.next.new.self.owed (names_of c.next.new.self.names) well.owed;
    }

pub invariant_of-self-in-Err : goal.invariant_of-self-in-Err
invariant_of-self-in-Err c = record {
  end = λ e. absurd (true≢false (sym e ∙ ap (λ (t : TurnState). t.ended) c.self.view_is ∙ c.requires.running));
  owed = rw (c.in-Err.ensures.err, let e = ap (λ (t : TurnState). t.owed) c.self.view_is ∙ c.requires.none_owed in e) tt;
}

-- a birth is owed exactly after a spawn
pub returns-in-Ok-End-clause-owed : goal.returns-in-Ok-End-clause-owed
returns-in-Ok-End-clause-owed c =
    step-owes c.instrs_of-instrs.result.now c.self.inside.run c.next.new.self c.in-Ok-End.field-0 c.in-Ok-End.ensures.ok
    ∙ ap is_spawn c.in-Ok-End.field-0-is

pub returns-in-Ok-clause-owed : goal.returns-in-Ok-clause-owed
returns-in-Ok-clause-owed c = step-owes c.instrs_of-instrs.result.now c.self.inside.run c.next.new.self c.in-Ok.step c.in-Ok.ensures.ok
