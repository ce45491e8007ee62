-- Whoever makes the steps of a turn one by one has made the turn.
use Rattle.std.proofs.Common.{◌≡◌, List, [], ◌∷◌, ◌++◌, refl, ◌∙◌, ap}
use Rattle.crgc_ids.specs.Actor.{Actor}
use Rattle.behaviour_lang.specs.Steps.{Left, next_step, after_step, after_birth, whole, step_by_step, before, IsMade}
use Rattle.behaviour_lang.specs.declared.act.Act.TheVariants as acts
use Rattle.behaviour_lang.specs.declared.act.Step.{Step}
use Rattle.behaviour_lang.specs.declared.act.Step.TheVariants as steps
use Rattle.behaviour_lang.proofs.StepLaws.{turn_is_its_next_step}

-- the turn, where its next step is known
stepping : (l : Left) (s : Step) (children : List Actor) → next_step l ≡ s → whole l children ≡ step_by_step s (after_step l) children
stepping l s children e = turn_is_its_next_step l.instrs l.names l.root children ∙ ap (λ s. step_by_step s (after_step l) children) e

pub steps_are_the_turn : (l : Left) (done : List Step) (born : List Actor) (now : Left) (more : List Actor) → IsMade l done born now → whole l (born ++ more) ≡ before done (whole now more)
steps_are_the_turn l [] born now more made = rw (made.0, made.1) refl
steps_are_the_turn l (steps.Act (acts.Spawn b) ∷ done) [] now more made = absurd made
steps_are_the_turn l (steps.Act (acts.Spawn b) ∷ done) (child ∷ born) now more made =
    stepping l (steps.Act (acts.Spawn b)) (child ∷ born ++ more) made.0 ∙ ap (before (steps.Act (acts.Spawn b) ∷ [])) (steps_are_the_turn (after_birth child (after_step l)) done born now more made.1)
steps_are_the_turn l (steps.Act (acts.Send to refs) ∷ done) born now more made =
    stepping l (steps.Act (acts.Send to refs)) (born ++ more) made.0 ∙ ap (before (steps.Act (acts.Send to refs) ∷ [])) (steps_are_the_turn (after_step l) done born now more made.2)
steps_are_the_turn l (steps.Act (acts.Drop a) ∷ done) born now more made =
    stepping l (steps.Act (acts.Drop a)) (born ++ more) made.0 ∙ ap (before (steps.Act (acts.Drop a) ∷ [])) (steps_are_the_turn (after_step l) done born now more made.2)
steps_are_the_turn l (steps.Act acts.Retire ∷ done) born now more made =
    stepping l (steps.Act acts.Retire) (born ++ more) made.0 ∙ ap (before (steps.Act acts.Retire ∷ [])) (steps_are_the_turn (after_step l) done born now more made.2)
steps_are_the_turn l (steps.Work k ∷ done) born now more made =
    stepping l (steps.Work k) (born ++ more) made.0 ∙ ap (before (steps.Work k ∷ [])) (steps_are_the_turn (after_step l) done born now more made.2)
steps_are_the_turn l (steps.End ∷ done) born now more made = absurd (made.1 refl)

-- at the end nothing is left but the names
pub ended_turn : (l : Left) (children : List Actor) → next_step l ≡ steps.End → whole l children ≡ record { steps = []; names = let now = after_step l in now.names }
ended_turn l children e = stepping l steps.End children e
