-- The acts of a turn are those of its instructions without the work, one by one.
use Rattle.std.proofs.Common.{◌≡◌, Bool, true, false, not, List, [], ◌∷◌, Option, Some, None, refl, sym, ◌∙◌, ap}
use mathlib.Core.Bool.{true≢false}
use Rattle.std.specs.List.{filter}
use Rattle.crgc_ids.specs.Actor.{Actor}
use Rattle.behaviour_lang.specs.Bound.{Names, bound, without, bind, first_message}
use Rattle.behaviour_lang.specs.Turn.{Outcome, turn, first_act, drop_of, bound_all, send_of, drop_for_keep, kept}
use Rattle.behaviour_lang.specs.Steps.{Left, Next, next, next_act, next_step, after_step, whole, step_by_step, idle, is_work, act_of, due_act, visible, act_by_act}
use Rattle.behaviour_lang.specs.declared.act.Act.{Act}
use Rattle.behaviour_lang.specs.declared.act.Act.TheVariants as acts
use Rattle.behaviour_lang.specs.declared.act.Step.{Step}
use Rattle.behaviour_lang.specs.declared.act.Step.TheVariants as steps
use Rattle.behaviour_lang.specs.declared.instr.Instr.{Instr}
use Rattle.behaviour_lang.specs.declared.instr.Instr.TheVariants.{Spawn, Send, Drop, Keep, Work, Retire}
use Rattle.behaviour_lang.specs.declared.instr.Name.TheVariants.{Message, Local}
use Rattle.behaviour_lang.proofs.StepLaws.{turn_is_its_next_step}

-- the instructions without the work
abbrev busy : List Instr → List Instr
busy instrs = filter (λ i. not (is_work i)) instrs

-- the act comes before what is seen
abbrev put : Act → List Act × Names → List Act × Names
put a p = (a ∷ p.0, p.1)

-- what an act comes before may be seen alike
first_alike : (v : Option Act) (o o' : Outcome) → visible o ≡ visible o' → visible (first_act v o) ≡ visible (first_act v o')
first_alike None o o' e = e
first_alike (Some a) o o' e = ap (put a) e

-- without the work a turn has the same acts, and the same names afterwards
idle_alike : (instrs : List Instr) (names : Names) (root : Bool) (children : List Actor) → visible (turn (busy instrs) names root children) ≡ visible (turn instrs names root children)
idle_alike [] names root children = refl
idle_alike (Spawn x b ∷ instrs) names root [] = refl
idle_alike (Spawn x b ∷ instrs) names root (child ∷ children) =
    first_alike (drop_of (bound (Local x) names)) _ _ (ap (put (acts.Spawn b)) (idle_alike instrs (bind x child (without (Local x) names)) root children))
idle_alike (Send x refs ∷ instrs) names root children = first_alike (send_of (bound x names) (bound_all refs names)) _ _ (idle_alike instrs names root children)
idle_alike (Drop x ∷ instrs) names root children = first_alike (drop_of (bound x names)) _ _ (idle_alike instrs (without x names) root children)
idle_alike (Keep x m ∷ instrs) names root children =
    first_alike (drop_for_keep (bound (Message m) names) (bound (Local x) names)) _ _ (idle_alike instrs (kept x m (bound (Message m) names) names) root children)
idle_alike (Work k ∷ instrs) names root children = idle_alike instrs names root children
idle_alike (Retire ∷ instrs) names true children = ap (put acts.Retire) (idle_alike instrs names false children)
idle_alike (Retire ∷ instrs) names false children = idle_alike instrs names false children

-- whether the step is work
abbrev is_work_step : Step → Bool
is_work_step (steps.Work k) = true
is_work_step s = false

abbrev works : Next → Bool
works n = is_work_step n.step

acting : (v : Option Act) (l : Left) (n : Next) → works n ≡ false → works (next_act v l n) ≡ false
acting None l n e = e
acting (Some a) l n e = refl

-- without the work no step is work
never_works : (instrs : List Instr) (names : Names) (root : Bool) → works (next (busy instrs) names root) ≡ false
never_works [] names root = acting (drop_of (first_message names)) _ _ refl
never_works (Spawn x b ∷ instrs) names root = acting (drop_of (bound (Local x) names)) _ _ refl
never_works (Send x refs ∷ instrs) names root = acting (send_of (bound x names) (bound_all refs names)) _ _ (never_works instrs names root)
never_works (Drop x ∷ instrs) names root = acting (drop_of (bound x names)) _ _ (never_works instrs (without x names) root)
never_works (Keep x m ∷ instrs) names root =
    acting (drop_for_keep (bound (Message m) names) (bound (Local x) names)) _ _ (never_works instrs (kept x m (bound (Message m) names) names) root)
never_works (Work k ∷ instrs) names root = never_works instrs names root
never_works (Retire ∷ instrs) names true = refl
never_works (Retire ∷ instrs) names false = never_works instrs names false

-- a step that is no work, as an act
as_act : (l : Left) (s : Step) (children : List Actor) → is_work_step s ≡ false → visible (step_by_step s (after_step (idle l)) children) ≡ act_by_act (act_of s) l children
as_act l steps.End children e = refl
as_act l (steps.Work k) children e = absurd (true≢false e)
as_act l (steps.Act (acts.Spawn b)) [] e = refl
as_act l (steps.Act (acts.Spawn b)) (child ∷ children) e = refl
as_act l (steps.Act (acts.Send to refs)) children e = refl
as_act l (steps.Act (acts.Drop a)) children e = refl
as_act l (steps.Act acts.Retire) children e = refl

pub turn_is_its_due_act : (l : Left) (children : List Actor) → visible (whole l children) ≡ act_by_act (due_act l) l children
turn_is_its_due_act l children =
    sym (idle_alike l.instrs l.names l.root children)
    ∙ ap visible (turn_is_its_next_step (busy l.instrs) l.names l.root children)
    ∙ as_act l (next_step (idle l)) children (never_works l.instrs l.names l.root)
