-- A turn with more children begins with the acts that it has without them.
use Rattle.std.proofs.Common.{◌≡◌, Bool, true, false, List, [], ◌∷◌, ◌++◌, append-nil, Option, Some, None, refl, sym, ◌∙◌, ap}
use Rattle.crgc_ids.specs.Actor.{Actor}
use Rattle.behaviour_lang.specs.Bound.{Names, bind, bound, without}
use Rattle.behaviour_lang.specs.Steps.{Left}
use Rattle.behaviour_lang.specs.Turn.{Outcome, acts_of, at_end, bound_all, drop_for_keep, drop_of, first_act, kept, send_of, turn}
use Rattle.behaviour_lang.specs.declared.act.Act.{Act}
use Rattle.behaviour_lang.specs.declared.act.Act.TheVariants as acts
use Rattle.behaviour_lang.specs.declared.act.Step.{Step}
use Rattle.behaviour_lang.specs.declared.act.Step.TheVariants as steps
use Rattle.behaviour_lang.specs.declared.instr.Instr.{Instr}
use Rattle.behaviour_lang.specs.declared.instr.Instr.TheVariants.{Spawn, Send, Drop, Keep, Work, Retire}
use Rattle.behaviour_lang.specs.declared.instr.Name.TheVariants.{Message, Local}
use Rattle.operation_model.specs.Turns.{Grows}

-- the second outcome begins with the steps of the first
abbrev IsLonger : Outcome → Outcome → Type 0
IsLonger o p = (more : List Step) × (p.steps ≡ o.steps ++ more)

longer-itself : (o : Outcome) → IsLonger o o
longer-itself o = ([], sym (append-nil o.steps))

longer-first : (v : Option Act) (o p : Outcome) → IsLonger o p → IsLonger (first_act v o) (first_act v p)
longer-first None o p longer = longer
longer-first (Some a) o p longer = (longer.0, ap (λ xs. steps.Act a ∷ xs) longer.1)

pub turn-grows : (instrs : List Instr) (names : Names) (root : Bool) (children more : List Actor) → IsLonger (turn instrs names root children) (turn instrs names root (children ++ more))
turn-grows [] names root children more = longer-itself (at_end names)
turn-grows (Spawn x b ∷ instrs) names root [] [] = longer-itself (turn (Spawn x b ∷ instrs) names root [])
turn-grows (Spawn x b ∷ instrs) names root [] (child ∷ more) =
    longer-first (drop_of (bound (Local x) names)) _ _
    (let rest = turn instrs (bind x child (without (Local x) names)) root more in (rest.steps, refl))
turn-grows (Spawn x b ∷ instrs) names root (child ∷ children) more =
    let bound_now = bind x child (without (Local x) names) in
    longer-first (drop_of (bound (Local x) names)) _ _
    (longer-first (Some (acts.Spawn b)) (turn instrs bound_now root children) (turn instrs bound_now root (children ++ more)) (turn-grows instrs bound_now root children more))
turn-grows (Send x refs ∷ instrs) names root children more =
    longer-first (send_of (bound x names) (bound_all refs names)) _ _ (turn-grows instrs names root children more)
turn-grows (Drop x ∷ instrs) names root children more =
    longer-first (drop_of (bound x names)) _ _ (turn-grows instrs (without x names) root children more)
turn-grows (Keep x m ∷ instrs) names root children more =
    longer-first (drop_for_keep (bound (Message m) names) (bound (Local x) names)) _ _
    (turn-grows instrs (kept x m (bound (Message m) names) names) root children more)
turn-grows (Work k ∷ instrs) names root children more =
    let rest = turn-grows instrs names root children more in (rest.0, ap (λ xs. steps.Work k ∷ xs) rest.1)
turn-grows (Retire ∷ instrs) names true children more =
    longer-first (Some acts.Retire) (turn instrs names false children) (turn instrs names false (children ++ more)) (turn-grows instrs names false children more)
turn-grows (Retire ∷ instrs) names false children more = turn-grows instrs names false children more

acts-append : (xs ys : List Step) → acts_of (xs ++ ys) ≡ acts_of xs ++ acts_of ys
acts-append [] ys = refl
acts-append (steps.Act a ∷ xs) ys = ap (λ rest. a ∷ rest) (acts-append xs ys)
acts-append (steps.Work k ∷ xs) ys = acts-append xs ys
acts-append (steps.End ∷ xs) ys = acts-append xs ys

-- what was done before a child was born stays done
pub grows : (l : Left) (children more : List Actor) → Grows l children more
grows l children more =
    let longer = turn-grows l.instrs l.names l.root children more in
    (acts_of longer.0, ap acts_of longer.1 ∙ acts-append (turn l.instrs l.names l.root children).steps longer.0)
