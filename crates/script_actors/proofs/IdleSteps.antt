-- A step of a turn, and the same turn without its work.
use Rattle.std.proofs.Common.{◌≡◌, ℕ, Bool, true, false, not, cond, List, [], ◌∷◌, Option, Some, None, refl, sym, ◌∙◌, ap}
use Rattle.std.specs.List.{filter}
use Rattle.behaviour_lang.specs.Bound.{Names, bound, without, first_message, past_first_message}
use Rattle.behaviour_lang.specs.Turn.{bound_all, drop_for_keep, drop_of, kept, send_of}
use Rattle.behaviour_lang.specs.Steps.{Left, Next, idle, is_work, left, next, next_act}
use Rattle.behaviour_lang.specs.declared.act.Act.{Act}
use Rattle.behaviour_lang.specs.declared.act.Act.TheVariants as acts
use Rattle.behaviour_lang.specs.declared.act.Step.{Step}
use Rattle.behaviour_lang.specs.declared.act.Step.TheVariants as steps
use Rattle.behaviour_lang.specs.declared.instr.Instr.{Instr}
use Rattle.behaviour_lang.specs.declared.instr.Instr.TheVariants.{Spawn, Send, Drop, Keep, Work, Retire}
use Rattle.behaviour_lang.specs.declared.instr.Name.TheVariants.{Message, Local}
use Rattle.script_actors.specs.Turns.{next_idle}

-- the instructions without the work
abbrev busy : List Instr → List Instr
busy instrs = filter (λ i. not (is_work i)) instrs

-- without the work, a step of work is no step, and any other one is the same
abbrev pub idled_by : Step → Left → Next
idled_by (steps.Work k) after = next_idle after
idled_by s after = record { step = s; after = idle after }

abbrev idled : Next → Next
idled n = idled_by n.step n.after

-- an act that comes first
acting : (v : Option Act) (l : Left) (m n : Next) → m ≡ idled n → next_act v (idle l) m ≡ idled (next_act v l n)
acting None l m n e = e
acting (Some a) l m n e = refl

pub idle-next : (instrs : List Instr) (names : Names) (root : Bool) → next (busy instrs) names root ≡ idled (next instrs names root)
idle-next [] names root = acting (drop_of (first_message names)) (left [] (past_first_message names) root) _ _ refl
idle-next (Spawn x b ∷ instrs) names root = acting (drop_of (bound (Local x) names)) (left (Spawn x b ∷ instrs) (without (Local x) names) root) _ _ refl
idle-next (Send x refs ∷ instrs) names root = acting (send_of (bound x names) (bound_all refs names)) (left instrs names root) _ _ (idle-next instrs names root)
idle-next (Drop x ∷ instrs) names root = acting (drop_of (bound x names)) (left instrs (without x names) root) _ _ (idle-next instrs (without x names) root)
idle-next (Keep x m ∷ instrs) names root =
    acting (drop_for_keep (bound (Message m) names) (bound (Local x) names)) (left (Keep x m ∷ instrs) (without (Local x) names) root) _ _
    (idle-next instrs (kept x m (bound (Message m) names) names) root)
idle-next (Work k ∷ instrs) names root = refl
idle-next (Retire ∷ instrs) names true = refl
idle-next (Retire ∷ instrs) names false = idle-next instrs names false

-- no work is left out twice
busy-twice : (instrs : List Instr) → busy (busy instrs) ≡ busy instrs
busy-twice [] = refl
busy-twice (Spawn x b ∷ instrs) = ap (λ is. Spawn x b ∷ is) (busy-twice instrs)
busy-twice (Send x refs ∷ instrs) = ap (λ is. Send x refs ∷ is) (busy-twice instrs)
busy-twice (Drop x ∷ instrs) = ap (λ is. Drop x ∷ is) (busy-twice instrs)
busy-twice (Keep x m ∷ instrs) = ap (λ is. Keep x m ∷ is) (busy-twice instrs)
busy-twice (Work k ∷ instrs) = busy-twice instrs
busy-twice (Retire ∷ instrs) = ap (λ is. Retire ∷ is) (busy-twice instrs)

pub idle-twice : (instrs : List Instr) (names : Names) (root : Bool) → next_idle (left (busy instrs) names root) ≡ next_idle (left instrs names root)
idle-twice instrs names root = ap (λ is. next is names root) (busy-twice instrs)
