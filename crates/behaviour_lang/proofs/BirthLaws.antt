-- A birth is owed exactly after a spawn.
use Rattle.std.proofs.Common.{◌≡◌, ◌+◌, Bool, true, false, List, [], ◌∷◌, drop, Option, Some, None, is_some, refl, sym, subst}
use Rattle.crgc_ids.specs.Actor.{Actor}
use Rattle.behaviour_lang.specs.Bound.{Names, bound, without, first_message, past_first_message}
use Rattle.behaviour_lang.specs.Turn.{drop_of, bound_all, send_of, drop_for_keep, kept}
use Rattle.behaviour_lang.specs.Held.{names_of}
use Rattle.behaviour_lang.specs.Running.{IsStep}
use Rattle.behaviour_lang.specs.Steps.{Left, Next, next, next_act}
use Rattle.behaviour_lang.specs.TurnState.{is_spawn}
use Rattle.behaviour_lang.specs.declared.act.Act.{Act}
use Rattle.behaviour_lang.specs.declared.act.Step.{Step}
use Rattle.behaviour_lang.specs.declared.act.Step.TheVariants as steps
use Rattle.behaviour_lang.specs.declared.instr.Instr.{Instr}
use Rattle.behaviour_lang.specs.declared.instr.Instr.TheVariants.{Spawn, Send, Drop, Keep, Work, Retire}
use Rattle.behaviour_lang.specs.declared.instr.Name.TheVariants.{Message, Local}
use Rattle.behaviour_lang.specs.declared.run.Run.{Run}

-- a birth is owed after the step exactly where it is a spawn
abbrev pub Owes : Next → Type 0
Owes n = (let l = n.after in is_some l.owed) ≡ is_spawn n.step

dropping : (v : Option Actor) (l : Left) (n : Next) → l.owed ≡ None → Owes n → Owes (next_act (drop_of v) l n)
dropping None l n none owes = owes
dropping (Some a) l n none owes = rw none refl

sending : (to : Option Actor) (refs : Option (List Actor)) (l : Left) (n : Next) → l.owed ≡ None → Owes n → Owes (next_act (send_of to refs) l n)
sending None refs l n none owes = owes
sending (Some a) None l n none owes = owes
sending (Some a) (Some as_) l n none owes = rw none refl

keeping : (m x : Option Actor) (l : Left) (n : Next) → l.owed ≡ None → Owes n → Owes (next_act (drop_for_keep m x) l n)
keeping None x l n none owes = owes
keeping (Some a) x l n none owes = dropping x l n none owes

owing : (instrs : List Instr) (names : Names) (root : Bool) → Owes (next instrs names root)
owing [] names root = dropping (first_message names) _ _ refl refl
owing (Spawn x b ∷ instrs) names root = dropping (bound (Local x) names) _ _ refl refl
owing (Send x refs ∷ instrs) names root = sending (bound x names) (bound_all refs names) _ _ refl (owing instrs names root)
owing (Drop x ∷ instrs) names root = dropping (bound x names) _ _ refl (owing instrs (without x names) root)
owing (Keep x m ∷ instrs) names root =
    keeping (bound (Message m) names) (bound (Local x) names) _ _ refl (owing instrs (kept x m (bound (Message m) names) names) root)
owing (Work k ∷ instrs) names root = refl
owing (Retire ∷ instrs) names true = refl
owing (Retire ∷ instrs) names false = owing instrs names false

-- so it is of a step that was made
pub step-owes : (instrs : List Instr) (old new : Run) (s : Step) → IsStep instrs old new s → is_some new.owed ≡ is_spawn s
step-owes instrs old new s e = subst Owes e (owing (drop old.position instrs) (names_of old.names) old.root)
