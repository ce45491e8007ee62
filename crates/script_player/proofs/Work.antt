-- Work uses up instructions.
use Rattle.std.proofs.Common.{◌≡◌, ◌<◌, ℕ, Bool, true, false, List, [], ◌∷◌, length, Option, Some, None, sym, ◌∙◌, subst, arith}
use Rattle.behaviour_lang.specs.Bound.{Names, bound, first_message, past_first_message, without}
use Rattle.behaviour_lang.specs.Steps.{Left, Next, left, next, next_act}
use Rattle.behaviour_lang.specs.Turn.{bound_all, drop_for_keep, drop_of, kept, send_of}
use Rattle.behaviour_lang.specs.declared.act.Act.{Act}
use Rattle.behaviour_lang.specs.declared.act.Act.TheVariants as acts
use Rattle.behaviour_lang.specs.declared.act.Step.TheVariants as steps
use Rattle.behaviour_lang.specs.declared.act.Step.{Step}
use Rattle.behaviour_lang.specs.declared.code.Behaviour.{Behaviour}
use Rattle.behaviour_lang.specs.declared.instr.Instr.{Instr}
use Rattle.behaviour_lang.specs.declared.instr.Instr.TheVariants.{Spawn, Send, Drop, Keep, Work, Retire}
use Rattle.behaviour_lang.specs.declared.instr.Name.TheVariants.{Local, Message}
use Rattle.behaviour_lang.specs.TurnState.{TurnState, left_of}
use Rattle.script_actors.specs.Turns.{MakesStep}

-- if the step is work, fewer instructions than so many are left after it
abbrev Shortens : ℕ → Next → Type 0
Shortens n x = (k : ℕ) → x.step ≡ steps.Work k → length x.after.instrs < n

-- an act is no work
act-shortens : (n : ℕ) (v : Option Act) (l : Left) (other : Next) → Shortens n other → Shortens n (next_act v l other)
act-shortens n (Some act) l other shorter k is = absurd (cc)
act-shortens n None l other shorter k is = shorter k is

end-shortens : (n : ℕ) (l : Left) → Shortens n (record { step = steps.End; after = l })
end-shortens n l k is = absurd (cc)

spawn-shortens : (n b : ℕ) (l : Left) → Shortens n (record { step = steps.Act (acts.Spawn b); after = l })
spawn-shortens n b l k is = absurd (cc)

pub next-shortens : (instrs : List Instr) (names : Names) (root : Bool) → Shortens (length instrs) (next instrs names root)
next-shortens [] names root =
    act-shortens 0 (drop_of (first_message names)) (left [] (past_first_message names) root) (record { step = steps.End; after = left [] names root }) (end-shortens 0 (left [] names root))
next-shortens (Spawn x b ∷ instrs) names root =
    act-shortens (length (Spawn x b ∷ instrs)) (drop_of (bound (Local x) names)) (left (Spawn x b ∷ instrs) (without (Local x) names) root)
    (record { step = steps.Act (acts.Spawn b); after = record { instrs = instrs; names = without (Local x) names; root = root; owed = Some x } })
    (spawn-shortens (length (Spawn x b ∷ instrs)) b (record { instrs = instrs; names = without (Local x) names; root = root; owed = Some x }))
next-shortens (Send x refs ∷ instrs) names root =
    act-shortens (length (Send x refs ∷ instrs)) (send_of (bound x names) (bound_all refs names)) (left instrs names root) (next instrs names root)
    (more (next instrs names root) (next-shortens instrs names root))
  where
    more : (y : Next) → Shortens (length instrs) y → Shortens (length (Send x refs ∷ instrs)) y
    more y shorter k is = (let less = shorter k is in omega (arith, less))
next-shortens (Drop x ∷ instrs) names root =
    act-shortens (length (Drop x ∷ instrs)) (drop_of (bound x names)) (left instrs (without x names) root) (next instrs (without x names) root)
    (more (next instrs (without x names) root) (next-shortens instrs (without x names) root))
  where
    more : (y : Next) → Shortens (length instrs) y → Shortens (length (Drop x ∷ instrs)) y
    more y shorter k is = (let less = shorter k is in omega (arith, less))
next-shortens (Keep x m ∷ instrs) names root =
    let names' = kept x m (bound (Message m) names) names in
    act-shortens (length (Keep x m ∷ instrs)) (drop_for_keep (bound (Message m) names) (bound (Local x) names)) (left (Keep x m ∷ instrs) (without (Local x) names) root) (next instrs names' root)
    (more (next instrs names' root) (next-shortens instrs names' root))
  where
    more : (y : Next) → Shortens (length instrs) y → Shortens (length (Keep x m ∷ instrs)) y
    more y shorter k is = (let less = shorter k is in omega (arith, less))
next-shortens (Work j ∷ instrs) names root = λ k is. omega arith
next-shortens (Retire ∷ instrs) names true = λ k is. absurd (cc)
next-shortens (Retire ∷ instrs) names false = λ k is. (let less = next-shortens instrs names false k is in omega (arith, less))

-- so a step of work leaves fewer instructions of the code's turn
pub work-smaller : (code : List Behaviour) (step : Step) (old new : TurnState) (k : ℕ) → MakesStep code step old new → step ≡ steps.Work k
    → (let x = left_of code new in let y = left_of code old in length x.instrs < length y.instrs)
work-smaller code step old new k made is =
    let l = left_of code old in
    let less = next-shortens l.instrs l.names l.root k (sym made.is_next ∙ is) in
    subst (λ (x : Left). length x.instrs < length l.instrs) (sym made.after) less
