-- The acts that are due name what the code allows: a send has few references, and a spawn a behaviour of the code.
use Rattle.std.proofs.Common.{◌≡◌, ◌≤◌, ◌<◌, ℕ, Bool, true, false, not, List, [], ◌∷◌, length, Option, Some, None, refl, subst, if◌then◌else◌}
use Rattle.std.specs.List.{filter, list_all}
use Rattle.std.proofs.lemmas.Bool.{and_from, and_parts}
use Rattle.crgc_ids.specs.Actor.{Actor, same_actor}
use Rattle.history_model.specs.declared.events.Event.{Event}
use Rattle.history_model.specs.declared.events.Event.TheVariants.{Wake, Take, Spawn, Send, Drop, Retire, Rest}
use Rattle.history_model.specs.Cluster.{newborn}
use Rattle.history_model.specs.Messages.{waiting}
use Rattle.history_model.specs.State.{is_root}
use Rattle.behaviour_lang.specs.Bound.{Names, bound, first_message, without}
use Rattle.behaviour_lang.specs.Code.{IsCode, is_instr}
use Rattle.behaviour_lang.specs.Turn.{bound_all, drop_for_keep, drop_of, kept, send_of}
use Rattle.behaviour_lang.specs.Steps.{Left, Next, act_of, after_act, due_act, is_work, next, next_act}
use Rattle.behaviour_lang.specs.declared.act.Act.{Act}
use Rattle.behaviour_lang.specs.declared.act.Act.TheVariants as acts
use Rattle.behaviour_lang.specs.declared.act.List.{List as Lists}
use Rattle.behaviour_lang.specs.declared.act.List.TheVariants as lists
use Rattle.behaviour_lang.specs.declared.act.Step.{Step}
use Rattle.behaviour_lang.specs.declared.act.Step.TheVariants as steps
use Rattle.behaviour_lang.specs.declared.instr.Instr.{Instr}
use Rattle.behaviour_lang.specs.declared.instr.Instr.TheVariants as instrs
use Rattle.behaviour_lang.specs.declared.instr.Name.TheVariants.{Local, Message}
use Rattle.script_reader.specs.Valid.{Scripted}
use Rattle.run_model.specs.Doing.{Doing, acts_on, as_child, begins, doing, first_refs}
use Rattle.script_actors.proofs.CodeSteps.{Fits, instrs-fit, next-fits}

-- the instructions are those that n behaviours allow
abbrev AreCoded : ℕ → List Instr → Type 0
AreCoded n xs = list_all (is_instr n) xs ≡ true

all-filter : {A : Type 0} (p keep : A → Bool) (xs : List A) → list_all p xs ≡ true → list_all p (filter keep xs) ≡ true
all-filter p keep [] all = refl
all-filter p keep (x ∷ xs) all =
    let both = and_parts (p x) (list_all p xs) all in
    let rest = all-filter p keep xs both.1 in
    elim (keep x) as (λ v. list_all p (if v then x ∷ filter keep xs else filter keep xs) ≡ true) [
      | true ↦ and_from (p x) (list_all p (filter keep xs)) both.0 rest
      | false ↦ rest
    ]

-- ---- what is left after a step

module _ (n : ℕ) where
  abbrev Left_coded : Left → Type 0
  Left_coded l = AreCoded n l.instrs

  abbrev Next_coded : Next → Type 0
  Next_coded m = (let l = m.after in AreCoded n l.instrs)

  acting : (v : Option Act) (l : Left) (m : Next) → Left_coded l → Next_coded m → Next_coded (next_act v l m)
  acting None l m first rest = rest
  acting (Some a) l m first rest = first

  rest-of : (x : Instr) (xs : List Instr) → AreCoded n (x ∷ xs) → AreCoded n xs
  rest-of x xs all = (and_parts (is_instr n x) (list_all (is_instr n) xs) all).1

  next-coded : (xs : List Instr) → AreCoded n xs → (names : Names) (root : Bool) → Next_coded (next xs names root)
  next-coded [] all names root = acting (drop_of (first_message names)) _ _ refl refl
  next-coded (instrs.Spawn x b ∷ xs) all names root = acting (drop_of (bound (Local x) names)) _ _ all (rest-of (instrs.Spawn x b) xs all)
  next-coded (instrs.Send x refs ∷ xs) all names root =
      let rest = rest-of (instrs.Send x refs) xs all in
      acting (send_of (bound x names) (bound_all refs names)) _ _ rest (next-coded xs rest names root)
  next-coded (instrs.Drop x ∷ xs) all names root =
      let rest = rest-of (instrs.Drop x) xs all in
      acting (drop_of (bound x names)) _ _ rest (next-coded xs rest (without x names) root)
  next-coded (instrs.Keep x m ∷ xs) all names root =
      acting (drop_for_keep (bound (Message m) names) (bound (Local x) names)) _ _ all (next-coded xs (rest-of (instrs.Keep x m) xs all) (kept x m (bound (Message m) names) names) root)
  next-coded (instrs.Work k ∷ xs) all names root = rest-of (instrs.Work k) xs all
  next-coded (instrs.Retire ∷ xs) all names true = rest-of instrs.Retire xs all
  next-coded (instrs.Retire ∷ xs) all names false = next-coded xs (rest-of instrs.Retire xs all) names false

  after-coded : (l : Left) (child : Option Actor) → Left_coded l → Left_coded (after_act child l)
  after-coded l None all = next-coded (filter (λ i. not (is_work i)) l.instrs) (all-filter (is_instr n) (λ i. not (is_work i)) l.instrs all) l.names l.root
  after-coded l (Some child) all = next-coded (filter (λ i. not (is_work i)) l.instrs) (all-filter (is_instr n) (λ i. not (is_work i)) l.instrs all) l.names l.root

-- ---- what is left of an actor's turn

module _ (s : Scripted) (good : IsCode s.code) where
  abbrev Coded : Doing → Type 0
  Coded d = (let l = d.turn in AreCoded (length s.code) l.instrs)

  begun : (list : Lists) (refs : List Actor) (root : Bool) (d : Doing) → Coded (begins s list refs root d)
  begun list refs root d = instrs-fit s.code d.behaviour list good

  acted : (child : Option Actor) (d : Doing) → Coded d → Coded (acts_on child d)
  acted child d all = after-coded (length s.code) d.turn child all

  either : (v : Bool) (f g : Doing) → Coded f → Coded g → Coded (elim v as (λ _. Doing) [ true ↦ f | false ↦ g ])
  either true f g first other = first
  either false f g first other = other

  pub doing-coded : (a : Actor) (h : List Event) → Coded (doing s a h)
  doing-coded a [] = refl
  doing-coded a (Wake b ∷ p) = either (same_actor b a) _ _ (begun lists.Wake [] (is_root a p) (doing s a p)) (doing-coded a p)
  doing-coded a (Take b ∷ p) = either (same_actor b a) _ _ (begun lists.Message (first_refs (waiting a p)) (is_root a p) (doing s a p)) (doing-coded a p)
  doing-coded a (Spawn b ∷ p) =
      either (same_actor b a) _ _ (acted (Some (newborn b.node p)) (doing s a p) (doing-coded a p))
      (either (same_actor (newborn b.node p) a) (as_child (doing s b p) a) (doing s a p) refl (doing-coded a p))
  doing-coded a (Send b t refs ∷ p) = either (same_actor b a) _ _ (acted None (doing s a p) (doing-coded a p)) (doing-coded a p)
  doing-coded a (Drop b t ∷ p) = either (same_actor b a) _ _ (acted None (doing s a p) (doing-coded a p)) (doing-coded a p)
  doing-coded a (Retire b ∷ p) = either (same_actor b a) _ _ (acted None (doing s a p) (doing-coded a p)) (doing-coded a p)
  doing-coded a (Rest b ∷ p) = either (same_actor b a) _ _ (acted None (doing s a p) (doing-coded a p)) (doing-coded a p)
  doing-coded a (e ∷ p) = doing-coded a p

  -- ---- what is due

  abbrev pub FitsAct : Option Act → Type 0
  FitsAct (Some (acts.Spawn b)) = b < length s.code
  FitsAct (Some (acts.Send t refs)) = length refs ≤ 16
  FitsAct v = Unit {0}

  step-act : (st : Step) → Fits (length s.code) st → FitsAct (act_of st)
  step-act (steps.Act (acts.Spawn b)) fits = fits
  step-act (steps.Act (acts.Send t refs)) fits = fits
  step-act (steps.Act (acts.Drop t)) fits = tt
  step-act (steps.Act acts.Retire) fits = tt
  step-act (steps.Work k) fits = tt
  step-act steps.End fits = tt

  pub due-fits : (a : Actor) (h : List Event) (v : Option Act) → (let d = doing s a h in due_act d.turn ≡ v) → FitsAct v
  due-fits a h v due =
      let d = doing s a h in
      let l = d.turn in
      let all = all-filter (is_instr (length s.code)) (λ i. not (is_work i)) l.instrs (doing-coded a h) in
      subst FitsAct due (step-act _ (next-fits (length s.code) (filter (λ i. not (is_work i)) l.instrs) all l.names l.root))
