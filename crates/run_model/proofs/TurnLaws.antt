-- What an act that is due does to what is left of a turn.
use Rattle.std.proofs.Common.{◌≡◌, ◌+◌, ◌≤◌, ◌<◌, ℕ, Bool, true, false, not, cond, List, [], ◌∷◌, length, Option, Some, None, refl, sym, ap, subst, arith, inl}
use Rattle.std.specs.List.{filter}
use Rattle.std.proofs.lemmas.Option.{none-some, same_Some}
use Rattle.crgc_ids.specs.Actor.{Actor, same_actor}
use Rattle.crgc_ids.specs.Members.{IsAmong}
use Rattle.behaviour_lang.specs.Bound.{Names}
use Rattle.behaviour_lang.specs.Steps.{Left, next_step, after_step, with_child, idle, is_work, act_of, due_act, after_act}
use Rattle.behaviour_lang.specs.declared.act.Act.{Act}
use Rattle.behaviour_lang.specs.declared.act.Act.TheVariants as acts
use Rattle.behaviour_lang.specs.declared.act.Step.{Step}
use Rattle.behaviour_lang.specs.declared.act.Step.TheVariants as steps
use Rattle.behaviour_lang.specs.declared.instr.Instr.{Instr}
use Rattle.run_model.proofs.NextLaws.{naming, naming-bind, one_if, dropped, used, is_spawn_step, Keeps, next-keeps}

-- the step of an act
act-step : (s : Step) (a : Act) → act_of s ≡ Some a → s ≡ steps.Act a
act-step (steps.Act b) a e = ap steps.Act (same_Some b a e)
act-step (steps.Work k) a e = absurd (none-some a e)
act-step steps.End a e = absurd (none-some a e)

shorter-filter : (test : Instr → Bool) (instrs : List Instr) → length (filter test instrs) ≤ length instrs
shorter-filter test [] = omega arith
shorter-filter test (i ∷ instrs) =
    let rest = shorter-filter test instrs in
    elim (test i) as (λ v. length (cond v (i ∷ filter test instrs) (filter test instrs)) ≤ length (i ∷ instrs)) [ true ↦ omega (arith, rest) | false ↦ omega (arith, rest) ]

module _ (l : Left) where
  kept : (let i = idle l in Keeps i.instrs l.names l.root (next_step (idle l)) (after_step (idle l)))
  kept = (let i = idle l in next-keeps i.instrs l.names l.root)

  due-step : (act : Act) → due_act l ≡ Some act → next_step (idle l) ≡ steps.Act act
  due-step act e = act-step (next_step (idle l)) act e

  -- it never comes to name more, but for a child that is born
  pub act-fewer : (t : Actor) → (let now = after_act None l in naming t now.names ≤ naming t l.names)
  act-fewer t = (let rest = kept.fewer t in omega (arith, rest))

  pub drop-fewer : (a t : Actor) → due_act l ≡ Some (acts.Drop a) → (let now = after_act None l in naming t now.names + one_if (same_actor a t) ≤ naming t l.names)
  drop-fewer a t e =
      let rest = kept.fewer t in
      let one : dropped t (next_step (idle l)) ≡ one_if (same_actor a t) = ap (dropped t) (due-step (acts.Drop a) e) in
      omega (arith, rest, one)

  with-child : (t child : Actor) (owed : Option (List ℕ)) (names : Names) → naming t (with_child owed child names) ≤ naming t names + one_if (same_actor child t)
  with-child t child None names = omega arith
  with-child t child (Some x) names = (let same = naming-bind t x child names in omega (arith, same))

  pub birth-fewer : (child t : Actor) → (let now = after_act (Some child) l in naming t now.names ≤ naming t l.names + one_if (same_actor child t))
  birth-fewer child t =
      let after = after_act None l in
      let rest = act-fewer t in
      let more = with-child t child after.owed after.names in
      omega (arith, rest, more)

  -- what it uses is named
  pub send-named : (to t : Actor) (refs : List Actor) → due_act l ≡ Some (acts.Send to refs) → IsAmong t (to ∷ refs) → 0 < naming t l.names
  send-named to t refs e among = kept.named t (subst (λ s. IsAmong t (used s)) (sym (due-step (acts.Send to refs) e)) among)

  pub drop-named : (a : Actor) → due_act l ≡ Some (acts.Drop a) → 0 < naming a l.names
  drop-named a e = kept.named a (subst (λ s. IsAmong a (used s)) (sym (due-step (acts.Drop a) e)) (inl refl))

  -- it makes nobody a root
  pub act-root : (child : Option Actor) → (let now = after_act child l in now.root ≡ true) → l.root ≡ true
  act-root None e = kept.was_root e
  act-root (Some child) e = kept.was_root e

  pub retire-root : due_act l ≡ Some acts.Retire → (l.root ≡ true) × (let now = after_act None l in now.root ≡ false)
  retire-root e = kept.retires (rw (due-step acts.Retire e) refl)

  -- each spawn has an instruction
  pub act-shorter : (let now = after_act None l in length now.instrs ≤ length l.instrs)
  act-shorter = (let i = idle l in let rest = kept.shorter in let idles = shorter-filter (λ x. not (is_work x)) l.instrs in omega (arith, rest, idles))

  pub spawn-shorter : (b : ℕ) → due_act l ≡ Some (acts.Spawn b) → (let now = after_act None l in length now.instrs < length l.instrs)
  spawn-shorter b e =
      let rest = kept.shorter in
      let one : one_if (is_spawn_step (next_step (idle l))) ≡ 1 = ap (λ s. one_if (is_spawn_step s)) (due-step (acts.Spawn b) e) in
      let idles = shorter-filter (λ x. not (is_work x)) l.instrs in
      omega (arith, rest, one, idles)
