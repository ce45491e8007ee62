-- How far a turn has come: what is left of it after the acts that were done.
use Rattle.std.proofs.Common.{◌≡◌, List, [], ◌∷◌, ◌++◌, append-nil, append_assoc, Option, Some, None, option_to_list, refl, sym, ◌∙◌, ap}
use Rattle.std.proofs.lemmas.List.{append_cancel_left}
use Rattle.crgc_ids.specs.Actor.{Actor}
use Rattle.behaviour_lang.specs.Bound.{Names}
use Rattle.behaviour_lang.specs.Steps.{Left, act_by_act, after_act, due_act, visible, whole}
use Rattle.behaviour_lang.specs.declared.act.Act.{Act}
use Rattle.behaviour_lang.specs.declared.act.Act.TheVariants as acts
use Rattle.operation_model.specs.Kept.{IsReached, after_acts}
use Rattle.behaviour_lang.proofs.ActLaws.{turn_is_its_due_act}

-- a spawn has a child, and no other act has one
abbrev pub HasChild : Act → Option Actor → Type 0
HasChild (acts.Spawn b) None = ⊥
HasChild (acts.Spawn b) (Some child) = Unit {0}
HasChild act None = Unit {0}
HasChild act (Some child) = ⊥

pub reached-start : (l : Left) → IsReached l [] [] l
reached-start l = λ more. refl

after-one_more : (done : List Act) (act : Act) (o : List Act × Names) → after_acts done (act ∷ o.0, o.1) ≡ after_acts (done ++ act ∷ []) o
after-one_more done act o = λ i. (sym (append_assoc done (act ∷ []) o.0) i, o.1)

module _ (l now : Left) (done : List Act) (children : List Actor) (reached : IsReached l done children now) where
  -- what is left begins with the act that is due
  next-is : (more : List Actor) (v : Option Act) → due_act now ≡ v → visible (whole now more) ≡ act_by_act v now more
  next-is more v next = turn_is_its_due_act now more ∙ ap (λ x. act_by_act x now more) next

  -- an act without a child
  reached-plain : (act : Act) → ((more : List Actor) → act_by_act (Some act) now more ≡ (let o = visible (whole (after_act None now) more) in (act ∷ o.0, o.1))) → due_act now ≡ Some act
      → IsReached l (done ++ act ∷ []) (children ++ []) (after_act None now)
  reached-plain act first next more =
      ap (λ cs. visible (whole l (cs ++ more))) (append-nil children)
      ∙ reached more
      ∙ ap (after_acts done) (next-is more (Some act) next ∙ first more)
      ∙ after-one_more done act (visible (whole (after_act None now) more))

  -- the act that is due is done
  pub reached-next : (act : Act) (child : Option Actor) → HasChild act child → due_act now ≡ Some act
      → IsReached l (done ++ act ∷ []) (children ++ option_to_list child) (after_act child now)
  reached-next (acts.Spawn b) None has next = absurd has
  reached-next (acts.Spawn b) (Some child) has next =
      λ more.
      ap (λ cs. visible (whole l cs)) (append_assoc children (child ∷ []) more)
      ∙ reached (child ∷ more)
      ∙ ap (after_acts done) (next-is (child ∷ more) (Some (acts.Spawn b)) next)
      ∙ after-one_more done (acts.Spawn b) (visible (whole (after_act (Some child) now) more))
  reached-next (acts.Send t refs) None has next = reached-plain (acts.Send t refs) (λ more. refl) next
  reached-next (acts.Send t refs) (Some child) has next = absurd has
  reached-next (acts.Drop t) None has next = reached-plain (acts.Drop t) (λ more. refl) next
  reached-next (acts.Drop t) (Some child) has next = absurd has
  reached-next acts.Retire None has next = reached-plain acts.Retire (λ more. refl) next
  reached-next acts.Retire (Some child) has next = absurd has

  -- the whole of the turn, as far as its children were born
  so-far : visible (whole l children) ≡ after_acts done (visible (whole now []))
  so-far = ap (λ cs. visible (whole l cs)) (sym (append-nil children)) ∙ reached []

  first_act-is : (act : Act) (more : List Act) (v : Option Act) → (let o = act_by_act v now [] in o.0 ≡ act ∷ more) → v ≡ Some act
  first_act-is act more None e = absurd (cc)
  first_act-is act more (Some (acts.Spawn b)) e = (let same : acts.Spawn b ≡ act = cc in ap Some same)
  first_act-is act more (Some (acts.Send t refs)) e = (let same : acts.Send t refs ≡ act = cc in ap Some same)
  first_act-is act more (Some (acts.Drop t)) e = (let same : acts.Drop t ≡ act = cc in ap Some same)
  first_act-is act more (Some acts.Retire) e = (let same : acts.Retire ≡ act = cc in ap Some same)

  -- the act that comes next in the whole turn is due
  pub act-due : (act : Act) (more : List Act) → (let o = visible (whole l children) in o.0 ≡ done ++ act ∷ more) → due_act now ≡ Some act
  act-due act more next =
      first_act-is act more (due_act now)
      (ap (λ (o : List Act × Names). o.0) (sym (next-is [] (due_act now) refl))
      ∙ append_cancel_left done _ (act ∷ more) (ap (λ (o : List Act × Names). o.0) (sym so-far) ∙ next))

  none-left : (v : Option Act) → (let o = act_by_act v now [] in o.0 ≡ []) → v ≡ None
  none-left None e = refl
  none-left (Some (acts.Spawn b)) e = absurd (cc)
  none-left (Some (acts.Send t refs)) e = absurd (cc)
  none-left (Some (acts.Drop t)) e = absurd (cc)
  none-left (Some acts.Retire) e = absurd (cc)

  -- where the whole turn is done, nothing is due
  pub none-due : (let o = visible (whole l children) in o.0 ≡ done) → due_act now ≡ None
  none-due all =
      none-left (due_act now)
      (ap (λ (o : List Act × Names). o.0) (sym (next-is [] (due_act now) refl))
      ∙ append_cancel_left done _ [] (ap (λ (o : List Act × Names). o.0) (sym so-far) ∙ all ∙ sym (append-nil done)))

  -- and its names are those that are left
  pub names-left : (let o = visible (whole l children) in o.0 ≡ done) → (let o = visible (whole l children) in let left_now = after_act None now in o.1 ≡ left_now.names)
  names-left all = ap (λ (o : List Act × Names). o.1) (so-far ∙ ap (after_acts done) (next-is [] None (none-due all)))
