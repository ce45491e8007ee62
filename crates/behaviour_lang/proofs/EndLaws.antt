-- What is known where a turn stops.
use Rattle.std.proofs.Common.{◌≡◌, ◌+◌, ℕ, Bool, true, false, List, [], ◌∷◌, ◌++◌, drop, Option, Some, None, IfSome, refl, sym, ◌∙◌, subst}
use mathlib.Core.Bool.{true≢false}
use Rattle.std.proofs.lemmas.Option.{none-some, same_Some}
use Rattle.crgc_ids.specs.Actor.{Actor}
use Rattle.behaviour_lang.specs.Bound.{Names, bound, without, first_message, past_first_message, local_names}
use Rattle.behaviour_lang.specs.Held.{flagged, names_of}
use Rattle.behaviour_lang.specs.Running.{IsStep, left_in}
use Rattle.behaviour_lang.specs.declared.run.Run.{Run}
use Rattle.behaviour_lang.specs.Rows.{Row}
use Rattle.behaviour_lang.specs.Turn.{drop_of, bound_all, send_of, drop_for_keep, kept}
use Rattle.behaviour_lang.specs.Steps.{Left, left, Next, next, next_act}
use Rattle.behaviour_lang.specs.TurnState.{is_end}
use Rattle.behaviour_lang.specs.declared.act.Act.{Act}
use Rattle.behaviour_lang.specs.declared.act.Step.{Step}
use Rattle.behaviour_lang.specs.declared.act.Step.TheVariants as steps
use Rattle.behaviour_lang.specs.declared.instr.Instr.{Instr}
use Rattle.behaviour_lang.specs.declared.instr.Instr.TheVariants.{Spawn, Send, Drop, Keep, Work, Retire}
use Rattle.behaviour_lang.specs.declared.instr.Name.TheVariants.{Message, Local}
use Rattle.behaviour_lang.proofs.NameLaws.{bound-without}

-- at the end no message name is bound, and the name of a child whose birth is owed is not bound
pub record StopsWell (n : Next) : Type 0 where
  pub end : is_end n.step ≡ true → (let l = n.after in first_message l.names) ≡ None
  pub owed : (x : List ℕ) → (let l = n.after in l.owed) ≡ Some x → (let l = n.after in bound (Local x) l.names) ≡ None

acting : (v : Option Act) (l : Left) (n : Next) → l.owed ≡ None → StopsWell n → StopsWell (next_act v l n)
acting None l n none well = well
acting (Some a) l n none well = record { end = λ e. absurd (true≢false (sym e)); owed = λ x e. absurd (none-some x (sym none ∙ e)) }

ending : (v : Option Actor) (names past : Names) (root : Bool) → first_message names ≡ v → StopsWell (next_act (drop_of v) (left [] past root) (record { step = steps.End; after = left [] names root }))
ending None names past root e = record { end = λ _. e; owed = λ x owed. absurd (none-some x owed) }
ending (Some a) names past root e = record { end = λ e. absurd (true≢false (sym e)); owed = λ x owed. absurd (none-some x owed) }

pub stops_well : (instrs : List Instr) (names : Names) (root : Bool) → StopsWell (next instrs names root)
stops_well [] names root = ending (first_message names) names (past_first_message names) root refl
stops_well (Spawn x b ∷ instrs) names root =
    acting (drop_of (bound (Local x) names)) _ _ refl (record {
      end = λ e. absurd (true≢false (sym e));
      owed = λ y e. rw (← same_Some x y e) (bound-without (Local x) names);
    })
stops_well (Send x refs ∷ instrs) names root = acting (send_of (bound x names) (bound_all refs names)) _ _ refl (stops_well instrs names root)
stops_well (Drop x ∷ instrs) names root = acting (drop_of (bound x names)) _ _ refl (stops_well instrs (without x names) root)
stops_well (Keep x m ∷ instrs) names root =
    acting (drop_for_keep (bound (Message m) names) (bound (Local x) names)) _ _ refl (stops_well instrs (kept x m (bound (Message m) names) names) root)
stops_well (Work k ∷ instrs) names root = record { end = λ e. absurd (true≢false (sym e)); owed = λ x e. absurd (none-some x e) }
stops_well (Retire ∷ instrs) names true = record { end = λ e. absurd (true≢false (sym e)); owed = λ x e. absurd (none-some x e) }
stops_well (Retire ∷ instrs) names false = stops_well instrs names false

-- where no message name is bound, only local names are
pub only_local : (j : ℕ) (refs : List Actor) (flags : List Bool) (rows : List Row) → first_message (flagged j refs flags ++ local_names rows) ≡ None → flagged j refs flags ++ local_names rows ≡ local_names rows
only_local j [] flags rows e = refl
only_local j (r ∷ refs) [] rows e = refl
only_local j (r ∷ refs) (true ∷ flags) rows e = absurd (none-some r (sym e))
only_local j (r ∷ refs) (false ∷ flags) rows e = only_local (j + 1) refs flags rows e

-- a step that was made stops well
pub step_stops_well : (instrs : List Instr) (old new : Run) (s : Step) → IsStep instrs old new s → StopsWell (record { step = s; after = left_in instrs new })
step_stops_well instrs old new s e = subst StopsWell e (stops_well (drop old.position instrs) (names_of old.names) old.root)

-- the name that waits is not bound
pub owed_unbound : (owed : Option (List ℕ)) (names : Names) → ((x : List ℕ) → owed ≡ Some x → bound (Local x) names ≡ None) → IfSome owed (λ x. bound (Local x) names ≡ None)
owed_unbound None names h = tt
owed_unbound (Some x) names h = h x refl
