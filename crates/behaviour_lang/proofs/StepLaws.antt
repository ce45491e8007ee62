-- A turn is its steps: the next step, and then the whole of what is left after it.
use Rattle.std.proofs.Common.{◌≡◌, ℕ, Bool, true, false, List, [], ◌∷◌, Option, Some, None, refl, sym, ◌∙◌, ap}
use Rattle.crgc_ids.specs.Actor.{Actor}
use Rattle.behaviour_lang.specs.Bound.{Names, bound, without, is_message, first_message, past_first_message}
use Rattle.behaviour_lang.specs.Turn.{Outcome, turn, at_end, first_act, drop_of, bound_all, send_of, drop_for_keep, kept}
use Rattle.behaviour_lang.specs.Steps.{Left, left, Next, next, next_act, whole, step_by_step}
use Rattle.behaviour_lang.specs.declared.act.Act.TheVariants as acts
use Rattle.behaviour_lang.specs.declared.act.Step.TheVariants as steps
use Rattle.behaviour_lang.specs.declared.instr.Instr.{Instr}
use Rattle.behaviour_lang.specs.declared.instr.Instr.TheVariants.{Spawn, Send, Drop, Keep, Work, Retire}
use Rattle.behaviour_lang.specs.declared.instr.Name.{Name}
use Rattle.behaviour_lang.specs.declared.instr.Name.TheVariants.{Own, Message, Local}
use Rattle.behaviour_lang.proofs.NameLaws.{bound-without, without-twice, bound-message}

-- the next step, and then the whole of what is left
abbrev pub continued : Next → List Actor → Outcome
continued n children = step_by_step n.step n.after children

-- a drop that comes first
dropping : (v : Option Actor) (o : Outcome) (l : Left) (n : Next) (children : List Actor) → whole l children ≡ o → o ≡ continued n children → first_act (drop_of v) o ≡ continued (next_act (drop_of v) l n) children
dropping None o l n children stays rest = rest
dropping (Some a) o l n children stays rest = ap (first_act (Some (acts.Drop a))) (sym stays)

-- a send that comes first
sending : (to : Option Actor) (refs : Option (List Actor)) (l : Left) (n : Next) (children : List Actor) → whole l children ≡ continued n children → first_act (send_of to refs) (whole l children) ≡ continued (next_act (send_of to refs) l n) children
sending None None l n children rest = rest
sending None (Some refs) l n children rest = rest
sending (Some to) None l n children rest = rest
sending (Some to) (Some refs) l n children rest = refl

-- a name that lasts stands before the others at the end
abbrev with_row : Name × Actor → Outcome → Outcome
with_row row o = record { steps = o.steps; names = row ∷ o.names }

-- the step at the end, by the first message name that is bound
abbrev at_end_next : Option Actor → Names → Names → Bool → Next
at_end_next v past names root = next_act (drop_of v) (left [] past root) (record { step = steps.End; after = left [] names root })

lasting : (row : Name × Actor) (lasts : is_message row ≡ false) (v : Option Actor) (past names : Names) (root : Bool) (children : List Actor) → continued (at_end_next v (row ∷ past) (row ∷ names) root) children ≡ with_row row (continued (at_end_next v past names root) children)
lasting row lasts None past names root children = refl
lasting row lasts (Some a) past names root children = rw lasts refl

-- the first message name that is still bound is dropped at the end
ending : (names : Names) (root : Bool) (children : List Actor) → at_end names ≡ continued (next [] names root) children
ending [] root children = refl
ending ((Own, a) ∷ names) root children =
    ap (with_row (Own, a)) (ending names root children) ∙ sym (lasting (Own, a) refl (first_message names) (past_first_message names) names root children)
ending ((Message k, a) ∷ names) root children = refl
ending ((Local y, a) ∷ names) root children =
    ap (with_row (Local y, a)) (ending names root children) ∙ sym (lasting (Local y, a) refl (first_message names) (past_first_message names) names root children)

-- what `keep` does first, by what the two names are bound to
keeping : (x : List ℕ) (m : ℕ) (instrs : List Instr) (names : Names) (root : Bool) (children : List Actor) → ((names : Names) → turn instrs names root children ≡ continued (next instrs names root) children) → (vm vx : Option Actor) → bound (Message m) names ≡ vm → first_act (drop_for_keep vm vx) (turn instrs (kept x m vm names) root children) ≡ continued (next_act (drop_for_keep vm vx) (left (Keep x m ∷ instrs) (without (Local x) names) root) (next instrs (kept x m vm names) root)) children
keeping x m instrs names root children rest None vx e = rest names
keeping x m instrs names root children rest (Some a) None e = rest (kept x m (Some a) names)
keeping x m instrs names root children rest (Some a) (Some c) e =
    rw (bound-message m x names, e, bound-without (Local x) names, without-twice (Local x) names) refl

-- a turn is its next step, and then the whole of what is left
pub turn_is_its_next_step : (instrs : List Instr) (names : Names) (root : Bool) (children : List Actor) → turn instrs names root children ≡ continued (next instrs names root) children
turn_is_its_next_step [] names root children = ending names root children
turn_is_its_next_step (Spawn x b ∷ instrs) names root [] =
    dropping (bound (Local x) names) _ (left (Spawn x b ∷ instrs) (without (Local x) names) root) _ [] (rw (bound-without (Local x) names, without-twice (Local x) names) refl) refl
turn_is_its_next_step (Spawn x b ∷ instrs) names root (child ∷ children) =
    dropping (bound (Local x) names) _ (left (Spawn x b ∷ instrs) (without (Local x) names) root) _ (child ∷ children) (rw (bound-without (Local x) names, without-twice (Local x) names) refl) refl
turn_is_its_next_step (Send x refs ∷ instrs) names root children =
    sending (bound x names) (bound_all refs names) (left instrs names root) _ children (turn_is_its_next_step instrs names root children)
turn_is_its_next_step (Drop x ∷ instrs) names root children =
    dropping (bound x names) _ (left instrs (without x names) root) _ children refl (turn_is_its_next_step instrs (without x names) root children)
turn_is_its_next_step (Keep x m ∷ instrs) names root children =
    keeping x m instrs names root children (λ names. turn_is_its_next_step instrs names root children) (bound (Message m) names) (bound (Local x) names) refl
turn_is_its_next_step (Work k ∷ instrs) names root children = refl
turn_is_its_next_step (Retire ∷ instrs) names true children = refl
turn_is_its_next_step (Retire ∷ instrs) names false children = turn_is_its_next_step instrs names false children
