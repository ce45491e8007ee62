-- What the acts of a turn name, where its code is well formed.
use Rattle.std.proofs.Common.{◌≡◌, ◌≤◌, ◌<◌, ◌&&◌, ℕ, zero, suc, Bool, true, false, List, [], ◌∷◌, drop, length, nat_le, nat_lt, slice_get, Option, Some, None, refl, sym, ap, subst, arith}
use Rattle.std.specs.List.{list_all}
use Rattle.std.proofs.lemmas.Bool.{and_parts, leb-true, ltb-true}
use Rattle.std.proofs.lemmas.Option.{none-some, same_Some}
use Rattle.crgc_ids.specs.Actor.{Actor}
use Rattle.behaviour_lang.specs.Bound.{Names, bound, without, first_message}
use Rattle.behaviour_lang.specs.Code.{IsCode, is_behaviour, is_instr, is_instr_list, is_name}
use Rattle.behaviour_lang.specs.Names.{is_behaviour_name, is_local_name}
use Rattle.behaviour_lang.specs.Turn.{all_there, bound_all, drop_for_keep, drop_of, kept, send_of}
use Rattle.behaviour_lang.specs.Steps.{Left, Next, left, next, next_act, next_step}
use Rattle.behaviour_lang.specs.TurnState.{TurnState, instrs_of, left_of, list_of}
use Rattle.behaviour_lang.specs.declared.act.Act.{Act}
use Rattle.behaviour_lang.specs.declared.act.Act.TheVariants as acts
use Rattle.behaviour_lang.specs.declared.act.List.{List as Which}
use Rattle.behaviour_lang.specs.declared.act.List.TheVariants as lists
use Rattle.behaviour_lang.specs.declared.act.Step.{Step}
use Rattle.behaviour_lang.specs.declared.act.Step.TheVariants as steps
use Rattle.behaviour_lang.specs.declared.code.Behaviour.{Behaviour}
use Rattle.behaviour_lang.specs.declared.instr.Instr.{Instr}
use Rattle.behaviour_lang.specs.declared.instr.Instr.TheVariants.{Spawn, Send, Drop, Keep, Work, Retire}
use Rattle.behaviour_lang.specs.declared.instr.Name.{Name}
use Rattle.behaviour_lang.specs.declared.instr.Name.TheVariants.{Message, Local}

-- where there are n behaviours, a spawn names one of them, and a send has at most 16 references
abbrev pub Fits : ℕ → Step → Type 0
Fits n (steps.Act (acts.Spawn b)) = b < n
Fits n (steps.Act (acts.Send t refs)) = length refs ≤ 16
Fits n s = Unit {0}

abbrev FitsNext : ℕ → Next → Type 0
FitsNext n m = Fits n m.step

dropping : (n : ℕ) (v : Option Actor) (l : Left) (m : Next) → FitsNext n m → FitsNext n (next_act (drop_of v) l m)
dropping n None l m fits = fits
dropping n (Some a) l m fits = tt

keeping : (n : ℕ) (v w : Option Actor) (l : Left) (m : Next) → FitsNext n m → FitsNext n (next_act (drop_for_keep v w) l m)
keeping n None w l m fits = fits
keeping n (Some a) None l m fits = fits
keeping n (Some a) (Some b) l m fits = tt

-- as many actors as names
bound-length : (xs : List Name) (names : Names) (refs : List Actor) → bound_all xs names ≡ Some refs → length refs ≡ length xs
bound-length [] names refs e = ap (λ (as_ : List Actor). length as_) (sym (same_Some [] refs e))
bound-length (x ∷ xs) names refs e = all (bound x names) (bound_all xs names) (bound-length xs names) e
  where
    all : (a : Option Actor) (others : Option (List Actor)) → ((refs : List Actor) → others ≡ Some refs → length refs ≡ length xs) → all_there a others ≡ Some refs → length refs ≡ length (x ∷ xs)
    all None others rest e = absurd (none-some refs e)
    all (Some a) None rest e = absurd (none-some refs e)
    all (Some a) (Some others) rest e = (let same = ap (λ (as_ : List Actor). length as_) (sym (same_Some (a ∷ others) refs e)) in let long = rest others refl in omega (arith, same, long))

sending : (n : ℕ) (to : Option Actor) (xs : List Name) (names : Names) (v : Option (List Actor)) (l : Left) (m : Next) → bound_all xs names ≡ v → length xs ≤ 16 → FitsNext n m → FitsNext n (next_act (send_of to v) l m)
sending n None xs names None l m e few fits = fits
sending n None xs names (Some refs) l m e few fits = fits
sending n (Some to) xs names None l m e few fits = fits
sending n (Some to) xs names (Some refs) l m e few fits = (let long = bound-length xs names refs e in omega (arith, long, few))

pub next-fits : (n : ℕ) (instrs : List Instr) → list_all (is_instr n) instrs ≡ true → (names : Names) (root : Bool) → FitsNext n (next instrs names root)
next-fits n [] all names root = dropping n (first_message names) _ _ tt
next-fits n (Spawn x b ∷ instrs) all names root =
    let first = (and_parts (is_instr n (Spawn x b)) (list_all (is_instr n) instrs) all).0 in
    dropping n (bound (Local x) names) _ _ (ltb-true b n (and_parts (is_local_name x) (nat_lt b n) first).1)
next-fits n (Send x refs ∷ instrs) all names root =
    let both = and_parts (is_instr n (Send x refs)) (list_all (is_instr n) instrs) all in
    let first = and_parts (is_name x && nat_le (length refs) 16) (list_all is_name refs) both.0 in
    sending n (bound x names) refs names (bound_all refs names) _ _ refl (leb-true (length refs) 16 (and_parts (is_name x) (nat_le (length refs) 16) first.0).1) (next-fits n instrs both.1 names root)
next-fits n (Drop x ∷ instrs) all names root =
    dropping n (bound x names) _ _ (next-fits n instrs (and_parts (is_instr n (Drop x)) (list_all (is_instr n) instrs) all).1 (without x names) root)
next-fits n (Keep x m ∷ instrs) all names root =
    keeping n (bound (Message m) names) (bound (Local x) names) _ _
    (next-fits n instrs (and_parts (is_instr n (Keep x m)) (list_all (is_instr n) instrs) all).1 (kept x m (bound (Message m) names) names) root)
next-fits n (Work k ∷ instrs) all names root = tt
next-fits n (Retire ∷ instrs) all names true = tt
next-fits n (Retire ∷ instrs) all names false = next-fits n instrs (and_parts (is_instr n Retire) (list_all (is_instr n) instrs) all).1 names false

-- the instructions that are left of well formed code
all-drop : {A : Type 0} (p : A → Bool) (i : ℕ) (xs : List A) → list_all p xs ≡ true → list_all p (drop i xs) ≡ true
all-drop p zero xs all = all
all-drop p (suc i) [] all = refl
all-drop p (suc i) (x ∷ xs) all = all-drop p i xs (and_parts (p x) (list_all p xs) all).1

all-get : {A : Type 0} (p : A → Bool) (xs : List A) (i : ℕ) (x : A) → list_all p xs ≡ true → slice_get xs i ≡ Some x → p x ≡ true
all-get p [] i x all e = absurd (none-some x e)
all-get p (y ∷ xs) zero x all e = subst (λ z. p z ≡ true) (same_Some y x e) (and_parts (p y) (list_all p xs) all).0
all-get p (y ∷ xs) (suc i) x all e = all-get p xs i x (and_parts (p y) (list_all p xs) all).1 e

list-fits : (n : ℕ) (b : Behaviour) (list : Which) → is_behaviour n b ≡ true → list_all (is_instr n) (list_of (Some b) list) ≡ true
list-fits n b list fits =
    let both = and_parts (is_behaviour_name b.name && is_instr_list n b.wake) (is_instr_list n b.message) fits in
    let first = and_parts (is_behaviour_name b.name) (is_instr_list n b.wake) both.0 in
    elim list as (λ l. list_all (is_instr n) (list_of (Some b) l) ≡ true) [
      | lists.Wake ↦ (and_parts (nat_le (length b.wake) 64) (list_all (is_instr n) b.wake) first.1).1
      | lists.Message ↦ (and_parts (nat_le (length b.message) 64) (list_all (is_instr n) b.message) both.1).1
    ]

pub instrs-fit : (code : List Behaviour) (b : ℕ) (list : Which) → IsCode code → list_all (is_instr (length code)) (instrs_of code b list) ≡ true
instrs-fit code b list good = found (slice_get code b) (λ x e. all-get (is_behaviour (length code)) code b x good.1 e)
  where
    found : (v : Option Behaviour) → ((x : Behaviour) → v ≡ Some x → is_behaviour (length code) x ≡ true) → list_all (is_instr (length code)) (list_of v list) ≡ true
    found None each = refl
    found (Some x) each = list-fits (length code) x list (each x refl)

pub step-fits : (code : List Behaviour) (t : TurnState) → IsCode code → Fits (length code) (next_step (left_of code t))
step-fits code t good =
    next-fits (length code) (drop t.position (instrs_of code t.behaviour t.list))
    (all-drop (is_instr (length code)) t.position (instrs_of code t.behaviour t.list) (instrs-fit code t.behaviour t.list good)) t.names t.root
