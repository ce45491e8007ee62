-- What one step of a turn does to the names: they never come to name more, and what an act uses is named.
use Rattle.std.proofs.Common.{◌≡◌, ◌+◌, ◌≤◌, ◌<◌, ℕ, Bool, true, false, not, cond, if◌then◌else◌, List, [], ◌∷◌, length, Option, Some, None, refl, sym, ◌∙◌, ap, subst, arith, inl, inr}
use mathlib.Core.Bool.{true≢false}
use Rattle.std.proofs.lemmas.Option.{none-some, same_Some}
use Rattle.crgc_ids.specs.Actor.{Actor, same_actor}
use Rattle.crgc_ids.specs.Members.{IsAmong}
use Rattle.history_model.proofs.Basics.{same_actor-refl}
use Rattle.behaviour_lang.specs.Bound.{Names, means, bound, without, bind, is_before, is_message, first_message, past_first_message}
use Rattle.behaviour_lang.specs.Turn.{drop_of, all_there, bound_all, send_of, drop_for_keep, kept}
use Rattle.behaviour_lang.specs.Steps.{Left, left, Next, next, next_act}
use Rattle.behaviour_lang.specs.declared.act.Act.TheVariants as acts
use Rattle.behaviour_lang.specs.declared.act.Step.{Step}
use Rattle.behaviour_lang.specs.declared.act.Step.TheVariants as steps
use Rattle.behaviour_lang.specs.declared.instr.Instr.{Instr}
use Rattle.behaviour_lang.specs.declared.instr.Instr.TheVariants.{Spawn, Send, Drop, Keep, Work, Retire}
use Rattle.behaviour_lang.specs.declared.instr.Name.{Name}
use Rattle.behaviour_lang.specs.declared.instr.Name.TheVariants.{Message, Local}
use Rattle.behaviour_lang.proofs.NameLaws.{bound-message}
pub use Rattle.run_model.specs.Sound.{naming, one_if}

module _ (t : Actor) where
  -- a name that is bound names its actor, and taking it away leaves one name less
  pub naming-without : (x : Name) (names : Names) → naming t (without x names) ≤ naming t names
  naming-without x [] = omega arith
  naming-without x ((y, a) ∷ names) =
      let rest = naming-without x names in
      elim (means x y) as (λ v. naming t (cond (not v) ((y, a) ∷ without x names) (without x names)) ≤ naming t ((y, a) ∷ names)) [
        | true ↦ elim (same_actor a t) as (λ v. naming t (without x names) ≤ (if v then naming t names + 1 else naming t names)) [ true ↦ omega (arith, rest) | false ↦ rest ]
        | false ↦ elim (same_actor a t) as (λ v. (if v then naming t (without x names) + 1 else naming t (without x names)) ≤ (if v then naming t names + 1 else naming t names)) [ true ↦ omega (arith, rest) | false ↦ rest ]
      ]

  pub naming-unbound : (x : Name) (names : Names) (a : Actor) → bound x names ≡ Some a → naming t (without x names) + one_if (same_actor a t) ≤ naming t names
  naming-unbound x [] a e = absurd (none-some a e)
  naming-unbound x ((y, b) ∷ names) a e =
      elim (means x y) as (λ v. (if v then Some b else bound x names) ≡ Some a → naming t (cond (not v) ((y, b) ∷ without x names) (without x names)) + one_if (same_actor a t) ≤ naming t ((y, b) ∷ names)) [
        | true ↦ λ here.
            let rest = naming-without x names in
            let same = same_Some b a here in
            subst (λ c. naming t (without x names) + one_if (same_actor c t) ≤ naming t ((y, b) ∷ names)) same
            (elim (same_actor b t) as (λ v. naming t (without x names) + one_if v ≤ (if v then naming t names + 1 else naming t names)) [ true ↦ omega (arith, rest) | false ↦ omega (arith, rest) ])
        | false ↦ λ there.
            let rest = naming-unbound x names a there in
            elim (same_actor b t) as (λ v. (if v then naming t (without x names) + 1 else naming t (without x names)) + one_if (same_actor a t) ≤ (if v then naming t names + 1 else naming t names)) [ true ↦ omega (arith, rest) | false ↦ rest ]
      ] e

  -- binding one name more
  pub naming-bind : (x : List ℕ) (a : Actor) (names : Names) → naming t (bind x a names) ≡ naming t names + one_if (same_actor a t)
  naming-bind x a [] = elim (same_actor a t) as (λ v. (if v then 0 + 1 else 0) ≡ 0 + one_if v) [ true ↦ omega arith | false ↦ omega arith ]
  naming-bind x a ((y, b) ∷ names) =
      let rest = naming-bind x a names in
      elim (is_before x y) as (λ v. naming t (if v then (Local x, a) ∷ (y, b) ∷ names else (y, b) ∷ bind x a names) ≡ naming t ((y, b) ∷ names) + one_if (same_actor a t)) [
        | true ↦ elim (same_actor a t) as (λ v. (if v then naming t ((y, b) ∷ names) + 1 else naming t ((y, b) ∷ names)) ≡ naming t ((y, b) ∷ names) + one_if v) [ true ↦ refl | false ↦ omega arith ]
        | false ↦ elim (same_actor b t) as (λ v. (if v then naming t (bind x a names) + 1 else naming t (bind x a names)) ≡ (if v then naming t names + 1 else naming t names) + one_if (same_actor a t)) [ true ↦ omega (arith, rest) | false ↦ rest ]
      ]

  -- the first message name is taken away
  pub naming-past : (names : Names) (a : Actor) → first_message names ≡ Some a → naming t (past_first_message names) + one_if (same_actor a t) ≤ naming t names
  naming-past [] a e = absurd (none-some a e)
  naming-past (row ∷ names) a e =
      elim (is_message row) as (λ v. (if v then Some row.1 else first_message names) ≡ Some a → naming t (if v then names else row ∷ past_first_message names) + one_if (same_actor a t) ≤ naming t (row ∷ names)) [
        | true ↦ λ here.
            let same = same_Some row.1 a here in
            subst (λ c. naming t names + one_if (same_actor c t) ≤ naming t (row ∷ names)) same
            (elim (same_actor row.1 t) as (λ v. naming t names + one_if v ≤ (if v then naming t names + 1 else naming t names)) [ true ↦ omega arith | false ↦ omega arith ])
        | false ↦ λ there.
            let rest = naming-past names a there in
            elim (same_actor row.1 t) as (λ v. (if v then naming t (past_first_message names) + 1 else naming t (past_first_message names)) + one_if (same_actor a t) ≤ (if v then naming t names + 1 else naming t names)) [ true ↦ omega (arith, rest) | false ↦ rest ]
      ] e

  -- `keep` binds its name in the place of the message name
  pub naming-kept : (x : List ℕ) (m : ℕ) (v : Option Actor) (names : Names) → bound (Message m) names ≡ v → naming t (kept x m v names) ≤ naming t names
  naming-kept x m None names e = omega arith
  naming-kept x m (Some a) names e =
      let plain = without (Local x) names in
      let first = naming-without (Local x) names in
      let second = naming-unbound (Message m) plain a (bound-message m x names ∙ e) in
      let third = naming-bind x a (without (Message m) plain) in
      omega (arith, first, second, third)

  -- what is bound is named
  pub naming-bound : (x : Name) (names : Names) → bound x names ≡ Some t → 0 < naming t names
  naming-bound x names e =
      let one = naming-unbound x names t e in
      let itself : one_if (same_actor t t) ≡ 1 = ap one_if (same_actor-refl t) in
      omega (arith, one, itself)

  -- so is each of several
  one_of : (x : Name) (names : Names) (a : Actor) (bs : List Actor) → bound x names ≡ Some a → (IsAmong t bs → 0 < naming t names) → IsAmong t (a ∷ bs) → 0 < naming t names
  one_of x names a bs first rest (inl same) = naming-bound x names (first ∙ ap (λ c. Some c) (sym same))
  one_of x names a bs first rest (inr later) = rest later

  pub naming-all : (xs : List Name) (names : Names) (as_ : List Actor) → bound_all xs names ≡ Some as_ → IsAmong t as_ → 0 < naming t names
  naming-all [] names as_ e among = absurd (subst (IsAmong t) (sym (same_Some [] as_ e)) among)
  naming-all (x ∷ xs) names as_ e among =
      elim (bound x names) as (λ v. bound x names ≡ v → all_there v (bound_all xs names) ≡ Some as_ → 0 < naming t names) [
        | None ↦ λ first e. absurd (none-some as_ e)
        | Some a ↦ λ first. elim (bound_all xs names) as (λ v. bound_all xs names ≡ v → all_there (Some a) v ≡ Some as_ → 0 < naming t names) [
          | None ↦ λ rest e. absurd (none-some as_ e)
          | Some bs ↦ λ rest e. one_of x names a bs first (λ later. naming-all xs names bs rest later) (subst (IsAmong t) (sym (same_Some (a ∷ bs) as_ e)) among)
        ] refl
      ] refl e

-- Steps.

-- one for the actor that the step drops
abbrev pub dropped : Actor → Step → ℕ
dropped t (steps.Act (acts.Drop a)) = one_if (same_actor a t)
dropped t s = 0

-- the actors that the step uses
abbrev pub used : Step → List Actor
used (steps.Act (acts.Send to refs)) = to ∷ refs
used (steps.Act (acts.Drop a)) = a ∷ []
used s = []

abbrev pub is_spawn_step : Step → Bool
is_spawn_step (steps.Act (acts.Spawn b)) = true
is_spawn_step s = false

abbrev pub is_retire_step : Step → Bool
is_retire_step (steps.Act acts.Retire) = true
is_retire_step s = false

-- what a step keeps: of the names, of the root flag, and of the instructions that are left
pub record Keeps (instrs : List Instr) (names : Names) (root : Bool) (s : Step) (l : Left) : Type 0 where
  pub fewer : (t : Actor) → naming t l.names + dropped t s ≤ naming t names
  pub named : (t : Actor) → IsAmong t (used s) → 0 < naming t names
  pub was_root : l.root ≡ true → root ≡ true
  pub retires : is_retire_step s ≡ true → (root ≡ true) × (l.root ≡ false)
  pub shorter : length l.instrs + one_if (is_spawn_step s) ≤ length instrs

abbrev pub KeepsNext : List Instr → Names → Bool → Next → Type 0
KeepsNext instrs names root n = Keeps instrs names root n.step n.after

-- a step after instructions that did nothing, and with no more names
passing : (i : Instr) (instrs : List Instr) (names fewer : Names) (root : Bool) (n : Next) → ((t : Actor) → naming t fewer ≤ naming t names) → KeepsNext instrs fewer root n → KeepsNext (i ∷ instrs) names root n
passing i instrs names fewer root n less k = record {
  fewer = λ t. (let rest = k.fewer t in let no_more = less t in omega (arith, rest, no_more));
  named = λ t among. (let rest = k.named t among in let no_more = less t in omega (arith, rest, no_more));
  was_root = k.was_root;
  retires = k.retires;
  shorter = (let rest = k.shorter in omega (arith, rest));
}

-- a drop that comes first, where it has to
dropping : (v : Option Actor) (all is : List Instr) (names past : Names) (root : Bool) (n : Next) → ((a : Actor) → v ≡ Some a → (t : Actor) → naming t past + one_if (same_actor a t) ≤ naming t names) → length is ≤ length all
    → KeepsNext all names root n → KeepsNext all names root (next_act (drop_of v) (left is past root) n)
dropping None all is names past root n less short k = k
dropping (Some a) all is names past root n less short k = record {
  fewer = less a refl;
  named = λ t among. elim among as (λ _. 0 < naming t names) [
    | inl same ↦ (let one = less a refl t in let itself : one_if (same_actor a t) ≡ 1 = subst (λ c. one_if (same_actor c t) ≡ 1) same (ap one_if (same_actor-refl t)) in omega (arith, one, itself))
    | inr none ↦ absurd none
  ];
  was_root = λ e. e;
  retires = λ e. absurd (true≢false (sym e));
  shorter = omega (arith, short);
}

-- a send that comes first, where each of its names is bound
sending : (x : Name) (refs : List Name) (instrs : List Instr) (names : Names) (root : Bool) (n : Next) (to : Option Actor) (all : Option (List Actor)) → bound x names ≡ to → bound_all refs names ≡ all → KeepsNext instrs names root n
    → KeepsNext (Send x refs ∷ instrs) names root (next_act (send_of to all) (left instrs names root) n)
sending x refs instrs names root n None None bx ball k = passing (Send x refs) instrs names names root n (λ t. omega arith) k
sending x refs instrs names root n None (Some as_) bx ball k = passing (Send x refs) instrs names names root n (λ t. omega arith) k
sending x refs instrs names root n (Some a) None bx ball k = passing (Send x refs) instrs names names root n (λ t. omega arith) k
sending x refs instrs names root n (Some a) (Some as_) bx ball k = record {
  fewer = λ t. omega arith;
  named = λ t. one_of t x names a as_ bx (naming-all t refs names as_ ball);
  was_root = λ e. e;
  retires = λ e. absurd (true≢false (sym e));
  shorter = omega arith;
}

-- a step that uses nothing
plain : (all : List Instr) (names fewer : Names) (root : Bool) (s : Step) (is : List Instr) (owed : Option (List ℕ)) → ((t : Actor) → dropped t s ≡ 0) → used s ≡ [] → is_retire_step s ≡ false → ((t : Actor) → naming t fewer ≤ naming t names)
    → length is + one_if (is_spawn_step s) ≤ length all → Keeps all names root s (record { instrs = is; names = fewer; root = root; owed = owed })
plain all names fewer root s is owed none uses stays less short = record {
  fewer = λ t. (let no_drop = none t in let no_more = less t in omega (arith, no_drop, no_more));
  named = λ t among. absurd (subst (IsAmong t) uses among);
  was_root = λ e. e;
  retires = λ e. absurd (true≢false (sym e ∙ stays));
  shorter = short;
}

-- what `keep` drops first
keeping : (x : List ℕ) (m : ℕ) (instrs : List Instr) (names : Names) (root : Bool) (vm : Option Actor) → bound (Message m) names ≡ vm → KeepsNext instrs (kept x m vm names) root (next instrs (kept x m vm names) root)
    → KeepsNext (Keep x m ∷ instrs) names root (next_act (drop_for_keep vm (bound (Local x) names)) (left (Keep x m ∷ instrs) (without (Local x) names) root) (next instrs (kept x m vm names) root))
keeping x m instrs names root None e k = passing (Keep x m) instrs names names root _ (λ t. omega arith) k
keeping x m instrs names root (Some a) e k =
    dropping (bound (Local x) names) _ (Keep x m ∷ instrs) names (without (Local x) names) root _ (λ b there t. naming-unbound t (Local x) names b there) (omega arith)
    (passing (Keep x m) instrs names (kept x m (Some a) names) root _ (λ t. naming-kept t x m (Some a) names e) k)

pub next-keeps : (instrs : List Instr) (names : Names) (root : Bool) → KeepsNext instrs names root (next instrs names root)
next-keeps [] names root =
    dropping (first_message names) [] [] names (past_first_message names) root _ (λ a there t. naming-past t names a there) (omega arith)
    (plain [] names names root steps.End [] None (λ t. refl) refl refl (λ t. omega arith) (omega arith))
next-keeps (Spawn x b ∷ instrs) names root =
    dropping (bound (Local x) names) _ (Spawn x b ∷ instrs) names (without (Local x) names) root _ (λ a there t. naming-unbound t (Local x) names a there) (omega arith)
    (plain _ names (without (Local x) names) root (steps.Act (acts.Spawn b)) instrs (Some x) (λ t. refl) refl refl (λ t. naming-without t (Local x) names) (omega arith))
next-keeps (Send x refs ∷ instrs) names root =
    sending x refs instrs names root _ (bound x names) (bound_all refs names) refl refl (next-keeps instrs names root)
next-keeps (Drop x ∷ instrs) names root =
    dropping (bound x names) _ instrs names (without x names) root _ (λ a there t. naming-unbound t x names a there) (omega arith)
    (passing (Drop x) instrs names (without x names) root _ (λ t. naming-without t x names) (next-keeps instrs (without x names) root))
next-keeps (Keep x m ∷ instrs) names root =
    keeping x m instrs names root (bound (Message m) names) refl (next-keeps instrs (kept x m (bound (Message m) names) names) root)
next-keeps (Work k ∷ instrs) names root = plain _ names names root (steps.Work k) instrs None (λ t. refl) refl refl (λ t. omega arith) (omega arith)
next-keeps (Retire ∷ instrs) names true = record {
  fewer = λ t. omega arith;
  named = λ t among. absurd among;
  was_root = λ e. refl;
  retires = λ e. (refl, refl);
  shorter = omega arith;
}
next-keeps (Retire ∷ instrs) names false = passing Retire instrs names names false _ (λ t. omega arith) (next-keeps instrs names false)
