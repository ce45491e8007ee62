-- What every instruction that is read keeps.
use Rattle.std.proofs.Common.{◌≡◌, ◌≤◌, ◌<◌, ◌==◌, ◌&&◌, ◌+◌, ◌-◌, Bool, true, false, cond, nat_le, nat_lt, ℕ, List, [], ◌∷◌, length, codes, Option, Some, None, Result, Ok, Err, refl, ◌∙◌, ap, subst, arith}
use Rattle.std.proofs.lemmas.Bool.{and_from, lt-ltb}
use Rattle.std.proofs.lemmas.Bool.Decides.{nat_tests}
use Rattle.std.specs.List.{list_all}
use Rattle.std.specs.Str.{bytes_eq}
use Rattle.serde_json.specs.Data.{Data}
use Rattle.serde_json.specs.Find.{as_str}
use Rattle.behaviour_lang.specs.Code.{is_instr, is_name}
use Rattle.behaviour_lang.specs.declared.instr.Instr.TheVariants as instrs
use Rattle.behaviour_lang.specs.declared.instr.Name.{Name}
use Rattle.behaviour_lang.specs.declared.instr.Name.TheVariants.{Own, Message, Local}
use Rattle.behaviour_lang.specs.Names.{is_behaviour_name, is_digit, is_local_name, message_number, number_below_16, number_from_10}
use Rattle.script_reader.specs.declared.draft.DraftInstr.{DraftInstr}
use Rattle.script_reader.specs.declared.draft.DraftInstr.TheVariants.{Spawn, Other}
use Rattle.script_reader.specs.declared.fault.Flaw.{Flaw}
use Rattle.script_reader.specs.declared.fault.Flaw.TheVariants.{Kind}
use Rattle.script_reader.specs.declared.words.Word.{Word}
use Rattle.script_reader.specs.Instructions.{drop_of, instruction_in, instruction_of, instruction_with, instructions_at, is_text, keep_of, message_of, name_of, one, operand_name, or_local, retire_of, send_of, send_to, spawn_of, two, work_of}
use Rattle.script_reader.specs.Walk.{array_of, each, number_of, of_kind, optional_at, passes}
use Rattle.script_reader.proofs.EachLaws.{Fine, both_hold, each-length, each-pass, made, optional_at-few, passed, two_steps}

-- an instruction of a draft is as the format asks, where there are n behaviours; a spawn still names its behaviour by its name
abbrev pub fits : ℕ → DraftInstr → Bool
fits n (Spawn x b) = is_local_name x
fits n (Other i) = is_instr n i

some_if : (b : Bool) (o : Option ℕ) (k : ℕ) → cond b o None ≡ Some k → (b ≡ true) × (o ≡ Some k)
some_if true o k h = (refl, h)
some_if false o k h = absurd cc

some_is : (j k : ℕ) → Some j ≡ Some k → j ≡ k
some_is j k h = cc

from_10-range : (t u : ℕ) (rest : List ℕ) (k : ℕ) → number_from_10 t u rest ≡ Some k → k < 16
from_10-range t u rest k h =
    let s = some_if ((t == 49) && nat_le 48 u && nat_le u 53 && (length rest == 0)) (Some (u - 48 + 10)) k h in
    let is = some_is (u - 48 + 10) k s.1 in
    let test = s.0 in
    let most : u ≤ 53 = grind (arith, nat_tests) in
    omega arith

below_16-range : (ds : List ℕ) (k : ℕ) → number_below_16 ds ≡ Some k → k < 16
below_16-range [] k h = absurd cc
below_16-range (d ∷ []) k h =
    let s = some_if (is_digit d) (Some (d - 48)) k h in
    let is = some_is (d - 48) k s.1 in
    let test = s.0 in
    let most : d ≤ 57 = grind (arith, nat_tests) in
    omega arith
below_16-range (t ∷ u ∷ rest) k h = from_10-range t u rest k (some_if (is_digit t) (number_from_10 t u rest) k h).1

-- the number of a message name is below 16
message_number-range : (name : List ℕ) (k : ℕ) → message_number name ≡ Some k → k < 16
unfolding message_number
message_number-range [] k h = absurd cc
message_number-range (b ∷ digits) k h = below_16-range digits k (some_if (b == 109) (number_below_16 digits) k h).1

or_local-name : (key : Word) (text : List ℕ) (o : Option ℕ) (x : Name) → ((k : ℕ) → o ≡ Some k → k < 16) → or_local key text o ≡ Ok x → is_name x ≡ true
or_local-name key text (Some k) x below h = subst (λ y. is_name y ≡ true) (made (Message k) x h) (lt-ltb k 16 (below k refl))
or_local-name key text None x below h =
    let p = passed key (is_local_name text) (Local text) x h in
    subst (λ y. is_name y ≡ true) p.1 p.0

own_or : (b : Bool) (r : Result Name Flaw) (x : Name) → (r ≡ Ok x → is_name x ≡ true) → cond b (Ok Own) r ≡ Ok x → is_name x ≡ true
own_or true r x other h = subst (λ y. is_name y ≡ true) (made Own x h) refl
own_or false r x other h = other h

-- a name that is read is spelled as a name is
name_of-name : (key : Word) (text : List ℕ) (x : Name) → name_of key text ≡ Ok x → is_name x ≡ true
unfolding name_of
name_of-name key text x h =
    own_or (bytes_eq text (codes "self")) (or_local key text (message_number text)) x (or_local-name key text (message_number text) x (message_number-range text)) h

operand-name : (key : Word) (d : Data) (x : Name) → operand_name key d ≡ Ok x → is_name x ≡ true
operand-name key d x h = let t = two_steps (of_kind key (as_str d)) (name_of key) x h in name_of-name key t.0 x t.2

module _ (n : ℕ) (key : Word) where
  abbrev Keeps : Result DraftInstr Flaw → Type 0
  Keeps r = (i : DraftInstr) → r ≡ Ok i → fits n i ≡ true

  fit : (i j : DraftInstr) → fits n i ≡ true → Fine i ≡ Ok j → fits n j ≡ true
  fit i j h e = subst (λ k. fits n k ≡ true) (made i j e) h

  spawn-fits : (ds : List Data) → Keeps (spawn_of key ds)
  unfolding spawn_of
  spawn-fits ds i h =
      let p = two_steps (of_kind key (two ds)) _ i h in
      let x = two_steps (of_kind key (as_str p.0.0)) _ i p.2 in
      let b = two_steps (of_kind key (as_str p.0.1)) _ i x.2 in
      let q = passed key (is_local_name x.0 && is_behaviour_name b.0) (Spawn x.0 b.0) i b.2 in
      subst (λ j. fits n j ≡ true) q.1 (both_hold (is_local_name x.0) (is_behaviour_name b.0) q.0).0

  send_to-fits : (ds : List Data) → Keeps (send_to key ds)
  send_to-fits [] i h = absurd cc
  send_to-fits (d ∷ ds) i h =
      let few = two_steps (passes key (nat_le (length ds) 16)) _ i h in
      let x = two_steps (operand_name key d) _ i few.2 in
      let refs = two_steps (each (λ _. operand_name key) ds) _ i x.2 in
      let p = passed key (nat_le (length ds) 16) tt few.0 few.1 in
      let len = each-length (λ _. operand_name key) [] ds refs.0 refs.1 in
      let same : length refs.0 ≡ length ds = omega arith in
      let to : is_name x.0 ≡ true = operand-name key d x.0 x.1 in
      let all : list_all is_name refs.0 ≡ true = each-pass (λ _. operand_name key) is_name (λ before e y r. operand-name key e y r) [] ds refs.0 refl refs.1 in
      let short : nat_le (length refs.0) 16 ≡ true = ap (λ k. nat_le k 16) same ∙ p.0 in
      fit (Other (instrs.Send x.0 refs.0)) i (and_from (is_name x.0 && nat_le (length refs.0) 16) (list_all is_name refs.0) (and_from (is_name x.0) (nat_le (length refs.0) 16) to short) all) refs.2

  send-fits : (ds : List Data) → Keeps (send_of key ds)
  unfolding send_of
  send-fits ds i h = when (list_all is_text ds) i h
    where
      when : (b : Bool) (i : DraftInstr) → cond b (send_to key ds) (Err (Kind key)) ≡ Ok i → fits n i ≡ true
      when true i h = send_to-fits ds i h
      when false i h = absurd cc

  drop-fits : (ds : List Data) → Keeps (drop_of key ds)
  unfolding drop_of
  drop-fits ds i h =
      let d = two_steps (of_kind key (one ds)) _ i h in
      let x = two_steps (operand_name key d.0) _ i d.2 in
      fit (Other (instrs.Drop x.0)) i (operand-name key d.0 x.0 x.1) x.2

  keep-fits : (ds : List Data) → Keeps (keep_of key ds)
  unfolding keep_of
  keep-fits ds i h =
      let p = two_steps (of_kind key (two ds)) _ i h in
      let x = two_steps (of_kind key (as_str p.0.0)) _ i p.2 in
      let m = two_steps (of_kind key (as_str p.0.1)) _ i x.2 in
      let spelled = two_steps (passes key (is_local_name x.0)) _ i m.2 in
      let k = two_steps (message_of key (message_number m.0)) _ i spelled.2 in
      let local = (passed key (is_local_name x.0) tt spelled.0 spelled.1).0 in
      let small = lt-ltb k.0 16 (message_number-range m.0 k.0 (message key (message_number m.0) k.0 k.1)) in
      fit (Other (instrs.Keep x.0 k.0)) i (and_from (is_local_name x.0) (nat_lt k.0 16) local small) k.2
    where
      message : (key : Word) (o : Option ℕ) (k : ℕ) → message_of key o ≡ Ok k → o ≡ Some k
      message key (Some j) k h = cc
      message key None k h = absurd cc

  work-fits : (ds : List Data) → Keeps (work_of key ds)
  unfolding work_of
  work-fits ds i h =
      let d = two_steps (of_kind key (one ds)) _ i h in
      let k = two_steps (of_kind key (number_of d.0)) _ i d.2 in
      let q = passed key (nat_le k.0 10000) (Other (instrs.Work k.0)) i k.2 in
      subst (λ j. fits n j ≡ true) q.1 q.0

  retire-fits : (ds : List Data) → Keeps (retire_of key ds)
  retire-fits [] i h = fit (Other instrs.Retire) i refl h
  retire-fits (d ∷ ds) i h = absurd cc

  either : (b : Bool) (r s : Result DraftInstr Flaw) → Keeps r → Keeps s → Keeps (cond b r s)
  either true r s k l = k
  either false r s k l = l

  none : Keeps (Err (Kind key))
  none i h = absurd cc

  with-fits : (word : List ℕ) (ds : List Data) → Keeps (instruction_with key word ds)
  unfolding instruction_with
  with-fits word ds =
      either (bytes_eq word (codes "spawn")) _ _ (spawn-fits ds)
      (either (bytes_eq word (codes "send")) _ _ (send-fits ds)
      (either (bytes_eq word (codes "drop")) _ _ (drop-fits ds)
      (either (bytes_eq word (codes "keep")) _ _ (keep-fits ds)
      (either (bytes_eq word (codes "work")) _ _ (work-fits ds)
      (either (bytes_eq word (codes "retire")) _ _ (retire-fits ds) none)))))

  in-fits : (ds : List Data) → Keeps (instruction_in key ds)
  in-fits [] i h = absurd cc
  in-fits (word ∷ ds) i h = let t = two_steps (of_kind key (as_str word)) _ i h in with-fits t.0 ds i t.2

  instruction-fits : (d : Data) → Keeps (instruction_of key d)
  instruction-fits d i h = let ds = two_steps (of_kind key (array_of d)) _ i h in in-fits ds.0 i ds.2

  -- the list at a key is as the format asks
  pub list-fits : (d : Data) (is : List DraftInstr) → instructions_at key d ≡ Ok is → (length is ≤ 64) × (list_all (fits n) is ≡ true)
  list-fits d is h =
      let ds = two_steps (optional_at key 64 d) _ is h in
      let few = optional_at-few key 64 d ds.0 ds.1 in
      let len = each-length (λ _. instruction_of key) [] ds.0 is ds.2 in
      (omega arith, each-pass (λ _. instruction_of key) (fits n) (λ before e y r. instruction-fits e y r) [] ds.0 is refl ds.2)
