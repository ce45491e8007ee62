-- What every script that is read keeps: each part is as the format asks.
use Rattle.std.proofs.Common.{◌≡◌, ◌≤◌, ◌<◌, ◌+◌, ◌==◌, ◌&&◌, Bool, true, false, not, cond, nat_le, nat_lt, ℕ, suc, List, [], ◌∷◌, length, map, Option, Some, None, Result, Ok, Err, IfOk, refl, sym, ◌∙◌, ap, ap₂, subst, arith}
use Rattle.std.proofs.lemmas.Bool.{and_from, le-leb, lt-ltb}
use Rattle.std.proofs.lemmas.Bool.Decides.{nat_tests}
use Rattle.std.proofs.lemmas.Slice.Eq.{bytes_eq-Decides}
use Rattle.std.specs.Cmp.{IsEquivalence}
use Rattle.std.specs.List.{IsDistinct, list_all, list_any, position_from}
use Rattle.std.specs.Str.{bytes_eq}
use Rattle.serde_json.specs.Data.{Data}
use Rattle.behaviour_lang.specs.Code.{is_behaviour, is_instr, is_instr_list}
use Rattle.behaviour_lang.specs.declared.code.Behaviour.{Behaviour}
use Rattle.behaviour_lang.specs.declared.instr.Instr.{Instr}
use Rattle.behaviour_lang.specs.declared.instr.Instr.TheVariants as instrs
use Rattle.behaviour_lang.specs.Names.{is_behaviour_name, is_local_name}
use Rattle.fault_plan.specs.declared.crashes.CrashRow.{CrashRow}
use Rattle.fault_plan.specs.declared.links.LinkRow.{LinkRow}
use Rattle.fault_plan.specs.Rows.{link_row, same_node, same_row}
use Rattle.script_reader.specs.declared.draft.Draft.{Draft}
use Rattle.script_reader.specs.declared.draft.DraftBehaviour.{DraftBehaviour}
use Rattle.script_reader.specs.declared.draft.DraftInstr.{DraftInstr}
use Rattle.script_reader.specs.declared.draft.DraftInstr.TheVariants.{Spawn, Other}
use Rattle.script_reader.specs.declared.draft.DraftSeed.{DraftSeed}
use Rattle.script_reader.specs.declared.script.Seed.{Seed}
use Rattle.script_reader.specs.declared.script.Tie.{Tie}
use Rattle.script_reader.specs.declared.words.Word.{Word}
use Rattle.script_reader.specs.declared.words.Word.TheVariants as words
use Rattle.script_reader.specs.declared.fault.Halt.{Halt}
use Rattle.script_reader.specs.Gives.{Gives}
use Rattle.script_reader.specs.Instructions.{instructions_at}
use Rattle.script_reader.specs.Numbered.{known, names_of, new_name, number_in, numbered_behaviour, numbered_instr, numbered_instrs, numbered_seed}
use Rattle.script_reader.specs.Rows.{behaviour_of, behaviours_at, crash_of, crashes_at, draft_of, ends_at, link_of, links_at, new_link_of, seed_of, seeds_at, table, tie_of, tie_row, ties_at}
use Rattle.script_reader.specs.Scripts.{numbered, whole}
use Rattle.script_reader.specs.Valid.{AreRows, IsScript, Scripted, is_crash, is_link, is_seed, is_tie, same_tie}
use Rattle.script_reader.specs.Walk.{array_at, each, number_at, object_at, optional_at, passes, text_at}
use Rattle.script_reader.proofs.DraftLaws.{crashes-differ, links-differ, none_false}
use Rattle.script_reader.proofs.EachLaws.{array_at-few, both_hold, each-all, each-differ, each-length, each-pass, each-same, made, number_at-range, optional_at-few, passed, text_at-test, two_steps}
use Rattle.script_reader.proofs.InstructionLaws.{fits, list-fits}
use Rattle.script_reader.proofs.TakenLemmas.{bytes_eq-flip}

three : (a b c : Bool) → a ≡ true → b ≡ true → c ≡ true → (a && b && c) ≡ true
three a b c p q r = and_from (a && b) c (and_from a b p q) r

four : (a b c d : Bool) → a ≡ true → b ≡ true → c ≡ true → d ≡ true → (a && b && c && d) ≡ true
four a b c d p q r s = and_from (a && b && c) d (three a b c p q r) s

-- a list of a draft, where there are n behaviours
abbrev fits_list : ℕ → List DraftInstr → Bool
fits_list n is = nat_le (length is) 64 && list_all (fits n) is

abbrev fits_behaviour : ℕ → DraftBehaviour → Bool
fits_behaviour n b = is_behaviour_name b.name && fits_list n b.wake && fits_list n b.message

abbrev fits_seed : ℕ → DraftSeed → Bool
fits_seed nodes s = nat_lt s.node nodes && nat_le s.wakes 1000000

-- what a draft keeps
record IsDraft (d : Draft) : Type 0 where
  nodes : (1 ≤ d.nodes) × (d.nodes ≤ 16)
  few_behaviours : length d.behaviours ≤ 256
  behaviours : (n : ℕ) → list_all (fits_behaviour n) d.behaviours ≡ true
  few_seeds : length d.seeds ≤ 4096
  seeds : list_all (fits_seed d.nodes) d.seeds ≡ true
  ties : AreRows 4096 (is_tie (length d.seeds)) same_tie d.ties
  losses : AreRows 4096 (is_link d.nodes) same_row d.losses
  repeats : AreRows 4096 (is_link d.nodes) same_row d.repeats
  crashes : AreRows 16 (is_crash d.nodes) same_node d.crashes
  turns : (1 ≤ d.turns) × (d.turns ≤ 1000000)

list-true : (n : ℕ) (key : Word) (d : Data) (is : List DraftInstr) → instructions_at key d ≡ Ok is → fits_list n is ≡ true
list-true n key d is h = let k = list-fits n key d is h in and_from (nat_le (length is) 64) (list_all (fits n) is) (le-leb (length is) 64 k.0) k.1

behaviour-fits : (n : ℕ) (d : Data) (b : DraftBehaviour) → behaviour_of d ≡ Ok b → fits_behaviour n b ≡ true
unfolding behaviour_of
behaviour-fits n d b h =
    let o = two_steps (object_at words.Behaviour (words.Name ∷ words.Wake ∷ words.Message ∷ []) d) _ b h in
    let name = two_steps (text_at words.Name is_behaviour_name d) _ b o.2 in
    let wake = two_steps (instructions_at words.Wake d) _ b name.2 in
    let message = two_steps (instructions_at words.Message d) _ b wake.2 in
    let row : DraftBehaviour = record { name = name.0; wake = wake.0; message = message.0 } in
    let spelled : is_behaviour_name name.0 ≡ true = text_at-test words.Name is_behaviour_name d name.0 name.1 in
    subst (λ r. fits_behaviour n r ≡ true) (made row b message.2)
    (three (is_behaviour_name name.0) (fits_list n wake.0) (fits_list n message.0) spelled (list-true n words.Wake d wake.0 wake.1) (list-true n words.Message d message.0 message.1))

seed-fits : (nodes : ℕ) (d : Data) (s : DraftSeed) → seed_of nodes d ≡ Ok s → fits_seed nodes s ≡ true
unfolding seed_of
seed-fits nodes d s h =
    let o = two_steps (object_at words.Seed (words.Node ∷ words.Behaviour ∷ words.Wakes ∷ []) d) _ s h in
    let node = two_steps (number_at words.Node 0 nodes d) _ s o.2 in
    let behaviour = two_steps (text_at words.Behaviour is_behaviour_name d) _ s node.2 in
    let wakes = two_steps (number_at words.Wakes 0 1000001 d) _ s behaviour.2 in
    let row : DraftSeed = record { node = node.0; behaviour = behaviour.0; wakes = wakes.0 } in
    let at = number_at-range words.Node 0 nodes d node.0 node.1 in
    let most = number_at-range words.Wakes 0 1000001 d wakes.0 wakes.1 in
    let few : wakes.0 ≤ 1000000 = omega (arith, most.1) in
    subst (λ r. fits_seed nodes r ≡ true) (made row s wakes.2) (and_from (nat_lt node.0 nodes) (nat_le wakes.0 1000000) (lt-ltb node.0 nodes at.1) (le-leb wakes.0 1000000 few))

-- the two ends are different, and below the limit
ends-range : (limit : ℕ) (d : Data) (ends : ℕ × ℕ) → ends_at limit d ≡ Ok ends → (nat_lt ends.0 limit ≡ true) × (nat_lt ends.1 limit ≡ true) × (not (ends.1 == ends.0) ≡ true)
ends-range limit d ends h =
    let from = two_steps (number_at words.From 0 limit d) _ ends h in
    let to = two_steps (number_at words.To 0 limit d) _ ends from.2 in
    let p = passed words.To (not (to.0 == from.0)) (from.0, to.0) ends to.2 in
    subst (λ (e : ℕ × ℕ). (nat_lt e.0 limit ≡ true) × (nat_lt e.1 limit ≡ true) × (not (e.1 == e.0) ≡ true)) p.1
    (lt-ltb from.0 limit (number_at-range words.From 0 limit d from.0 from.1).1, lt-ltb to.0 limit (number_at-range words.To 0 limit d to.0 to.1).1, p.0)

tie-row : (seeds : ℕ) (d : Data) (t : Tie) → tie_row seeds d ≡ Ok t → is_tie seeds t ≡ true
unfolding tie_row
tie-row seeds d t h =
    let o = two_steps (object_at words.Tie (words.From ∷ words.To ∷ words.As ∷ []) d) _ t h in
    let ends = two_steps (ends_at seeds d) _ t o.2 in
    let name = two_steps (text_at words.As is_local_name d) _ t ends.2 in
    let row : Tie = record { from = ends.0.0; to = ends.0.1; name = name.0 } in
    let e = ends-range seeds d ends.0 ends.1 in
    let spelled : is_local_name name.0 ≡ true = text_at-test words.As is_local_name d name.0 name.1 in
    subst (λ r. is_tie seeds r ≡ true) (made row t name.2) (four (nat_lt ends.0.0 seeds) (nat_lt ends.0.1 seeds) (not (ends.0.1 == ends.0.0)) (is_local_name name.0) e.0 e.1 e.2 spelled)

tie-new : (seeds : ℕ) (before : List Tie) (d : Data) (t : Tie) → tie_of seeds before d ≡ Ok t → (is_tie seeds t ≡ true) × (list_any (same_tie t) before ≡ false)
tie-new seeds before d t h =
    let row = two_steps (tie_row seeds d) _ t h in
    let p = passed words.As (not (list_any (same_tie row.0) before)) row.0 t row.2 in
    subst (λ (r : Tie). (is_tie seeds r ≡ true) × (list_any (same_tie r) before ≡ false)) p.1
    (tie-row seeds d row.0 row.1, none_false (list_any (same_tie row.0) before) p.0)

bytes_eq-self : (xs : List ℕ) → bytes_eq xs xs ≡ true
bytes_eq-self xs = (bytes_eq-Decides xs xs).1 refl

bytes_eq-laws : IsEquivalence bytes_eq
bytes_eq-laws = record {
  refl = bytes_eq-self;
  symm = bytes_eq-flip;
  congr = λ xs ys zs h. ap (λ s. bytes_eq s zs) ((bytes_eq-Decides xs ys).0 h);
}

same_number : (a b : ℕ) → (a == b) ≡ true → a ≡ b
same_number a b h = grind (arith, nat_tests)

flip : (a b : ℕ) → (a == b) ≡ (b == a)
flip a b = grind (arith, nat_tests)

self : (a : ℕ) → (a == a) ≡ true
self a = grind (arith, nat_tests)

same_tie-laws : IsEquivalence same_tie
same_tie-laws = record {
  refl = λ t. and_from (t.from == t.from) (bytes_eq t.name t.name) (self t.from) (bytes_eq-self t.name);
  symm = λ t u. ap₂ (λ a b. a && b) (flip t.from u.from) (bytes_eq-flip t.name u.name);
  congr = λ t u v h.
      let p = both_hold (t.from == u.from) (bytes_eq t.name u.name) h in
      ap₂ (λ n s. (n == v.from) && bytes_eq s v.name) (same_number t.from u.from p.0) ((bytes_eq-Decides t.name u.name).0 p.1);
}

ties-kept : (seeds : ℕ) (d : Data) (rows : List Tie) → ties_at seeds d ≡ Ok rows → AreRows 4096 (is_tie seeds) same_tie rows
unfolding IsDistinct
ties-kept seeds d rows h =
    let ds = two_steps (optional_at words.Ties 4096 d) _ rows h in
    let few = optional_at-few words.Ties 4096 d ds.0 ds.1 in
    let len = each-length (tie_of seeds) [] ds.0 rows ds.2 in
    record {
      few = omega arith;
      pass = each-pass (tie_of seeds) (is_tie seeds) (λ before e t r. (tie-new seeds before e t r).0) [] ds.0 rows refl ds.2;
      differ = each-differ same_tie-laws (tie_of seeds) (λ before e t r. (tie-new seeds before e t r).1) [] ds.0 rows tt ds.2;
    }

link-row : (name : Word) (nodes : ℕ) (d : Data) (r : LinkRow) → link_of name nodes d ≡ Ok r → is_link nodes r ≡ true
unfolding link_of
link-row name nodes d r h =
    let o = two_steps (object_at name (words.From ∷ words.To ∷ words.Number ∷ []) d) _ r h in
    let ends = two_steps (ends_at nodes d) _ r o.2 in
    let number = two_steps (number_at words.Number 0 1000000 d) _ r ends.2 in
    let e = ends-range nodes d ends.0 ends.1 in
    let few = number_at-range words.Number 0 1000000 d number.0 number.1 in
    subst (λ s. is_link nodes s ≡ true) (made (link_row ends.0.0 ends.0.1 number.0) r number.2) (four (nat_lt ends.0.0 nodes) (nat_lt ends.0.1 nodes) (not (ends.0.1 == ends.0.0)) (nat_lt number.0 1000000) e.0 e.1 e.2 (lt-ltb number.0 1000000 few.1))

new_link-row : (name : Word) (nodes : ℕ) (before : List LinkRow) (d : Data) (r : LinkRow) → new_link_of name nodes before d ≡ Ok r → is_link nodes r ≡ true
new_link-row name nodes before d r h =
    let row = two_steps (link_of name nodes d) _ r h in
    let p = passed words.Number (not (list_any (same_row row.0) before)) row.0 r row.2 in
    subst (λ s. is_link nodes s ≡ true) p.1 (link-row name nodes d row.0 row.1)

links-kept : (key name : Word) (nodes : ℕ) (d : Data) (rows : List LinkRow) → links_at key name nodes d ≡ Ok rows → AreRows 4096 (is_link nodes) same_row rows
links-kept key name nodes d rows h =
    let ds = two_steps (optional_at key 4096 d) _ rows h in
    let few = optional_at-few key 4096 d ds.0 ds.1 in
    let len = each-length (new_link_of name nodes) [] ds.0 rows ds.2 in
    record {
      few = omega arith;
      pass = each-pass (new_link_of name nodes) (is_link nodes) (new_link-row name nodes) [] ds.0 rows refl ds.2;
      differ = links-differ key name nodes d rows h;
    }

crash-row : (nodes : ℕ) (before : List CrashRow) (d : Data) (r : CrashRow) → crash_of nodes before d ≡ Ok r → is_crash nodes r ≡ true
unfolding crash_of
crash-row nodes before d r h =
    let o = two_steps (object_at words.Crash (words.Node ∷ words.After ∷ []) d) _ r h in
    let node = two_steps (number_at words.Node 0 nodes d) _ r o.2 in
    let new = two_steps (passes words.Node (not (list_any (λ s. node.0 == s.node) before))) _ r node.2 in
    let after = two_steps (number_at words.After 1 1000001 d) _ r new.2 in
    let row : CrashRow = record { node = node.0; after = after.0 } in
    let at = number_at-range words.Node 0 nodes d node.0 node.1 in
    let turns = number_at-range words.After 1 1000001 d after.0 after.1 in
    let most : after.0 ≤ 1000000 = omega (arith, turns.1) in
    subst (λ s. is_crash nodes s ≡ true) (made row r after.2) (three (nat_lt node.0 nodes) (nat_le 1 after.0) (nat_le after.0 1000000) (lt-ltb node.0 nodes at.1) (le-leb 1 after.0 turns.0) (le-leb after.0 1000000 most))

crashes-kept : (nodes : ℕ) (d : Data) (rows : List CrashRow) → crashes_at nodes d ≡ Ok rows → AreRows 16 (is_crash nodes) same_node rows
crashes-kept nodes d rows h =
    let ds = two_steps (optional_at words.Crashes 16 d) _ rows h in
    let few = optional_at-few words.Crashes 16 d ds.0 ds.1 in
    let len = each-length (crash_of nodes) [] ds.0 rows ds.2 in
    record {
      few = omega arith;
      pass = each-pass (crash_of nodes) (is_crash nodes) (crash-row nodes) [] ds.0 rows refl ds.2;
      differ = crashes-differ nodes d rows h;
    }

number_at-most : (key : Word) (low most : ℕ) (d : Data) (n : ℕ) → number_at key low (most + 1) d ≡ Ok n → (low ≤ n) × (n ≤ most)
number_at-most key low most d n h = let r = number_at-range key low (most + 1) d n h in (r.0, omega (arith, r.1))

behaviours-kept : (d : Data) (bs : List DraftBehaviour) → behaviours_at d ≡ Ok bs → (length bs ≤ 256) × ((n : ℕ) → list_all (fits_behaviour n) bs ≡ true)
behaviours-kept d bs h =
    let ds = two_steps (array_at words.Behaviours 256 d) _ bs h in
    let few = array_at-few words.Behaviours 256 d ds.0 ds.1 in
    let len = each-length (λ _. behaviour_of) [] ds.0 bs ds.2 in
    (omega arith, λ n. each-pass (λ _. behaviour_of) (fits_behaviour n) (λ _ e b r. behaviour-fits n e b r) [] ds.0 bs refl ds.2)

seeds-kept : (nodes : ℕ) (d : Data) (ss : List DraftSeed) → seeds_at nodes d ≡ Ok ss → (length ss ≤ 4096) × (list_all (fits_seed nodes) ss ≡ true)
seeds-kept nodes d ss h =
    let ds = two_steps (array_at words.Seeds 4096 d) _ ss h in
    let few = array_at-few words.Seeds 4096 d ds.0 ds.1 in
    let len = each-length (λ _. seed_of nodes) [] ds.0 ss ds.2 in
    (omega arith, each-pass (λ _. seed_of nodes) (fits_seed nodes) (λ _ e s r. seed-fits nodes e s r) [] ds.0 ss refl ds.2)

-- a draft that is read keeps all of this
draft-kept : (d : Data) (draft : Draft) → draft_of d ≡ Ok draft → IsDraft draft
unfolding draft_of
draft-kept d draft h =
    let o = two_steps (object_at words.Script table d) _ draft h in
    let nodes = two_steps (number_at words.Nodes 1 17 d) _ draft o.2 in
    let behaviours = two_steps (behaviours_at d) _ draft nodes.2 in
    let seeds = two_steps (seeds_at nodes.0 d) _ draft behaviours.2 in
    let ties = two_steps (ties_at (length seeds.0) d) _ draft seeds.2 in
    let losses = two_steps (links_at words.Losses words.Loss nodes.0 d) _ draft ties.2 in
    let repeats = two_steps (links_at words.Repeats words.Repeat nodes.0 d) _ draft losses.2 in
    let crashes = two_steps (crashes_at nodes.0 d) _ draft repeats.2 in
    let turns = two_steps (number_at words.Turns 1 1000001 d) _ draft crashes.2 in
    let read : Draft = record { nodes = nodes.0; behaviours = behaviours.0; seeds = seeds.0; ties = ties.0; losses = losses.0; repeats = repeats.0; crashes = crashes.0; turns = turns.0 } in
    let bs = behaviours-kept d behaviours.0 behaviours.1 in
    let ss = seeds-kept nodes.0 d seeds.0 seeds.1 in
    subst IsDraft (made read draft turns.2)
    (record {
      nodes = number_at-most words.Nodes 1 16 d nodes.0 nodes.1;
      few_behaviours = bs.0;
      behaviours = bs.1;
      few_seeds = ss.0;
      seeds = ss.1;
      ties = ties-kept (length seeds.0) d ties.0 ties.1;
      losses = links-kept words.Losses words.Loss nodes.0 d losses.0 losses.1;
      repeats = links-kept words.Repeats words.Repeat nodes.0 d repeats.0 repeats.1;
      crashes = crashes-kept nodes.0 d crashes.0 crashes.1;
      turns = number_at-most words.Turns 1 1000000 d turns.0 turns.1;
    })

-- ---- names become numbers

either_place : (b : Bool) (i n k : ℕ) (later : Option ℕ) → (later ≡ Some k → k < i + 1 + n) → cond b (Some i) later ≡ Some k → k < i + suc n
either_place true i n k later below e = let is : i ≡ k = cc in omega arith
either_place false i n k later below e = let small = below e in omega arith

position-range : {A : Type 0} (p : A → Bool) (i : ℕ) (xs : List A) (k : ℕ) → position_from p i xs ≡ Some k → k < i + length xs
position-range p i [] k h = absurd cc
position-range p i (x ∷ xs) k h = either_place (p x) i (length xs) k (position_from p (i + 1) xs) (position-range p (i + 1) xs k) h

known-some : (name : List ℕ) (o : Option ℕ) (k : ℕ) → known name o ≡ Ok k → o ≡ Some k
known-some name None k h = absurd cc
known-some name (Some j) k h = cc

module _ (n : ℕ) (number : List ℕ → Option ℕ) (below : (name : List ℕ) (k : ℕ) → number name ≡ Some k → k < n) where
  instr-kept : (i : DraftInstr) (j : Instr) → fits n i ≡ true → numbered_instr number i ≡ Ok j → is_instr n j ≡ true
  instr-kept (Spawn x b) j fit h =
      let k = two_steps (known b (number b)) _ j h in
      let small = lt-ltb k.0 n (below b k.0 (known-some b (number b) k.0 k.1)) in
      subst (λ i. is_instr n i ≡ true) (made (instrs.Spawn x k.0) j k.2) (and_from (is_local_name x) (nat_lt k.0 n) fit small)
  instr-kept (Other i) j fit h = subst (λ k. is_instr n k ≡ true) (made i j h) fit

  instrs-kept : (is : List DraftInstr) (js : List Instr) → fits_list n is ≡ true → numbered_instrs number is ≡ Ok js → is_instr_list n js ≡ true
  instrs-kept is js fit h =
      let p = both_hold (nat_le (length is) 64) (list_all (fits n) is) fit in
      let len = each-length (λ _. numbered_instr number) [] is js h in
      let same : length js ≡ length is = omega (arith, len) in
      and_from (nat_le (length js) 64) (list_all (is_instr n) js) (ap (λ k. nat_le k 64) same ∙ p.0) (each-all (λ _. numbered_instr number) (fits n) (is_instr n) (λ _ i j f e. instr-kept i j f e) [] is js p.1 refl h)

  behaviour-kept : (b : DraftBehaviour) (c : Behaviour) → fits_behaviour n b ≡ true → numbered_behaviour number b ≡ Ok c → is_behaviour n c ≡ true
  behaviour-kept b c fit h =
      let wake = two_steps (numbered_instrs number b.wake) _ c h in
      let message = two_steps (numbered_instrs number b.message) _ c wake.2 in
      let row : Behaviour = record { name = b.name; wake = wake.0; message = message.0 } in
      let p = both_hold (is_behaviour_name b.name && fits_list n b.wake) (fits_list n b.message) fit in
      let q = both_hold (is_behaviour_name b.name) (fits_list n b.wake) p.0 in
      subst (λ r. is_behaviour n r ≡ true) (made row c message.2) (three (is_behaviour_name b.name) (is_instr_list n wake.0) (is_instr_list n message.0) q.0 (instrs-kept b.wake wake.0 q.1 wake.1) (instrs-kept b.message message.0 p.1 message.1))

  seed-kept : (nodes : ℕ) (s : DraftSeed) (t : Seed) → fits_seed nodes s ≡ true → numbered_seed number s ≡ Ok t → is_seed nodes n t ≡ true
  seed-kept nodes s t fit h =
      let k = two_steps (known s.behaviour (number s.behaviour)) _ t h in
      let p = both_hold (nat_lt s.node nodes) (nat_le s.wakes 1000000) fit in
      let small = lt-ltb k.0 n (below s.behaviour k.0 (known-some s.behaviour (number s.behaviour) k.0 k.1)) in
      let row : Seed = record { node = s.node; behaviour = k.0; wakes = s.wakes } in
      subst (λ r. is_seed nodes n r ≡ true) (made row t k.2) (three (nat_lt s.node nodes) (nat_lt k.0 n) (nat_le s.wakes 1000000) p.0 small p.1)

name-same : (number : List ℕ → Option ℕ) (b : DraftBehaviour) (c : Behaviour) → numbered_behaviour number b ≡ Ok c → c.name ≡ b.name
name-same number b c h =
    let wake = two_steps (numbered_instrs number b.wake) _ c h in
    let message = two_steps (numbered_instrs number b.message) _ c wake.2 in
    let row : Behaviour = record { name = b.name; wake = wake.0; message = message.0 } in
    ap (λ (r : Behaviour). r.name) (sym (made row c message.2))

new_name-new : (before : List (List ℕ)) (b : DraftBehaviour) (name : List ℕ) → new_name before b ≡ Ok name → (name ≡ b.name) × (list_any (bytes_eq name) before ≡ false)
new_name-new before b name h =
    let p = passed words.Name (not (list_any (bytes_eq b.name) before)) b.name name h in
    (sym p.1, subst (λ s. list_any (bytes_eq s) before ≡ false) p.1 (none_false (list_any (bytes_eq b.name) before) p.0))

map-same : {A : Type 0} (xs : List A) → map (λ x. x) xs ≡ xs
map-same [] = refl
map-same (x ∷ xs) = ap (λ ys. x ∷ ys) (map-same xs)

numbered-kept : (draft : Draft) (s : Scripted) → IsDraft draft → numbered draft ≡ Ok s → IsScript s
unfolding IsDistinct
numbered-kept draft s keeps h =
    let bs = draft.behaviours in
    let names = two_steps (names_of bs) _ s h in
    let code = two_steps (each (λ _. numbered_behaviour (number_in names.0)) bs) _ s names.2 in
    let seeds = two_steps (each (λ _. numbered_seed (number_in names.0)) draft.seeds) _ s code.2 in
    let n = length code.0 in
    let names_len = each-length new_name [] bs names.0 names.1 in
    let code_len = each-length (λ _. numbered_behaviour (number_in names.0)) [] bs code.0 code.1 in
    let seeds_len = each-length (λ _. numbered_seed (number_in names.0)) [] draft.seeds seeds.0 seeds.1 in
    let seeds_same : length seeds.0 ≡ length draft.seeds = omega (arith, seeds_len) in
    let below : (name : List ℕ) (k : ℕ) → number_in names.0 name ≡ Some k → k < n =
    λ name k e. let range = position-range (bytes_eq name) 0 names.0 k e in omega (arith, range, names_len, code_len) in
    let named : names.0 ≡ map (λ (b : DraftBehaviour). b.name) bs =
    sym (map-same names.0) ∙ each-same new_name (λ (b : DraftBehaviour). b.name) (λ x. x) (λ before b name e. (new_name-new before b name e).0) [] bs names.0 names.1 in
    let kept_names : map (λ (b : Behaviour). b.name) code.0 ≡ map (λ (b : DraftBehaviour). b.name) bs =
    each-same (λ _. numbered_behaviour (number_in names.0)) (λ (b : DraftBehaviour). b.name) (λ (b : Behaviour). b.name) (λ _ b c e. name-same (number_in names.0) b c e) [] bs code.0 code.1 in
    let differ = each-differ bytes_eq-laws new_name (λ before b name e. (new_name-new before b name e).1) [] bs names.0 tt names.1 in
    let few = keeps.few_behaviours in
    let few_seeds = keeps.few_seeds in
    subst IsScript (made (whole draft code.0 seeds.0) s seeds.2)
    (record {
      nodes = keeps.nodes;
      code = (
        omega (arith, few, code_len),
        each-all (λ _. numbered_behaviour (number_in names.0)) (fits_behaviour n) (is_behaviour n) (λ _ b c f e. behaviour-kept n (number_in names.0) below b c f e) [] bs code.0 (keeps.behaviours n) refl code.1,
        subst (IsDistinct bytes_eq) (named ∙ sym kept_names) differ,
      );
      few_seeds = omega (arith, few_seeds, seeds_same);
      seeds = each-all (λ _. numbered_seed (number_in names.0)) (fits_seed draft.nodes) (is_seed draft.nodes n) (λ _ b c f e. seed-kept n (number_in names.0) below draft.nodes b c f e) [] draft.seeds seeds.0 keeps.seeds refl seeds.1;
      ties = subst (λ k. AreRows 4096 (is_tie k) same_tie draft.ties) (sym seeds_same) keeps.ties;
      losses = keeps.losses;
      repeats = keeps.repeats;
      crashes = keeps.crashes;
      turns = keeps.turns;
    })

-- so each part of a script that is read is as the format asks
pub script-kept : (d : Data) (draft : Draft) (r : Result Scripted Halt) → draft_of d ≡ Ok draft → Gives r (numbered draft) → IfOk r (λ s. IsScript s)
script-kept d draft (Ok s) read h = numbered-kept draft s (draft-kept d draft read) h
script-kept d draft (Err e) read h = tt
