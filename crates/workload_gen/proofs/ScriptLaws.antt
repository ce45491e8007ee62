-- The tree of a generated script stands for the stated script.
use Rattle.std.proofs.Common.{◌≡◌, ◌<◌, ◌≤◌, ◌+◌, ◌==◌, ◌&&◌, ◌++◌, true, false, not, nat_le, nat_lt, ℕ, suc, List, [], ◌∷◌, map, length, Result, Ok, codes, refl, sym, ap, ◌∙◌, arith}
use Rattle.std.proofs.lemmas.Bool.{and_from, le-leb, lt-ltb, ne_eqb}
use Rattle.std.proofs.lemmas.List.{append-nil, append_assoc, length-map}
use Rattle.std.specs.List.{AllByRecursion, enumerate_from, list_any}
use Rattle.serde_json.specs.Data.{Data, array}
use Rattle.serde_json.specs.View.{items_of}
use Rattle.behaviour_lang.specs.declared.instr.Instr.TheVariants as instrs
use Rattle.behaviour_lang.specs.declared.instr.Name.TheVariants.{Message, Local}
use Rattle.behaviour_lang.specs.Names.{is_behaviour_name, is_local_name, message_number}
use Rattle.script_reader.specs.declared.draft.Draft.{Draft}
use Rattle.script_reader.specs.declared.draft.DraftBehaviour.{DraftBehaviour}
use Rattle.script_reader.specs.declared.draft.DraftInstr.TheVariants.{Spawn, Other}
use Rattle.script_reader.specs.declared.draft.DraftSeed.{DraftSeed}
use Rattle.script_reader.specs.declared.fault.Flaw.{Flaw}
use Rattle.script_reader.specs.declared.script.Seed.{Seed}
use Rattle.script_reader.specs.declared.script.Tie.{Tie}
use Rattle.script_reader.specs.declared.words.Word.{Word}
use Rattle.script_reader.specs.declared.words.Word.TheVariants as words
use Rattle.script_reader.specs.Instructions.{drop_of, instruction_with, keep_of, name_of, send_of, spawn_of}
use Rattle.script_reader.specs.Numbered.{number_in, numbered_seed}
use Rattle.script_reader.specs.Rows.{behaviour_of, behaviours_at, draft_of, seed_of, seeds_at, tie_of, tie_row, ties_at}
use Rattle.script_reader.specs.Scripts.{numbered, script_of}
use Rattle.script_reader.specs.Valid.{Scripted, same_tie}
use Rattle.script_reader.specs.Walk.{◌>>=◌, array_in, each, each_after, in_range}
use Rattle.script_reader.proofs.Trees.{list_of-items}
use Rattle.workload_gen.specs.declared.makers.Maker.{Maker}
use Rattle.workload_gen.specs.Scripts.{friend_seed, maker_seed, maker_tie, script}
use Rattle.workload_gen.specs.Trees.{friend_seed_tree, maker_seed_tree, tie_tree, tree}
use Rattle.workload_gen.proofs.TreeLaws.{IsFit}

-- what reads well goes on
bind : {A B : Type 0} (r : Result A Flaw) (x : A) (f : A → Result B Flaw) (z : Result B Flaw) → r ≡ Ok x → f x ≡ z → (r >>= f) ≡ z
bind r x f z e h = ap (λ s. s >>= f) e ∙ h

-- what each element is read as
each-made : {A B C : Type 0} (read : List B → A → Result B Flaw) (item : C → A) (row : C → B) (ok : C → Type 0)
    (step : (before : List B) (c : C) → ok c → read before (item c) ≡ Ok (row c)) (before : List B) (cs : List C) → AllByRecursion ok cs
    → each_after read before (map item cs) ≡ Ok (before ++ map row cs)
each-made read item row ok step before [] h = ap Ok (sym (append-nil before))
each-made read item row ok step before (c ∷ cs) h =
    bind (read before (item c)) (row c) (λ y. each_after read (before ++ y ∷ []) (map item cs)) (Ok (before ++ map row (c ∷ cs))) (step before c h.0)
    (each-made read item row ok step (before ++ row c ∷ []) cs h.1 ∙ ap Ok (append_assoc before (row c ∷ []) (map row cs)))

ranged : (key : Word) (low limit n : ℕ) → low ≤ n → n < limit → in_range key (nat_le low n && nat_lt n limit) n ≡ Ok n
ranged key low limit n p q = ap (λ b. in_range key b n) (and_from (nat_le low n) (nat_lt n limit) (le-leb low n p) (lt-ltb n limit q))

array-read : (key : Word) (most : ℕ) (ds : List Data) → length ds ≤ most → array_in key most (array (items_of ds)) ≡ Ok ds
array-read key most ds h = ap (λ xs. in_range key (nat_le (length xs) most) xs) (list_of-items ds) ∙ ap (λ b. in_range key b ds) (le-leb (length ds) most h)

-- ---- seeds

abbrev friend_draft_seed : ℕ → DraftSeed
friend_draft_seed n = record { node = n; behaviour = codes "friend"; wakes = 0 }

abbrev maker_draft_seed : Maker → DraftSeed
maker_draft_seed m = record { node = m.node; behaviour = codes "maker"; wakes = m.wakes }

abbrev draft_seeds : List Maker → List DraftSeed
draft_seeds ms = map friend_draft_seed (0 ∷ 1 ∷ 2 ∷ 3 ∷ []) ++ map maker_draft_seed ms

abbrev seed_trees : List Maker → List Data
seed_trees ms = map friend_seed_tree (0 ∷ 1 ∷ 2 ∷ 3 ∷ []) ++ map maker_seed_tree ms

seed-read : (m : Maker) → IsFit m → seed_of 4 (maker_seed_tree m) ≡ Ok (maker_draft_seed m)
unfolding seed_of is_behaviour_name
seed-read m h =
    bind (in_range words.Node (nat_le 0 m.node && nat_lt m.node 4) m.node) m.node
    (λ n. in_range words.Wakes (nat_le 0 m.wakes && nat_lt m.wakes 1000001) m.wakes >>= λ w. Ok (record { node = n; behaviour = codes "maker"; wakes = w })) (Ok (maker_draft_seed m))
    (ranged words.Node 0 4 m.node (omega arith) h.node)
    (bind (in_range words.Wakes (nat_le 0 m.wakes && nat_lt m.wakes 1000001) m.wakes) m.wakes (λ w. Ok (record { node = m.node; behaviour = codes "maker"; wakes = w })) (Ok (maker_draft_seed m))
    (ranged words.Wakes 0 1000001 m.wakes (omega arith) h.wakes) refl)

seeds-each : (ms : List Maker) → AllByRecursion IsFit ms → each (λ _. seed_of 4) (seed_trees ms) ≡ Ok (draft_seeds ms)
unfolding seed_of is_behaviour_name
seeds-each ms fit = each-made (λ _. seed_of 4) maker_seed_tree maker_draft_seed IsFit (λ _ m h. seed-read m h) (map friend_draft_seed (0 ∷ 1 ∷ 2 ∷ 3 ∷ [])) ms fit

seeds-read : (ms : List Maker) → length ms ≤ 16 → AllByRecursion IsFit ms → seeds_at 4 (tree ms) ≡ Ok (draft_seeds ms)
seeds-read ms few fit =
    let len = length-map ms maker_seed_tree in
    bind (array_in words.Seeds 4096 (array (items_of (seed_trees ms)))) (seed_trees ms) (each (λ _. seed_of 4)) (Ok (draft_seeds ms))
    (array-read words.Seeds 4096 (seed_trees ms) (omega arith)) (seeds-each ms fit)

-- ---- ties

-- the ties begin at seeds below k
abbrev Below : ℕ → List Tie → Type 0
Below k ts = AllByRecursion (λ (t : Tie). t.from < k) ts

below-push : (k : ℕ) (ts : List Tie) (t : Tie) → t.from ≡ k → Below k ts → Below (k + 1) (ts ++ t ∷ [])
below-push k [] t is h = (omega arith, tt)
below-push k (u ∷ ts) t is h = let first = h.0 in (omega arith, below-push k ts t is h.1)

none-same : (k : ℕ) (ts : List Tie) (t : Tie) → t.from ≡ k → Below k ts → list_any (same_tie t) ts ≡ false
none-same k [] t is h = refl
none-same k (u ∷ ts) t is h =
    let first = h.0 in
    let other : (t.from == u.from) ≡ false = ne_eqb t.from u.from (λ e. omega arith) in
    rw (other, none-same k ts t is h.1)

tie-read : (j : ℕ) (m : Maker) (before : List Tie) → j < 16 → IsFit m → Below (4 + j) before → tie_of 20 before (tie_tree (j, m)) ≡ Ok (maker_tie (j, m))
unfolding tie_row is_local_name
tie-read j m before h fit below =
    let f = fit.friend in
    let from = 4 + j in
    let other : not (m.friend == from) ≡ true = ap not (ne_eqb m.friend from (λ e. omega arith)) in
    let t = maker_tie (j, m) in
    let name : ℕ × ℕ → Result Tie Flaw = λ ends. Ok (record { from = ends.0; to = ends.1; name = codes "b" }) in
    let new : Tie → Result Tie Flaw = λ u. in_range words.As (not (list_any (same_tie u) before)) u in
    let to : ℕ → Result (ℕ × ℕ) Flaw = λ a. in_range words.To (nat_le 0 m.friend && nat_lt m.friend 20) m.friend >>= λ b. in_range words.To (not (b == a)) (a, b) in
    let ends = in_range words.From (nat_le 0 from && nat_lt from 20) from >>= to in
    let pair : ends ≡ Ok (from, m.friend) =
    bind (in_range words.From (nat_le 0 from && nat_lt from 20) from) from to (Ok (from, m.friend)) (ranged words.From 0 20 from (omega arith) (omega arith))
    (bind (in_range words.To (nat_le 0 m.friend && nat_lt m.friend 20) m.friend) m.friend (λ b. in_range words.To (not (b == from)) (from, b)) (Ok (from, m.friend))
    (ranged words.To 0 20 m.friend (omega arith) (omega arith)) (ap (λ b. in_range words.To b (from, m.friend)) other)) in
    bind (ends >>= name) t new (Ok t) (bind ends (from, m.friend) name (Ok t) pair refl) (ap (λ b. in_range words.As (not b) t) (none-same from before t refl below))

ties-each : (j : ℕ) (ms : List Maker) (before : List Tie) → j + length ms ≤ 16 → AllByRecursion IsFit ms → Below (4 + j) before
    → each_after (tie_of 20) before (map tie_tree (enumerate_from j ms)) ≡ Ok (before ++ map maker_tie (enumerate_from j ms))
ties-each j [] before h fit below = ap Ok (sym (append-nil before))
ties-each j (m ∷ ms) before h fit below =
    let t = maker_tie (j, m) in
    let place : 4 + j + 1 ≡ 4 + (j + 1) = omega arith in
    let more : Below (4 + (j + 1)) (before ++ t ∷ []) = rw (← place) (below-push (4 + j) before t refl below) in
    bind (tie_of 20 before (tie_tree (j, m))) t (λ u. each_after (tie_of 20) (before ++ u ∷ []) (map tie_tree (enumerate_from (j + 1) ms)))
    (Ok (before ++ map maker_tie (enumerate_from j (m ∷ ms)))) (tie-read j m before (omega arith) fit.0 below)
    (ties-each (j + 1) ms (before ++ t ∷ []) (omega arith) fit.1 more ∙ ap Ok (append_assoc before (t ∷ []) (map maker_tie (enumerate_from (j + 1) ms))))

length-enumerate : {A : Type 0} (j : ℕ) (xs : List A) → length (enumerate_from j xs) ≡ length xs
length-enumerate j [] = refl
length-enumerate j (x ∷ xs) = ap suc (length-enumerate (j + 1) xs)

ties-read : (n : ℕ) (ms : List Maker) → n ≡ 20 → length ms ≤ 16 → AllByRecursion IsFit ms → ties_at n (tree ms) ≡ Ok (map maker_tie (enumerate_from 0 ms))
ties-read n ms is few fit =
    let trees = map tie_tree (enumerate_from 0 ms) in
    let len = length-map (enumerate_from 0 ms) tie_tree ∙ length-enumerate 0 ms in
    ap (λ k. ties_at k (tree ms)) is
    ∙ bind (array_in words.Ties 4096 (array (items_of trees))) trees (each (tie_of 20)) (Ok (map maker_tie (enumerate_from 0 ms)))
    (array-read words.Ties 4096 trees (omega arith)) (ties-each 0 ms [] (omega arith) fit tt)

-- ---- the whole script

abbrev friend_draft : DraftBehaviour
friend_draft = record {
  name = codes "friend";
  wake = [];
  message = Spawn (codes "y") (codes "cell") ∷ Other (instrs.Send (Message 0) (Local (codes "y") ∷ [])) ∷ Other (instrs.Send (Local (codes "y")) (Message 0 ∷ [])) ∷ Other (instrs.Drop (Local (codes "y"))) ∷ [];
}

abbrev maker_draft : DraftBehaviour
maker_draft = record {
  name = codes "maker";
  wake = Spawn (codes "x") (codes "cell") ∷ Other (instrs.Send (Local (codes "b")) (Local (codes "x") ∷ [])) ∷ Other (instrs.Drop (Local (codes "x"))) ∷ [];
  message = [];
}

abbrev cell_draft : DraftBehaviour
cell_draft = record { name = codes "cell"; wake = []; message = Other (instrs.Keep (codes "k") 0) ∷ [] }

abbrev draft_behaviours : List DraftBehaviour
draft_behaviours = friend_draft ∷ maker_draft ∷ cell_draft ∷ []

behaviours-read : (ms : List Maker) → behaviours_at (tree ms) ≡ Ok draft_behaviours
unfolding behaviour_of instruction_with spawn_of send_of drop_of keep_of name_of is_local_name is_behaviour_name message_number
behaviours-read ms = refl

abbrev drafted : List Maker → Draft
drafted ms = record {
  nodes = 4;
  behaviours = draft_behaviours;
  seeds = draft_seeds ms;
  ties = map maker_tie (enumerate_from 0 ms);
  losses = [];
  repeats = [];
  crashes = [];
  turns = 1000000;
}

draft-read : (ms : List Maker) → length ms ≡ 16 → AllByRecursion IsFit ms → draft_of (tree ms) ≡ Ok (drafted ms)
unfolding draft_of
draft-read ms len fit =
    let d = tree ms in
    let few : length ms ≤ 16 = omega arith in
    let drafts = length-map ms maker_draft_seed in
    let twenty : length (draft_seeds ms) ≡ 20 = omega arith in
    let ties = map maker_tie (enumerate_from 0 ms) in
    let after_ties : List Tie → Result Draft Flaw = λ ts. Ok (record (drafted ms) { ties = ts }) in
    let after_seeds : List DraftSeed → Result Draft Flaw = λ ss. ties_at (length ss) d >>= λ ts. Ok (record { nodes = 4; behaviours = draft_behaviours; seeds = ss; ties = ts; losses = []; repeats = []; crashes = []; turns = 1000000 }) in
    let after_behaviours : List DraftBehaviour → Result Draft Flaw = λ bs. seeds_at 4 d >>= λ ss. ties_at (length ss) d >>= λ ts. Ok (record { nodes = 4; behaviours = bs; seeds = ss; ties = ts; losses = []; repeats = []; crashes = []; turns = 1000000 }) in
    bind (behaviours_at d) draft_behaviours after_behaviours (Ok (drafted ms)) (behaviours-read ms)
    (bind (seeds_at 4 d) (draft_seeds ms) after_seeds (Ok (drafted ms)) (seeds-read ms few fit)
    (bind (ties_at (length (draft_seeds ms)) d) ties after_ties (Ok (drafted ms)) (ties-read (length (draft_seeds ms)) ms twenty few fit) refl))

abbrev names : List (List ℕ)
names = codes "friend" ∷ codes "maker" ∷ codes "cell" ∷ []

Any : Maker → Type 0
Any m = Unit {0}

each-any : (ms : List Maker) → AllByRecursion Any ms
unfolding Any
each-any [] = tt
each-any (m ∷ ms) = (tt, each-any ms)

seeds-numbered : (ms : List Maker) → each (λ _. numbered_seed (number_in names)) (draft_seeds ms) ≡ Ok (map friend_seed (0 ∷ 1 ∷ 2 ∷ 3 ∷ []) ++ map maker_seed ms)
seeds-numbered ms = each-made (λ _. numbered_seed (number_in names)) maker_draft_seed maker_seed Any (λ _ m h. refl) (map friend_seed (0 ∷ 1 ∷ 2 ∷ 3 ∷ [])) ms (each-any ms)

numbered-draft : (ms : List Maker) → numbered (drafted ms) ≡ Ok (script ms)
numbered-draft ms =
    let seeds = map friend_seed (0 ∷ 1 ∷ 2 ∷ 3 ∷ []) ++ map maker_seed ms in
    let last : List Seed → Result Scripted Flaw = λ ss. Ok (record (script ms) { seeds = ss }) in
    bind (each (λ _. numbered_seed (number_in names)) (draft_seeds ms)) seeds last (Ok (script ms)) (seeds-numbered ms) refl

-- the tree stands for the script of the makers
pub tree-stands : (ms : List Maker) → length ms ≡ 16 → AllByRecursion IsFit ms → script_of (tree ms) ≡ Ok (script ms)
unfolding script_of
tree-stands ms len fit = bind (draft_of (tree ms)) (drafted ms) numbered (Ok (script ms)) (draft-read ms len fit) (numbered-draft ms)
