-- A script that a tree stands for stays in its ranges.
use Rattle.std.proofs.Common.{◌≡◌, ◌==◌, ℕ, true, not, nat_lt, List, [], ◌∷◌, length, Option, Result, Ok, refl, subst, arith}
use Rattle.std.specs.List.{list_all}
use Rattle.std.proofs.lemmas.Bool.{lt-ltb}
use Rattle.serde_json.specs.Data.{Data}
use Rattle.behaviour_lang.specs.Names.{is_behaviour_name, is_local_name}
use Rattle.script_reader.specs.declared.draft.Draft.{Draft}
use Rattle.script_reader.specs.declared.draft.DraftSeed.{DraftSeed}
use Rattle.script_reader.specs.declared.fault.Flaw.{Flaw}
use Rattle.script_reader.specs.declared.script.Seed.{Seed}
use Rattle.script_reader.specs.declared.script.Tie.{Tie}
use Rattle.script_reader.specs.declared.words.Word.TheVariants as words
use Rattle.script_reader.specs.Numbered.{known, names_of, number_in, numbered_behaviour, numbered_seed}
use Rattle.script_reader.specs.Rows.{behaviours_at, crashes_at, draft_of, ends_at, links_at, seed_of, seeds_at, table, tie_of, tie_row, ties_at}
use Rattle.script_reader.specs.Scripts.{numbered, script_of, whole}
use Rattle.script_reader.specs.Valid.{Scripted}
use Rattle.script_reader.specs.Walk.{array_at, each, number_at, object_at, optional_at, text_at}
use Rattle.script_reader.proofs.EachLaws.{each-all, each-length, number_at-range, passed, two_steps}
use Rattle.run_model.specs.Doing.{is_in_ranges, is_tie_in}

-- what was read well is what was made
made : {A : Type 0} (x y : A) → (let r : Result A Flaw = Ok x in r ≡ Ok y) → x ≡ y
made x y h = cc

-- every item passes the test that all pass
all-pass : {A : Type 0} (xs : List A) → list_all (λ _. true) xs ≡ true
all-pass [] = refl
all-pass (x ∷ xs) = all-pass xs

seed-in : (nodes : ℕ) (d : Data) (x : DraftSeed) → seed_of nodes d ≡ Ok x → nat_lt x.node nodes ≡ true
unfolding seed_of
seed-in nodes d x h =
    let o = two_steps (object_at words.Seed (words.Node ∷ words.Behaviour ∷ words.Wakes ∷ []) d) _ x h in
    let node = two_steps (number_at words.Node 0 nodes d) _ x o.2 in
    let behaviour = two_steps (text_at words.Behaviour is_behaviour_name d) _ x node.2 in
    let wakes = two_steps (number_at words.Wakes 0 1000001 d) _ x behaviour.2 in
    let row : DraftSeed = record { node = node.0; behaviour = behaviour.0; wakes = wakes.0 } in
    rw (← made row x wakes.2) (lt-ltb node.0 nodes (number_at-range words.Node 0 nodes d node.0 node.1).1)

numbered-in : (number : List ℕ → Option ℕ) (nodes : ℕ) (x : DraftSeed) (y : Seed) → nat_lt x.node nodes ≡ true → numbered_seed number x ≡ Ok y → nat_lt y.node nodes ≡ true
numbered-in number nodes x y below h =
    let n = two_steps (known x.behaviour (number x.behaviour)) _ y h in
    let row : Seed = record { node = x.node; behaviour = n.0; wakes = x.wakes } in
    rw (← made row y n.2) below

tie-in : (seeds : ℕ) (d : Data) (t : Tie) → tie_row seeds d ≡ Ok t → is_tie_in seeds t ≡ true
unfolding tie_row
tie-in seeds d t h =
    let o = two_steps (object_at words.Tie (words.From ∷ words.To ∷ words.As ∷ []) d) _ t h in
    let ends = two_steps (ends_at seeds d) _ t o.2 in
    let name = two_steps (text_at words.As is_local_name d) _ t ends.2 in
    let row : Tie = record { from = ends.0.0; to = ends.0.1; name = name.0 } in
    let from = two_steps (number_at words.From 0 seeds d) _ ends.0 ends.1 in
    let to = two_steps (number_at words.To 0 seeds d) _ ends.0 from.2 in
    let apart = passed words.To (not (to.0 == from.0)) (from.0, to.0) ends.0 to.2 in
    let below_from = lt-ltb from.0 seeds (number_at-range words.From 0 seeds d from.0 from.1).1 in
    let below_to = lt-ltb to.0 seeds (number_at-range words.To 0 seeds d to.0 to.1).1 in
    let pair : is_tie_in seeds (record { from = from.0; to = to.0; name = name.0 }) ≡ true = rw (below_from, below_to, apart.0) refl in
    rw (← made row t name.2) (subst (λ (p : ℕ × ℕ). is_tie_in seeds (record { from = p.0; to = p.1; name = name.0 }) ≡ true) apart.1 pair)

new_tie-in : (seeds : ℕ) (before : List Tie) (d : Data) (t : Tie) → tie_of seeds before d ≡ Ok t → is_tie_in seeds t ≡ true
new_tie-in seeds before d t h =
    let row = two_steps (tie_row seeds d) _ t h in
    let same = passed words.As _ row.0 t row.2 in
    rw (← same.1) (tie-in seeds d row.0 row.1)

-- what a draft that is read keeps of its seeds and ties
record IsDraftIn (d : Draft) : Type 0 where
  seeds : list_all (λ (x : DraftSeed). nat_lt x.node d.nodes) d.seeds ≡ true
  ties : list_all (is_tie_in (length d.seeds)) d.ties ≡ true

draft-in : (d : Data) (draft : Draft) → draft_of d ≡ Ok draft → IsDraftIn draft
unfolding draft_of
draft-in d draft h =
    let o = two_steps (object_at words.Script table d) _ draft h in
    let nodes = two_steps (number_at words.Nodes 1 17 d) _ draft o.2 in
    let behaviours = two_steps (behaviours_at d) _ draft nodes.2 in
    let seeds = two_steps (seeds_at nodes.0 d) _ draft behaviours.2 in
    let ties = two_steps (ties_at (length seeds.0) d) _ draft seeds.2 in
    let losses = two_steps (links_at words.Losses words.Loss nodes.0 d) _ draft ties.2 in
    let repeats = two_steps (links_at words.Repeats words.Repeat nodes.0 d) _ draft losses.2 in
    let crashes = two_steps (crashes_at nodes.0 d) _ draft repeats.2 in
    let with_turns : ℕ → Draft = λ n. record { nodes = nodes.0; behaviours = behaviours.0; seeds = seeds.0; ties = ties.0; losses = losses.0; repeats = repeats.0; crashes = crashes.0; turns = n } in
    let turns = two_steps (number_at words.Turns 1 1000001 d) (λ n. Ok (with_turns n)) draft crashes.2 in
    let read = with_turns turns.0 in
    let seed_items = two_steps (array_at words.Seeds 4096 d) _ seeds.0 seeds.1 in
    let tie_items = two_steps (optional_at words.Ties 4096 d) _ ties.0 ties.1 in
    subst IsDraftIn {x = read} (made read draft turns.2) (record {
      seeds = each-all (λ _. seed_of nodes.0) (λ _. true) (λ (x : DraftSeed). nat_lt x.node nodes.0) (λ _ x y _ e. seed-in nodes.0 x y e) [] seed_items.0 seeds.0 (all-pass seed_items.0) refl seed_items.2;
      ties = each-all (tie_of (length seeds.0)) (λ _. true) (is_tie_in (length seeds.0)) (λ before x y _ e. new_tie-in (length seeds.0) before x y e) [] tie_items.0 ties.0 (all-pass tie_items.0) refl tie_items.2;
    })

numbered-draft : (draft : Draft) (s : Scripted) → IsDraftIn draft → numbered draft ≡ Ok s → is_in_ranges s ≡ true
numbered-draft draft s fits h =
    let names = two_steps (names_of draft.behaviours) _ s h in
    let behaviours = two_steps (each (λ _. numbered_behaviour (number_in names.0)) draft.behaviours) _ s names.2 in
    let seeds = two_steps (each (λ _. numbered_seed (number_in names.0)) draft.seeds) _ s behaviours.2 in
    let count = each-length (λ _. numbered_seed (number_in names.0)) [] draft.seeds seeds.0 seeds.1 in
    let same : length seeds.0 ≡ length draft.seeds = omega (arith, count) in
    let nodes = each-all (λ _. numbered_seed (number_in names.0)) (λ (x : DraftSeed). nat_lt x.node draft.nodes) (λ (y : Seed). nat_lt y.node draft.nodes) (λ _ x y below e. numbered-in (number_in names.0) draft.nodes x y below e) [] draft.seeds seeds.0 fits.seeds refl seeds.1 in
    subst (λ (x : Scripted). is_in_ranges x ≡ true) {x = whole draft behaviours.0 seeds.0} (made (whole draft behaviours.0 seeds.0) s seeds.2) (rw (nodes, same) fits.ties)

pub read-in_ranges : (d : Data) (s : Scripted) → script_of d ≡ Ok s → is_in_ranges s ≡ true
unfolding script_of
read-in_ranges d s h =
    let draft = two_steps (draft_of d) numbered s h in
    numbered-draft draft.0 s (draft-in d draft.0 draft.1) draft.2
