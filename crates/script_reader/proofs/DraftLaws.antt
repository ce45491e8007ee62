-- What every draft that is read keeps.
use Rattle.std.proofs.Common.{◌≡◌, ◌≤◌, ◌==◌, Bool, true, false, not, ℕ, List, [], ◌∷◌, length, Ok, true≢false, refl, sym, subst, arith}
use Rattle.std.proofs.lemmas.Bool.Decides.{nat_tests}
use Rattle.std.specs.Cmp.{IsEquivalence}
use Rattle.std.specs.List.{IsDistinct, list_any}
use Rattle.serde_json.specs.Data.{Data}
use Rattle.fault_plan.specs.declared.crashes.CrashRow.{CrashRow}
use Rattle.fault_plan.specs.declared.links.LinkRow.{LinkRow}
use Rattle.fault_plan.specs.Rows.{same_node, same_row}
use Rattle.script_reader.specs.declared.draft.Draft.{Draft}
use Rattle.script_reader.specs.declared.draft.DraftBehaviour.{DraftBehaviour}
use Rattle.script_reader.specs.declared.words.Word.{Word}
use Rattle.script_reader.specs.declared.words.Word.TheVariants as words
use Rattle.script_reader.specs.Drafts.{IsSound}
use Rattle.script_reader.specs.Rows.{behaviour_of, behaviours_at, crash_of, crashes_at, draft_of, link_of, links_at, new_link_of, seeds_at, table, ties_at}
use Rattle.script_reader.specs.Walk.{array_at, number_at, object_at, optional_at, passes}
use Rattle.script_reader.proofs.EachLaws.{array_at-few, each-differ, each-length, made, passed, two_steps}

pub same_row-laws : IsEquivalence same_row
same_row-laws = record {
  refl = λ r. grind (arith, nat_tests);
  symm = λ r s. grind (arith, nat_tests);
  congr = λ r s t h. grind (arith, nat_tests);
}

pub same_node-laws : IsEquivalence same_node
same_node-laws = record {
  refl = λ r. grind (arith, nat_tests);
  symm = λ r s. grind (arith, nat_tests);
  congr = λ r s t h. grind (arith, nat_tests);
}

pub none_false : (b : Bool) → not b ≡ true → b ≡ false
none_false true h = absurd (true≢false (sym h))
none_false false h = refl

new_link-differs : (name : Word) (nodes : ℕ) (before : List LinkRow) (d : Data) (r : LinkRow) → new_link_of name nodes before d ≡ Ok r → list_any (same_row r) before ≡ false
new_link-differs name nodes before d r h =
    let row = two_steps (link_of name nodes d) _ r h in
    let p = passed words.Number (not (list_any (same_row row.0) before)) row.0 r row.2 in
    rw (← p.1) (none_false (list_any (same_row row.0) before) p.0)

-- links that are read differ
pub links-differ : (key name : Word) (nodes : ℕ) (d : Data) (rows : List LinkRow) → links_at key name nodes d ≡ Ok rows → IsDistinct same_row rows
unfolding IsDistinct
links-differ key name nodes d rows h =
    let ds = two_steps (optional_at key 4096 d) _ rows h in
    each-differ same_row-laws (new_link_of name nodes) (new_link-differs name nodes) [] ds.0 rows tt ds.2

crash-differs : (nodes : ℕ) (before : List CrashRow) (d : Data) (r : CrashRow) → crash_of nodes before d ≡ Ok r → list_any (same_node r) before ≡ false
unfolding crash_of
crash-differs nodes before d r h =
    let o = two_steps (object_at words.Crash (words.Node ∷ words.After ∷ []) d) _ r h in
    let node = two_steps (number_at words.Node 0 nodes d) _ r o.2 in
    let new = two_steps (passes words.Node (not (list_any (λ s. node.0 == s.node) before))) _ r node.2 in
    let after = two_steps (number_at words.After 1 1000001 d) _ r new.2 in
    let p = passed words.Node (not (list_any (λ (s : CrashRow). node.0 == s.node) before)) (tt {0}) new.0 new.1 in
    let row : CrashRow = record { node = node.0; after = after.0 } in
    rw (← made row r after.2) (none_false (list_any (λ (s : CrashRow). node.0 == s.node) before) p.0)

-- crashes that are read name different nodes
pub crashes-differ : (nodes : ℕ) (d : Data) (rows : List CrashRow) → crashes_at nodes d ≡ Ok rows → IsDistinct same_node rows
unfolding IsDistinct
crashes-differ nodes d rows h =
    let ds = two_steps (optional_at words.Crashes 16 d) _ rows h in
    each-differ same_node-laws (crash_of nodes) (crash-differs nodes) [] ds.0 rows tt ds.2

behaviours-few : (d : Data) (bs : List DraftBehaviour) → behaviours_at d ≡ Ok bs → length bs ≤ 256
behaviours-few d bs h =
    let ds = two_steps (array_at words.Behaviours 256 d) _ bs h in
    let few = array_at-few words.Behaviours 256 d ds.0 ds.1 in
    let len = each-length (λ _. behaviour_of) [] ds.0 bs ds.2 in
    omega arith

-- a draft that is read can be planned and numbered
pub draft-sound : (d : Data) (draft : Draft) → draft_of d ≡ Ok draft → IsSound draft
unfolding draft_of
draft-sound d draft h =
    let o = two_steps (object_at words.Script table d) _ draft h in
    let nodes = two_steps (number_at words.Nodes 1 17 d) _ draft o.2 in
    let behaviours = two_steps (behaviours_at d) _ draft nodes.2 in
    let seeds = two_steps (seeds_at nodes.0 d) _ draft behaviours.2 in
    let ties = two_steps (ties_at (length seeds.0) d) _ draft seeds.2 in
    let losses = two_steps (links_at words.Losses words.Loss nodes.0 d) _ draft ties.2 in
    let repeats = two_steps (links_at words.Repeats words.Repeat nodes.0 d) _ draft losses.2 in
    let crashes = two_steps (crashes_at nodes.0 d) _ draft repeats.2 in
    let turns = two_steps (number_at words.Turns 1 1000001 d) _ draft crashes.2 in
    let read : Draft = record { nodes = nodes.0; behaviours = behaviours.0; seeds = seeds.0; ties = ties.0; losses = losses.0; repeats = repeats.0; crashes = crashes.0; turns = turns.0 } in
    subst IsSound (made read draft turns.2)
    (record {
      few_behaviours = behaviours-few d behaviours.0 behaviours.1;
      losses = links-differ words.Losses words.Loss nodes.0 d losses.0 losses.1;
      repeats = links-differ words.Repeats words.Repeat nodes.0 d repeats.0 repeats.1;
      crashes = crashes-differ nodes.0 d crashes.0 crashes.1;
    })
