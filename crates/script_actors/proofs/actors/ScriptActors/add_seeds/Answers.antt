use Rattle.std.proofs.Common.{◌≡◌, ◌≤◌, ◌<◌, ◌∙◌, List, ap, length, subst, sym, true}
use Rattle.std.specs.List.{list_all}
use Rattle.script_reader.specs.Valid.{Scripted, is_seed}
use Rattle.script_reader.specs.declared.script.Seed.{Seed as SeedRow}
use Rattle.run_model.proofs.SeedRows.{all-at}
use Rattle.script_actors.proofs.Beginnings.{seed-added, seed-behaviour, seeds-room}
use Rattle.script_actors.proofs.actors.ScriptActors.add_seeds.Goals as goal

pub add_seed-requires-clause-room : goal.add_seed-requires-clause-room
add_seed-requires-clause-room c =
    let s = c.args.script.now in
    let same = c.as_slice-seed-items.ensures ∙ ap (λ (x : Scripted). x.seeds) c.script.view_is in
    seeds-room s c.as_slice-seed-items.result.now c.loop-seed.seed-index (let x = c.seed-item.result in x.node) c.loop-seed.self c.loop-seed.invariant.begun
    (subst (λ (xs : List SeedRow). length xs ≤ 4096) (sym same) c.requires.script.few_seeds) c.loop-seed-test.true

pub loop-seed-preserved : goal.loop-seed-preserved
loop-seed-preserved c =
    let s = c.args.script.now in
    let xs = c.as_slice-seed-items.result.now in
    let x = c.seed-item.result in
    let same = c.as_slice-seed-items.ensures ∙ ap (λ (x : Scripted). x.seeds) c.script.view_is in
    let made = c.in_ok-actor.ensures.ok in
    let fit : list_all (is_seed s.nodes (length s.code)) xs ≡ true = subst (λ ys. list_all (is_seed s.nodes (length s.code)) ys ≡ true) (sym same) c.requires.script.seeds in
    let known = seed-behaviour s.nodes (length s.code) x (subst (λ (y : SeedRow). is_seed s.nodes (length s.code) y ≡ true) (sym c.seed-item.is) (all-at (is_seed s.nodes (length s.code)) xs c.loop-seed.seed-index x fit c.loop-seed-test.true)) in
    let added = seed-added s xs c.loop-seed.seed-index x c.loop-seed.self c.add_seed.new.self c.loop-seed.actors c.in_ok-actor.actor made.0 c.loop-seed-test.true c.seed-item.is known c.loop-seed.invariant.begun c.loop-seed.invariant.actors
    c.in_ok-actor.ensures.actor made.1 made.2 in
    let change = made.2 in
    record {
      begun = added.0;
      actors = c.in_ok-push.ensures.ok ∙ added.1;
      nodes = change.nodes ∙ c.loop-seed.invariant.nodes;
    }
