use Rattle.std.proofs.Common.{◌≡◌, ◌<◌, ◌+◌, ◌∷◌, ◌++◌, ◌∙◌, [], nat_lt, length, take, ap, subst, sym, arith}
use Rattle.std.proofs.lemmas.Bool.{ltb-true}
use Rattle.std.proofs.lemmas.List.{length-set, length-take-le, take_more}
use Rattle.script_reader.specs.declared.script.Seed.{Seed as SeedRow}
use Rattle.run_model.proofs.SeedRows.{all-at}
use Rattle.script_progress.proofs.Beginning.{seeded-set, wakes-few}
use Rattle.script_progress.proofs.begin.add_seeds.Goals as goal

pub push-requires : goal.push-requires
push-requires c =
    let i = c.loop-seed.seed-index in
    let x = c.seed-item.result in
    let within : x.node < length c.args.rows.now.items = subst (λ (y : SeedRow). y.node < length c.args.rows.now.items) (sym c.seed-item.is) (ltb-true _ (length c.args.rows.now.items) (all-at (λ (y : SeedRow). nat_lt y.node (length c.args.rows.now.items)) c.args.seeds.now i x c.requires.seeds c.loop-seed-test.true)) in
    wakes-few (take i c.args.seeds.now) c.loop-seed.rows.items c.get.result c.index_mut.result.now c.loop-seed.invariant.0
    (let count = c.loop-seed.invariant.1 in let number = c.get.ensures.number in omega (arith, within, count, number)) c.index_mut.ensures.value
    (let few = c.requires.few in let test = c.loop-seed-test.true in let short = length-take-le i c.args.seeds.now (omega (arith, test)) in omega (arith, few, test, short))

pub loop-seed-preserved : goal.loop-seed-preserved
loop-seed-preserved c =
    let i = c.loop-seed.seed-index in
    let x = c.seed-item.result in
    let more : take (i + 1) c.args.seeds.now ≡ take i c.args.seeds.now ++ x ∷ [] = take_more c.args.seeds.now i x c.loop-seed-test.true ∙ ap (λ (y : SeedRow). take i c.args.seeds.now ++ y ∷ []) (sym c.seed-item.is) in
    let within : x.node < length c.args.rows.now.items = subst (λ (y : SeedRow). y.node < length c.args.rows.now.items) (sym c.seed-item.is) (ltb-true _ (length c.args.rows.now.items) (all-at (λ (y : SeedRow). nat_lt y.node (length c.args.rows.now.items)) c.args.seeds.now i x c.requires.seeds c.loop-seed-test.true)) in (
      seeded-set (take i c.args.seeds.now) (take (i + 1) c.args.seeds.now) c.loop-seed.rows.items x c.get.result c.index_mut.result.now c.push.new.self c.loop-seed.invariant.0 more c.get.ensures.number
          (let count = c.loop-seed.invariant.1 in omega (arith, within, count)) c.index_mut.ensures.value c.in_ok-push.ensures.ok,
      length-set c.loop-seed.rows.items c.get.result c.push.new.self ∙ c.loop-seed.invariant.1,
    )
