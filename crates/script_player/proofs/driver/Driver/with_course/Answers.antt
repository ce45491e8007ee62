use Rattle.std.proofs.Common.{◌≡◌, nat_lt, ap, subst, sym, true}
use Rattle.std.specs.List.{list_all}
use Rattle.script_reader.specs.Valid.{Scripted}
use Rattle.script_reader.specs.declared.script.Seed.{Seed as SeedRow}
use Rattle.script_player.specs.declared.driver.Driver.{Driver}
use Rattle.script_player.proofs.Begun.{begun-between}
use Rattle.run_model.proofs.ScriptRanges.{seeds-on_nodes}
use Rattle.script_player.proofs.driver.Driver.with_course.Goals as goal

pub begin-requires-2-clause-seeds : goal.begin-requires-2-clause-seeds
begin-requires-2-clause-seeds c =
    subst (λ (s : Scripted). list_all (λ (x : SeedRow). nat_lt x.node s.nodes) s.seeds ≡ true) (sym c.script.view_is) (seeds-on_nodes c.args.script c.requires.script)

pub returns-clause-between : goal.returns-clause-between
returns-clause-between c =
    let s = c.args.script in
    let parts = c.script.inside in
    let is = c.script.view_is in
    let d : Driver = record {
      course = c.args.course;
      actors = c.in_ok-actors.actors;
      progress = c.in_ok-progress.progress;
      code = parts.code;
      nodes = parts.nodes;
      alloc = c.args.alloc;
      script = c.of-start.result;
    } in
    let progress = c.in_ok-progress.ensures s (ap (λ (x : Scripted). x.nodes) (sym is)) (ap (λ (x : Scripted). x.seeds) (sym is)) (ap (λ (x : Scripted). x.plan) (sym is)) (ap (λ (x : Scripted). x.turns) (sym is)) in
    begun-between d s c.requires.script c.of-start.ensures (ap (λ (x : Scripted). x.nodes) is) (ap (λ (x : Scripted). x.code) is) c.requires.begun c.in_ok-actors.ensures progress
