use Rattle.std.proofs.Common.{◌≡◌, nat_lt, subst, sym, true}
use Rattle.std.specs.List.{list_all}
use Rattle.script_reader.specs.Valid.{Scripted}
use Rattle.script_reader.specs.declared.script.Seed.{Seed as SeedRow}
use Rattle.run_model.proofs.ScriptRanges.{seeds-on_nodes}
use Rattle.world_object.proofs.beginning.begin_progress.Goals as goal

pub begin-requires-clause-seeds : goal.begin-requires-clause-seeds
begin-requires-clause-seeds c = subst (λ (s : Scripted). list_all (λ (x : SeedRow). nat_lt x.node s.nodes) s.seeds ≡ true) (sym c.script.view_is) (seeds-on_nodes c.args.script c.requires)
