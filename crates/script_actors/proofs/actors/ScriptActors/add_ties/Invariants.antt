use Rattle.std.proofs.Common.{◌≡◌, length, take}
use Rattle.script_actors.specs.Begun.{IsBegun}
use Rattle.script_actors.proofs.actors.ScriptActors.add_ties.Given as goal

abbrev pub invariant-loop-tie : goal.invariant-loop-tie
invariant-loop-tie l = record {
  begun : IsBegun l.script l.script.seeds (take l.tie-index l.tie-items) l.self;
  nodes : length l.self ≡ length l.initial.self;
}
