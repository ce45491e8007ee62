use Rattle.std.proofs.Common.{◌∙◌, ap, option_map, sym}
use Rattle.script_progress.specs.Used.{carried}
use Rattle.world_object.specs.Searching.{carry_of}
use Rattle.world_object.proofs.Searches.{carried-legal}
use Rattle.world_object.proofs.parts.ClusterParts.carry.Goals as goal

pub carry_copy-requires-clause-legal : goal.carry_copy-requires-clause-legal
carry_copy-requires-clause-legal c =
    let old = c.args.self.now in
    let x = c.unwrap-carry.result in
    carried-legal old.script.value c.args.from c.args.at old.world.past (carried x.0 c.args.from c.args.at x.1)
    (sym c.next_carried.ensures.next ∙ ap (option_map (carry_of c.args.from c.args.at)) c.unwrap-carry.ensures)
