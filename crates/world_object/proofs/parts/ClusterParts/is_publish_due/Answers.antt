use Rattle.std.proofs.Common.{◌∙◌, ap}
use Rattle.bulletin_streams.specs.Standing.{queued}
use Rattle.world_object.proofs.Effects.{flush-due}
use Rattle.world_object.proofs.parts.ClusterParts.is_publish_due.Goals as goal

pub returns : goal.returns
returns c =
    let p = c.args.self.now in
    flush-due p.script.value c.args.actor p.world.past c.queue_len.result (c.queue_len.ensures ∙ ap (λ n. queued n p.world.past) c.node.ensures)
