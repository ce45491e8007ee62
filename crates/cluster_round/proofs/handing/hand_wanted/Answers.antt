use Rattle.std.proofs.Common.{length, ◌∙◌, ap}
use Rattle.history_model.specs.Story.{Story}
use Rattle.history_model.specs.Streams.{stream}
use Rattle.cluster_round.proofs.handing.hand_wanted.Goals as goal

pub hand_numbers-requires-clause-end : goal.hand_numbers-requires-clause-end
hand_numbers-requires-clause-end c = c.stream_len-end.ensures ∙ ap (λ (x : Story). length (stream x.cluster c.args.origin x.past)) c.world.ensures
