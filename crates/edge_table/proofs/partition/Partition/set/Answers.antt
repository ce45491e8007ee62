use Rattle.std.proofs.Common.{subst, sym}
use Rattle.edge_table.specs.Partition.{CountsAt}
use Rattle.edge_table.proofs.partition.Partition.set.Goals as goal

pub returns : goal.returns
returns c = λ old new parted at.
    c.set_at.ensures c.args.ends.now old new c.requires.rising parted (subst (λ n. CountsAt old new n c.args.counts) (sym c.place_in.ensures.there) at)
