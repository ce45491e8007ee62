use Rattle.row_sums.proofs.orders.compare_actors.Goals as goal

pub returns : goal.returns
returns c = c.cmp.ensures
