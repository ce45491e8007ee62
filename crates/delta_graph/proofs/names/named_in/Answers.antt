use Rattle.std.proofs.Common.{◌≡◌, length, ◌∙◌, ap, arith}
use Rattle.std.proofs.lemmas.Grind.{common_steps}
use Rattle.history_model.specs.Graph.{rising_actors}
use Rattle.history_model.specs.Ledgers.{delta_ledger}
use Rattle.delta_graph.proofs.NameLemmas.{names_apart, names_apart-same}
use Rattle.delta_graph.proofs.names.named_in.Goals as goal

pub returns : goal.returns
returns c =
    let l = delta_ledger c.args.delta.now in
    let pushed : c.push_pairs-2.new.names.items ≡ names_apart l = grind (arith, common_steps) in
    c.count_different.ensures ∙ ap length (ap rising_actors pushed ∙ names_apart-same l)
