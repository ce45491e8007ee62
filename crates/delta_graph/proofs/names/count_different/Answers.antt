use Rattle.std.proofs.Common.{◌≡◌, length, ◌∙◌, rules}
use Rattle.std.proofs.lemmas.List.Filters.{dedup_is}
use Rattle.delta_graph.proofs.NameLemmas.{count-different}
use Rattle.delta_graph.proofs.names.count_different.Goals as goal

pub returns : goal.returns
returns c =
    let left = c.dedup.new.self.items in
    let count : c.len.result ≡ length left = search rules in
    count ∙ count-different c.args.names.items c.sort_names.new.names.items left c.sort_names.ensures.permutation c.sort_names.ensures.sorted (dedup_is _ _ _ c.dedup.ensures.filtered)
