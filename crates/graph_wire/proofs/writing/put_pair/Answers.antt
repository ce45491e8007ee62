use Rattle.std.proofs.Common.{◌≡◌, ◌++◌, ◌∙◌, ℕ, Bool, true, List, sym, ap, rules}
use Rattle.byteorder.specs.Endian.{big_bytes}
use Rattle.wire_grammar.specs.Named.{index_of}
use Rattle.wire_grammar.specs.Spelling.{index_len}
use Rattle.graph_wire.proofs.writing.put_pair.Goals as goal

pub returns-in_ok-put : goal.returns-in_ok-put
returns-in_ok-put c =
    let text : Bool → ℕ → ℕ → List ℕ = λ wide owner target. c.args.out.now.items ++ ((big_bytes (index_len wide) owner ++ big_bytes (index_len wide) target) ++ big_bytes 4 c.args.row.count) in
    let owner = c.index_near-owner.result in
    let target = c.target_near-target.result.0 in
    let put : c.put.new.out.items ≡ text true owner target = search rules in
    put
    ∙ ap (λ wide. text wide owner target) (sym c.if-wide.true)
    ∙ ap (λ i. text c.args.wide i target) c.index_near-owner.ensures.value
    ∙ ap (λ i. text c.args.wide (index_of c.args.table.now c.args.row.owner) i) c.target_near-target.ensures.value
