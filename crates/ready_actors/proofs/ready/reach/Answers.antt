use Rattle.std.proofs.Common.{◌≡◌, List, ℕ, [], ◌∷◌, ◌++◌, ◌∙◌, ap, length, length-append, arith}
use Rattle.std.proofs.lemmas.Bool.{cond-true}
use Rattle.std.specs.Result.{is_ok}
use Rattle.ready_actors.specs.Members.{actors_from}
use Rattle.ready_actors.proofs.MemberLemmas.{from-pushed}
use Rattle.ready_actors.proofs.ready.reach.Goals as goal

pub loop-alloc-preserved : goal.loop-alloc-preserved
loop-alloc-preserved c =
    let nodes = c.loop-alloc.nodes.items in
    let pushed : c.push.new.self.items ≡ nodes ++ [] ∷ [] =
    c.push.ensures.items ∙ cond-true (is_ok c.push.result) (nodes ++ c.new.result ∷ []) nodes c.if-is_err.ensures.negation
    ∙ ap (λ (words : List ℕ). nodes ++ words ∷ []) c.new.ensures in
    let one_more = length-append nodes ([] ∷ []) in
    let long = ap (λ (ns : List (List ℕ)). length ns) pushed in
    (ap (actors_from 0) pushed ∙ from-pushed 0 nodes ∙ c.loop-alloc.invariant.0, λ few. omega arith)
