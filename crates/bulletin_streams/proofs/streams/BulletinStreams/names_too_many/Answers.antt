use Rattle.std.proofs.Common.{◌≡◌, ◌∙◌, sym, rules}
use Rattle.std.specs.Prelude.{IfOk, nat_lt}
use Rattle.std.specs.declared.result.Result.TheVariants.{Err, Ok}
use Rattle.delta_graph.specs.Sums.{named_count}
use Rattle.bulletin_streams.specs.Standing.{SaysLimit}
use Rattle.bulletin_streams.proofs.QueueLemmas.{limit-at}
use Rattle.bulletin_streams.proofs.StandingLemmas.{read-at}
use Rattle.bulletin_streams.proofs.streams.BulletinStreams.names_too_many.Goals as goal

pub returns-clause-told : goal.returns-clause-told
returns-clause-told c =
    let n = c.args.node in
    let es = c.index.result.now.entries in
    let read = read-at c.args.self.now c.self.inside.nodes.items c.get.result n c.index.result.now (search rules) c.self.invariant (search rules) (search rules) c.index.ensures in
    let limit = limit-at c.args.self.now n c.index.result.now read c.names_too_many.ensures.stand (search rules) in
    elim c.names_too_many.result as (λ r. IfOk r (λ b. b ≡ nat_lt 200000 (named_count es)) → IfOk r (SaysLimit c.args.self.now n)) [
      | Ok b ↦ λ is cl h stands. sym (is ∙ limit cl h stands)
      | Err f ↦ λ _. tt
    ] c.names_too_many.ensures.value
