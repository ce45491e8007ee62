use Rattle.std.proofs.Common.{◌≡◌, ◌≤◌, ◌∙◌, List, false, true, slice_set, subst, sym, rules}
use Rattle.std.proofs.lemmas.Bool.{le-ltb, lt-ltb}
use Rattle.std.specs.Prelude.{IfErr, OnOk}
use Rattle.std.specs.declared.result.Result.TheVariants.{Err, Ok}
use Rattle.history_model.specs.declared.events.Event.{Event}
use Rattle.history_model.specs.declared.events.Event.TheVariants.{Publish}
use Rattle.history_model.specs.Cluster.{Cluster}
use Rattle.bulletin_streams.specs.Standing.{SaysLimit, StandAfter}
use Rattle.bulletin_streams.specs.StreamState.{Publishes}
use Rattle.delta_graph.specs.Sums.{IsFaultOf, named_count}
use Rattle.delta_graph.specs.declared.fault.DeltaFault.TheVariants.{TableFull}
use Rattle.bulletin_streams.proofs.QueueLemmas.{limit-at}
use Rattle.bulletin_streams.proofs.StandingLemmas.{changed-at, publish-stands, read-at}
use Rattle.bulletin_streams.proofs.streams.BulletinStreams.publish.Goals as goal

pub returns-clause-stands : goal.returns-clause-stands
returns-clause-stands c =
    let n = c.args.node in
    let new = slice_set c.self.inside.nodes.items c.get.result c.publish.new.self in
    let stands : Publishes n c.index_mut.result.now c.publish.new.self → (cl : Cluster) (p : List Event) → StandAfter cl (Publish n) p c.args.self.now new = λ published. (
    let change = changed-at (Publishes n) c.args.self.now c.self.inside.nodes.items c.get.result n c.index_mut.result.now c.publish.new.self (search rules) c.self.invariant (search rules) (search rules) c.index_mut.ensures.value published in
    λ cl p. publish-stands cl p n c.args.self.now new change) in
    elim c.publish.result as (λ r. OnOk r (Publishes n c.index_mut.result.now c.publish.new.self) → OnOk r ((cl : Cluster) (p : List Event) → StandAfter cl (Publish n) p c.args.self.now new)) [
      | Ok v ↦ stands
      | Err f ↦ λ _. tt
    ] c.publish.ensures.ok

pub returns-clause-within : goal.returns-clause-within
returns-clause-within c =
    let n = c.args.node in
    let es = c.index_mut.result.now.entries in
    let read = read-at c.args.self.now c.self.inside.nodes.items c.get.result n c.index_mut.result.now (search rules) c.self.invariant (search rules) (search rules) c.index_mut.ensures.value in
    let limit = limit-at c.args.self.now n c.index_mut.result.now read c.publish.ensures.stand (search rules) in
    elim c.publish.result as (λ r. OnOk r (named_count es ≤ 200000) → OnOk r (SaysLimit c.args.self.now n false)) [
      | Ok v ↦ λ few cl p stands. sym (limit cl p stands) ∙ le-ltb 200000 (named_count es) few
      | Err f ↦ λ _. tt
    ] c.publish.ensures.named

pub returns-clause-over : goal.returns-clause-over
returns-clause-over c =
    let n = c.args.node in
    let es = c.index_mut.result.now.entries in
    let read = read-at c.args.self.now c.self.inside.nodes.items c.get.result n c.index_mut.result.now (search rules) c.self.invariant (search rules) (search rules) c.index_mut.ensures.value in
    let limit = limit-at c.args.self.now n c.index_mut.result.now read c.publish.ensures.stand (search rules) in
    elim c.publish.result as (λ r. IfErr r (λ f. IsFaultOf es f) → IfErr r (λ f. f ≡ TableFull → SaysLimit c.args.self.now n true)) [
      | Ok v ↦ λ _. tt
      | Err f ↦ λ fault full cl p stands. sym (limit cl p stands) ∙ lt-ltb 200000 (named_count es) (subst (IsFaultOf es) full fault)
    ] c.publish.ensures.fault
