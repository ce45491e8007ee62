use Rattle.std.proofs.Common.{◌≡◌, ◌∙◌, Some, None, ap, length, slice_get, sym, rules}
use Rattle.std.specs.Option.{option_copied}
use Rattle.std.specs.Prelude.{◌≤◌, IfNone, IfSome}
use Rattle.history_model.specs.Streams.{stream}
use Rattle.bulletin_streams.specs.Standing.{TellsNumber}
use Rattle.bulletin_streams.specs.StreamState.{stream_at}
use Rattle.bulletin_streams.proofs.StandingLemmas.{read-at, told-at, told-beyond}
use Rattle.bulletin_streams.proofs.streams.BulletinStreams.bulletin.Goals as goal

pub returns-clause-told : goal.returns-clause-told
returns-clause-told c = λ cl h stands. (
    let o = c.args.origin in
    let k = c.args.number in
    let s = stands o (search rules) in
    let bs = (stream_at c.args.self.now o).bulletins in
    elim c.bulletin.result as (λ r. option_copied r ≡ slice_get bs k → IfSome r (λ b. TellsNumber cl h o k b.now)) [
      | Some b ↦ λ e. told-at o bs (stream cl o h) k b.now s.bulletins (sym e)
      | None ↦ λ _. tt
    ] (c.bulletin.ensures.value ∙ ap (λ x. slice_get x.bulletins k) (read-at c.args.self.now c.self.inside.nodes.items c.get.result o c.index.result.now (search rules) c.self.invariant (search rules) (search rules) c.index.ensures))
    )

pub returns-clause-none : goal.returns-clause-none
returns-clause-none c = λ cl h stands. (
    let o = c.args.origin in
    let k = c.args.number in
    let s = stands o (search rules) in
    let bs = (stream_at c.args.self.now o).bulletins in
    elim c.bulletin.result as (λ r. option_copied r ≡ slice_get bs k → IfNone r (length (stream cl o h) ≤ k)) [
      | Some b ↦ λ _. tt
      | None ↦ λ e. told-beyond o bs (stream cl o h) k s.bulletins (sym e)
    ] (c.bulletin.ensures.value ∙ ap (λ x. slice_get x.bulletins k) (read-at c.args.self.now c.self.inside.nodes.items c.get.result o c.index.result.now (search rules) c.self.invariant (search rules) (search rules) c.index.ensures))
    )
