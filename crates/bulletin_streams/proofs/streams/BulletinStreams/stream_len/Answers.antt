use Rattle.std.proofs.Common.{◌∙◌, ap, length, rules}
use Rattle.bulletin_streams.specs.StreamState.{stream_at}
use Rattle.bulletin_streams.proofs.StandingLemmas.{read-at, told-length}
use Rattle.bulletin_streams.proofs.streams.BulletinStreams.stream_len.Goals as goal

pub returns-clause-told : goal.returns-clause-told
returns-clause-told c = λ cl h stands. (
    let n = c.args.node in
    let s = stands n (search rules) in
    let read = read-at c.args.self.now c.self.inside.nodes.items c.get.result n c.index.result.now (search rules) c.self.invariant (search rules) (search rules) c.index.ensures in
    c.len.ensures ∙ ap (λ x. length x.bulletins) read ∙ told-length n (stream_at c.args.self.now n).bulletins _ s.bulletins
    )
