use Rattle.std.proofs.Common.{◌∙◌, ap, rules}
use Rattle.std.specs.Prelude.{nat_lt}
use Rattle.bulletin_streams.specs.StreamState.{stream_at}
use Rattle.bulletin_streams.proofs.QueueLemmas.{some-entries}
use Rattle.bulletin_streams.proofs.streams.BulletinStreams.has_entries.Goals as goal

pub returns-clause-told : goal.returns-clause-told
returns-clause-told c = λ cl h stands. (
    let n = c.args.node in
    let s = stands n (search rules) in
    ap (nat_lt 0) c.queue_len.ensures.value ∙ some-entries (stream_at c.args.self.now n).entries _ s.entries
    )
