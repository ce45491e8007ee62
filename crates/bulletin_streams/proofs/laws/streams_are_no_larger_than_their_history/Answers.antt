use Rattle.std.proofs.Common.{arith}
use Rattle.history_model.specs.Ledgers.{entries_ledger}
use Rattle.history_model.specs.Streams.{queue, stream}
use Rattle.bulletin_streams.specs.StreamState.{stream_at}
use Rattle.delta_graph.proofs.FitLemmas.{fit-facts}
use Rattle.bulletin_streams.proofs.BoundLemmas.{queue-few, stream-short}
use Rattle.bulletin_streams.proofs.StandingLemmas.{told-length}
use Rattle.bulletin_streams.proofs.laws.streams_are_no_larger_than_their_history.Goals as goal

pub returns-clause-queue : goal.returns-clause-queue
returns-clause-queue c = λ cl h streams n stands low ranges short. (
    let few = queue-few cl n h ranges in
    fit-facts (entries_ledger (stream_at streams n).entries) (queue cl n h) (stands n low).entries (omega arith)
    )

pub returns-clause-stream : goal.returns-clause-stream
returns-clause-stream c = λ cl h streams n stands low. (
    let same = told-length n (stream_at streams n).bulletins (stream cl n h) (stands n low).bulletins in
    let short = stream-short cl n h in
    omega arith
    )
