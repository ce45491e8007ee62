use Rattle.std.proofs.Common.{slice_set, rules}
use Rattle.bulletin_streams.proofs.StandingLemmas.{changed-at, final-stands}
use Rattle.bulletin_streams.proofs.streams.BulletinStreams.append_final.Goals as goal

pub returns-clause-stands : goal.returns-clause-stands
returns-clause-stands c =
    let change = changed-at _ c.args.self.now c.self.inside.nodes.items c.get.result _ c.index_mut.result.now c.append_final.new.self (search rules) c.self.invariant (search rules) (search rules) c.index_mut.ensures.value c.append_final.ensures in
    λ cl p tells. final-stands cl p c.args.window c.args.self.now (slice_set c.self.inside.nodes.items c.get.result c.append_final.new.self) change tells
