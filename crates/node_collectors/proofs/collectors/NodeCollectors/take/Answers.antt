use Rattle.std.proofs.Common.{arith, refl, rules, sym, ◌∙◌}
use Rattle.history_model.specs.Streams.{stream}
use Rattle.collector.specs.Refusals.{read_as}
use Rattle.collector.specs.Taking.{IsOfStreams}
use Rattle.node_collectors.proofs.BulletinLemmas.{none-refused, spelled-read}
use Rattle.node_collectors.proofs.StandLemmas.{hand-inside, hand-short, hands, row-at}
use Rattle.node_collectors.proofs.collectors.NodeCollectors.take.Goals as goal
use Rattle.node_collectors.proofs.collectors.NodeCollectors.take.Goals.{in-Ok, in-Err}

pub take-requires-clause-origin : goal.take-requires-clause-origin
take-requires-clause-origin c =
    let w = c.args.world.now in
    let inside = hand-inside w.cluster w.past c.args.to c.args.origin c.args.number c.requires.last c.is_lawful.ensures.legal in
    let at = row-at w.cluster _ c.args.self.now c.self.inside.rows.items c.get-place.result c.args.to (search rules) c.get-place.ensures.number c.requires.stand c.index_mut.result.now inside.0 inside.2 c.index_mut.ensures.value in
    let nodes = at.fed.nodes in
    omega (arith, inside.1, nodes)

pub take-requires-clause-number : goal.take-requires-clause-number
take-requires-clause-number c =
    let w = c.args.world.now in
    hand-short w.cluster w.past c.args.to c.args.origin c.args.number c.requires.last c.is_lawful.ensures.within

pub want_of-requires : goal.want_of-requires
want_of-requires c =
    let w = c.args.world.now in
    let bytes = c.args.bytes.now in
    let inside = hand-inside w.cluster w.past c.args.to c.args.origin c.args.number c.requires.last c.is_lawful.ensures.legal in
    let at = row-at w.cluster _ c.args.self.now c.self.inside.rows.items c.get-place.result c.args.to (search rules) c.get-place.ensures.number c.requires.stand c.index_mut.result.now inside.0 inside.2 c.index_mut.ensures.value in
    let read = spelled-read w.cluster w.past c.args.origin c.args.number bytes c.is_lawful.ensures.legal inside.1 c.requires.spelled in
    none-refused _ read.0 c.in-Err.fault ((λ i. read_as (at.fed.nodes i) c.args.origin bytes) ∙ read.1) c.in-Err.ensures.refused

pub returns : goal.returns
returns c =
    let w = c.args.world.now in
    let bytes = c.args.bytes.now in
    let at = c.requires.spelled in
    let told : IsOfStreams (λ o. stream w.cluster o w.past) c.args.origin c.args.number bytes =
    (at.told.0, at.told.1, (at.bulletin, at.spells.spellable, at.spells.bytes, at.told.2)) in
    elim c.match-take.branch [
      | in-Ok r ↦
          rw (r.result-is)
          (hands w.cluster w.past c.args.to c.args.origin c.args.number c.args.self.now c.self.inside.rows.items c.get-place.result
          c.index_mut.result.now c.take.new.self bytes bytes
          c.requires.last c.is_lawful.ensures.legal c.requires.stand (search rules) c.get-place.ensures.number c.index_mut.ensures.value
          told refl r.in-Ok.ensures.takes r.in-Ok.ensures.taken)
      | in-Err r ↦ rw (r.result-is) tt
    ]
