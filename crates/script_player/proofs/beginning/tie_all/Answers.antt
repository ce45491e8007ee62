use Rattle.std.proofs.Common.{◌∙◌, ap}
use Rattle.history_model.specs.declared.events.Event.TheVariants.{Tie}
use Rattle.script_reader.specs.Valid.{Scripted}
use Rattle.script_player.proofs.Begun.{left-next, tie-done, tie-ends_there, tie-event, tie-halts, tie-legal}
use Rattle.script_player.proofs.beginning.tie_all.Goals as goal

pub bounds-seeds-tie : goal.bounds-seeds-tie
bounds-seeds-tie c =
    let same = c.as_slice-tie-items.ensures ∙ ap (λ (x : Scripted). x.ties) c.script.view_is in
    (tie-ends_there c.args.script.now c.requires.script c.args.seeds.now c.requires.seeds c.as_slice-tie-items.result.now same c.loop-tie.tie-index c.tie-item.result c.loop-tie-test.true c.tie-item.is).0

pub bounds-seeds-tie-in-loop-tie : goal.bounds-seeds-tie-in-loop-tie
bounds-seeds-tie-in-loop-tie c =
    let same = c.as_slice-tie-items.ensures ∙ ap (λ (x : Scripted). x.ties) c.script.view_is in
    (tie-ends_there c.args.script.now c.requires.script c.args.seeds.now c.requires.seeds c.as_slice-tie-items.result.now same c.loop-tie.tie-index c.tie-item.result c.loop-tie-test.true c.tie-item.is).1

pub make-requires-clause-legal : goal.make-requires-clause-legal
make-requires-clause-legal c =
    let s = c.args.script.now in
    let loop = c.loop-tie in
    let t = c.tie-item.result in
    let same = c.as_slice-tie-items.ensures ∙ ap (λ (x : Scripted). x.ties) c.script.view_is in
    let next = left-next s.ties c.as_slice-tie-items.result.now loop.tie-index t same c.loop-tie-test.true c.tie-item.is in
    let event = tie-event s c.requires.script c.args.seeds.now c.requires.seeds c.as_slice-tie-items.result.now same loop.tie-index t c.loop-tie-test.true c.tie-item.is
    c.index-seeds-tie.result c.index-seeds-tie-in-loop-tie.result c.index-seeds-tie.is c.index-seeds-tie-in-loop-tie.is in
    let owner = c.index-seeds-tie.result in
    let target = c.index-seeds-tie-in-loop-tie.result in
    tie-legal s c.requires.script loop.tie-index loop.course t loop.invariant next (Tie owner target) event

pub returns-in-Err-clause-fault : goal.returns-in-Err-clause-fault
returns-in-Err-clause-fault c =
    let s = c.args.script.now in
    let loop = c.loop-tie in
    let t = c.tie-item.result in
    let same = c.as_slice-tie-items.ensures ∙ ap (λ (x : Scripted). x.ties) c.script.view_is in
    let next = left-next s.ties c.as_slice-tie-items.result.now loop.tie-index t same c.loop-tie-test.true c.tie-item.is in
    let event = tie-event s c.requires.script c.args.seeds.now c.requires.seeds c.as_slice-tie-items.result.now same loop.tie-index t c.loop-tie-test.true c.tie-item.is
    c.index-seeds-tie.result c.index-seeds-tie-in-loop-tie.result c.index-seeds-tie.is c.index-seeds-tie-in-loop-tie.is in
    let owner = c.index-seeds-tie.result in
    let target = c.index-seeds-tie-in-loop-tie.result in
    tie-halts s c.requires.script loop.tie-index loop.course t loop.invariant next (Tie owner target) event c.in-Err.fault c.in-Err.ensures.fault

pub loop-tie-preserved : goal.loop-tie-preserved
loop-tie-preserved c =
    let s = c.args.script.now in
    let loop = c.loop-tie in
    let t = c.tie-item.result in
    let same = c.as_slice-tie-items.ensures ∙ ap (λ (x : Scripted). x.ties) c.script.view_is in
    let next = left-next s.ties c.as_slice-tie-items.result.now loop.tie-index t same c.loop-tie-test.true c.tie-item.is in
    let event = tie-event s c.requires.script c.args.seeds.now c.requires.seeds c.as_slice-tie-items.result.now same loop.tie-index t c.loop-tie-test.true c.tie-item.is
    c.index-seeds-tie.result c.index-seeds-tie-in-loop-tie.result c.index-seeds-tie.is c.index-seeds-tie-in-loop-tie.is in
    let owner = c.index-seeds-tie.result in
    let target = c.index-seeds-tie-in-loop-tie.result in
    let added = c.in-Ok.ensures.ok in
    tie-done s c.requires.script loop.tie-index loop.course t loop.invariant next (Tie owner target) event c.make.new.course added.cluster added.past c.in-Ok.ensures.within
