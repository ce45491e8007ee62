use Rattle.std.proofs.Common.{◌<◌, ap, arith, length, subst, sym, true}
use Rattle.std.proofs.Math.ListN.{length-set, set}
use Rattle.kept_marks.specs.PlaceSet.{AreListed}
use Rattle.place_marks.proofs.OrderLemmas.{read-false}
use Rattle.kept_marks.proofs.PlaceSetLemmas.{listed-below, listed-put}
use Rattle.kept_marks.proofs.place_set.PlaceSet.put.Goals as goal

pub push_back_reserved-requires : goal.push_back_reserved-requires
push_back_reserved-requires c =
    let flags = c.self.inside.flags.items in
    let seen = ap length c.self.view_is in
    let inside : c.args.place < length flags = omega arith in
    let free = read-false flags c.args.place c.index.result.now c.index.ensures c.if-not-index.true in
    let less = listed-below flags c.self.inside.queue.items c.args.place c.self.invariant.0 inside free in
    let room = c.self.invariant.1 in
    omega arith

pub invariant_of-self : goal.invariant_of-self
invariant_of-self c =
    let flags = c.self.inside.flags.items in
    let seen = ap length c.self.view_is in
    let inside : c.args.place < length flags = omega arith in
    let free = read-false flags c.args.place c.index.result.now c.index.ensures c.if-not-index.true in
    let long = length-set flags c.args.place true in
    let room = c.self.invariant.1 in
    (subst (AreListed (set flags c.args.place true)) (sym c.push_back_reserved.ensures.items) (listed-put flags c.self.inside.queue.items c.args.place c.self.invariant.0 inside free), omega arith)
