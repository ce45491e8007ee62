use Rattle.std.proofs.Common.{◌<◌, ap, arith, length, subst, sym, true}
use Rattle.std.proofs.Math.ListN.{length-set, set}
use Rattle.place_marks.specs.Marks.{IsOrdered, Marking}
use Rattle.place_marks.proofs.OrderLemmas.{count-below, ordered-put, read-false}
use Rattle.place_marks.proofs.marks.Marks.put.Goals as goal

pub push_reserved-requires : goal.push_reserved-requires
push_reserved-requires c =
    let marks = c.self.inside.marks.items in
    let seen = ap (λ (m : Marking). length m.marks) c.self.view_is in
    let inside : c.args.place < length marks = omega arith in
    let free = read-false marks c.args.place c.index.result.now c.index.ensures c.if-not-index.true in
    let few = count-below marks c.args.place inside free in
    let long = c.self.invariant.0.long in
    let room = c.self.invariant.1 in
    omega arith

pub invariant_of-self : goal.invariant_of-self
invariant_of-self c =
    let marks = c.self.inside.marks.items in
    let order = c.self.inside.order.items in
    let seen = ap (λ (m : Marking). length m.marks) c.self.view_is in
    let inside : c.args.place < length marks = omega arith in
    let free = read-false marks c.args.place c.index.result.now c.index.ensures c.if-not-index.true in
    let long = length-set marks c.args.place true in
    let room = c.self.invariant.1 in
    let before = c.self.invariant.2 in
    (subst (IsOrdered (set marks c.args.place true)) (sym c.push_reserved.ensures.items) (ordered-put marks order c.args.place c.self.invariant.0 inside free), omega arith, omega arith)
