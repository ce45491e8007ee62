use Rattle.std.proofs.Common.{◌<◌, ◌∙◌, ap, None, Some, arith, false, length, refl, subst, sym}
use Rattle.std.proofs.Math.ListN.{set}
use Rattle.kept_marks.specs.Kept.{IsKept, IsSupport, KeepsWatch, check_work, support_of}
use Rattle.kept_marks.proofs.StepLemmas.{adds-as, check-falling, check-standing, kept_of, read-marked, stands-marked}
use Rattle.kept_marks.proofs.SweepLemmas.{less-falling, less-taken, watch-falling, watch-standing}
use Rattle.kept_marks.proofs.kept.KeptMarks.check_next.Goals as goal

pub returns-then-stands-clause-kept : goal.returns-then-stands-clause-kept
returns-then-stands-clause-kept g c =
    let graph = g.G.PlaceGraph.graph c.args.graph.now in
    let s = c.self.inside.supports.items in
    let p = c.in-Some.place in
    let kept = subst (IsKept graph) (sym c.self.view_is) c.requires in
    let there = kept.touched p c.in-Some.ensures.some in
    let room = kept.room in
    let inside : p < length s = omega arith in
    let marked = read-marked s p c.index.result.now inside c.index.ensures c.if-is_none.ensures in
    check-standing graph s c.self.inside.touched c.pop.new.self c.self.inside.queued c.self.inside.fallen p kept c.in-Some.ensures.some c.in-Some.ensures.rest
    (stands-marked graph s p marked (λ b h. subst (λ ss. IsSupport graph ss p b) c.as_slice-2.ensures.value (c.if-stands.ensures refl b (ap (λ ss. support_of ss p) c.as_slice-2.ensures.value ∙ h))))

pub returns-clause-kept : goal.returns-clause-kept
returns-clause-kept g c =
    let graph = g.G.PlaceGraph.graph c.args.graph.now in
    let s = c.self.inside.supports.items in
    let p = c.in-Some.place in
    let kept = subst (IsKept graph) (sym c.self.view_is) c.requires in
    let there = kept.touched p c.in-Some.ensures.some in
    let room = kept.room in
    let rooms = c.self.invariant.queued in
    let in_queue : p < length c.self.inside.queued = omega arith in
    let adds = adds-as graph c.as_slice-3.result.now (set s p None) c.pop.new.self (set c.self.inside.touched p false) c.put_targets.new.set p (Some p) c.as_slice-3.ensures.value c.in-Some.ensures.rest c.put_targets.ensures in
    check-falling graph s (set s p None) c.self.inside.touched c.put_targets.new.set c.self.inside.queued c.put-2.new.self c.self.inside.fallen p kept c.in-Some.ensures.some in_queue refl c.put-2.ensures adds

pub returns-then-stands-clause-watched : goal.returns-then-stands-clause-watched
returns-then-stands-clause-watched g c =
    let graph = g.G.PlaceGraph.graph c.args.graph.now in
    let s = c.self.inside.supports.items in
    let p = c.in-Some.place in
    let kept = subst (IsKept graph) (sym c.self.view_is) c.requires in
    let there = kept.touched p c.in-Some.ensures.some in
    let room = kept.room in
    let inside : p < length s = omega arith in
    let marked = read-marked s p c.index.result.now inside c.index.ensures c.if-is_none.ensures in
    subst (λ k. KeepsWatch k (kept_of s c.pop.new.self c.self.inside.queued c.self.inside.fallen)) c.self.view_is
    (watch-standing s c.self.inside.touched c.pop.new.self c.self.inside.queued c.self.inside.fallen p marked c.in-Some.ensures.rest)

pub returns-then-stands-clause-less : goal.returns-then-stands-clause-less
returns-then-stands-clause-less g c = λ _.
    subst (λ k. check_work (kept_of c.self.inside.supports.items c.pop.new.self c.self.inside.queued c.self.inside.fallen) < check_work k) c.self.view_is
    (less-taken c.self.inside.supports.items c.self.inside.touched c.pop.new.self c.self.inside.queued c.self.inside.queued c.self.inside.fallen c.self.inside.fallen c.in-Some.place c.in-Some.ensures.some c.in-Some.ensures.rest)

pub returns-clause-watched : goal.returns-clause-watched
returns-clause-watched g c =
    let graph = g.G.PlaceGraph.graph c.args.graph.now in
    let s = c.self.inside.supports.items in
    let p = c.in-Some.place in
    let kept = subst (IsKept graph) (sym c.self.view_is) c.requires in
    let there = kept.touched p c.in-Some.ensures.some in
    let room = kept.room in
    let rooms = c.self.invariant.queued in
    let in_queue : p < length c.self.inside.queued = omega arith in
    let adds = adds-as graph c.as_slice-3.result.now (set s p None) c.pop.new.self (set c.self.inside.touched p false) c.put_targets.new.set p (Some p) c.as_slice-3.ensures.value c.in-Some.ensures.rest c.put_targets.ensures in
    subst (λ k. KeepsWatch k (kept_of (set s p None) c.put_targets.new.set c.put-2.new.self c.self.inside.fallen)) c.self.view_is
    (watch-falling graph s (set s p None) c.self.inside.touched c.put_targets.new.set c.self.inside.queued c.put-2.new.self c.self.inside.fallen p in_queue refl c.put-2.ensures adds)

pub returns-clause-less : goal.returns-clause-less
returns-clause-less g c = λ _.
    let graph = g.G.PlaceGraph.graph c.args.graph.now in
    let s = c.self.inside.supports.items in
    let p = c.in-Some.place in
    let kept = subst (IsKept graph) (sym c.self.view_is) c.requires in
    let there = kept.touched p c.in-Some.ensures.some in
    let room = kept.room in
    let inside : p < length s = omega arith in
    let marked = read-marked s p c.index.result.now inside c.index.ensures c.if-is_none.ensures in
    let adds = adds-as graph c.as_slice-3.result.now (set s p None) c.pop.new.self (set c.self.inside.touched p false) c.put_targets.new.set p (Some p) c.as_slice-3.ensures.value c.in-Some.ensures.rest c.put_targets.ensures in
    subst (λ k. check_work (kept_of (set s p None) c.put_targets.new.set c.put-2.new.self c.self.inside.fallen) < check_work k) c.self.view_is
    (less-falling graph s (set s p None) c.self.inside.touched c.put_targets.new.set c.self.inside.queued c.put-2.new.self c.self.inside.fallen p (Some p) inside marked refl adds)
