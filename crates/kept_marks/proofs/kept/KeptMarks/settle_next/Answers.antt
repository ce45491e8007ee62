use Rattle.std.proofs.Common.{◌<◌, None, arith, length, Some, false, refl, subst, sym}
use Rattle.std.proofs.Math.ListN.{set}
use Rattle.kept_marks.specs.Kept.{IsEmpty, IsKept, IsSupport, KeepsWatch, Kept, settle_work}
use Rattle.kept_marks.proofs.StepLemmas.{adds-as, kept_of, settle-marked}
use Rattle.kept_marks.proofs.SweepLemmas.{less-marked, watch-marked}
use Rattle.kept_marks.proofs.kept.KeptMarks.settle_next.Goals as goal

pub returns-clause-kept : goal.returns-clause-kept
returns-clause-kept g c =
    let graph = g.G.PlaceGraph.graph c.args.graph.now in
    let s = c.self.inside.supports.items in
    let p = c.in-Some.place in
    let b = c.in-Some-find_support.support in
    let kept = subst (IsKept graph) (sym c.self.view_is) c.requires.kept in
    let clean = subst (λ (k : Kept). IsEmpty k.touched) (sym c.self.view_is) c.requires.clean in
    let adds = adds-as graph c.as_slice-2.result.now (set s p (Some b)) c.pop.new.self (set c.self.inside.queued p false) c.put_targets.new.set p None c.as_slice-2.ensures.value c.in-Some.ensures.rest c.put_targets.ensures in
    settle-marked graph s (set s p (Some b)) c.self.inside.touched c.self.inside.queued c.put_targets.new.set c.self.inside.fallen p b kept clean c.in-Some.ensures.some c.in-Some-find_support.ensures.within
    (subst (λ ss. IsSupport graph ss p b) c.as_slice.ensures.value c.in-Some-find_support.ensures.some) refl adds

pub returns-clause-watched : goal.returns-clause-watched
returns-clause-watched g c =
    let graph = g.G.PlaceGraph.graph c.args.graph.now in
    let s = c.self.inside.supports.items in
    let p = c.in-Some.place in
    let b = c.in-Some-find_support.support in
    let kept = subst (IsKept graph) (sym c.self.view_is) c.requires.kept in
    let there = (kept.queued p c.in-Some.ensures.some).0 in
    let room = kept.room in
    let inside : p < length s = omega arith in
    let adds = adds-as graph c.as_slice-2.result.now (set s p (Some b)) c.pop.new.self (set c.self.inside.queued p false) c.put_targets.new.set p None c.as_slice-2.ensures.value c.in-Some.ensures.rest c.put_targets.ensures in
    subst (λ k. KeepsWatch k (kept_of (set s p (Some b)) c.self.inside.touched c.put_targets.new.set c.self.inside.fallen)) c.self.view_is
    (watch-marked graph s (set s p (Some b)) c.self.inside.touched c.self.inside.queued c.put_targets.new.set c.self.inside.fallen p b inside refl adds)

pub returns-clause-less : goal.returns-clause-less
returns-clause-less g c = λ _.
    let graph = g.G.PlaceGraph.graph c.args.graph.now in
    let s = c.self.inside.supports.items in
    let p = c.in-Some.place in
    let b = c.in-Some-find_support.support in
    let kept = subst (IsKept graph) (sym c.self.view_is) c.requires.kept in
    let queued = kept.queued p c.in-Some.ensures.some in
    let there = queued.0 in
    let room = kept.room in
    let inside : p < length s = omega arith in
    let adds = adds-as graph c.as_slice-2.result.now (set s p (Some b)) c.pop.new.self (set c.self.inside.queued p false) c.put_targets.new.set p None c.as_slice-2.ensures.value c.in-Some.ensures.rest c.put_targets.ensures in
    subst (λ k. settle_work (kept_of (set s p (Some b)) c.self.inside.touched c.put_targets.new.set c.self.inside.fallen) < settle_work k) c.self.view_is
    (less-marked graph s (set s p (Some b)) c.self.inside.touched c.self.inside.queued c.put_targets.new.set c.self.inside.fallen p b None inside queued.1 refl adds)
