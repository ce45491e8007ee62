use Rattle.std.proofs.Common.{◌≡◌, ◌<◌, List, length, sym, ◌∙◌, ap, refl, subst, arith}
use Rattle.history_model.specs.declared.events.Event.{Event}
use Rattle.history_model.specs.declared.events.Event.TheVariants.{Hand}
use Rattle.history_model.specs.Cluster.{Cluster}
use Rattle.history_model.specs.Streams.{stream}
use Rattle.run_model.specs.Round.{handed, tried}
use Rattle.cluster_round.specs.Halting.{IsRoundHalt}
use Rattle.cluster_round.proofs.Adding.{handed-adds}
use Rattle.cluster_round.proofs.HandLemmas.{handed-all, handed-start, wanted-below, wanted-handed, wanted-later, wanted-next, wanted-reached}
use Rattle.cluster_round.proofs.Staging.{step-halts}
use Rattle.cluster_round.proofs.handing.hand_numbers.Goals as goal

pub loop-number-init : goal.loop-number-init
loop-number-init c = record {
  cluster = refl;
  handed = handed-start c.args.course.now.cluster c.args.to c.args.origin c.args.course.now.past c.args.end c.args.first c.requires.end c.requires.up c.requires.first;
}

pub returns-in-Err-clause-halt : goal.returns-in-Err-clause-halt
returns-in-Err-clause-halt c =
    let s = c.args.course.now in
    let t = c.loop-number.course in
    let n = c.loop-number.number in
    let m = c.args.to in
    let o = c.args.origin in
    let at = c.loop-number.invariant.handed in
    let same = c.loop-number.invariant.cluster in
    let below : n < c.args.end = omega arith in
    let new = c.hand_next.new.course.past in
    let over : IsRoundHalt c.in-Err.halt s.cluster (tried s.cluster (Hand m o n) t.past) new =
    subst (λ (x : Cluster). IsRoundHalt c.in-Err.halt x (tried x (Hand m o n) t.past) new) same c.in-Err.ensures.halt in
    let halted : IsRoundHalt c.in-Err.halt s.cluster (handed s.cluster m o n t.past) new =
    subst (λ g. IsRoundHalt c.in-Err.halt s.cluster g new) (sym (wanted-handed s.cluster m o s.past t.past c.args.end n at below)) over in
    step-halts (λ (x : Cluster). handed x m o) s.cluster s.cluster n n s.past t.past new refl refl (wanted-reached s.cluster m o s.past t.past c.args.end n at below) c.in-Err.halt (length (stream s.cluster o s.past))
    (wanted-below s.cluster m o s.past t.past c.args.end n at below) (handed-adds s.cluster m o) halted

pub loop-number-preserved : goal.loop-number-preserved
loop-number-preserved c =
    let s = c.args.course.now in
    let t = c.loop-number.course in
    let n = c.loop-number.number in
    let m = c.args.to in
    let o = c.args.origin in
    let at = c.loop-number.invariant.handed in
    let same = c.loop-number.invariant.cluster in
    let below : n < c.args.end = omega arith in
    let is = c.in-Ok.ensures.ok ∙ ap (λ (x : Cluster). tried x (Hand m o n) t.past) same in
    record {
      cluster = c.in-Ok.ensures.cluster ∙ same;
      handed = wanted-next s.cluster m o s.past t.past c.args.end n at below c.requires.to c.requires.origin c.hand_next.new.course.past is c.in-Ok.next c.in-Ok.ensures.next;
    }

pub loop-number-smaller : goal.loop-number-smaller
loop-number-smaller c =
    let s = c.args.course.now in
    let t = c.loop-number.course in
    let n = c.loop-number.number in
    let m = c.args.to in
    let o = c.args.origin in
    let at = c.loop-number.invariant.handed in
    let same = c.loop-number.invariant.cluster in
    let below : n < c.args.end = omega arith in
    let is = c.in-Ok.ensures.ok ∙ ap (λ (x : Cluster). tried x (Hand m o n) t.past) same in
    let later = wanted-later s.cluster m o s.past t.past c.args.end n at below c.requires.to c.requires.origin c.hand_next.new.course.past is c.in-Ok.next c.in-Ok.ensures.next in
    omega (arith, below, later)

pub returns-clause-ok : goal.returns-clause-ok
returns-clause-ok c =
    let s = c.args.course.now in
    handed-all s.cluster c.args.to c.args.origin s.past c.loop-number.course.past c.args.end c.loop-number.number c.loop-number.invariant.handed (omega arith)

pub hand_next-requires-clause-to : goal.hand_next-requires-clause-to
hand_next-requires-clause-to c =
    let same = ap (λ (x : Cluster). x.nodes) c.loop-number.invariant.cluster in
    omega (arith, same, c.requires.to)

pub hand_next-requires-clause-origin : goal.hand_next-requires-clause-origin
hand_next-requires-clause-origin c =
    let same = ap (λ (x : Cluster). x.nodes) c.loop-number.invariant.cluster in
    omega (arith, same, c.requires.origin)

pub hand_next-requires-clause-up : goal.hand_next-requires-clause-up
hand_next-requires-clause-up c = c.loop-number.invariant.handed.up
