use Rattle.std.proofs.Common.{◌≡◌, ◌≤◌, ◌<◌, ◌++◌, append-nil, drop, length, get_or, refl, reverse, slice_get, Some, sym, ◌∙◌, ap, subst, arith}
use Rattle.std.specs.Option.{IsSome}
use Rattle.std.proofs.lemmas.List.{length-reverse, reverse-reverse}
use Rattle.history_model.specs.declared.events.Event.{Event}
use Rattle.history_model.specs.declared.records.Verdict.{Verdict}
use Rattle.history_model.proofs.CodesLemmas.{left-less, left-within, read-first, read-next}
use Rattle.evidence_report.specs.Pieces.{verdict_text}
use Rattle.evidence_report.proofs.Following.{follow-all, told-other, told-sweep}
use Rattle.evidence_report.proofs.full.append_events.Goals as goal
use Rattle.evidence_report.proofs.full.append_events.Goals.{in-Sweep+in_ok-rest, in_default}

pub loop-init : goal.loop-init
loop-init c =
    let h = c.args.history.now in
    record {
      told = record {
        told = sym (append-nil c.args.text.now.items);
        follow = follow-all h.cluster h.past (reverse h.past) c.args.verdicts.now (sym (reverse-reverse h.past)) c.requires;
      };
      left = c.events-events.ensures;
    }

pub unwrap-event-requires : goal.unwrap-event-requires
unwrap-event-requires c =
    let es = reverse c.args.history.now.past in
    let below : c.loop.counter < length es = omega (arith, c.loop-test.true, c.len-end.ensures, length-reverse c.args.history.now.past) in
    let first = read-first es c.loop.counter below in
    subst IsSome (sym (c.in_ok-next.ensures.event ∙ ap (λ xs. slice_get xs 0) c.loop.invariant.left ∙ first.1)) refl

pub loop-preserved : goal.loop-preserved
loop-preserved c =
    let cl = c.args.history.now.cluster in
    let es = reverse c.args.history.now.past in
    let at = c.loop.counter in
    let start = c.args.text.now.items in
    let text = c.loop.text.items in
    let left = c.loop.rest.now in
    let e = c.unwrap-event.result in
    let first : slice_get (drop at es) 0 ≡ Some e = sym (ap (λ xs. slice_get xs 0) c.loop.invariant.left) ∙ sym c.in_ok-next.ensures.event ∙ c.unwrap-event.ensures in
    let below = left-within es at e first in
    let is = sym (read-next es at e first) in
    record {
      told = elim c.match-event-3.branch [
        | in-Sweep+in_ok-rest w ↦ (
            let answered = w.in_ok-rest.ensures in
            let within : (d : Verdict) → cl.nodes ≤ length (get_or left 0 d).cut = λ d. omega (arith, answered.cut d, w.nodes.ensures.nodes, w.nodes.ensures.at_most) in
            rw (w.text-is, w.rest-is)
            (told-sweep cl es at start text left c.loop.invariant.told e below is w.in-Sweep.node w.in-Sweep.is
            c.append_event.new.out.items w.append_first.new.text.items w.in_ok-rest.rest.now c.in_ok-append_event.ensures.ok answered.rest within
            (λ d. answered.lines d ∙ ap (λ n. c.append_event.new.out.items ++ verdict_text n (get_or left 0 d)) w.nodes.ensures.nodes)))
        | in_default w ↦
            rw (w.text-is, w.rest-is)
            (told-other cl es at start text left c.loop.invariant.told e below is w.in_default.not-Sweep c.append_event.new.out.items c.in_ok-append_event.ensures.ok)
      ];
      left = c.in_ok-next.ensures.rest ∙ ap (drop 1) c.loop.invariant.left ∙ left-less es at e first;
    }
