use Rattle.std.proofs.Common.{◌≡◌, List, ◌∙◌}
use Rattle.history_model.specs.declared.events.Event.{Event}
use Rattle.run_model.specs.Round.{flushes, hands, removals, round, sweeps, windows}
use Rattle.cluster_round.proofs.Adding.{flushes-add, hands-add, sweeps-add, windows-add}
use Rattle.cluster_round.proofs.Staging.{GoesOn, halts-whole, next-halts, next-ok, part-halts, part-next}
use Rattle.cluster_round.proofs.rounds.round.Goals as goal

pub returns-in-Err-clause-halt : goal.returns-in-Err-clause-halt
returns-in-Err-clause-halt c =
    let s = c.args.course.now in
    let cl = s.cluster in
    let one = c.remove_crashed.new.course.past in
    let removed = removals cl s.past in
    halts-whole c.in-Err.halt cl removed (round cl s.past) one
    (λ e on. sweeps-add cl e one (hands cl (flushes cl (windows cl removed))) (hands-add cl e one (flushes cl (windows cl removed)) (flushes-add cl e one (windows cl removed) (windows-add cl e one removed on)))) c.in-Err.ensures.halt

pub returns-in-Err-tell_admitted-clause-halt : goal.returns-in-Err-tell_admitted-clause-halt
returns-in-Err-tell_admitted-clause-halt c =
    let s = c.args.course.now in
    let cl = s.cluster in
    let one = c.remove_crashed.new.course in
    let two = c.tell_admitted.new.course.past in
    let told = windows cl (removals cl s.past) in
    part-halts windows cl one.cluster (removals cl s.past) one.past two c.in-Ok.ensures.cluster c.in-Ok.ensures.ok c.in-Err-tell_admitted.halt (round cl s.past)
    (λ e on. sweeps-add cl e two (hands cl (flushes cl told)) (hands-add cl e two (flushes cl told) (flushes-add cl e two told on))) c.in-Err-tell_admitted.ensures.halt

pub returns-in-Err-flush_all-clause-halt : goal.returns-in-Err-flush_all-clause-halt
returns-in-Err-flush_all-clause-halt c =
    let s = c.args.course.now in
    let cl = s.cluster in
    let one = c.remove_crashed.new.course in
    let two = c.tell_admitted.new.course in
    let three = c.flush_all.new.course.past in
    let told = windows cl (removals cl s.past) in
    let same2 = c.in-Ok-tell_admitted.ensures.cluster ∙ c.in-Ok.ensures.cluster in
    let is2 = part-next windows cl one.cluster (removals cl s.past) one.past two.past c.in-Ok.ensures.cluster c.in-Ok.ensures.ok c.in-Ok-tell_admitted.ensures.ok in
    part-halts flushes cl two.cluster told two.past three same2 is2 c.in-Err-flush_all.halt (round cl s.past)
    (λ e on. sweeps-add cl e three (hands cl (flushes cl told)) (hands-add cl e three (flushes cl told) on)) c.in-Err-flush_all.ensures.halt

pub returns-in-Err-hand_all-clause-halt : goal.returns-in-Err-hand_all-clause-halt
returns-in-Err-hand_all-clause-halt c =
    let s = c.args.course.now in
    let cl = s.cluster in
    let one = c.remove_crashed.new.course in
    let two = c.tell_admitted.new.course in
    let three = c.flush_all.new.course in
    let four = c.hand_all.new.course.past in
    let told = windows cl (removals cl s.past) in
    let same2 = c.in-Ok-tell_admitted.ensures.cluster ∙ c.in-Ok.ensures.cluster in
    let is2 = part-next windows cl one.cluster (removals cl s.past) one.past two.past c.in-Ok.ensures.cluster c.in-Ok.ensures.ok c.in-Ok-tell_admitted.ensures.ok in
    let same3 = c.in-Ok-flush_all.ensures.cluster ∙ same2 in
    let is3 = part-next flushes cl two.cluster told two.past three.past same2 is2 c.in-Ok-flush_all.ensures.ok in
    part-halts hands cl three.cluster (flushes cl told) three.past four same3 is3 c.in-Err-hand_all.halt (round cl s.past)
    (λ e on. sweeps-add cl e four (hands cl (flushes cl told)) on) c.in-Err-hand_all.ensures.halt

pub returns-clause-ok : goal.returns-clause-ok
returns-clause-ok c =
    let s = c.args.course.now in
    let cl = s.cluster in
    let one = c.remove_crashed.new.course in
    let two = c.tell_admitted.new.course in
    let three = c.flush_all.new.course in
    let four = c.hand_all.new.course in
    let told = windows cl (removals cl s.past) in
    let same2 = c.in-Ok-tell_admitted.ensures.cluster ∙ c.in-Ok.ensures.cluster in
    let is2 = part-next windows cl one.cluster (removals cl s.past) one.past two.past c.in-Ok.ensures.cluster c.in-Ok.ensures.ok c.in-Ok-tell_admitted.ensures.ok in
    let same3 = c.in-Ok-flush_all.ensures.cluster ∙ same2 in
    let is3 = part-next flushes cl two.cluster told two.past three.past same2 is2 c.in-Ok-flush_all.ensures.ok in
    let same4 = c.in-Ok-hand_all.ensures.cluster ∙ same3 in
    let is4 = part-next hands cl three.cluster (flushes cl told) three.past four.past same3 is3 c.in-Ok-hand_all.ensures.ok in
    next-ok sweeps cl four.cluster (hands cl (flushes cl told)) four.past c.sweep_all.new.course.past same4 is4 c.sweep_all.result c.sweep_all.ensures.ok

pub returns-clause-halt : goal.returns-clause-halt
returns-clause-halt c =
    let s = c.args.course.now in
    let cl = s.cluster in
    let one = c.remove_crashed.new.course in
    let two = c.tell_admitted.new.course in
    let three = c.flush_all.new.course in
    let four = c.hand_all.new.course in
    let told = windows cl (removals cl s.past) in
    let same2 = c.in-Ok-tell_admitted.ensures.cluster ∙ c.in-Ok.ensures.cluster in
    let is2 = part-next windows cl one.cluster (removals cl s.past) one.past two.past c.in-Ok.ensures.cluster c.in-Ok.ensures.ok c.in-Ok-tell_admitted.ensures.ok in
    let same3 = c.in-Ok-flush_all.ensures.cluster ∙ same2 in
    let is3 = part-next flushes cl two.cluster told two.past three.past same2 is2 c.in-Ok-flush_all.ensures.ok in
    let same4 = c.in-Ok-hand_all.ensures.cluster ∙ same3 in
    let is4 = part-next hands cl three.cluster (flushes cl told) three.past four.past same3 is3 c.in-Ok-hand_all.ensures.ok in
    next-halts sweeps cl four.cluster (hands cl (flushes cl told)) four.past c.sweep_all.new.course.past same4 is4 c.sweep_all.result c.sweep_all.ensures.halt
