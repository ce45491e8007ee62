use Rattle.std.proofs.Common.{◌≡◌, ◌++◌, ◌∷◌, None, Some, drop, reverse, slice_get, sym, ◌∙◌, ap}
use Rattle.script_workers.proofs.Closes.{given-all, given-on, next-on}
use Rattle.script_workers.proofs.closing.course_of.Goals as goal

pub follow_next-requires-clause-legal : goal.follow_next-requires-clause-legal
follow_next-requires-clause-legal c =
    let s = c.loop-course.course in
    let left = c.loop-course.events in
    let first : Some c.in-Some.event ≡ slice_get left 0 = sym c.in-Some.is ∙ c.in_ok-event.ensures.event in
    let way = given-on left s.past c.args.history.past c.in-Some.event first c.loop-course.invariant.0 in
    let next = next-on s c.args.history (reverse (drop 1 left)) c.in-Some.event c.loop-course.invariant.1 way c.requires.legal c.requires.within c.requires.few in
    next.legal

pub follow_next-requires-clause-limit : goal.follow_next-requires-clause-limit
follow_next-requires-clause-limit c =
    let s = c.loop-course.course in
    let left = c.loop-course.events in
    let first : Some c.in-Some.event ≡ slice_get left 0 = sym c.in-Some.is ∙ c.in_ok-event.ensures.event in
    let way = given-on left s.past c.args.history.past c.in-Some.event first c.loop-course.invariant.0 in
    let next = next-on s c.args.history (reverse (drop 1 left)) c.in-Some.event c.loop-course.invariant.1 way c.requires.legal c.requires.within c.requires.few in
    next.limit

pub follow_next-requires-clause-few : goal.follow_next-requires-clause-few
follow_next-requires-clause-few c =
    let s = c.loop-course.course in
    let left = c.loop-course.events in
    let first : Some c.in-Some.event ≡ slice_get left 0 = sym c.in-Some.is ∙ c.in_ok-event.ensures.event in
    let way = given-on left s.past c.args.history.past c.in-Some.event first c.loop-course.invariant.0 in
    let next = next-on s c.args.history (reverse (drop 1 left)) c.in-Some.event c.loop-course.invariant.1 way c.requires.legal c.requires.within c.requires.few in
    next.few

pub loop-course-preserved : goal.loop-course-preserved
loop-course-preserved c =
    let s = c.loop-course.course in
    let left = c.loop-course.events in
    let first : Some c.in-Some.event ≡ slice_get left 0 = sym c.in-Some.is ∙ c.in_ok-event.ensures.event in
    let way = given-on left s.past c.args.history.past c.in-Some.event first c.loop-course.invariant.0 in
    let adds = c.in_ok-follow_next.ensures.ok in (
      ap (λ es. reverse es ++ c.follow_next.new.course.past) c.in_ok-event.ensures.rest ∙ ap (λ p. reverse (drop 1 left) ++ p) adds.past ∙ way,
      adds.cluster ∙ c.loop-course.invariant.1,
    )

pub returns : goal.returns
returns c =
    let left = c.loop-course.events in
    let none : None ≡ slice_get left 0 = sym c.in_default.is ∙ c.in_ok-event.ensures.event in
    let past = given-all left c.loop-course.course.past c.args.history.past none c.loop-course.invariant.0 in
    λ i. record { cluster = c.loop-course.invariant.1 i; past = past i }
