use Rattle.std.proofs.Common.{◌≡◌, ◌∙◌, ◌+◌, arith, refl, subst, sym, vec_capacity}
use Rattle.place_marks.proofs.RoundLemmas.{IsListed, listed-all, listed-more, listed-none, listed-skip}
use Rattle.place_marks.proofs.rounds.list_marked.Goals as goal
use Rattle.place_marks.proofs.rounds.list_marked.Goals.{else-is_marked, then-is_marked}

pub loop-place-init : goal.loop-place-init
loop-place-init c = (subst (IsListed c.args.marks.now 0) (sym c.requires.empty) (listed-none c.args.marks.now), refl)

pub push_reserved-requires : goal.push_reserved-requires
push_reserved-requires c =
    let few = c.loop-place.invariant.0.few in
    let room = c.loop-place.invariant.1 in
    omega arith

pub loop-place-preserved : goal.loop-place-preserved
loop-place-preserved c =
    let marks = c.args.marks.now in
    let n = c.loop-place.place in
    let order = c.loop-place.order.items in
    let listed = c.loop-place.invariant.0 in
    let room = c.loop-place.invariant.1 in
    elim c.if-is_marked.branch [
      | then-is_marked w ↦ subst (λ o. IsListed marks (n + 1) o.items × (vec_capacity o ≡ vec_capacity c.args.order.now)) (sym w.order-is) (
          let more = listed-more marks n order listed (omega arith) (sym c.is_marked.ensures ∙ w.if-is_marked.true) in (
            subst (IsListed marks (n + 1)) (sym w.push_reserved.ensures.items) more,
            w.push_reserved.ensures.capacity ∙ room,
          )
          )
      | else-is_marked w ↦ subst (λ o. IsListed marks (n + 1) o.items × (vec_capacity o ≡ vec_capacity c.args.order.now)) (sym w.order-is)
          (listed-skip marks n order listed (omega arith) (sym c.is_marked.ensures ∙ w.if-is_marked.false), room)
    ]

pub returns-clause-ordered : goal.returns-clause-ordered
returns-clause-ordered c =
    let marks = c.args.marks.now in
    let last = c.loop-place-test.false in
    listed-all marks c.loop-place.place c.loop-place.order.items c.loop-place.invariant.0 (λ p h. (let below = c.requires.within p h in omega arith))
