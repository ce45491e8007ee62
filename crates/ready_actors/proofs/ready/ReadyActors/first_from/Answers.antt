use Rattle.std.proofs.Common.{◌≡◌, ◌≤◌, false, sym, ◌∙◌, subst, inl, inr, arith}
use Rattle.std.proofs.lemmas.Bool.{both_ways, cases_lt, cases_order}
use Rattle.ready_actors.specs.Ready.{has_actor}
use Rattle.ready_actors.proofs.MemberLemmas.{has-actor-past}
use Rattle.ready_actors.proofs.NextLemmas.{first-lowest, read-at}
use Rattle.ready_actors.proofs.ready.ReadyActors.first_from.Goals as goal

pub loop-number-init : goal.loop-number-init
loop-number-init c = λ a low high. absurd (omega arith)

pub loop-number-preserved : goal.loop-number-preserved
loop-number-preserved c = λ a low high.
    let here = c.in_ok-new.ensures.some in
    elim (cases_lt a.node c.loop-number.number) [
      | inl before ↦ c.loop-number.invariant a low before
      | inr last ↦
          let on : a.node ≡ c.in_ok-new.field-0 = omega arith in
          sym (read-at c.args.self.now c.in_ok-new.field-0 a on) ∙ c.in_default.ensures.none a.serial (omega arith)
    ]

pub returns-in-Some-clause-some : goal.returns-in-Some-clause-some
returns-in-Some-clause-some c =
    let found = c.in-Some.ensures.some in
    let here = c.in_ok-new.ensures.some in
    let own = found.on_node in
    let above = c.loop-number.auto.number in
    let one : c.args.node ≤ c.in-Some.actor.node = omega arith in
    first-lowest c.args.self.now c.in_ok-new.field-0 0 c.in-Some.actor (λ a. c.args.node ≤ a.node) found one
    (λ a has low. elim (cases_order a.node c.in_ok-new.field-0) [
      | inl same ↦ inr (same, omega arith)
      | inr other ↦ elim other [
        | inl before ↦ absurd (both_ways (has_actor c.args.self.now a) (c.loop-number.invariant a low (omega arith)) has)
        | inr beyond ↦ inl beyond
      ]
    ])

pub returns-clause-none : goal.returns-clause-none
returns-clause-none c = λ a has low.
    let ended = c.loop-number-test.false in
    let count = c.len-number-end.ensures in
    both_ways (has_actor c.args.self.now a)
    (elim (cases_lt a.node c.loop-number.number) [
      | inl before ↦ c.loop-number.invariant a low before
      | inr beyond ↦ subst (λ actors. has_actor actors a ≡ false) c.self.view_is (has-actor-past c.self.inside.nodes.items a (omega arith))
    ])
    has
