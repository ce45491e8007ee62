use Rattle.std.proofs.Common.{◌<◌, ◌≤◌, ◌∙◌, false, length, refl, inl, inr, arith}
use Rattle.std.proofs.lemmas.Bool.{cases_lt, false≢true}
use Rattle.crgc_ids.specs.Actor.{same_actor}
use Rattle.ready_actors.specs.Members.{actors_from}
use Rattle.ready_actors.specs.Ready.{has_actor}
use Rattle.ready_actors.proofs.MemberLemmas.{and-cond, count-found, count-missed, taken-missed, written-found}
use Rattle.ready_actors.proofs.ready.ReadyActors.take_out.Goals as goal
use Rattle.ready_actors.proofs.ready.ReadyActors.take_out.Goals.{in-Some, in_default}

pub returns-clause-actors : goal.returns-clause-actors
returns-clause-actors c = elim c.match-get_mut.branch [
  | in-Some w ↦
      let nodes = c.self.inside.nodes.items in
      let inside : c.get.result < length nodes = omega (arith, w.in-Some.ensures.variant.0 refl) in
      rw (w.self-inside-is, ← c.self.view_is)
      (λ a. written-found nodes c.get.result w.serial.result w.in-Some.set.now w.take_out.new.self false c.args.actor (c.get.ensures.number ∙ c.node.ensures) w.serial.ensures.number inside w.in-Some.ensures.value w.take_out.ensures.serials a
      ∙ and-cond (same_actor c.args.actor a) (has_actor (actors_from 0 nodes) a))
  | in_default w ↦
      let nodes = c.self.inside.nodes.items in
      let outside : length nodes ≤ c.get.result = elim (cases_lt c.get.result (length nodes)) [
        | inl low ↦ absurd (false≢true (w.in_default.ensures.variant.1 (omega arith)))
        | inr far ↦ far
      ] in
      rw (w.self-inside-is, ← c.self.view_is) (λ a. taken-missed nodes c.get.result c.args.actor a (c.get.ensures.number ∙ c.node.ensures) outside)
]

pub returns-clause-count : goal.returns-clause-count
returns-clause-count c = elim c.match-get_mut.branch [
  | in-Some w ↦
      let nodes = c.self.inside.nodes.items in
      let inside : c.get.result < length nodes = omega (arith, w.in-Some.ensures.variant.0 refl) in
      rw (w.self-inside-is, ← c.self.view_is)
      (count-found nodes c.get.result w.serial.result w.in-Some.set.now w.take_out.new.self c.args.actor (c.get.ensures.number ∙ c.node.ensures) w.serial.ensures.number inside w.in-Some.ensures.value w.take_out.ensures.serials w.take_out.ensures.room)
  | in_default w ↦
      let nodes = c.self.inside.nodes.items in
      let outside : length nodes ≤ c.get.result = elim (cases_lt c.get.result (length nodes)) [
        | inl low ↦ absurd (false≢true (w.in_default.ensures.variant.1 (omega arith)))
        | inr far ↦ far
      ] in
      rw (w.self-inside-is, ← c.self.view_is) (count-missed nodes c.get.result c.args.actor (c.get.ensures.number ∙ c.node.ensures) outside)
]
