use Rattle.std.proofs.Common.{◌<◌, ◌≤◌, length, refl, inl, inr, arith}
use Rattle.std.proofs.lemmas.Bool.{cases_lt, false≢true}
use Rattle.ready_actors.proofs.MemberLemmas.{left-found, left-missed}
use Rattle.ready_actors.proofs.ready.ReadyActors.leave.Goals as goal
use Rattle.ready_actors.proofs.ready.ReadyActors.leave.Goals.{in-Some, in_default}

pub returns : goal.returns
returns c = elim c.match-get_mut.branch [
  | in-Some w ↦
      let nodes = c.self.inside.nodes.items in
      let inside : c.get.result < length nodes = omega (arith, w.in-Some.ensures.variant.0 refl) in
      rw (w.self-inside-is, ← c.self.view_is) (λ a. left-found nodes w.clear.new.self c.get.result c.args.node a c.get.ensures.number inside w.clear.ensures)
  | in_default w ↦
      let nodes = c.self.inside.nodes.items in
      let outside : length nodes ≤ c.get.result = elim (cases_lt c.get.result (length nodes)) [
        | inl low ↦ absurd (false≢true (w.in_default.ensures.variant.1 (omega arith)))
        | inr far ↦ far
      ] in
      rw (w.self-inside-is, ← c.self.view_is) (λ a. left-missed nodes c.get.result c.args.node a c.get.ensures.number outside)
]
