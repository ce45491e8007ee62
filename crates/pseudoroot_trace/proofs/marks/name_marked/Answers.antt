use Rattle.std.proofs.Common.{◌≡◌, ◌+◌, ◌≤◌, ◌∙◌, arith, length, subst, sym}
use Rattle.indexmap.specs.IndexSet.{index_set_len, spare}
use Rattle.pseudoroot_trace.proofs.NamedLemmas.{named-more, named-skip, not-named}
use Rattle.pseudoroot_trace.specs.Marked.{AreNamedBelow}
use Rattle.pseudoroot_trace.proofs.marks.name_marked.Goals as goal
use Rattle.pseudoroot_trace.proofs.marks.name_marked.Goals.{then-is_marked, else-is_marked}

pub name_at-requires-clause-new : goal.name_at-requires-clause-new
name_at-requires-clause-new c =
    not-named c.args.graph.now c.place_count-place-end.ensures.placed c.args.marks.now c.loop-place.place c.loop-place.actors.keys (omega arith) c.loop-place.invariant.0

pub loop-place-preserved : goal.loop-place-preserved
loop-place-preserved c =
    let g = c.args.graph.now in
    let m = c.args.marks.now in
    let n = c.loop-place.place in
    let old = c.loop-place.actors in
    let named = c.loop-place.invariant.0 in
    let room = c.loop-place.invariant.1 in
    let all = c.loop-place.invariant.2 in
    elim c.if-is_marked.branch [
      | then-is_marked w ↦ (
          let spare_one = w.name_at.ensures.spare in
          let one_more = w.name_at.ensures.len in
          let marked = sym c.is_marked.ensures ∙ w.if-is_marked.true in
          subst
          (λ s. AreNamedBelow g m (n + 1) s.keys × (length g.shadows.names ≤ n + 1 + spare s) × (index_set_len c.args.actors.now + spare c.args.actors.now ≤ index_set_len s + spare s))
          (sym w.actors-is)
          (named-more g m n old.keys w.name_at.new.actors.keys named marked w.name_at.ensures.keys, omega arith, omega arith)
          )
      | else-is_marked w ↦ (
          let unmarked = sym c.is_marked.ensures ∙ w.if-is_marked.false in
          subst
          (λ s. AreNamedBelow g m (n + 1) s.keys × (length g.shadows.names ≤ n + 1 + spare s) × (index_set_len c.args.actors.now + spare c.args.actors.now ≤ index_set_len s + spare s))
          (sym w.actors-is)
          (named-skip g m n old.keys named unmarked, omega arith, all)
          )
    ]

pub returns-clause-named : goal.returns-clause-named
returns-clause-named c =
    let last : c.loop-place.place ≡ length c.args.graph.now.shadows.names = omega arith in
    subst (λ n. AreNamedBelow c.args.graph.now c.args.marks.now n c.loop-place.actors.keys) last c.loop-place.invariant.0
