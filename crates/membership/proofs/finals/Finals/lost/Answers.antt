use Rattle.std.proofs.Common.{◌≡◌, ◌⊎◌, ◌<◌, length, refl, sym, ◌∙◌, eqb, inl, inr}
use Rattle.std.proofs.lemmas.Bool.{false≢true}
use Rattle.std.proofs.lemmas.Bool.Decides.{Decides-eqb}
use Rattle.std.proofs.lemmas.Slice.Eq.{slice_eq-Decides}
use Rattle.std.specs.Cmp.Lexicographic.{pointwise}
use Rattle.membership.proofs.LostLemmas.{kept_all, kept_is_between, kept_shortens, removed_is_between}
use Rattle.membership.specs.Noted.{links_of}
use Rattle.membership.proofs.finals.Finals.lost.Goals as goal

pub loop-kept-init : goal.loop-kept-init
loop-kept-init c = rw c.removed-lost.ensures (removed_is_between c.args.self.now.nodes (links_of c.args.self.now))

pub returns-then-eq : goal.returns-then-eq
returns-then-eq c =
    let lost = c.loop-kept.lost in
    let kept = c.cut_off_within-kept.result in
    let same : kept ≡ lost = (slice_eq-Decides Decides-eqb kept lost (pointwise eqb kept lost) refl).0 (sym c.eq.ensures ∙ c.if-eq.true) in
    kept_all c.args.self.now.nodes (links_of c.args.self.now) lost c.loop-kept.invariant (sym c.cut_off_within-kept.ensures ∙ same)

pub loop-kept-smaller : goal.loop-kept-smaller
loop-kept-smaller c =
    let lost = c.loop-kept.lost in
    let kept = c.cut_off_within-kept.result in
    let shorter : (kept ≡ lost) ⊎ (length kept < length lost) =
    rw c.cut_off_within-kept.ensures (kept_shortens c.args.self.now.nodes (links_of c.args.self.now) lost c.loop-kept.invariant) in
    elim shorter [
      | inl same ↦ absurd (false≢true (sym c.if-eq.false ∙ c.eq.ensures ∙ (slice_eq-Decides Decides-eqb kept lost (pointwise eqb kept lost) refl).1 same))
      | inr less ↦ less
    ]

pub loop-kept-preserved : goal.loop-kept-preserved
loop-kept-preserved c =
    rw c.cut_off_within-kept.ensures (kept_is_between c.args.self.now.nodes (links_of c.args.self.now) c.loop-kept.lost c.loop-kept.invariant)
