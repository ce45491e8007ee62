use Rattle.std.proofs.Common.{◌≡◌, eqb, refl, sym, ◌∙◌}
use Rattle.std.proofs.lemmas.Bool.Decides.{Decides-eqb}
use Rattle.std.proofs.lemmas.Slice.Eq.{slice_eq-Decides}
use Rattle.std.specs.Cmp.Lexicographic.{pointwise}
use Rattle.pseudoroot_trace.proofs.trace.lost_nodes.Goals as goal

pub returns-then-eq : goal.returns-then-eq
returns-then-eq c =
    let lost = c.lost-lost.result in
    let none = c.empty.result in
    let same : lost ≡ none = (slice_eq-Decides Decides-eqb lost none (pointwise eqb lost none) refl).0 (sym c.eq.ensures ∙ c.if-eq.true) in
    sym c.lost-lost.ensures ∙ same ∙ c.empty.ensures
