use Rattle.std.proofs.Common.{ap, refl, ◌≡◌, ◌∙◌, slice_index, arith}
use Rattle.collector.specs.Collected.{cut_of}
use Rattle.collector.proofs.TakeLemmas.{waits-above}
use Rattle.collector.proofs.collector.Collector.unfolded.Goals as goal

pub returns-else-number-at : goal.returns-else-number-at
returns-else-number-at c =
    let is : c.at.result ≡ cut_of c.args.self.now c.args.origin = c.at.ensures.value ∙ ap (λ xs. slice_index xs c.args.origin) c.cut.ensures ∙ ap (λ d. cut_of d c.args.origin) c.self.view_is in
    let from = c.if-number-at.false in
    (refl, waits-above c.args.self.now c.args.origin c.args.number c.requires (omega arith))
