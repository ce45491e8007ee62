use Rattle.std.proofs.Common.{◌≡◌, ◌==◌, ℕ, sym, ◌∙◌, arith}
use Rattle.std.specs.List.{list_any}
use Rattle.membership.proofs.LinksLemmas.{told-source}
use Rattle.membership.proofs.SetsLemmas.{filter_more_no, filter_more_yes}
use Rattle.membership.specs.Noted.{links_of}
use Rattle.membership.proofs.finals.Finals.removed.Goals as goal
use Rattle.membership.proofs.finals.Finals.removed.Goals.{then-ne, else-ne}

pub loop-number-preserved : goal.loop-number-preserved
loop-number-preserved c =
    let is_source = λ (s : ℕ). list_any (λ l. s == l.0) (links_of c.args.self.now) in
    let tested : c.ne.result ≡ is_source c.loop-number.number =
    rw (← c.self.view_is) (rw c.empty.ensures at c.ne.ensures ∙ told-source c.self.inside.told c.loop-number.number c.index-self-number.result (omega arith)) in
    elim c.if-ne.branch [
      | then-ne w ↦ (
          let put = filter_more_yes is_source c.loop-number.number (sym tested ∙ w.if-ne.true) in
          rw (w.removed-is, w.with-removed.ensures, w.node.ensures, c.loop-number.invariant) put
          )
      | else-ne w ↦ (
          let same = filter_more_no is_source c.loop-number.number (sym tested ∙ w.if-ne.false) in
          rw w.removed-is (c.loop-number.invariant ∙ same)
          )
    ]
