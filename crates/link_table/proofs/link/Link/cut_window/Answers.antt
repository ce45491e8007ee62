use Rattle.link_table.specs.LinkState.{LinkState}
use Rattle.link_table.proofs.KeepingLemmas.{cut-kept}
use Rattle.link_table.proofs.link.Link.cut_window.Goals as goal

pub invariant_of-self : goal.invariant_of-self
invariant_of-self c =
    let old : LinkState = record { is_open = c.self.inside.is_open; sent = c.self.inside.egress; gate = c.self.inside.ingress; piles = c.self.inside.piles } in
    cut-kept old c.cut_window.new.self c.cut_window.result c.self.invariant c.cut_window.ensures.after c.cut_window.ensures.unchanged
