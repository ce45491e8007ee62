use Rattle.std.proofs.Common.{inr, arith}
use Rattle.crgc_ids.proofs.LostNodesLaws.{lost_nodes-grow, removed_nodes-grow}
use Rattle.membership.proofs.LinksLemmas.{links-noted}
use Rattle.membership.proofs.finals.Finals.note_final.Goals as goal

pub returns-clause-links : goal.returns-clause-links
returns-clause-links c =
    rw (c.with.ensures, ← c.get-source.ensures.number, ← c.self.view_is)
    (links-noted c.self.inside.told c.get-source.result c.args.at (omega arith) c.index-self-source.result)

pub returns-clause-removed_grow : goal.returns-clause-removed_grow
returns-clause-removed_grow c =
    let links = returns-clause-links c in
    rw (← c.self.view_is) (removed_nodes-grow _ _ _ (λ l m. (links l).1 (inr (rw (← c.self.view_is) m))))

pub returns-clause-lost_grow : goal.returns-clause-lost_grow
returns-clause-lost_grow c =
    let links = returns-clause-links c in
    rw (← c.self.view_is) (lost_nodes-grow _ _ _ (λ l m. (links l).1 (inr (rw (← c.self.view_is) m))))
