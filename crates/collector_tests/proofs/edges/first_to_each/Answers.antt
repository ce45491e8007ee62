use Rattle.std.proofs.Common.{◌≡◌, sym, subst}
use Rattle.crgc_ids.specs.Actor.{Actor}
use Rattle.edge_table.specs.Table.{Edges, HasEnds}
use Rattle.collector_tests.proofs.edges.first_to_each.Goals as goal

-- a place more changes no edge
pub loop-preserved : goal.loop-preserved
loop-preserved c =
    subst (λ (t : Edges). (a b : Actor) → a.node ≡ 0 → b.node ≡ 0 → HasEnds t a b a.serial b.serial) (sym c.in_ok-add_place.ensures.ok) c.loop.invariant

pub returns-in_err-add_place : goal.returns-in_err-add_place
returns-in_err-add_place c =
    subst (λ (t : Edges). (a b : Actor) → a.node ≡ 0 → b.node ≡ 0 → HasEnds t a b a.serial b.serial) (sym c.in_err-add_place.ensures.err) c.loop.invariant
