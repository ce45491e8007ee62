use Rattle.std.proofs.Common.{◌≡◌, ◌∙◌, false, rules, sym}
use Rattle.shadow_table.specs.Shadows.{is_named}
use Rattle.shadow_graph.proofs.OwnersLemmas.{unnamed-owners}
use Rattle.shadow_graph.proofs.graph.ShadowGraph.owners_by_place.Goals as goal

pub returns-in_default-clause-owners : goal.returns-in_default-clause-owners
returns-in_default-clause-owners c =
    let none : is_named c.args.self.now.shadows.names c.args.actor ≡ false = search rules in
    c.new-owners.ensures.items ∙ sym (unnamed-owners c.args.self.now c.place_count-places.ensures.placed c.args.actor none)
