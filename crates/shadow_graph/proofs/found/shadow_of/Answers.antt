use Rattle.std.proofs.Common.{◌≡◌, ◌∙◌, false, rules, sym}
use Rattle.shadow_table.specs.Shadows.{is_named}
use Rattle.shadow_graph.proofs.SeenLemmas.{unnamed-blank}
use Rattle.shadow_graph.proofs.found.shadow_of.Goals as goal

pub returns-in_default : goal.returns-in_default
returns-in_default c =
    let none : is_named c.args.shadows.now.names c.args.actor ≡ false = search rules in
    c.blank.ensures ∙ sym (unnamed-blank c.args.shadows.now c.args.actor c.place_count-places.ensures.shadows none)
