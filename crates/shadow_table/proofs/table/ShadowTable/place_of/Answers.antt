use Rattle.std.proofs.Common.{◌-◌, ◌<◌, length, arith}
use Rattle.crgc_ids.specs.Actor.{same_actor}
use Rattle.shadow_table.proofs.KeyedLemmas.{place-within}
use Rattle.shadow_table.proofs.NumberLemmas.{named-number, number-named}
use Rattle.shadow_table.proofs.table.ShadowTable.place_of.Goals as goal

pub returns-in_default-clause-within : goal.returns-in_default-clause-within
returns-in_default-clause-within c =
    let names = c.self.inside.names.items in
    let numbers = c.self.inside.numbers in
    let of = c.self.invariant.3 in
    let asked = c.at.ensures in
    let other = c.in_default in
    let named = number-named numbers names c.args.actor of (omega arith) in
    let is = named-number numbers names c.args.actor of named in
    let inside = place-within (same_actor c.args.actor) names named in
    rw (← c.self.view_is) (let goal : c.at.result - 1 < length names = omega arith in goal)
