use Rattle.std.proofs.Common.{◌-◌, ◌<◌, arith, length, rules, subst, sym, take}
use Rattle.std.specs.List.{IsDistinct}
use Rattle.crgc_ids.specs.Actor.{same_actor}
use Rattle.shadow_table.specs.Numbers.{AreOfNames}
use Rattle.shadow_table.specs.Shadows.{Shadows}
use Rattle.shadow_table.proofs.NumberLemmas.{all-but-last, init-distinct, numbers-popped, same_actor-equivalence}
use Rattle.shadow_table.proofs.table.ShadowTable.forget_last.Goals as goal

pub invariant_of-self : goal.invariant_of-self
invariant_of-self c =
    let names = c.self.inside.names.items in
    let shadows = c.self.inside.shadows.items in
    let last = c.len-last.result - 1 in
    let actor = c.index.result.now in
    let some = subst (λ (t : Shadows). 0 < length t.names) (sym c.self.view_is) c.requires in
    let long = c.self.invariant.0 in
    let asked = c.len-last.ensures in
    let parts = all-but-last names last actor (omega arith) c.index.ensures in
    let distinct = subst (IsDistinct same_actor) parts c.self.invariant.2 in (
      search rules,
      search rules,
      subst (IsDistinct same_actor) (sym c.truncate.ensures.items) (init-distinct same_actor (take last names) actor distinct),
      subst (AreOfNames c.set.new.self) (sym c.truncate.ensures.items)
          (numbers-popped c.self.inside.numbers c.set.new.self (take last names) actor distinct same_actor-equivalence.symm (subst (AreOfNames c.self.inside.numbers) parts c.self.invariant.3) c.set.ensures),
      search rules,
    )
