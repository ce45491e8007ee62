use Rattle.std.proofs.Common.{◌≡◌, ◌+◌, ◌∙◌, ◌++◌, ◌∷◌, [], ap, arith, cond, length, rules, subst, sym}
use Rattle.std.proofs.lemmas.Map.Keys.{IsDistinct-push}
use Rattle.std.specs.List.{IsDistinct}
use Rattle.crgc_ids.specs.Actor.{Actor, same_actor}
use Rattle.shadow_table.specs.Numbers.{AreOfNames, number_of}
use Rattle.shadow_table.specs.Shadows.{blank, dropped_count}
use Rattle.shadow_table.proofs.NumberLemmas.{dropped-pushed, numbers-pushed, same_actor-equivalence, zero-unnamed}
use Rattle.shadow_table.proofs.table.ShadowTable.name.Goals as goal

pub invariant_of-self-2 : goal.invariant_of-self-2
invariant_of-self-2 c =
    let names = c.self.inside.names.items in
    let actor = c.args.actor in
    let more = c.push_reserved.ensures.items ∙ ap (λ ns. ns ++ actor ∷ []) c.reserve.ensures.names in
    let unnamed = zero-unnamed c.self.inside.numbers names actor c.self.invariant.3 (let asked = c.at.ensures in let none = c.if-at-gt0.false in omega arith) in
    let next : (a : Actor) → number_of c.set.new.self a ≡ cond (same_actor a actor) (length names + 1) (number_of c.self.inside.numbers a) = λ a.
    c.set.ensures a ∙ ap (λ n. cond (same_actor a actor) n (number_of c.reserve.new.numbers a)) (search rules)
    ∙ ap (cond (same_actor a actor) (length names + 1)) (c.reserve.ensures.numbers a) in (
      search rules,
      search rules,
      subst (IsDistinct same_actor) (sym more) (IsDistinct-push same_actor-equivalence names actor c.self.invariant.2 unnamed),
      subst (AreOfNames c.set.new.self) (sym more) (numbers-pushed c.self.inside.numbers c.set.new.self names actor c.self.invariant.3 unnamed next),
      c.self.invariant.4 ∙ sym (dropped-pushed c.self.inside.shadows.items) ∙ ap (λ ss. dropped_count (ss ++ blank ∷ [])) (sym c.reserve.ensures.shadows) ∙ ap dropped_count (sym c.push_reserved-2.ensures.items),
    )
