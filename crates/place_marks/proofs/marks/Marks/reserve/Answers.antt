use Rattle.std.proofs.Common.{◌≤◌, arith, length, subst, sym}
use Rattle.std.proofs.lemmas.Grind.{common_steps}
use Rattle.std.specs.Result.{is_ok}
use Rattle.place_marks.specs.Marks.{IsOrdered}
use Rattle.place_marks.proofs.OrderLemmas.{ordered-resized}
use Rattle.place_marks.proofs.marks.Marks.reserve.Goals as goal

pub invariant_of-self-2 : goal.invariant_of-self-2
invariant_of-self-2 g c =
    let marks = c.self.inside.marks.items in
    let new = c.resize-2.new.self.items in
    let long : length marks ≤ c.place_count-places.result = omega arith in
    let ordered = ordered-resized marks new c.self.inside.order.items c.place_count-places.result _ (is_ok c.resize-2.result) long c.self.invariant.0 c.resize-2.ensures.items in
    (subst (IsOrdered new) (sym c.reserve.ensures.items) ordered, grind (arith, common_steps), grind (arith, common_steps))
