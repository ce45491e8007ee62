use Rattle.std.proofs.Common.{◌≤◌, arith, length, subst, sym}
use Rattle.std.proofs.lemmas.Grind.{common_steps}
use Rattle.std.specs.Result.{is_ok}
use Rattle.kept_marks.specs.PlaceSet.{AreListed}
use Rattle.kept_marks.proofs.PlaceSetLemmas.{listed-resized}
use Rattle.kept_marks.proofs.place_set.PlaceSet.reserve.Goals as goal

pub invariant_of-self-2 : goal.invariant_of-self-2
invariant_of-self-2 c =
    let flags = c.self.inside.flags.items in
    let new = c.resize.new.self.items in
    let long : length flags ≤ c.max-room.result = omega arith in
    let listed = listed-resized flags new c.self.inside.queue.items c.max-room.result _ (is_ok c.resize.result) long c.self.invariant.0 c.resize.ensures.items in
    (subst (AreListed new) (sym c.reserve.ensures.items) listed, grind (arith, common_steps))
