use Rattle.std.proofs.Common.{◌≡◌, ◌∙◌, ap, arith, false, get_or, length, sym}
use Rattle.std.proofs.Math.ListN.{drop}
use Rattle.std.proofs.lemmas.List.{take-append-le, take_all}
use Rattle.place_marks.proofs.ReachLemmas.{reached-inside}
use Rattle.place_marks.proofs.marks.mark_rounds.Goals as goal

pub list_marked-requires-clause-within : goal.list_marked-requires-clause-within
list_marked-requires-clause-within g c p marked =
    let graph = g.G.PlaceGraph.graph c.args.graph.now in
    let row = c.reach_in_rounds.new.marks in
    let long : length row ≡ c.fill.new.self.len = c.reach_in_rounds.ensures.room ∙ c.deref_mut-2.ensures.len in
    let same = take-append-le c.fill.new.self.len row (drop (length row) c.fill.new.self.items) (omega (arith, long))
    ∙ take_all c.fill.new.self.len row (omega (arith, long)) in
    let reached = (c.reach_in_rounds.ensures.marked p).0 (ap (λ xs. get_or xs p false) (sym (c.deref.ensures.value ∙ same)) ∙ marked) in
    let inside = reached-inside graph c.place_count-places.ensures.whole p reached in
    let count = c.place_count-places.ensures.count in
    omega arith
