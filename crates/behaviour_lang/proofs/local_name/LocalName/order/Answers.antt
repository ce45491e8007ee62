use Rattle.std.proofs.Common.{◌≡◌, ◌-◌, length, take, length-take-le, sym, ◌∙◌, arith}
use Rattle.std.specs.Cmp.Lexicographic.{slice_cmp}
use Rattle.std.specs.Ordering.{nat_cmp, ordering_then}
use Rattle.behaviour_lang.proofs.NumberLaws.{ordered_by_length}
use Rattle.behaviour_lang.proofs.local_name.LocalName.order.Goals as goal

-- each text with the zeros behind it is what stands in place
pub returns : goal.returns
returns c =
    let mine = c.self.inside in
    let others = c.other.inside in
    let xs = take mine.len mine.bytes in
    let ys = take others.len others.bytes in
    let p : length xs ≡ mine.len = length-take-le mine.len mine.bytes c.self.invariant.0 in
    let q : length ys ≡ others.len = length-take-le others.len others.bytes c.other.invariant.0 in
    rw (c.then.ensures, c.cmp.ensures, c.number_order.ensures, ← c.self.view_is, ← c.other.view_is)
    (sym (λ i. ordering_then (slice_cmp nat_cmp (c.self.invariant.1 i) (c.other.invariant.1 i)) (nat_cmp (p i) (q i)))
    ∙ ordered_by_length (16 - length xs) (16 - length ys) xs ys (omega (arith, p, q, c.self.invariant.0, c.other.invariant.0, c.self.told, c.other.told)))
