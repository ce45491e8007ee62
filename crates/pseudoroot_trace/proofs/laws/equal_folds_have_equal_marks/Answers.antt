use Rattle.std.proofs.Common.{◌≡◌, Bool, true, false, refl, subst, sym}
use Rattle.history_model.specs.Compaction.{IsMarked}
use Rattle.history_model.specs.Folds.{is_lost}
use Rattle.shadow_graph.specs.Seen.{is_dropped}
use Rattle.pseudoroot_trace.proofs.laws.equal_folds_have_equal_marks.Goals as goal

-- two answers are one where each implies the other
both : (x y : Bool) → (x ≡ true → y ≡ true) → (y ≡ true → x ≡ true) → x ≡ y
both true true there back = refl
both true false there back = sym (there refl)
both false true there back = back refl
both false false there back = refl

pub returns : goal.returns
returns c = λ cl f g h p q of_g of_h dropped sweep_g sweep_h a.
    let same : is_dropped g ≡ is_dropped h = λ i b. dropped b i in
    both (p a) (q a)
    (λ marked. (sweep_h.marked cl f of_h a).1 (subst (λ gone. IsMarked cl (is_lost cl f) gone f a) same ((sweep_g.marked cl f of_g a).0 marked)))
    (λ marked. (sweep_g.marked cl f of_g a).1 (subst (λ gone. IsMarked cl (is_lost cl f) gone f a) (sym same) ((sweep_h.marked cl f of_h a).0 marked)))
