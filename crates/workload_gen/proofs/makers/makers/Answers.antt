use Rattle.std.proofs.Common.{◌≡◌, ◌%◌, ◌∷◌, [], ◌++◌, length, ap, ◌∙◌, rules}
use Rattle.workload_gen.proofs.MakersLemmas.{begins, goes_on, is_done, length-makers}
use Rattle.workload_gen.specs.Makers.{maker_of, makers, number_after}
use Rattle.workload_gen.proofs.makers.makers.Goals as goal

pub loop-j-init : goal.loop-j-init
loop-j-init c = record {
  in_range = search rules;
  made = rw c.new-makers.ensures.items (begins (c.args.seed % 65536) c.args.size);
}

pub loop-j-preserved : goal.loop-j-preserved
loop-j-preserved c =
    let made : c.push.new.self.items ≡ c.loop-j.makers.items ++ maker_of (number_after c.loop-j.x) c.args.size c.loop-j.j ∷ [] =
    c.in_ok-push.ensures.items ∙ ap (λ m. c.loop-j.makers.items ++ m ∷ []) c.maker_of.ensures
    ∙ ap (λ x. c.loop-j.makers.items ++ maker_of x c.args.size c.loop-j.j ∷ []) c.number_after-x.ensures.value in
    record {
      in_range = c.number_after-x.ensures.in_range;
      made = rw (made, c.number_after-x.ensures.value)
          (goes_on c.loop-j.makers.items (makers (c.args.seed % 65536) c.args.size) c.loop-j.j c.loop-j.x c.args.size c.loop-j-test.true c.loop-j.invariant.made);
    }

pub returns-clause-made : goal.returns-clause-made
returns-clause-made c = is_done c.loop-j.makers.items (makers (c.args.seed % 65536) c.args.size) c.loop-j.j c.loop-j.x c.args.size c.loop-j-test.false c.loop-j.invariant.made

pub returns-clause-len : goal.returns-clause-len
returns-clause-len c =
    ap length (is_done c.loop-j.makers.items (makers (c.args.seed % 65536) c.args.size) c.loop-j.j c.loop-j.x c.args.size c.loop-j-test.false c.loop-j.invariant.made)
    ∙ length-makers (c.args.seed % 65536) c.args.size
