use Rattle.std.proofs.Common.{◌≡◌, ◌<◌, ◌^◌, sym, ◌∙◌, subst, Some, arith}
use Rattle.std.proofs.lemmas.Fmt.{decimal_injective}
use Rattle.command_words.specs.Reading.{number_of}
use Rattle.command_words.proofs.NumberLaws.{number_of-none, number_of-decimal}
use Rattle.command_words.proofs.number.number.Goals as goal

pub returns-in-Some-clause-value : goal.returns-in-Some-clause-value
returns-in-Some-clause-value c =
    let small : c.in-Some.n < 2 ^ 64 = omega arith in
    subst (λ w. Some c.in-Some.n ≡ number_of c.args.least c.args.most w) c.in-Some.ensures (sym (number_of-decimal c.args.least c.args.most c.in-Some.n small (omega arith) (omega arith)))

pub returns-in_default-clause-value : goal.returns-in_default-clause-value
returns-in_default-clause-value c =
    let n = c.in-Some.n in
    let small : n < 2 ^ 64 = omega arith in
    sym (number_of-none c.args.least c.args.most c.args.word.now (λ m from to e.
    let same : m ≡ n = decimal_injective m n (omega arith) small (e ∙ sym c.in-Some.ensures) in omega arith))

pub returns-in_default-2-clause-value : goal.returns-in_default-2-clause-value
returns-in_default-2-clause-value c =
    let n = c.in-Some.n in
    let small : n < 2 ^ 64 = omega arith in
    sym (number_of-none c.args.least c.args.most c.args.word.now (λ m from to e.
    let same : m ≡ n = decimal_injective m n (omega arith) small (e ∙ sym c.in-Some.ensures) in omega arith))
