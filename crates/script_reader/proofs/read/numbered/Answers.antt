use Rattle.std.proofs.Common.{Ok, ◌∙◌, ap}
use Rattle.std.proofs.lemmas.Result.{err_from_is_err_and}
use Rattle.script_reader.specs.Found.{finds}
use Rattle.script_reader.specs.Numbered.{numbered_seed}
use Rattle.script_reader.specs.Scripts.{numbered, whole}
use Rattle.script_reader.specs.Walk.{◌>>=◌, each}
use Rattle.script_reader.proofs.NumberedLaws.{behaviours_by, fails_on, numbered-map, seeds_by}
use Rattle.script_reader.proofs.read.numbered.Goals as goal

pub returns-in_err-behaviours : goal.returns-in_err-behaviours
returns-in_err-behaviours c =
    let e = c.in_ok-numbers.ensures in
    let number = finds c.in_ok-numbers.numbers in
    let p = err_from_is_err_and c.from_residual-in_err-behaviours.result c.from_residual-in_err-behaviours.ensures.1 in
    rw (p.1, p.2) (fails_on c.in_err-behaviours.field-0.0 (behaviours_by c.args.draft number) (seeds_by c.args.draft number) (numbered c.args.draft) c.in_err-behaviours.ensures (numbered-map c.args.draft e.0 c.in_ok-numbers.numbers e.1 e.2))

pub returns-in_err-seeds : goal.returns-in_err-seeds
returns-in_err-seeds c =
    let e = c.in_ok-numbers.ensures in
    let number = finds c.in_ok-numbers.numbers in
    let p = err_from_is_err_and c.from_residual-in_err-seeds.result c.from_residual-in_err-seeds.ensures.1 in
    rw (p.1, p.2) (fails_on c.in_err-seeds.field-0.0 (each (λ _. numbered_seed number) c.args.draft.seeds) (λ ss. Ok (whole c.args.draft c.in_ok-behaviours.behaviours ss)) (numbered c.args.draft) c.in_err-seeds.ensures
    (numbered-map c.args.draft e.0 c.in_ok-numbers.numbers e.1 e.2 ∙ ap (λ r. r >>= seeds_by c.args.draft number) c.in_ok-behaviours.ensures))

pub returns : goal.returns
returns c =
    let e = c.in_ok-numbers.ensures in
    let number = finds c.in_ok-numbers.numbers in
    let read = numbered-map c.args.draft e.0 c.in_ok-numbers.numbers e.1 e.2
    ∙ ap (λ r. r >>= seeds_by c.args.draft number) c.in_ok-behaviours.ensures
    ∙ ap (λ r. r >>= λ ss. Ok (whole c.args.draft c.in_ok-behaviours.behaviours ss)) c.in_ok-seeds.ensures in
    rw c.new.ensures read
