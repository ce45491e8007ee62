use Rattle.std.proofs.Common.{◌≡◌, ◌<◌, ◌+◌, ◌-◌, ◌%◌, ◌^◌, length, get_or, take, arith, subst}
use Rattle.std.proofs.lemmas.Grind.{common_steps}
use Rattle.std.proofs.lemmas.List.{take_all}
use Rattle.std.specs.Int.{IsInRange}
use Rattle.std.specs.Str.Parse.{AllDigits, digits_value}
use Rattle.event_lines.proofs.FieldsLaws.{number_of-digits, number_of-empty, number_of-great, number_of-leading_zero, number_of-no_digit, read-more, value-more}
use Rattle.event_lines.proofs.fields.number.Goals as goal
use Rattle.event_lines.proofs.fields.number.Goals.{else-word-eq48-via-then-word-eq48+else-word-gt1, else-word-eq48-via-else-word-eq48}

pub returns-then-is_empty-clause-value : goal.returns-then-is_empty-clause-value
returns-then-is_empty-clause-value c = number_of-empty c.args.limit c.args.word.now c.requires.small (grind (arith, common_steps))

pub returns-then-word-gt1-clause-value : goal.returns-then-word-gt1-clause-value
returns-then-word-gt1-clause-value c = number_of-leading_zero c.args.limit c.args.word.now c.requires.small c.if-word-eq48.true c.if-word-gt1.true

pub returns-then-digit-gt9-clause-value : goal.returns-then-digit-gt9-clause-value
returns-then-digit-gt9-clause-value c =
    number_of-no_digit c.args.limit c.args.word.now c.requires.small c.loop-b.b-index c.loop-b-test.true (λ r. omega (arith, r, c.if-digit-gt9.true))

pub returns-then-n-limit-clause-value : goal.returns-then-n-limit-clause-value
returns-then-n-limit-clause-value c =
    let w = c.args.word.now in
    let digit : IsInRange 48 57 (get_or w c.loop-b.b-index 0) = omega (arith, c.if-digit-gt9.false) in
    let more = value-more c.args.limit w c.loop-b.b-index c.loop-b.n c.loop-b-test.true c.loop-b.invariant digit in
    number_of-great c.args.limit w c.requires.small (c.loop-b.b-index + 1) (omega (arith, more, digit))

pub loop-b-preserved : goal.loop-b-preserved
loop-b-preserved c =
    let w = c.args.word.now in
    let b = get_or w c.loop-b.b-index 0 in
    let digit : IsInRange 48 57 b = omega (arith, c.if-digit-gt9.false) in
    let more = read-more c.args.limit w c.loop-b.b-index c.loop-b.n c.loop-b-test.true c.loop-b.invariant digit (omega (arith, digit)) in
    let unwrapped : b - 48 ≡ (b + (2 ^ 64 - 48)) % 2 ^ 64 = omega (arith, digit) in
    rw unwrapped at more

pub returns-clause-value : goal.returns-clause-value
returns-clause-value c =
    let w = c.args.word.now in
    let all : take c.loop-b.b-index w ≡ w = take_all c.loop-b.b-index w (omega arith) in
    let digits = subst (AllDigits 10) all c.loop-b.invariant.digits in
    let value : c.loop-b.n ≡ digits_value 10 w = rw all at c.loop-b.invariant.value in
    let some : 0 < length w = grind (arith, common_steps) in
    let lead : get_or w 0 0 ≡ 48 → length w ≡ 1 = λ h. elim c.else-word-eq48.branch [
      | else-word-eq48-via-then-word-eq48+else-word-gt1 v ↦ omega (arith, v.if-word-gt1.false)
      | else-word-eq48-via-else-word-eq48 v ↦ absurd (v.if-word-eq48.false h)
    ] in
    rw value (number_of-digits c.args.limit w c.requires.small digits some lead (omega arith))
