use Rattle.std.proofs.Common.{◌≡◌, is_some, true, false, length, take, sym, ◌∙◌, ap, subst, arith}
use Rattle.script_reader.specs.Found.{IsNumbering, finds}
use Rattle.script_reader.proofs.NumberingLemmas.{known-any, name_fails, name_goes, names, names-more, numbering-push, length-names}
use Rattle.script_reader.proofs.names.numbering.Goals as goal

pub returns-then-is_some : goal.returns-then-is_some
returns-then-is_some c =
    let bs = c.as_slice-rows.result.now in
    let b = c.index-rows-number.result in
    let i = c.loop-number.number in
    let name : c.as_slice-in-loop-number.result.now ≡ b.name = c.as_slice-in-loop-number.ensures.value ∙ c.in_ok-name.ensures.items ∙ c.as_slice.ensures in
    let found : is_some (finds c.loop-number.numbers b.name) ≡ true =
    ap (λ n. is_some (finds c.loop-number.numbers n)) (sym name) ∙ ap is_some (sym c.find.ensures) ∙ sym c.is_some.ensures ∙ c.if-is_some.true in
    rw (← c.as_slice-rows.ensures)
    (name_fails bs i b _ c.loop-number-test.true c.index-rows-number.is (sym (known-any c.loop-number.numbers (names (take i bs)) c.loop-number.invariant.numbers b.name) ∙ found) c.loop-number.invariant.read)

pub loop-number-preserved : goal.loop-number-preserved
loop-number-preserved c =
    let bs = c.as_slice-rows.result.now in
    let b = c.index-rows-number.result in
    let i = c.loop-number.number in
    let old = c.loop-number.numbers in
    let copied : c.in_ok-name.name.items ≡ b.name = c.in_ok-name.ensures.items ∙ c.as_slice.ensures in
    let name : c.as_slice-in-loop-number.result.now ≡ b.name = c.as_slice-in-loop-number.ensures.value ∙ copied in
    let absent : is_some (finds old b.name) ≡ false =
    ap (λ n. is_some (finds old n)) (sym name) ∙ ap is_some (sym c.find.ensures) ∙ sym c.is_some.ensures ∙ c.if-is_some.false in
    let apart = sym (known-any old (names (take i bs)) c.loop-number.invariant.numbers b.name) ∙ absent in
    let count : length (names (take i bs)) ≡ i = length-names bs i (omega (arith, c.loop-number-test.true)) in
    record {
      read = name_goes bs i b _ c.loop-number-test.true c.index-rows-number.is apart c.loop-number.invariant.read;
      numbers = subst (IsNumbering c.insert.new.self) (sym (names-more bs i b c.loop-number-test.true c.index-rows-number.is))
          (numbering-push old c.insert.new.self (names (take i bs)) c.in_ok-name.name b.name copied c.loop-number.invariant.numbers absent (rw count c.in_ok-insert.ensures.entries));
      few = c.loop-number.invariant.few;
    }
