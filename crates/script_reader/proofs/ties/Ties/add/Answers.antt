use Rattle.std.proofs.Common.{◌≡◌, true, false, refl, sym, ◌∙◌, ap, not, rules}
use Rattle.script_reader.proofs.TakenLemmas.{taken-has, taken-push}
use Rattle.script_reader.specs.Taken.{TakenName}
use Rattle.script_reader.proofs.ties.Ties.add.Goals.{in-Ok-true, in-Ok-false, in-Err}
use Rattle.script_reader.proofs.ties.Ties.add.Goals as goal

pub invariant_of-self-in-Ok-true : goal.invariant_of-self-in-Ok-true
invariant_of-self-in-Ok-true c =
    let k : TakenName = (c.args.tie.from, c.in-Ok.name) in
    let name : c.in-Ok.name.items ≡ c.args.tie.name = c.in-Ok.ensures.items ∙ c.as_slice.ensures in
    rw (c.push_reserved.ensures.items, c.reserve.ensures.items)
    (taken-push c.self.inside.taken.keys c.insert.new.self.keys c.self.inside.rows.items c.args.tie k refl name c.self.invariant c.in-Ok-true.ensures.updates.0)

pub returns : goal.returns
returns c =
    let k : TakenName = (c.args.tie.from, c.in-Ok.name) in
    let name : c.in-Ok.name.items ≡ c.args.tie.name = c.in-Ok.ensures.items ∙ c.as_slice.ensures in
    elim c.match-insert.branch [
      | in-Ok-true w ↦
          let new : w.in-Ok-true.field-0 ≡ true = search rules in
          rw (w.result-is, w.self-is, ← c.self.view_is, w.push_reserved.ensures.items, c.reserve.ensures.items)
          (sym new ∙ w.in-Ok-true.ensures.added ∙ ap not (taken-has c.self.inside.taken.keys c.self.inside.rows.items c.args.tie k refl name c.self.invariant), refl)
      | in-Ok-false w ↦
          let old : w.in-Ok-false.field-0 ≡ false = search rules in
          rw (w.result-is, w.self-is, ← c.self.view_is, c.reserve.ensures.items)
          (sym old ∙ w.in-Ok-false.ensures.added ∙ ap not (taken-has c.self.inside.taken.keys c.self.inside.rows.items c.args.tie k refl name c.self.invariant), refl)
      | in-Err w ↦ rw w.result-is tt
    ]
