use Rattle.std.proofs.Common.{◌≡◌}
use Rattle.std.specs.Vec.Iter.{into_iter_items}
use Rattle.script_reader.specs.Found.{finds}
use Rattle.script_reader.specs.Numbered.{numbered_seed}
use Rattle.script_reader.specs.Walk.{each, each_after}
use Rattle.script_reader.proofs.numbers.numbered_seeds.Given as goal

abbrev pub invariant-loop-draft : goal.invariant-loop-draft
invariant-loop-draft l = each_after (λ _. numbered_seed (finds l.numbers)) l.seeds (into_iter_items l.draft-iterator) ≡ each (λ _. numbered_seed (finds l.numbers)) l.fn.drafts
