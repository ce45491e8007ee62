use Rattle.std.proofs.Common.{◌+◌, ◌*◌, ◌/◌, ℕ, List, subst}
use Rattle.std.proofs.lemmas.Option.{IfSome_then}
use Rattle.std.specs.Option.{IfSome}
use Rattle.ready_actors.specs.Flags.{IsFirstIn, IsFirstOf, IsNoneIn, has_flag, has_one, has_word}
use Rattle.ready_actors.proofs.LevelLemmas.{first-alike, first-over}
use Rattle.ready_actors.proofs.serials.SerialSet.group_from.Goals as goal

pub returns-in_ok-first_one-in-None-clause-some : goal.returns-in_ok-first_one-in-None-clause-some
returns-in_ok-first_one-in-None-clause-some c =
    let from = c.args.from in
    let groups = c.self.inside.groups.items in
    let answer = c.first_in_word-in-None.result in
    let word = c.in_ok-first_one-in-None.field-0 in
    let none : IsNoneIn groups from = subst (λ (ws : List ℕ). IsNoneIn ws from) c.deref.ensures.value c.in-None.ensures.none in
    let beyond : IsFirstOf (has_word groups) (from / 64 + 1) word =
    first-alike (has_one c.self.inside.top) (has_word groups) (from / 64 + 1) word c.self.invariant.2 c.in_ok-first_one-in-None.ensures.some in
    let found : IfSome answer (IsFirstIn groups (word * 64)) =
    subst (λ (ws : List ℕ). IfSome answer (IsFirstIn ws (word * 64))) c.deref-in-None.ensures.value c.first_in_word-in-None.ensures.some in
    rw (← c.self.view_is)
    (IfSome_then answer {P = IsFirstIn groups (word * 64)} {Q = IsFirstOf (has_word c.self.inside.serials.items) from} found
    (λ group here. first-alike (has_flag groups) (has_word c.self.inside.serials.items) from group c.self.invariant.1 (first-over groups from word group none beyond here)))
