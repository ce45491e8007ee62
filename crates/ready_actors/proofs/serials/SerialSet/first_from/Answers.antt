use Rattle.std.proofs.Common.{◌*◌, ℕ, List, subst, ◌∙◌}
use Rattle.std.proofs.lemmas.Option.{IfSome_then}
use Rattle.std.specs.Option.{IfSome}
use Rattle.ready_actors.specs.Flags.{IsFirstIn, IsFirstOf, IsNoneIn, has_flag}
use Rattle.ready_actors.proofs.LevelLemmas.{first-over, none-over}
use Rattle.ready_actors.proofs.serials.SerialSet.first_from.Goals as goal

pub returns-in_err-group_from-in-None-clause-none : goal.returns-in_err-group_from-in-None-clause-none
returns-in_err-group_from-in-None-clause-none c =
    let from = c.args.from in
    let serials = c.args.self.now in
    let none : IsNoneIn serials from = subst (λ (ws : List ℕ). IsNoneIn ws from) (c.deref.ensures.value ∙ c.self.view_is) c.in-None.ensures.none in
    rw c.from_residual.ensures (none-over serials from none c.in_err-group_from-in-None.ensures.none)

pub returns-in_ok-group_from-in-None-clause-some : goal.returns-in_ok-group_from-in-None-clause-some
returns-in_ok-group_from-in-None-clause-some c =
    let from = c.args.from in
    let serials = c.args.self.now in
    let answer = c.first_in_word-in-None.result in
    let word = c.in_ok-group_from-in-None.field-0 in
    let none : IsNoneIn serials from = subst (λ (ws : List ℕ). IsNoneIn ws from) (c.deref.ensures.value ∙ c.self.view_is) c.in-None.ensures.none in
    let found : IfSome answer (IsFirstIn serials (word * 64)) =
    subst (λ (ws : List ℕ). IfSome answer (IsFirstIn ws (word * 64))) (c.deref-in-None.ensures.value ∙ c.self.view_is) c.first_in_word-in-None.ensures.some in
    IfSome_then answer {P = IsFirstIn serials (word * 64)} {Q = IsFirstOf (has_flag serials) from} found
    (λ serial here. first-over serials from word serial none c.in_ok-group_from-in-None.ensures.some here)
