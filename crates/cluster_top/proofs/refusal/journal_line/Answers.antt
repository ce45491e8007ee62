use Rattle.std.proofs.Common.{List, ℕ, ◌++◌, ◌∷◌, [], ap, sym, ◌∙◌, append_assoc}
use Rattle.std.specs.Prelude.{codes, decimal}
use Rattle.cluster_top.specs.Words.{cause_word}
use Rattle.cluster_top.proofs.refusal.journal_line.Goals as goal

pub returns-in-Ok : goal.returns-in-Ok
returns-in-Ok c =
    let number = decimal c.args.line in
    c.from_vec.ensures ∙ ap (λ v. v.items) c.into_bytes.ensures.value ∙ c.in-Ok.ensures.ok
    ∙ ap (λ (word : List ℕ). codes "fault 7 line " ++ (number ++ 32 ∷ (word ++ 10 ∷ []))) c.cause_word-word.ensures
    ∙ ap (λ (rest : List ℕ). codes "fault 7 line " ++ rest) (sym (append_assoc number (32 ∷ cause_word c.args.cause) (10 ∷ [])))
