-- What the loops that read fields of one kind keep: what was read so far, before what the words that are left say.
use Rattle.std.proofs.Common.{ℕ, List, ◌++◌, Result, Ok}
use Rattle.journal_model.specs.declared.lines.LineFault.{LineFault}
use Rattle.journal_model.specs.Shapes.{◌>>=◌}

-- what is read after some fields
abbrev pub after_fields : {A : Type 0} → List A → Result (List A) LineFault → Result (List A) LineFault
after_fields done r = r >>= λ xs. Ok (done ++ xs)

-- what is read after some counts
abbrev pub after_counts : List ℕ → Result (List ℕ × List (List ℕ)) LineFault → Result (List ℕ × List (List ℕ)) LineFault
after_counts done r = r >>= λ p. Ok (done ++ p.0, p.1)
