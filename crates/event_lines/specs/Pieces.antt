-- The pieces of some bytes that are still to be taken.
use Rattle.std.specs.Prelude.{ℕ, Bool, cond, List, []}
use Rattle.journal_model.specs.Fields.{pieces}

-- the pieces that are left of these bytes, none after the last one
abbrev pub pieces_left : Bool → ℕ → List ℕ → List (List ℕ)
pieces_left is_over separator bytes = cond is_over [] (pieces separator bytes)
