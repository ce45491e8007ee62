-- What contracts see of a record of bytes.
use Rattle.std.specs.Prelude.{ℕ, List, [], ◌∷◌, ◌++◌, Option, None, Some}
use Rattle.std.specs.declared.snapshot.Snapshot.{Snapshot}

-- nothing was recorded before the first byte
abbrev pub recorded : Option (Snapshot (List ℕ)) → Snapshot ℕ → List ℕ
recorded None last = []
recorded (Some before) last = before.value ++ last.value ∷ []
