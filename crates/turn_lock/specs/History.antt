-- A history is a list of entries, the newest first.
use Rattle.std.specs.Prelude.{◌≡◌, ℕ, List, [], ◌∷◌, ◌++◌, ◌==◌, cond}
use Rattle.turn_lock.specs.declared.object.Entry.{Entry}

abbrev pub entry : {P R : Type 0} → ℕ → P → R → Entry P R
entry pass op reply = record { pass = pass; op = op; reply = reply }

-- the calls of one pass, the newest first
abbrev pub calls_of : {P R : Type 0} → ℕ → List (Entry P R) → List (Entry P R)
calls_of pass [] = []
calls_of pass (e ∷ earlier) = cond (e.pass == pass) (e ∷ calls_of pass earlier) (calls_of pass earlier)

-- the second history begins with the first
abbrev pub Begins : {P R : Type 0} → List (Entry P R) → List (Entry P R) → Type 0
Begins {P} {R} earlier history = (later : List (Entry P R)) × (history ≡ later ++ earlier)

-- the history has these calls, each once and in the order of its pass, and no others
abbrev pub IsMadeOf : {P R : Type 0} → List (Entry P R) → List (Entry P R) → Type 0
IsMadeOf calls history = (pass : ℕ) → calls_of pass history ≡ calls_of pass calls

module _ {S P R : Type 0} (fits : S → List (Entry P R) → P → ℕ → Type 0) (stands : S → List (Entry P R) → S → Type 0) where
  -- each operation fitted after the entries before it, and each reply is the object's on the state that those leave
  abbrev pub IsProper : S → List (Entry P R) → Type 0
  IsProper start [] = Unit {0}
  IsProper start (e ∷ earlier) = fits start earlier e.op e.pass × ((state : S) × stands start (e ∷ earlier) state) × IsProper start earlier
