-- How the names that seeds have are kept; only what is private cites it.
use Rattle.std.specs.Prelude.{◌≡◌, ◌==◌, ◌&&◌, ℕ, Bool, List, Vec}
use Rattle.std.specs.List.{list_any}
use Rattle.std.specs.Str.{bytes_eq}
use Rattle.std.specs.declared.alloc.Global.{Global}
use Rattle.script_reader.specs.declared.script.Tie.{Tie}

-- the number of a seed, and a name that it has
abbrev pub TakenName : Type 0
TakenName = ℕ × Vec ℕ Global

abbrev pub same_name : TakenName → TakenName → Bool
same_name k l = (k.0 == l.0) && bytes_eq k.1.items l.1.items

-- whether the tie binds the name of the seed
abbrev pub binds : TakenName → Tie → Bool
binds k t = (k.0 == t.from) && bytes_eq k.1.items t.name

-- the index has the name of a seed exactly where a tie binds it
abbrev pub AreTaken : List TakenName → List Tie → Type 0
AreTaken index ties = (k : TakenName) → list_any (same_name k) index ≡ list_any (binds k) ties
