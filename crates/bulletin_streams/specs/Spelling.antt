-- Bytes that spell a bulletin.
use Rattle.std.specs.Prelude.{◌≡◌, ℕ, List}
use Rattle.history_model.specs.declared.records.Bulletin.{Bulletin}
use Rattle.wire_grammar.specs.Spellable.{IsSpellable}
use Rattle.wire_grammar.specs.Spelling.{spelled}

-- the bulletin has a spelling, and the bytes are it
pub record IsSpelling (b : Bulletin) (text : List ℕ) : Type 0 where
  pub spellable : IsSpellable b
  pub bytes : text ≡ spelled b
