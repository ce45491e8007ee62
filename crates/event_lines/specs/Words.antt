-- The words of a line as they are written.
use Rattle.std.specs.Prelude.{ℕ, List, [], ◌∷◌, ◌++◌, map, decimal, length, take, flat_map, ◌≡◌}
use Rattle.crgc_ids.specs.Actor.{Actor}
use Rattle.journal_model.specs.Lines.{actor_word, spell}
use Rattle.event_lines.specs.declared.words.Word.{Word}
use Rattle.event_lines.specs.declared.words.Word.TheVariants.{Name, Number, ActorName}

-- the bytes of a word
abbrev pub bytes_of : Word → List ℕ
bytes_of (Name text) = text.now
bytes_of (Number n) = decimal n
bytes_of (ActorName a) = actor_word a

-- a line with its line feed
abbrev pub line_with : List ℕ → List Word → List Actor → List ℕ
line_with name words actors = spell (name ∷ (map bytes_of words ++ map actor_word actors)) ++ 10 ∷ []

-- each word after a space
abbrev pub spaced : List (List ℕ) → List ℕ
spaced words = flat_map (λ w. 32 ∷ w) words

-- the new bytes begin with the old ones
abbrev pub BeginsWith : List ℕ → List ℕ → Type 0
BeginsWith old new = take (length old) new ≡ old
