-- What a step of an object asks and answers.
use Rattle.std.specs.Prelude.{ℕ, List, ◌∷◌}
use Rattle.turn_lock.specs.declared.object.Entry.{Entry}
use Rattle.turn_lock.specs.History.{entry}

module _ {S P R : Type 0} (fits : S → List (Entry P R) → P → ℕ → Type 0) (stands : S → List (Entry P R) → S → Type 0) where
  -- the state stands for some history, after which the operation fits
  abbrev pub MayAnswer : ℕ → P → S → Type 0
  MayAnswer pass op state = (start : S) × (history : List (Entry P R)) × stands start history state × fits start history op pass

  -- after the answer the state stands for the history with the new entry
  abbrev pub Answers : ℕ → P → R → S → S → Type 0
  Answers pass op reply before after = (start : S) (history : List (Entry P R))
      → stands start history before → fits start history op pass → stands start (entry pass op reply ∷ history) after
