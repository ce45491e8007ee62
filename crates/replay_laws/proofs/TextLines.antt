-- The lines of a text that is made of lines are those lines.
use Rattle.std.proofs.Common.{◌≡◌, ◌∙◌, ℕ, List, [], ◌∷◌, ◌++◌, ap, append_assoc, append-nil, refl}
use Rattle.std.specs.List.{AllByRecursion, join_with_byte}
use Rattle.journal_model.specs.Fields.{pieces}
use Rattle.journal_model.specs.Lines.{line_of, lines_of, text_of, without_empty_end}
use Rattle.event_lines.proofs.PiecesLaws.{IsFreeOf, pieces-join}

-- a piece before another is a line
before_more : (x y : List ℕ) (ys : List (List ℕ)) → without_empty_end (x ∷ y ∷ ys) ≡ x ∷ without_empty_end (y ∷ ys)
before_more [] y ys = refl
before_more (b ∷ bs) y ys = refl

before_end : (ls : List (List ℕ)) → without_empty_end (ls ++ [] ∷ []) ≡ ls
before_end [] = refl
before_end (x ∷ []) = before_more x [] []
before_end (x ∷ y ∷ ys) = before_more x y (ys ++ [] ∷ []) ∙ ap (λ l. x ∷ l) (before_end (y ∷ ys))

-- their text joins them, and an empty piece after them, by line feeds
text-joins : (ls : List (List ℕ)) → text_of ls ≡ join_with_byte 10 (ls ++ [] ∷ [])
text-joins [] = refl
text-joins (x ∷ []) = append-nil (line_of x)
text-joins (x ∷ y ∷ ys) = append_assoc x (10 ∷ []) (text_of (y ∷ ys)) ∙ ap (λ l. x ++ 10 ∷ l) (text-joins (y ∷ ys))

free-end : (ls : List (List ℕ)) → AllByRecursion (IsFreeOf 10) ls → AllByRecursion (IsFreeOf 10) (ls ++ [] ∷ [])
free-end [] free = (tt, tt)
free-end (x ∷ xs) free = (free.0, free-end xs free.1)

text-pieces : (ls : List (List ℕ)) → AllByRecursion (IsFreeOf 10) ls → pieces 10 (text_of ls) ≡ ls ++ [] ∷ []
text-pieces [] free = pieces-join 10 [] [] (tt, tt)
text-pieces (x ∷ xs) free =
    ap (pieces 10) (text-joins (x ∷ xs)) ∙ pieces-join 10 x (xs ++ [] ∷ []) (free-end (x ∷ xs) free)

-- where no line has a line feed, the lines of the text are these lines
pub lines_of-text : (ls : List (List ℕ)) → AllByRecursion (IsFreeOf 10) ls → lines_of (text_of ls) ≡ ls
unfolding pieces
lines_of-text ls free = ap without_empty_end (text-pieces ls free) ∙ before_end ls
