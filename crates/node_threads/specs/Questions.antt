-- The questions whether nothing is left to do, and the calls between them.
use Rattle.std.specs.Prelude.{ℕ, ◌≡◌, ◌⊎◌, ◌++◌, [], ◌∷◌, Bool, true, false, count_by}
use Rattle.turn_lock.specs.History.{entry}
use Rattle.operation_model.specs.declared.operations.Op.{Op}
use Rattle.operation_model.specs.declared.operations.Op.TheVariants as ops
use Rattle.operation_model.specs.declared.replies.Reply.TheVariants as replies
use Rattle.operation_model.specs.Turns.{Calls}

-- one of the calls is of the operation
abbrev pub IsMade : Op → Calls → Type 0
IsMade op [] = ⊥
IsMade op (e ∷ earlier) = (e.op ≡ op) ⊎ IsMade op earlier

-- none of the calls asks whether nothing is left to do
abbrev pub AsksNothing : Calls → Type 0
AsksNothing calls = IsMade ops.Finished calls → ⊥

-- the last call was answered that nothing is left to do, and so was the last one of the same kind before it; so it is of the calls
-- between them
abbrev pub EndsDone : ℕ → (Calls → Type 0) → Calls → Type 0
EndsDone number P own =
    (calls : Calls) × (earlier : Calls)
    × (own ≡ entry number ops.Finished replies.AllDone ∷ (calls ++ entry number ops.Finished replies.AllDone ∷ earlier))
    × AsksNothing calls × P calls

-- where nothing is left to do, the last call was answered so
abbrev pub IsOver : ℕ → Bool → Calls → Type 0
IsOver number true own = (earlier : Calls) × (own ≡ entry number ops.Finished replies.AllDone ∷ earlier)
IsOver number false own = Unit {0}

-- and it is the one call since
abbrev pub EndsOver : ℕ → Bool → Calls → Calls → Type 0
EndsOver number true old new = new ≡ entry number ops.Finished replies.AllDone ∷ old
EndsOver number false old new = Unit {0}

-- how many of the calls say that there was no memory
abbrev pub is_giving_up : Op → Bool
is_giving_up ops.GiveUp = true
is_giving_up op = false

abbrev pub times_given_up : Calls → ℕ
times_given_up calls = count_by (λ e. is_giving_up e.op) calls
