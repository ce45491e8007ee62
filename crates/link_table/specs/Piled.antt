-- What is on one link: for each number of which a copy is there, its copies and, until one is admitted, its message.
use Rattle.std.specs.Prelude.{◌≡◌, ◌≢◌, ◌+◌, ◌-◌, ◌==◌, ◌≤◌, ℕ, Bool, true, false, if◌then◌else◌}
use Rattle.std.specs.Prelude.{List, Option, Some, None, IsSome}
use Rattle.std.specs.BTreeMap.{is_at}
use Rattle.std.specs.List.{sum_by}
use Rattle.std.specs.Map.{lookup, values_of}
use Rattle.std.specs.Ordering.{nat_cmp}
use Rattle.link_table.specs.declared.piles.Envelope.{Envelope}
use Rattle.link_table.specs.declared.piles.Pile.{Pile}

-- the pile of a number, where a copy of it is on the link
abbrev pub pile_at : List (ℕ × Pile) → ℕ → Option Pile
pile_at piles k = lookup (is_at (nat_cmp k)) piles

-- how many copies there are
abbrev pub copies_in : Option Pile → ℕ
copies_in None = 0
copies_in (Some p) = p.copies

-- the message, where it is still there
abbrev pub message_in : Option Pile → Option Envelope
message_in None = None
message_in (Some p) = p.message

-- whether a message is there
abbrev pub has_message : Option Envelope → Bool
has_message None = false
has_message (Some e) = true

-- 1 where the message is still there
abbrev pub weight : Option Pile → ℕ
weight pile = if has_message (message_in pile) then 1 else 0

-- how many messages are still there
abbrev pub kept_count : List (ℕ × Pile) → ℕ
kept_count piles = sum_by (λ p. weight (Some p)) (values_of piles)

-- a pile with one copy more
abbrev pub more : Option Pile → Option Pile
more None = None
more (Some p) = Some (record p { copies = p.copies + 1 })

-- a pile with one copy less: nothing where that was the last
abbrev pub fewer : Option Pile → Option Pile
fewer None = None
fewer (Some p) = if p.copies == 1 then None else Some (record p { copies = p.copies - 1 })

-- a pile without its message
abbrev pub stripped : Option Pile → Option Pile
stripped None = None
stripped (Some p) = Some (record p { message = None })

-- the number has this pile now, or none, and each other number what it had; the messages are counted
pub record ChangesPile (old new : List (ℕ × Pile)) (number : ℕ) (pile : Option Pile) : Type 0 where
  pub changed : pile_at new number ≡ pile
  pub others : (k : ℕ) → k ≢ number → pile_at new k ≡ pile_at old k
  pub count : kept_count new + weight (pile_at old number) ≡ kept_count old + weight pile

-- no number that has a pile is lower
pub record IsLowest (piles : List (ℕ × Pile)) (number : ℕ) : Type 0 where
  pub there : IsSome (pile_at piles number)
  pub lowest : (k : ℕ) → IsSome (pile_at piles k) → number ≤ k
