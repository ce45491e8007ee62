-- The rule of a lock, about its words, its slot and all views.
-- Word 0 is one more than the passes split and drawn, word 1 the next ticket, and word 2 the ticket that is served, which is the number of calls.
-- The words after these, of which one is the door, may have any value.
use Rattle.std.specs.Prelude.{◌≡◌, ◌⊎◌, ℕ, ◌+◌, ◌%◌, ◌^◌, ◌<◌, ◌≤◌, List, [], ◌∷◌, length, Some}
use mathlib.Core.Option.{Option, some}
use lib.ListN.{get_elem?}
use Rattle.atomic_table.specs.Table.{State}
use Rattle.turn_lock.specs.declared.object.Entry.{Entry}
use Rattle.turn_lock.specs.declared.rule.Room.{Room}
use Rattle.turn_lock.specs.declared.rule.View.{View}
use Rattle.turn_lock.specs.History.{calls_of, Begins, IsProper}
use Rattle.turn_lock.specs.Views.{fresh}

-- the view of the first pass of a lock that was made with this state
abbrev pub newcomer : {S P R : Type 0} → S → View S P R
newcomer start = fresh (Some start) 0 []

-- f of each, added up
abbrev pub total : {V : Type 0} → (V → ℕ) → List V → ℕ
total f [] = 0
total f (v ∷ vs) = f v + total f vs

-- of the views with the flag, no two have one key
abbrev pub Apart : {V : Type 0} → (V → ℕ) → (V → ℕ) → List V → Type 0
Apart {V} flag key views = (i j : ℕ) (u v : V) → get_elem? views i ≡ some u → get_elem? views j ≡ some v
    → flag u ≡ 1 → flag v ≡ 1 → key u ≡ key v → i ≡ j

module _ {S P R : Type 0} where
  -- a live view has this number
  abbrev pub Lives : List (View S P R) → ℕ → Type 0
  Lives views pass = (j : ℕ) × (v : View S P R) × (get_elem? views j ≡ some v) × (v.live ≡ 1) × (v.number ≡ pass)

  -- some view has the turn
  abbrev pub IsAway : List (View S P R) → Type 0
  IsAway views = (j : ℕ) × (v : View S P R) × (get_elem? views j ≡ some v) × (v.turn ≡ 1)

  -- what a live view knows: it has seen a beginning of the log, which has all calls of its number
  pub record Alive (key : S) (log : List (Entry P R)) (given : ℕ) (gathered : List (Entry P R)) (v : View S P R) : Type 0 where
    pub start : v.start ≡ Some key
    pub number : v.number ≤ given
    pub knows : Begins v.seen log
    pub all_seen : calls_of v.number v.seen ≡ v.own
    pub all : calls_of v.number log ≡ v.own
    pub not_joined : calls_of v.number gathered ≡ []
    pub heard : Begins v.heard v.seen

  -- a ticket is the number of a call that is to come; whoever has the turn has the next, and has seen the whole log
  pub record Queued (log : List (Entry P R)) (next : ℕ) (v : View S P R) : Type 0 where
    pub lives : v.live ≤ 1
    pub waits : v.waits ≤ v.live
    pub turn : v.turn ≤ v.waits
    pub ticket : v.waits ≡ 1 → (length log ≤ v.ticket) × (v.ticket < next)
    pub served : v.turn ≡ 1 → (v.ticket ≡ length log) × (v.seen ≡ log)

  -- the first pass knows which passes were split and joined, and all calls of those joined
  pub record Leads (log : List (Entry P R)) (given drawn joined : ℕ) (gathered : List (Entry P R)) (views : List (View S P R)) (v : View S P R) : Type 0 where
    pub split_so_far : v.given ≡ given
    pub has_drawn : v.drawn ≡ drawn
    pub joined_so_far : length v.joined ≡ joined
    pub has_gathered : v.gathered ≡ gathered
    pub settled : (pass : ℕ) → Lives views pass ⊎ ((calls_of pass v.seen ≡ calls_of pass gathered) × (calls_of pass log ≡ calls_of pass gathered))

module _ {S P R : Type 0} (fits : S → List (Entry P R) → P → ℕ → Type 0) (stands : S → List (Entry P R) → S → Type 0) where
  -- the slot is at home, and its state stands for the log
  abbrev pub IsHome : S → List (Entry P R) → List (Option (Room S P R)) → Type 0
  IsHome key log homes = (room : Room S P R) × (get_elem? homes 0 ≡ some (some room)) × stands key log room.state

  pub record Kept (key : S) (s : State (Room S P R) (View S P R)) : Type 0 where
    pub log : List (Entry P R)
    pub given : ℕ
    pub drawn : ℕ
    pub joined : ℕ
    pub next : ℕ
    pub gathered : List (Entry P R)
    pub others : List ℕ
    pub words : s.words ≡ (given + drawn + 1) ∷ (next % 2 ^ 64) ∷ (length log % 2 ^ 64) ∷ others
    pub few : given + drawn < 2 ^ 32
    pub proper : IsProper fits stands key log
    pub none_more : (pass : ℕ) → given < pass → (calls_of pass log ≡ []) × (calls_of pass gathered ≡ [])
    pub lives : total (λ v. v.live) s.views + joined ≡ given + 1
    pub waits : total (λ v. v.waits) s.views + length log ≡ next
    pub numbers : Apart (λ v. v.live) (λ v. v.number) s.views
    pub tickets : Apart (λ v. v.waits) (λ v. v.ticket) s.views
    pub queued : (j : ℕ) (v : View S P R) → get_elem? s.views j ≡ some v → Queued log next v
    pub alive : (j : ℕ) (v : View S P R) → get_elem? s.views j ≡ some v → v.live ≡ 1 → Alive key log given gathered v
    pub leads : (j : ℕ) (v : View S P R) → get_elem? s.views j ≡ some v → v.live ≡ 1 → v.number ≡ 0
        → Leads log given drawn joined gathered s.views v
    pub slot : IsHome key log s.homes ⊎ IsAway s.views
