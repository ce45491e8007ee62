-- What contracts see of a table of shadows.
use Rattle.std.specs.Prelude.{◌≡◌, ◌+◌, ◌-◌, ◌==◌, ◌++◌, if◌then◌else◌, ℕ, Bool, true, false, List, [], ◌∷◌, Option, Some, None, count_by, slice_index_or, take}
use Rattle.std.specs.List.{list_any, position_or_len}
use Rattle.std.specs.Option.{option_or}
use Rattle.crgc_ids.specs.Actor.{Actor, same_actor}
use Rattle.history_model.specs.declared.records.StateRow.{StateRow}
use Rattle.history_model.specs.Facts.{Flags}
use Rattle.history_model.specs.Ledgers.{received_total, row_flags}
use Rattle.shadow_table.specs.declared.table.Shadow.{Shadow}

-- the actors in the order in which they were named, and the shadow of each
pub record Shadows : Type 0 where
  pub names : List Actor
  pub shadows : List Shadow

-- the shadow of an actor of which nothing is told
abbrev pub blank : Shadow
blank = record { received = 0; told = 0; admitted = 0; flags = None; dropped = false }

abbrev pub no_shadows : Shadows
no_shadows = record { names = []; shadows = [] }

-- whether the actor was named
abbrev pub is_named : List Actor → Actor → Bool
is_named names a = list_any (same_actor a) names

-- the place of an actor: its number in the order of naming
abbrev pub place_in : List Actor → Actor → ℕ
place_in names a = position_or_len (same_actor a) names

-- how many of the shadows are of dropped actors
abbrev pub dropped_count : List Shadow → ℕ
dropped_count shadows = count_by (λ s. s.dropped) shadows

-- the shadow of the actor, or the blank one where it was not named
abbrev pub shadow_at : Shadows → Actor → Shadow
shadow_at t a = slice_index_or t.shadows (place_in t.names a) blank

-- the table with the actor named, last where it was not named before
abbrev pub with_name : Shadows → Actor → Shadows
with_name t a =
    if is_named t.names a then t else record { names = t.names ++ a ∷ []; shadows = t.shadows ++ blank ∷ [] }

-- ---- what a row changes of a shadow

abbrev pub with_told : ℕ → Shadow → Shadow
with_told n s = record s { told = s.told + n }

abbrev pub with_admitted : ℕ → Shadow → Shadow
with_admitted n s = record s { admitted = s.admitted + n }

abbrev pub without_told : ℕ → Shadow → Shadow
without_told n s = record s { told = s.told - n }

abbrev pub as_dropped : Shadow → Shadow
as_dropped s = record s { dropped = true }

abbrev pub flag_pair : Option Flags → Option (Bool × Bool)
flag_pair None = None
flag_pair (Some g) = Some (g.busy, g.root)

-- what one state row of a node changes: the actor took more messages and, where the node is the actor's own, has these flags
abbrev pub with_state : ℕ → StateRow → Shadow → Shadow
with_state node r s = record s {
  received = s.received + r.received;
  flags = if r.actor.node == node then Some (r.busy, r.root) else s.flags;
}

-- the messages that a node's state rows of the actor count, and the flags of the last one where the node is the actor's
abbrev pub with_states : ℕ → Actor → List StateRow → Shadow → Shadow
with_states node a rows s = record s {
  received = s.received + received_total a rows;
  flags = if a.node == node then option_or (flag_pair (row_flags a rows)) s.flags else s.flags;
}

-- ---- what a call changes

-- the shadow of one actor changes so, that of no other one, and no actor is named
pub record ChangesShadow (old new : Shadows) (actor : Actor) (change : Shadow → Shadow) : Type 0 where
  pub names : new.names ≡ old.names
  pub shadows : (a : Actor) → shadow_at new a ≡ (if same_actor a actor then change (shadow_at old a) else shadow_at old a)

-- each actor's shadow changes so, and no actor is named
pub record ChangesShadows (old new : Shadows) (change : Actor → Shadow → Shadow) : Type 0 where
  pub names : new.names ≡ old.names
  pub shadows : (a : Actor) → shadow_at new a ≡ change a (shadow_at old a)

-- the first n actors of the table
abbrev pub first_of : ℕ → Shadows → Shadows
first_of n t = record { names = take n t.names; shadows = take n t.shadows }
