-- Bulletins that are put into order, each under its origin and number.
use Rattle.std.specs.Prelude.{◌≡◌, ◌==◌, ◌&&◌, ◌||◌, ◌+◌, ◌<◌, ◌≤◌, ℕ, Bool, false, List, Option, Some, None, IsSome, length, nat_lt, slice_index, slice_set, unwrap_or}
use Rattle.std.specs.Map.{lookup}
use Rattle.std.specs.Option.{is_some}
use Rattle.history_model.specs.declared.records.Bulletin.{Bulletin}
use Rattle.gossip_core.specs.declared.gossip.Offer.{Offer}
use Rattle.gossip_core.specs.declared.gossip.Offer.TheVariants.{Old, Ready, Waiting}
use Rattle.crgc_ids.specs.declared.limits.TheConstants.{MOST_EVENTS}

-- how many nodes the cluster has; for each of the 16 origins that there may be, how many of its bulletins were given up; and
-- the bulletins that are kept, each with its origin and number
pub record Gossip : Type 0 where
  pub nodes : ℕ
  pub cut : List ℕ
  pub kept : List ((ℕ × ℕ) × Bulletin)

-- how many bulletins of the origin were given up
abbrev pub count_at : Gossip → ℕ → ℕ
count_at g origin = slice_index g.cut origin

-- whether two bulletins have one origin and one number
abbrev pub same_key : ℕ × ℕ → ℕ × ℕ → Bool
same_key j k = (j.0 == k.0) && (j.1 == k.1)

-- the bulletin of the origin that is kept under the number
abbrev pub kept_at : Gossip → ℕ → ℕ → Option Bulletin
kept_at g origin number = lookup (same_key (origin, number)) g.kept

-- whether the bulletin of the origin with this number was given up, or is kept
abbrev pub was_offered : Gossip → ℕ → ℕ → Bool
was_offered g origin number = nat_lt number (count_at g origin) || is_some (kept_at g origin number)

-- what is kept has an origin below the number of nodes, and a number from its cut on and below 1,000,000
pub record IsInOrder (g : Gossip) : Type 0 where
  pub nodes : g.nodes ≤ 16
  pub cut : length g.cut ≡ 16
  pub counts : (origin : ℕ) → count_at g origin ≤ MOST_EVENTS
  pub origins : (origin number : ℕ) → IsSome (kept_at g origin number) → origin < g.nodes
  pub later : (origin number : ℕ) → IsSome (kept_at g origin number) → count_at g origin ≤ number
  pub below : (origin number : ℕ) → IsSome (kept_at g origin number) → number < MOST_EVENTS

-- where a number stands to the cut of its origin
abbrev pub IsAnswer : ℕ → ℕ → Offer → Type 0
IsAnswer number count Old = number < count
IsAnswer number count Ready = number ≡ count
IsAnswer number count Waiting = count < number

-- the bulletin is kept under its number from the cut on, unless one was; all else is as it was
pub record KeepsFirst (old new : Gossip) (origin number : ℕ) (b : Bulletin) : Type 0 where
  pub nodes : new.nodes ≡ old.nodes
  pub cut : new.cut ≡ old.cut
  pub before : number < count_at old origin → new ≡ old
  pub here : count_at old origin ≤ number → kept_at new origin number ≡ Some (unwrap_or (kept_at old origin number) b)
  pub others : (o k : ℕ) → same_key (origin, number) (o, k) ≡ false → kept_at new o k ≡ kept_at old o k

-- the kept bulletin at the cut of the lowest origin that has one
pub record IsFirstReady (g : Gossip) (origin : ℕ) (b : Bulletin) : Type 0 where
  pub ready : kept_at g origin (count_at g origin) ≡ Some b
  pub first : (o : ℕ) → o < origin → kept_at g o (count_at g o) ≡ None
  pub node : origin < g.nodes
  pub below : count_at g origin < MOST_EVENTS

-- the bulletin at the cut of the origin is kept no more, and that cut is one higher; all else is as it was
pub record TakesOut (old new : Gossip) (origin : ℕ) : Type 0 where
  pub nodes : new.nodes ≡ old.nodes
  pub cut : new.cut ≡ slice_set old.cut origin (count_at old origin + 1)
  pub here : kept_at new origin (count_at old origin) ≡ None
  pub others : (o k : ℕ) → same_key (origin, count_at old origin) (o, k) ≡ false → kept_at new o k ≡ kept_at old o k
  pub fewer : length new.kept + 1 ≡ length old.kept

-- the cut of the origin is one higher; all else is as it was
abbrev pub Passes : Gossip → Gossip → ℕ → Type 0
Passes old new origin = new ≡ record old { cut = slice_set old.cut origin (count_at old origin + 1) }

-- the first number of the origin from its cut on under which nothing is kept
pub record IsFirstMissing (g : Gossip) (origin number : ℕ) : Type 0 where
  pub from : count_at g origin ≤ number
  pub missing : kept_at g origin number ≡ None
  pub kept : (k : ℕ) → count_at g origin ≤ k → k < number → IsSome (kept_at g origin k)
