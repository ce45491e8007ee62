-- The limits at their edges, and their order. Histories of that length are too long to lay out, so each is stated of any
-- history with so many births, named actors or events.
use Rattle.std.proofs.Common.{◌≡◌, ℕ, true, false, nat_le, nat_lt, List, [], ◌∷◌, length, Some, None, refl, ap}
use Rattle.crgc_ids.specs.declared.Which.TheVariants.{Events, Actors, Delta}
use Rattle.history_model.specs.declared.events.Event.{Event}
use Rattle.history_model.specs.declared.events.Event.TheVariants.{Seed, Wake, Spawn, Flush, Publish, Window, Remove}
use Rattle.history_model.specs.Cluster.{Cluster, births}
use Rattle.history_model.specs.Streams.{queue, window}
use Rattle.history_model.specs.Rows.{actor, cluster, dropped_child, onto}
use Rattle.journal_model.specs.Limits.{limit_passed, named_count, passes_actors, passes_delta}

-- 262,144 actors may be born on a node, and no more.
last_birth : (n : ℕ) (h : List Event) → births n h ≡ 262143 → passes_actors (Seed n) h ≡ false
last_birth n h e = ap (nat_le 262144) e

one_birth_more : (n : ℕ) (h : List Event) → births n h ≡ 262144 → passes_actors (Seed n) h ≡ true
one_birth_more n h e = ap (nat_le 262144) e

one_child_more : (n s : ℕ) (h : List Event) → births n h ≡ 262144 → passes_actors (Spawn (actor n s)) h ≡ true
one_child_more n s h e = ap (nat_le 262144) e

-- A bulletin names at most 200,000 actors: a Delta, a Window and a Final alike.
widest_delta : (cl : Cluster) (n : ℕ) (h : List Event) → named_count (queue cl n h) ≡ 200000 → passes_delta cl (Publish n) h ≡ false
widest_delta cl n h e = ap (nat_lt 200000) e

delta_too_wide : (cl : Cluster) (n : ℕ) (h : List Event) → named_count (queue cl n h) ≡ 200001 → passes_delta cl (Publish n) h ≡ true
delta_too_wide cl n h e = ap (nat_lt 200000) e

window_too_wide : (cl : Cluster) (d s : ℕ) (h : List Event) → named_count (window s d h) ≡ 200001 → passes_delta cl (Window d s) h ≡ true
window_too_wide cl d s h e = ap (nat_lt 200000) e

final_too_wide : (cl : Cluster) (d s : ℕ) (h : List Event) → named_count (window s d h) ≡ 200001 → passes_delta cl (Remove d s) h ≡ true
final_too_wide cl d s h e = ap (nat_lt 200000) e

-- Births and bulletins come first, and then the number of events: the millionth is the last one.
actors_first : (cl : Cluster) (e : Event) (h : List Event) → passes_actors e h ≡ true → limit_passed cl e h ≡ Some Actors
actors_first cl e h passes = rw passes refl

delta_second : (cl : Cluster) (e : Event) (h : List Event) → passes_actors e h ≡ false → passes_delta cl e h ≡ true
    → limit_passed cl e h ≡ Some Delta
delta_second cl e h within passes = rw (within, passes) refl

one_event_more : (cl : Cluster) (e : Event) (h : List Event) → passes_actors e h ≡ false → passes_delta cl e h ≡ false → length h ≡ 1000000
    → limit_passed cl e h ≡ Some Events
one_event_more cl e h actors delta events = rw (actors, delta, events) refl

last_event : (cl : Cluster) (e : Event) (h : List Event) → passes_actors e h ≡ false → passes_delta cl e h ≡ false → length h ≡ 999999
    → limit_passed cl e h ≡ None
last_event cl e h actors delta events = rw (actors, delta, events) refl

-- A short history is within all of them.
short_history : limit_passed (cluster 1 1) (Seed 0) dropped_child ≡ None
short_history = refl

-- However often a parent and its child are named, a Delta of their entries names two actors.
parent_and_child : named_count (queue (cluster 1 1) 0 (onto [] (
    Seed 0 ∷ Wake (actor 0 0) ∷ Spawn (actor 0 0) ∷ Flush (actor 0 0)
    ∷ Flush (actor 0 1) ∷ []
    ))) ≡ 2
parent_and_child = refl
