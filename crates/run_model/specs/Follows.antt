-- Which histories follow a script.
use Rattle.std.specs.Prelude.{ℕ, ◌+◌, ◌≡◌, ◌⊎◌, ◌==◌, ◌&&◌, ◌||◌, Bool, true, false, not, is_none, nat_lt, if◌then◌else◌, List, [], ◌∷◌, ◌++◌, Option, Some, None}
use Rattle.std.specs.List.{find}
use Rattle.std.specs.Option.{option_map, option_or}
use Rattle.crgc_ids.specs.Actor.{Actor, same_actor}
use Rattle.crgc_ids.specs.Nodes.{nodes_below}
use Rattle.crgc_ids.specs.declared.Which.{Which}
use Rattle.history_model.specs.declared.events.Event.{Event}
use Rattle.history_model.specs.declared.events.Event.TheVariants.{Seed, Tie, Wake, Take, Spawn, Send, Drop, Retire, Rest, Flush, Publish, Window, Admit, Lose, Repeat, Crash, Remove, Hand, Sweep}
use Rattle.history_model.specs.Folds.{was_handed}
use Rattle.history_model.specs.Live.{busy_count, live_count}
use Rattle.journal_model.specs.Limits.{limit_passed}
use Rattle.script_reader.specs.Valid.{Scripted}
use Rattle.run_model.specs.Doing.{beginning, cluster_of, due}
use Rattle.run_model.specs.Planned.{is_possible, next_wake, crash_due, is_within_budget, next_on_link, planned, wakes_left}
use Rattle.run_model.specs.Round.{round}
use Rattle.run_model.specs.declared.round_laws.TheConstants.{FLUSHES_PER_PUBLISH}

-- whether two events of turns, or of links, are the same
abbrev pub same_actors : List Actor → List Actor → Bool
same_actors [] [] = true
same_actors (a ∷ as_) (b ∷ bs) = same_actor a b && same_actors as_ bs
same_actors as_ bs = false

abbrev pub same_event : Event → Event → Bool
same_event (Spawn a) (Spawn b) = same_actor a b
same_event (Send a t refs) (Send b u others) = same_actor a b && (same_actor t u && same_actors refs others)
same_event (Drop a t) (Drop b u) = same_actor a b && same_actor t u
same_event (Retire a) (Retire b) = same_actor a b
same_event (Rest a) (Rest b) = same_actor a b
same_event (Admit f d k) (Admit x y n) = (f == x) && ((d == y) && (k == n))
same_event (Lose f d k) (Lose x y n) = (f == x) && ((d == y) && (k == n))
same_event (Repeat f d k) (Repeat x y n) = (f == x) && ((d == y) && (k == n))
same_event e f = false

abbrev pub is_event : Event → Option Event → Bool
is_event e None = false
is_event e (Some f) = same_event e f

-- whether a bulletin was handed to m since its last sweep
abbrev pub handed_since : ℕ → List Event → Bool
handed_since m [] = false
handed_since m (Hand n o k ∷ p) = (n == m) || handed_since m p
handed_since m (Sweep n ∷ p) = if n == m then false else handed_since m p
handed_since m (_ ∷ p) = handed_since m p

-- What the script asks of each event, beside the rules of legality.
abbrev pub fits : Scripted → Event → List Event → Bool
-- seeds and ties stand at the beginning alone
fits s (Seed n) h = false
fits s (Tie a b) h = false
-- a turn begins within the budget, and a wake is one of those that the seed has left
fits s (Wake a) h = is_within_budget s h && nat_lt 0 (wakes_left s a h)
fits s (Take a) h = is_within_budget s h
-- each act is the one that is due in its actor's turn; a turn rests where no act is due
fits s (Spawn a) h = same_event (Spawn a) (due s a h)
fits s (Send a t refs) h = same_event (Send a t refs) (due s a h)
fits s (Drop a t) h = same_event (Drop a t) (due s a h)
fits s (Retire a) h = same_event (Retire a) (due s a h)
fits s (Rest a) h = same_event (Rest a) (due s a h)
-- on a link, what happens is what the plan says of the lowest number with a copy
fits s (Admit f d k) h = is_event (Admit f d k) (next_on_link s f d h)
fits s (Lose f d k) h = is_event (Lose f d k) (next_on_link s f d h)
fits s (Repeat f d k) h = is_event (Repeat f d k) (next_on_link s f d h)
-- no bulletin is handed twice, and no node sweeps without a hand since its last sweep
fits s (Hand m o k) h = not (was_handed m o k h)
fits s (Sweep m) h = handed_since m h
-- telling and removing are free
fits s (Flush a) h = true
fits s (Publish n) h = true
fits s (Window d f) h = true
fits s (Remove m n) h = true
-- crashes are spoken of below
fits s (Crash n) h = true

-- a crash that is due comes next, and no other crash comes
abbrev pub is_on_time : Event → Option ℕ → Bool
is_on_time (Crash n) None = false
is_on_time (Crash n) (Some m) = n == m
is_on_time e crash = is_none crash

-- the event may come next
abbrev pub is_allowed : Scripted → Event → List Event → Bool
is_allowed s e h = is_on_time e (crash_due s h) && (fits s e h && is_possible s e h)

-- the events q, newest first, were allowed one after another from h on
abbrev pub are_allowed : Scripted → List Event → List Event → Bool
are_allowed s [] h = true
are_allowed s (e ∷ q) h = is_allowed s e (q ++ h) && are_allowed s q h

-- a run of the script before its closing round: the beginning, and then events that are allowed
abbrev pub IsRun : Scripted → List Event → Type 0
IsRun s h = (q : List Event) × (h ≡ q ++ beginning s) × (are_allowed s q (beginning s) ≡ true)

-- the run is over: no crash is due, nobody is busy on a node that is up, and either the budget is spent, or no message is
-- live and no wake is planned
abbrev pub is_over : Scripted → List Event → Bool
is_over s h =
    is_none (crash_due s h)
    && ((busy_count (cluster_of s) h == 0)
    && (not (is_within_budget s h) || ((live_count (cluster_of s) h == 0) && (planned s h == 0))))

-- the history follows the script: it is a run that is over, with one round that closes it
abbrev pub Follows : Scripted → List Event → Type 0
Follows s h = (p : List Event) × IsRun s p × (is_over s p ≡ true) × (h ≡ round (cluster_of s) p)

-- a first part of the closing round stands after a run that is over
abbrev pub IsClosing : Scripted → List Event → Type 0
IsClosing s h =
    (p now later : List Event) × IsRun s p × (is_over s p ≡ true) × (h ≡ now ++ p) × (round (cluster_of s) p ≡ later ++ h)

-- a run that may go on, or that is being closed
abbrev pub IsUnfinished : Scripted → List Event → Type 0
IsUnfinished s h = IsRun s h ⊎ IsClosing s h

-- how many entries node n has queued since its last publish
abbrev pub queued : ℕ → List Event → ℕ
queued n [] = 0
queued n (Flush a ∷ p) = if a.node == n then queued n p + 1 else queued n p
queued n (Publish m ∷ p) = if m == n then 0 else queued n p
queued n (_ ∷ p) = queued n p

-- what one operation adds to an event: the crash that is due to a rest, and a publish to the flush of so many entries
abbrev pub added : Scripted → Event → List Event → Option Event
added s (Rest a) h = option_map Crash (crash_due s (Rest a ∷ h))
added s (Flush a) h = if queued a.node (Flush a ∷ h) == FLUSHES_PER_PUBLISH then Some (Publish a.node) else None
added s e h = None

-- the limit that the events pass, one after the other
abbrev pub limit_of : Scripted → Option Event → List Event → Option Which
limit_of s None h = None
limit_of s (Some e) h = limit_passed (cluster_of s) e h

abbrev pub limit_with : Scripted → Event → List Event → Option Which
limit_with s e h = option_or (limit_of s (Some e) h) (limit_of s (added s e h) (e ∷ h))

-- an operation may begin with the event: not with a crash, and of the wakes, windows and removals that are possible with the
-- lowest
abbrev pub is_node : Option ℕ → ℕ → Bool
is_node None n = false
is_node (Some m) n = m == n

abbrev pub is_actor : Option Actor → Actor → Bool
is_actor None a = false
is_actor (Some b) a = same_actor b a

abbrev pub begins_operation : Scripted → Event → List Event → Bool
begins_operation s (Wake a) h = is_actor (next_wake s h) a
begins_operation s (Window d f) h = is_node (find (λ n. is_possible s (Window d n) h) (nodes_below s.nodes)) f
begins_operation s (Remove m n) h = is_node (find (λ k. is_possible s (Remove m k) h) (nodes_below s.nodes)) n
begins_operation s (Crash n) h = false
begins_operation s e h = true

-- an unfinished run could next pass the limit: an event that an operation could add passes it, alone or with what the
-- operation adds to it, or the next event of the closing round does
abbrev pub CouldPass : Scripted → List Event → Which → Type 0
CouldPass s h w =
    (e : Event)
    × ((IsRun s (e ∷ h) × (begins_operation s e h ≡ true) × (limit_with s e h ≡ Some w))
    ⊎ (IsClosing s (e ∷ h) × (limit_of s (Some e) h ≡ Some w)))
