-- Legality: the rules of each event in order, judged by the events before it.
use Rattle.std.specs.Prelude.{ℕ, ◌==◌, ◌≡◌, Bool, true, false, ◌&&◌, ◌||◌, not, if◌then◌else◌, nat_lt, List, [], ◌∷◌, ◌++◌, length, map, Option, Some, None}
use Rattle.crgc_ids.specs.Actor.{Actor}
use Rattle.history_model.specs.declared.events.Event.{Event}
use Rattle.history_model.specs.declared.events.Event.TheVariants.{Seed, Tie, Wake, Take, Spawn, Send, Drop, Retire, Rest, Flush, Publish, Window, Admit, Lose, Repeat, Crash, Remove, Hand, Sweep}
use Rattle.history_model.specs.declared.events.Rule.{Rule}
use Rattle.history_model.specs.declared.events.Rule.TheVariants.{NoNode, NoActor, Down, SameActor, SameNode, NotRoot, Busy, Idle, NoMail, NotHeld, Supervisor, Blank, EmptyQueue, Closed, NothingAdmitted, NotOnLink, NotCrashed, Removed, NoBulletin}
use Rattle.history_model.specs.Cluster.{Cluster, same_actor, newborn, is_born}
use Rattle.history_model.specs.Messages.{waiting, copies, is_closed}
use Rattle.history_model.specs.Held.{held}
use Rattle.history_model.specs.State.{is_busy, is_root, is_up}
use Rattle.history_model.specs.Streams.{can_flush, is_blank, queue, window, stream}

-- a rule, and whether it is kept
pub record Check : Type 0 where
  pub rule : Rule
  pub kept : Bool

abbrev pub check : Rule → Bool → Check
check r b = record { rule = r; kept = b }

abbrev pub born_all : List Actor → List Event → List Check
born_all as_ h = map (λ a. check NoActor (is_born a h)) as_

abbrev pub held_all : Cluster → Actor → List Actor → List Event → List Check
held_all cl b as_ h = map (λ a. check NotHeld (nat_lt 0 (held cl b a h))) as_

abbrev pub is_node : Cluster → ℕ → Check
is_node cl n = check NoNode (nat_lt n cl.nodes)

abbrev pub node_up : ℕ → List Event → Check
node_up n h = check Down (is_up n h)

-- t is the parent of a
abbrev pub is_parent : Actor → Actor → List Event → Bool
is_parent t a [] = false
is_parent t a (Spawn b ∷ p) = (same_actor b t && same_actor (newborn b.node p) a) || is_parent t a p
is_parent t a (_ ∷ p) = is_parent t a p

-- a gives up its last reference to its parent
abbrev pub gives_up_parent : Cluster → Actor → Actor → List Event → Bool
gives_up_parent cl a t h = (cl.version == 2) && (is_parent t a h && (held cl a t h == 1))

abbrev pub has_nothing : {A : Type 0} → List A → Bool
has_nothing [] = true
has_nothing (_ ∷ _) = false

-- the rules of an event on a link from s to d
abbrev pub link_checks : Cluster → ℕ → ℕ → List Event → List Check
link_checks cl s d h =
    is_node cl s ∷ is_node cl d ∷ check SameNode (not (s == d)) ∷ node_up d h
    ∷ check Closed (not (is_closed s d h)) ∷ []

-- the rules of the event, in order
abbrev pub checks : Cluster → Event → List Event → List Check
checks cl (Seed n) h = is_node cl n ∷ node_up n h ∷ []
checks cl (Tie a b) h =
    born_all (a ∷ b ∷ []) h
    ++ node_up a.node h ∷ node_up b.node h ∷ check SameActor (not (same_actor a b))
    ∷ check NotRoot (is_root a h) ∷ check NotRoot (is_root b h) ∷ []
checks cl (Wake a) h =
    born_all (a ∷ []) h
    ++ node_up a.node h ∷ check NotRoot (is_root a h) ∷ check Busy (not (is_busy a h)) ∷ []
checks cl (Take a) h =
    born_all (a ∷ []) h
    ++ node_up a.node h ∷ check Busy (not (is_busy a h)) ∷ check NoMail (not (has_nothing (waiting a h))) ∷ []
checks cl (Spawn a) h = born_all (a ∷ []) h ++ node_up a.node h ∷ check Idle (is_busy a h) ∷ []
checks cl (Send a b refs) h =
    born_all (a ∷ b ∷ refs) h
    ++ node_up a.node h ∷ check Idle (is_busy a h) ∷ held_all cl a (b ∷ refs) h
checks cl (Drop a t) h =
    born_all (a ∷ t ∷ []) h
    ++ node_up a.node h ∷ check Idle (is_busy a h) ∷ check NotHeld (nat_lt 0 (held cl a t h))
    ∷ check Supervisor (not (gives_up_parent cl a t h)) ∷ []
checks cl (Retire a) h =
    born_all (a ∷ []) h
    ++ node_up a.node h ∷ check NotRoot (is_root a h) ∷ check Idle (is_busy a h) ∷ []
checks cl (Rest a) h = born_all (a ∷ []) h ++ node_up a.node h ∷ check Idle (is_busy a h) ∷ []
checks cl (Flush a) h = born_all (a ∷ []) h ++ node_up a.node h ∷ check Blank (can_flush cl a h) ∷ []
checks cl (Publish n) h =
    is_node cl n ∷ node_up n h ∷ check EmptyQueue (not (is_blank (queue cl n h))) ∷ []
checks cl (Window d s) h =
    is_node cl d ∷ is_node cl s ∷ check SameNode (not (d == s)) ∷ node_up d h
    ∷ check Closed (not (is_closed s d h)) ∷ check NothingAdmitted (not (is_blank (window s d h))) ∷ []
checks cl (Admit s d k) h = link_checks cl s d h ++ check NotOnLink (nat_lt 0 (copies s d k h)) ∷ []
checks cl (Lose s d k) h = link_checks cl s d h ++ check NotOnLink (nat_lt 0 (copies s d k h)) ∷ []
checks cl (Repeat s d k) h = link_checks cl s d h ++ check NotOnLink (nat_lt 0 (copies s d k h)) ∷ []
checks cl (Crash n) h = is_node cl n ∷ node_up n h ∷ []
checks cl (Remove m n) h =
    is_node cl m ∷ is_node cl n ∷ check SameNode (not (m == n)) ∷ node_up m h
    ∷ check NotCrashed (not (is_up n h)) ∷ check Removed (not (is_closed n m h)) ∷ []
checks cl (Hand m o k) h =
    is_node cl m ∷ is_node cl o ∷ node_up m h ∷ check NoBulletin (nat_lt k (length (stream cl o h))) ∷ []
checks cl (Sweep m) h = is_node cl m ∷ node_up m h ∷ []

-- the first rule that is not kept
abbrev pub first_broken : List Check → Option Rule
first_broken [] = None
first_broken (c ∷ cs) = if c.kept then first_broken cs else Some c.rule

-- the refusal of an event
abbrev pub refusal : Cluster → Event → List Event → Option Rule
refusal cl e h = first_broken (checks cl e h)

-- each event was allowed by those before it
abbrev pub IsLegal : Cluster → List Event → Type 0
IsLegal cl [] = Unit {0}
IsLegal cl (e ∷ p) = (refusal cl e p ≡ None) × IsLegal cl p
