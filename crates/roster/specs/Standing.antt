-- What the table of actors stands for: what is true of the actors in a history.
use Rattle.std.specs.Prelude.{◌≡◌, ◌≤◌, ℕ, Bool, true, false, List, [], ◌∷◌, length}
use Rattle.crgc_ids.specs.Actor.{Actor}
use Rattle.history_model.specs.declared.events.Event.{Event}
use Rattle.history_model.specs.declared.events.Event.TheVariants.{Send, Publish, Window, Admit, Lose, Repeat, Remove, Hand}
use Rattle.history_model.specs.Cluster.{Cluster, births}
use Rattle.history_model.specs.Held.{held}
use Rattle.history_model.specs.Legal.{IsLegal, is_parent}
use Rattle.history_model.specs.Live.{actors_of}
use Rattle.history_model.specs.State.{is_busy, is_root, is_up}
use Rattle.history_model.specs.Sweeps.{is_stopped}
use Rattle.history_model.specs.Tally.{tally}
use Rattle.refob_counts.specs.Counts.{count_of}
use Rattle.entry_records.specs.Log.{IsLogAt}
use Rattle.actor_states.specs.State.{State, is_this}
use Rattle.roster.specs.Table.{Table, births_in, state_at, up_in}

-- the state is that of the actor in the history
pub record IsStateOf (cl : Cluster) (h : List Event) (a : Actor) (s : State) : Type 0 where
  pub busy : s.busy ≡ is_busy a h
  pub root : s.root ≡ is_root a h
  pub parent : (t : Actor) → is_this s.parent t ≡ is_parent t a h
  pub held : (t : Actor) → count_of s.held t ≡ held cl a t h
  pub actor : s.log.actor ≡ a
  pub log : IsLogAt cl h s.log
  pub stopped : s.stopped ≡ is_stopped cl a h

-- the table is as the history says of the actors and nodes; who was not born has the blank state
pub record IsRosterOf (cl : Cluster) (h : List Event) (r : Table) : Type 0 where
  pub version : r.version ≡ cl.version
  pub nodes : length r.nodes ≡ cl.nodes
  pub births : (n : ℕ) → births_in r n ≡ births n h
  pub up : (n : ℕ) → up_in r n ≡ is_up n h
  pub states : (a : Actor) → IsStateOf cl h a (state_at r a)

-- the table that stood for the history stands, as it is now, for the history with the event, if that is legal
abbrev pub StandsAfter : Cluster → Event → List Event → Table → Table → Type 0
StandsAfter cl e p old new = IsLegal cl (e ∷ p) → IsRosterOf cl p old → IsRosterOf cl (e ∷ p) new

-- the event is one of the links, the streams or the collectors: it is of no actor and of no node's crash
abbrev pub is_of_no_actor : Event → Bool
is_of_no_actor (Publish n) = true
is_of_no_actor (Window d s) = true
is_of_no_actor (Admit s d k) = true
is_of_no_actor (Lose s d k) = true
is_of_no_actor (Repeat s d k) = true
is_of_no_actor (Remove m n) = true
is_of_no_actor (Hand m o k) = true
is_of_no_actor _ = false

-- how many actors of the node were stopped
abbrev pub stopped_at : Cluster → ℕ → List Event → ℕ
stopped_at cl n h = tally (λ a. is_stopped cl a h) (actors_of n h)

-- each send has at most 16 references
abbrev pub SendsAreShort : List Event → Type 0
SendsAreShort [] = Unit {0}
SendsAreShort (Send f t refs ∷ p) = (length refs ≤ 16) × SendsAreShort p
SendsAreShort (_ ∷ p) = SendsAreShort p
