-- Sound histories: legal ones in which the names of actors say no more than is held.
use Rattle.std.specs.Prelude.{ℕ, ◌≡◌, ◌+◌, ◌≤◌, Bool, true, if◌then◌else◌, IsTrue, List}
use Rattle.crgc_ids.specs.Actor.{Actor, same_actor}
use Rattle.history_model.specs.declared.events.Event.{Event}
use Rattle.history_model.specs.Tally.{tally}
use Rattle.history_model.specs.Cluster.{Cluster, is_born}
use Rattle.history_model.specs.Held.{held}
use Rattle.history_model.specs.Legal.{IsLegal, is_parent}
use Rattle.history_model.specs.State.{is_root}
use Rattle.behaviour_lang.specs.Bound.{Names}
use Rattle.behaviour_lang.specs.Steps.{Left}
use Rattle.behaviour_lang.specs.declared.instr.Name.{Name}
use Rattle.script_reader.specs.Valid.{Scripted}
use Rattle.run_model.specs.Doing.{cluster_of, doing}

-- how many names are bound to t
abbrev pub naming : Actor → Names → ℕ
naming t names = tally (λ (row : Name × Actor). same_actor row.1 t) names

-- one, where it is so
abbrev pub one_if : Bool → ℕ
one_if b = if b then 1 else 0

-- one where t is a's parent: the reference to it that belongs to no name
abbrev pub parent_of : Actor → Actor → List Event → ℕ
parent_of a t h = one_if (is_parent t a h)

-- the names say no more than a holds, and a is a root where its turn says so
pub record HoldsNames (cl : Cluster) (a : Actor) (l : Left) (h : List Event) : Type 0 where
  pub held : (t : Actor) → naming t l.names + parent_of a t h ≤ held cl a t h
  pub root : l.root ≡ true → is_root a h ≡ true

-- so it is for every actor that was born
abbrev pub AllHold : Scripted → List Event → Type 0
AllHold s h = (a : Actor) → IsTrue (is_born a h) → (let d = doing s a h in HoldsNames (cluster_of s) a d.turn h)

-- a legal history in which names say no more than is held
abbrev pub IsSound : Scripted → List Event → Type 0
IsSound s h = IsLegal (cluster_of s) h × AllHold s h
