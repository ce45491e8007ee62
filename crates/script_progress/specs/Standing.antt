-- What the progress stands for, in a history of a script.
use Rattle.std.specs.Prelude.{◌≡◌, ℕ, ◌&&◌, Bool, true, false, not, nat_lt, List, [], get_or, length, map}
use Rattle.std.specs.List.{list_any}
use Rattle.crgc_ids.specs.Actor.{Actor, IsActorBelow}
use Rattle.history_model.specs.declared.events.Event.{Event}
use Rattle.history_model.specs.declared.events.Event.TheVariants.{Seed, Tie, Wake, Take, Spawn, Send, Drop, Retire, Rest, Flush, Publish, Window, Admit, Lose, Repeat, Crash, Remove, Hand, Sweep}
use Rattle.history_model.specs.Messages.{is_lose, is_repeat}
use Rattle.history_model.specs.State.{is_root, is_up}
use Rattle.fault_plan.specs.Rows.{Planned}
use Rattle.script_reader.specs.Valid.{Scripted}
use Rattle.run_model.specs.Planned.{begun, ended, ended_on, has_row, wakes_left, wakes_of}
use Rattle.script_progress.specs.Used.{NodeUsed, Used, ended_in, unused, wakes_in}
use Rattle.history_model.specs.Cluster.{births}
use Rattle.history_model.specs.Rows.{onto}
use Rattle.script_reader.specs.declared.script.Seed.{Seed as SeedRow}
use Rattle.run_model.specs.Doing.{row_of}

-- the actor has a wake left, is a root, and its node is up. Who is not so once will never be
abbrev pub can_wake : Scripted → Actor → List Event → Bool
can_wake s a h = nat_lt 0 (wakes_left s a h) && (is_root a h && is_up a.node h)

-- the copy has a row that no event used
abbrev pub has_loss : Scripted → List Event → ℕ → ℕ → ℕ → Bool
has_loss s h f d k = (let all : Planned = s.plan in has_row f d k all.losses) && not (list_any (is_lose f d k) h)

abbrev pub has_repeat : Scripted → List Event → ℕ → ℕ → ℕ → Bool
has_repeat s h f d k = (let all : Planned = s.plan in has_row f d k all.repeats) && not (list_any (is_repeat f d k) h)

-- the rows that are left are those of the script that no event used
pub record IsPlanAt (s : Scripted) (h : List Event) (plan : Planned) : Type 0 where
  pub losses : (f d k : ℕ) → has_row f d k plan.losses ≡ has_loss s h f d k
  pub repeats : (f d k : ℕ) → has_row f d k plan.repeats ≡ has_repeat s h f d k
  pub crashes : plan.crashes ≡ (let all : Planned = s.plan in all.crashes)

-- the progress stands at the history; nobody before the first seed that may have a wake left can be woken any more
pub record IsProgressAt (s : Scripted) (h : List Event) (p : Used) : Type 0 where
  pub turns : p.turns ≡ s.turns
  pub begun : p.begun ≡ begun h
  pub ended : p.ended ≡ ended h
  pub nodes : length p.nodes ≡ s.nodes
  pub ended_on : (n : ℕ) → ended_in p n ≡ ended_on n h
  pub wakes : (a : Actor) → wakes_in p a ≡ wakes_left s a h
  pub passed : (a : Actor) → IsActorBelow a p.next → can_wake s a h ≡ false
  pub plan : IsPlanAt s h p.plan

-- the event uses nothing of the plan, and makes nobody a root
abbrev pub is_of_no_plan : Event → Bool
is_of_no_plan (Seed n) = false
is_of_no_plan (Tie a b) = true
is_of_no_plan (Wake a) = false
is_of_no_plan (Take a) = false
is_of_no_plan (Spawn a) = true
is_of_no_plan (Send a t refs) = true
is_of_no_plan (Drop a t) = true
is_of_no_plan (Retire a) = true
is_of_no_plan (Rest a) = false
is_of_no_plan (Flush a) = true
is_of_no_plan (Publish n) = true
is_of_no_plan (Window d f) = true
is_of_no_plan (Admit f d k) = true
is_of_no_plan (Lose f d k) = false
is_of_no_plan (Repeat f d k) = false
is_of_no_plan (Crash n) = true
is_of_no_plan (Remove m n) = true
is_of_no_plan (Hand m o k) = true
is_of_no_plan (Sweep m) = true

-- ---- at the beginning

-- the nodes have these seeds, in order, each with its wakes, and no turn ended
pub record AreSeeded (seeds : List SeedRow) (nodes : List NodeUsed) : Type 0 where
  pub counts : (n : ℕ) → length (get_or nodes n unused).wakes ≡ births n (onto [] (map (λ (x : SeedRow). Seed x.node) seeds))
  pub wakes : (a : Actor) → get_or (get_or nodes a.node unused).wakes a.serial 0 ≡ wakes_of (row_of seeds [] a)
  pub ended : (n : ℕ) → (get_or nodes n unused).ended ≡ 0
