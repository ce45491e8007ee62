-- What the parts of a cluster stand for.
use Rattle.std.specs.Prelude.{◌≡◌, List, [], map}
use Rattle.crgc_ids.specs.Actor.{Actor}
use Rattle.history_model.specs.declared.events.Event.{Event}
use Rattle.history_model.specs.declared.events.Event.TheVariants.{Seed}
use Rattle.history_model.specs.Rows.{onto}
use Rattle.history_model.specs.Story.{Story}
use Rattle.script_reader.specs.Valid.{IsScript, Scripted}
use Rattle.script_reader.specs.declared.script.Seed.{Seed as SeedRow}
use Rattle.run_model.specs.Doing.{beginning, cluster_of, seed_actors}
use Rattle.run_model.specs.Sound.{IsSound}
use Rattle.script_actors.specs.Standing.{AreActorsAt}
use Rattle.script_actors.specs.Table.{Table}
use Rattle.script_progress.specs.Standing.{IsProgressAt}
use Rattle.script_progress.specs.Used.{Used}
use Rattle.operation_model.specs.Openings.{Opening}
use Rattle.world_object.specs.State.{ClusterState, as_opening}
use Rattle.world_object.specs.declared.parts.ClusterParts.{ClusterParts}

-- what contracts see of the parts
abbrev pub state_of : ClusterParts → ClusterState
state_of p = record { script = p.script.value; past = p.world.past; actors = p.actors; claims = p.claims; halt = p.halt; verdicts = p.verdicts }

abbrev pub opening_of : ClusterParts → Opening
opening_of p = as_opening (state_of p)

-- the world is that of the script's cluster, in which names say no more than is held; and the actors, the seeds and what is used of
-- the plan are those of the script and of the world's history
pub record Stands (p : ClusterParts) : Type 0 where
  pub script : IsScript p.script.value
  pub cluster : p.world.cluster ≡ cluster_of p.script.value
  pub seeds : p.seeds ≡ seed_actors p.script.value
  pub actors : AreActorsAt p.script.value p.world.past p.actors
  pub progress : IsProgressAt p.script.value p.world.past p.progress
  pub sound : IsSound p.script.value p.world.past

-- the seeds, in order
abbrev pub seeds_of : Scripted → List Event
seeds_of s = onto [] (map (λ (x : SeedRow). Seed x.node) s.seeds)

-- the world is that of the script's cluster, with this history
pub record IsBegun (s : Scripted) (h : List Event) (w : Story) : Type 0 where
  pub cluster : w.cluster ≡ cluster_of s
  pub past : w.past ≡ h

-- the parts of a new cluster are those of the script
pub record ArePartsOf (s : Scripted) (w : Story) (seeds : List Actor) (t : Table) (u : Used) : Type 0 where
  pub script : IsScript s
  pub world : IsBegun s (beginning s) w
  pub seeds_are : seeds ≡ seed_actors s
  pub actors : AreActorsAt s (beginning s) t
  pub progress : IsProgressAt s (beginning s) u
