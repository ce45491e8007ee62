-- The course of a script at its beginning.
use Rattle.std.specs.Prelude.{◌≡◌, List, [], map}
use Rattle.history_model.specs.declared.events.Event.{Event}
use Rattle.history_model.specs.declared.events.Event.TheVariants.{Seed}
use Rattle.history_model.specs.Rows.{onto}
use Rattle.history_model.specs.Story.{Story}
use Rattle.script_reader.specs.Valid.{Scripted}
use Rattle.script_reader.specs.declared.script.Seed.{Seed as SeedRow}
use Rattle.run_model.specs.Doing.{cluster_of}
use Rattle.run_model.specs.Schedule.{IsWithinLimits}

-- the seeds, in order
abbrev pub seeds_of : Scripted → List Event
seeds_of s = onto [] (map (λ (x : SeedRow). Seed x.node) s.seeds)

-- the course of the script's cluster has this history, which passed no limit
pub record IsBegun (s : Scripted) (h : List Event) (c : Story) : Type 0 where
  pub cluster : c.cluster ≡ cluster_of s
  pub past : c.past ≡ h
  pub within : IsWithinLimits (cluster_of s) h
