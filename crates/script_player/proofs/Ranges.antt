-- What a script's ranges give: it is in its ranges, so what the schedule makes of it is legal.
use Rattle.std.proofs.Common.{ℕ, subst}
use Rattle.history_model.specs.Legal.{IsLegal}
use Rattle.script_reader.specs.Valid.{IsScript, Scripted}
use Rattle.run_model.specs.Doing.{beginning, cluster_of}
use Rattle.run_model.specs.Schedule.{schedule}
use Rattle.run_model.proofs.Scheduled.{schedule-sound}
use Rattle.run_model.proofs.SeedsLegal.{beginning-legal}
use Rattle.script_player.specs.declared.driver.Driver.{Driver}
use Rattle.script_player.specs.Standing.{IsBetween}
use Rattle.run_model.proofs.ScriptRanges.{script-in_ranges}

pub begins-legal : (s : Scripted) → IsScript s → IsLegal (cluster_of s) (beginning s)
begins-legal s fits = beginning-legal s (script-in_ranges s fits)

pub scheduled-legal : (s : Scripted) (k : ℕ) → IsScript s → IsLegal (cluster_of s) (schedule s k)
scheduled-legal s k fits = (schedule-sound s (begins-legal s fits) k).0

pub between-legal : (d : Driver) → IsBetween d → IsLegal (cluster_of d.script.value) d.course.past
between-legal d (stands, (k, made)) = subst (IsLegal (cluster_of d.script.value)) made (scheduled-legal d.script.value k stands.script)
