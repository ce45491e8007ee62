-- How a halt on a part of the way is one on the whole way, and in the schedule.
use Rattle.std.proofs.Common.{◌≡◌, ℕ, List, [], ◌∷◌, ◌++◌, append_assoc, Some, refl, sym, ◌∙◌, ap, inl}
use Rattle.crgc_ids.specs.declared.Which.{Which}
use Rattle.history_model.specs.declared.events.Event.{Event}
use Rattle.history_model.specs.Cluster.{Cluster}
use Rattle.journal_model.specs.Limits.{limit_passed}
use Rattle.script_reader.specs.Valid.{Scripted}
use Rattle.run_model.specs.Doing.{cluster_of}
use Rattle.run_model.specs.Schedule.{IsWithinLimits, schedule}
use Rattle.script_player.specs.declared.fault.RunFault.{RunFault}
use Rattle.script_player.specs.declared.fault.RunFault.TheVariants.{Limit, NoMemory}
use Rattle.script_player.specs.Making.{HaltsOn}
use Rattle.script_player.specs.Reported.{IsRunFault}

-- at the event that comes next
pub halts-now : (cl : Cluster) (e : Event) (h : List Event) (which : Which) → IsWithinLimits cl h → limit_passed cl e h ≡ Some which → HaltsOn cl (e ∷ h) (Limit which)
halts-now cl e h which within passed = (h, within, ([], e, refl, passed))

-- on a longer way
pub halts-more : (cl : Cluster) (part whole q : List Event) (f : RunFault) → whole ≡ q ++ part → HaltsOn cl part f → HaltsOn cl whole f
halts-more cl part whole q (Limit which) more (past, within, (later, e, way, passed)) =
    (past, within, (q ++ later, e, more ∙ ap (λ x. q ++ x) way ∙ sym (append_assoc q later (e ∷ past)), passed))
halts-more cl part whole q NoMemory more halts = tt

-- on the way to what the schedule makes
pub halts-scheduled : (s : Scripted) (k : ℕ) (whole : List Event) (f : RunFault) → schedule s k ≡ whole → HaltsOn (cluster_of s) whole f → IsRunFault s f
halts-scheduled s k whole (Limit which) made (past, within, (later, e, way, passed)) = (past, (e, (k, later, inl (made ∙ way)), within, passed))
halts-scheduled s k whole NoMemory made halts = tt
