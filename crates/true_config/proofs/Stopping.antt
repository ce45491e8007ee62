-- What a sweep stops, and what holds of a world afterwards.
use Rattle.std.proofs.Common.{◌≡◌, ◌↔◌, ℕ, Bool, true, List, [], ◌∷◌, map, refl, sym, ◌∙◌, ap, subst, inl, inr}
use Rattle.std.specs.List.{AllByRecursion}
use Rattle.crgc_ids.specs.Actor.{Actor}
use Rattle.crgc_ids.specs.Members.{IsAmong}
use Rattle.history_model.specs.declared.events.Event.{Event}
use Rattle.history_model.specs.declared.events.Event.TheVariants.{Sweep}
use Rattle.history_model.specs.declared.records.Stop.{Stop}
use Rattle.history_model.specs.declared.records.Verdict.{Verdict}
use Rattle.history_model.specs.Cluster.{Cluster}
use Rattle.history_model.specs.Folds.{Fold, folded, is_lost}
use Rattle.history_model.specs.Legal.{IsLegal}
use Rattle.history_model.specs.Quiescent.{IsQuiescent}
use Rattle.history_model.specs.Story.{Story}
use Rattle.history_model.specs.Sweeps.{IsVerdict, is_stopped, stop_of, stopped_by}
use Rattle.history_model.proofs.Stopped.{quiet-stopped, stopped-quiescent, stopping-quiescent}
use Rattle.history_model.proofs.Supervision.{stopped-children}
use Rattle.roster.specs.Standing.{IsRosterOf}
use Rattle.roster.specs.Table.{IsHere, Table}
use Rattle.roster.proofs.SweepSteps.{stopped-here}
use Rattle.true_config.specs.Promises.{ChildrenAreStopped, IsFoundBySweep, StoppedAreQuiescent, StopsAllAtQuietPoint, StopsTheQuiescent}
use Rattle.true_config.specs.Steps.{Adds}

-- the stops of a sweep, by its actors
actors-of_stops : (cl : Cluster) (lost : ℕ → Bool) (f : Fold) (xs : List Actor) → map (λ (s : Stop). s.actor) (map (stop_of cl lost f) xs) ≡ xs
actors-of_stops cl lost f [] = refl
actors-of_stops cl lost f (x ∷ xs) = ap (λ ys. x ∷ ys) (actors-of_stops cl lost f xs)

-- the verdict stops the actors that the sweep stops
pub stops-named : (cl : Cluster) (m : ℕ) (h : List Event) (v : Verdict) → IsVerdict cl m h v → map (λ (s : Stop). s.actor) v.stops ≡ stopped_by cl m h
stops-named cl m h v is =
    ap (map (λ (s : Stop). s.actor)) is.stops ∙ actors-of_stops cl (is_lost cl (folded cl m h)) (folded cl m h) (stopped_by cl m h)

all-here : (r : Table) (stops : List Stop) → ((a : Actor) → IsAmong a (map (λ (s : Stop). s.actor) stops) → IsHere r a) → AllByRecursion (λ s. IsHere r s.actor) stops
all-here r [] here = tt
all-here r (s ∷ ss) here = (here s.actor (inl refl), all-here r ss (λ a member. here a (inr member)))

-- they are in the table of actors, and their node is up
pub stops-here : (cl : Cluster) (m : ℕ) (h : List Event) (r : Table) (v : Verdict) → IsLegal cl (Sweep m ∷ h) → IsRosterOf cl h r → IsVerdict cl m h v → AllByRecursion (λ s. IsHere r s.actor) v.stops
stops-here cl m h r v legal stands is =
    all-here r v.stops (λ a member. stopped-here cl m h r a legal stands (subst (IsAmong a) (stops-named cl m h v is) member))

among-actors : (s : Stop) (stops : List Stop) → IsAmong s stops → IsAmong s.actor (map (λ (t : Stop). t.actor) stops)
among-actors s [] member = elim member [ ]
among-actors s (t ∷ ts) (inl same) = inl (ap (λ (x : Stop). x.actor) same)
among-actors s (t ∷ ts) (inr later) = inr (among-actors s ts later)

-- the history of a world that grew is legal, and so is the one before
legal-grown : (e : Event) (old new : Story) → IsLegal new.cluster new.past → Adds e old new → IsLegal old.cluster (e ∷ old.past)
legal-grown e old new legal adds =
    subst (λ h. IsLegal old.cluster h) adds.past (subst (λ cl. IsLegal cl new.past) adds.cluster legal)

-- soundness of the stops
pub stops-sound : (old new : Story) (v : Verdict) → IsFoundBySweep old v → IsLegal new.cluster new.past → Adds (Sweep v.node) old new → StopsTheQuiescent old v
stops-sound old new v found legal adds s member =
    let grown = legal-grown (Sweep v.node) old new legal adds in
    let named = stops-named old.cluster v.node old.past v (found grown.0) in
    stopping-quiescent old.cluster v.node old.past s.actor grown.1 (subst (IsAmong s.actor) named (among-actors s v.stops member))

-- completeness at a quiet point
pub stops-complete : (old new : Story) (m : ℕ) → IsLegal new.cluster new.past → Adds (Sweep m) old new → StopsAllAtQuietPoint m old new
stops-complete old new m legal adds quiet a here =
    let grown = legal-grown (Sweep m) old new legal adds in
    subst (λ cl. (is_stopped cl a new.past ≡ true) ↔ IsQuiescent cl new.past a) (sym adds.cluster)
    (subst (λ h. (is_stopped old.cluster a h ≡ true) ↔ IsQuiescent old.cluster h a) (sym adds.past) (quiet-stopped old.cluster m old.past a grown quiet here))

-- stability, and supervision
pub stopped-stable : (s : Story) → IsLegal s.cluster s.past → StoppedAreQuiescent s
stopped-stable s legal a stopped = stopped-quiescent s.cluster s.past a legal stopped

pub stopped-supervised : (s : Story) → IsLegal s.cluster s.past → ChildrenAreStopped s
stopped-supervised s legal two a b stopped parent = stopped-children s.cluster s.past two legal b a parent stopped
