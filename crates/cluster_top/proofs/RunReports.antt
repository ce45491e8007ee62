-- What a run promises, from what the player of scripts reports and the laws of the round.
use Rattle.std.proofs.Common.{◌≡◌, ◌<◌, ◌↔◌, ℕ, Bool, true, IsTrue, List, ◌∷◌, ◌++◌, Option, Some, Result, Ok, Err, Vec, ap, inl, subst, sym, ◌∙◌}
use Rattle.std.specs.Prelude.{IfOk, IfErr}
use Rattle.std.specs.declared.alloc.Global.{Global}
use Rattle.crgc_ids.specs.Actor.{Actor}
use Rattle.cluster_course.specs.Collected.{IsRightlyCollected}
use Rattle.history_model.specs.Cluster.{Cluster}
use Rattle.history_model.specs.Legal.{IsLegal}
use Rattle.history_model.specs.Quiescent.{IsDelivered, IsQuiescent, IsQuietPoint, LosesNothing}
use Rattle.history_model.specs.State.{is_up}
use Rattle.history_model.specs.Story.{Story}
use Rattle.history_model.specs.Sweeps.{is_stopped}
use Rattle.history_model.specs.declared.events.Event.{Event}
use Rattle.history_model.specs.declared.events.Event.TheVariants.{Sweep}
use Rattle.run_model.specs.Doing.{cluster_of, is_in_ranges}
use Rattle.run_model.specs.Follows.{Follows, IsUnfinished}
use Rattle.run_model.specs.Round.{round}
use Rattle.run_model.specs.Schedule.{IsFixed, schedule}
use Rattle.script_player.specs.Reported.{ReportsFixed}
use Rattle.script_reader.specs.Scripts.{StandsFor}
use Rattle.script_reader.specs.Valid.{Scripted}
use Rattle.cluster_top.specs.declared.refusal.Refusal.{Refusal}
use Rattle.cluster_top.specs.declared.refusal.Refusal.TheVariants.{Usage, Script, ReadFault, Limit, Journal, NoMemory}
use Rattle.cluster_top.specs.Refusals.{IsRunHalt, IsRunRefusal, IsScriptRefusal, IsWorkersRefusal, ReportsWorked}
use Rattle.cluster_top.specs.RunOutcome.{IsRightlyClosed, IsRunReport}
use Rattle.cluster_top.specs.WorkersOutcome.{IsWorkersReport}

story-is : (s : Scripted) (h : Story) → h.cluster ≡ cluster_of s → h ≡ record { cluster = cluster_of s; past = h.past }
story-is s h cluster = λ i. record { cluster = cluster i; past = h.past }

-- the laws of the round, as `history_model` and `run_model` state them
module _
    (sweeps : (cl : Cluster) (h : List Event) (m : ℕ) → m < cl.nodes → IsTrue (is_up m h)
    → (q : List Event) × (r : List Event) × (round cl h ≡ q ++ Sweep m ∷ (r ++ h)))
    (not_lost : (h : List Event) → LosesNothing h → IsDelivered h)
    (quiet : (cl : Cluster) (q r h : List Event) (m : ℕ) → IsLegal cl h → IsDelivered h → round cl h ≡ q ++ Sweep m ∷ (r ++ h)
    → IsQuietPoint cl m (r ++ h))
    (all : (cl : Cluster) (h : List Event) (a : Actor) → IsLegal cl h → IsDelivered h → IsTrue (is_up a.node h)
    → (is_stopped cl a (round cl h) ≡ true) ↔ IsQuiescent cl (round cl h) a)
  where
    -- a round closes a legal history rightly
    pub round-closes : (cl : Cluster) (p h : List Event) → IsLegal cl p → h ≡ round cl p → IsRightlyClosed cl h
    round-closes cl p h legal e = record {
      before = p;
      closed = e;
      each_sweeps = λ m lt up. let w = sweeps cl p m lt up in (w.0, w.1, e ∙ w.2);
      not_lost = not_lost p;
      at_quiet_points = λ delivered later added m split. quiet cl later added p m legal delivered (sym e ∙ split);
      stopped_are_the_quiescent = λ delivered a up. subst (λ x. (is_stopped cl a x ≡ true) ↔ IsQuiescent cl x a) (sym e) (all cl p a legal delivered up);
    }

    module _
        (in_range : (bytes : List ℕ) (s : Scripted) → StandsFor bytes s → is_in_ranges s ≡ true)
        (made : (s : Scripted) (k : ℕ) → is_in_ranges s ≡ true → IsLegal (cluster_of s) (schedule s k))
        (fixed : (s : Scripted) (h : List Event) → is_in_ranges s ≡ true → IsFixed s h → IsLegal (cluster_of s) h)
      where
        pub run-report : (bytes : List ℕ) (s : Scripted) (brief : Bool) (r : Result (Vec ℕ Global) Refusal) → StandsFor bytes s
            → IfOk r (λ v. ReportsFixed s brief v.items) → IfOk r (λ v. IsRunReport bytes brief v.items)
        run-report bytes s brief (Err f) stands h = tt
        run-report bytes s brief (Ok v) stands h = record {
          script = s;
          told = stands;
          past = h.0;
          fixed = h.1;
          legal = fixed s h.0 (in_range bytes s stands) h.1;
          within = h.2;
          collected = h.3;
          closed = (let f = h.1 in round-closes (cluster_of s) (schedule s f.0) h.0 (made s f.0 (in_range bytes s stands)) f.2);
          written = h.4;
        }

    -- what a run by workers promises, where the laws of runs are those of `run_model` and `cluster_course`
    module _
        (in_range : (bytes : List ℕ) (s : Scripted) → StandsFor bytes s → is_in_ranges s ≡ true)
        (unfinished : (s : Scripted) (h : List Event) → is_in_ranges s ≡ true → IsUnfinished s h → IsLegal (cluster_of s) h)
        (follows : (s : Scripted) (h : List Event) → is_in_ranges s ≡ true → Follows s h → IsLegal (cluster_of s) h)
        (collected : (cl : Cluster) (h : List Event) → IsLegal cl h → IsRightlyCollected cl h)
      where
        pub workers-report : (bytes : List ℕ) (s : Scripted) (brief : Bool) (kept : Option Story) (r : Result (Vec ℕ Global) Refusal) → StandsFor bytes s
            → IfOk r (λ v. ReportsWorked s brief v.items kept) → IfOk r (λ v. IsWorkersReport bytes brief v.items kept)
        workers-report bytes s brief kept (Err f) stands h = tt
        workers-report bytes s brief kept (Ok v) stands worked =
            let h = worked.0 in
            let done = worked.2 in
            let p = done.follows in
            let ranges = in_range bytes s stands in
            let legal = follows s h.past ranges p in
            record {
              script = s;
              told = stands;
              past = h.past;
              is_kept = worked.1 ∙ ap Some (story-is s h done.cluster);
              follows = p;
              legal = legal;
              within = done.within;
              collected = collected (cluster_of s) h.past legal;
              closed = round-closes (cluster_of s) p.0 h.past (unfinished s p.0 ranges (inl p.1)) p.3;
              written = done.written;
            }

told : (bytes : List ℕ) (s : Scripted) (f : Refusal) → StandsFor bytes s → IsRunRefusal s f → IsScriptRefusal bytes f
told bytes s Usage stands h = absurd h
told bytes s (Script fault text) stands h = absurd h
told bytes s ReadFault stands h = absurd h
told bytes s (Limit which) stands h = (s, h.0, stands, h.1)
told bytes s (Journal line cause text) stands h = absurd h
told bytes s NoMemory stands h = tt

-- the limit that a run passes is that of the bytes
pub run-refusal : (bytes : List ℕ) (s : Scripted) (r : Result (Vec ℕ Global) Refusal) → StandsFor bytes s → IfErr r (λ f. IsRunRefusal s f)
    → IfErr r (λ f. IsScriptRefusal bytes f)
run-refusal bytes s (Ok v) stands h = tt
run-refusal bytes s (Err f) stands h = told bytes s f stands h

told-halt : (bytes : List ℕ) (s : Scripted) (kept kept' : Option Story) (f : Refusal) → StandsFor bytes s → IsRunHalt s kept kept' f → IsWorkersRefusal bytes kept kept' f
told-halt bytes s kept kept' Usage stands h = absurd h
told-halt bytes s kept kept' (Script fault text) stands h = absurd h
told-halt bytes s kept kept' ReadFault stands h = absurd h
told-halt bytes s kept kept' (Limit which) stands h =
    let at = h.0 in
    let halted = h.2 in
    record {
      script = s;
      told = stands;
      past = at.past;
      is_kept = h.1 ∙ ap Some (story-is s at halted.cluster);
      unfinished = halted.unfinished;
      could_pass = halted.could_pass;
    }
told-halt bytes s kept kept' (Journal line cause text) stands h = absurd h
told-halt bytes s kept kept' NoMemory stands h = h

-- the limit at which workers halt is that of the bytes
pub workers-refusal : (bytes : List ℕ) (s : Scripted) (kept kept' : Option Story) (r : Result (Vec ℕ Global) Refusal) → StandsFor bytes s
    → IfErr r (IsRunHalt s kept kept') → IfErr r (IsWorkersRefusal bytes kept kept')
workers-refusal bytes s kept kept' (Ok v) stands h = tt
workers-refusal bytes s kept kept' (Err f) stands h = told-halt bytes s kept kept' f stands h
