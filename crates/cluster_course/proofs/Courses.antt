-- What is kept beside a history stays so with the next event.
use Rattle.std.proofs.Common.{◌≡◌, ◌+◌, ℕ, Bool, ◌||◌, true, false, List, [], ◌∷◌, ◌++◌, length, drop, reverse, Option, Some, None, Result, Ok, Err, refl, sym, ◌∙◌, ap, subst}
use Rattle.std.specs.Prelude.{IfSome}
use Rattle.std.specs.Result.{is_err}
use Rattle.std.proofs.lemmas.List.{reverse-append}
use Rattle.collector.specs.Collected.{Collected}
use Rattle.evidence_report.specs.Stops.{stops_in}
use Rattle.evidence_report.proofs.Counting.{total-stopped}
use Rattle.history_model.specs.declared.events.Event.{Event}
use Rattle.history_model.specs.declared.events.Event.TheVariants.{Hand, Sweep}
use Rattle.history_model.specs.declared.records.Verdict.{Verdict}
use Rattle.history_model.specs.Cluster.{Cluster}
use Rattle.history_model.specs.Story.{Story}
use Rattle.history_model.specs.Sweeps.{IsVerdict}
use Rattle.journal_model.specs.Report.{stopped_total}
use Rattle.journal_model.specs.Verdicts.{AreVerdicts}
use Rattle.node_collectors.specs.Standing.{AreCollectorsAt, is_of_collector}
use Rattle.node_collectors.proofs.StandLemmas.{changes-none}
use Rattle.run_model.specs.Schedule.{IsWithinLimits}
use Rattle.crgc_ids.specs.declared.NoMemory.{NoMemory}
use Rattle.true_config.specs.Applying.{OnDone, UnlessDone}
use Rattle.true_config.specs.declared.applied.Applied.{Applied}
use Rattle.true_config.specs.declared.applied.Applied.TheVariants.{Done, Illegal, Limit}
use Rattle.true_config.specs.Steps.{Adds, MayFollow}
use Rattle.cluster_course.specs.Course.{IsCourse, IsLastFirst, outcome_of}
use Rattle.cluster_course.proofs.Outcomes.{Answers, may-follow}
use Rattle.cluster_course.proofs.Stops.{stops-more}

story-is : (s t : Story) → s.cluster ≡ t.cluster → s.past ≡ t.past → s ≡ t
story-is s t cluster past = λ i. record { cluster = cluster i; past = past i }

-- all verdicts have the last one first
last-of_all : (cl : Cluster) (h : List Event) (rs : List Verdict) → AreVerdicts cl h rs → IsLastFirst cl h rs
last-of_all cl [] rs are = tt
last-of_all cl (Sweep m ∷ p) [] are = are
last-of_all cl (Sweep m ∷ p) (v ∷ rs) are = are.0
last-of_all cl (_ ∷ p) rs are = tt

-- at the start
pub course-begun : (s : Story) (cs : List Collected) (all : Bool) (vs : List Verdict) (nodes : ℕ) → s.past ≡ [] → s.cluster.nodes ≡ nodes → ((cl : Cluster) → cl.nodes ≡ nodes → AreCollectorsAt cl [] cs) → vs ≡ [] → IsCourse s (Some cs) all vs 0
course-begun s cs all vs nodes past count new none = record {
  within = subst (IsWithinLimits s.cluster) (sym past) tt;
  collectors = subst (λ h. AreCollectorsAt s.cluster h cs) (sym past) (new s.cluster count);
  last = subst (λ h. IsLastFirst s.cluster h (reverse vs)) (sym past) tt;
  verdicts = λ _. subst (λ h. AreVerdicts s.cluster h (reverse vs)) (sym past) (subst (λ (xs : List Verdict). AreVerdicts s.cluster [] (reverse xs)) (sym none) tt);
  stopped = sym (ap (λ h. stopped_total s.cluster h) past);
}

-- of a history that others made
pub course-made : (s : Story) (cs : List Collected) (vs : List Verdict) (n : ℕ) → IsWithinLimits s.cluster s.past → AreCollectorsAt s.cluster s.past cs → AreVerdicts s.cluster s.past (reverse vs) → n ≡ stops_in vs → IsCourse s (Some cs) true vs n
course-made s cs vs n within stand are count = record {
  within = within;
  collectors = stand;
  last = last-of_all s.cluster s.past (reverse vs) are;
  verdicts = λ _. are;
  stopped = count ∙ total-stopped s.cluster s.past vs are;
}

-- the history may as well be written as another that is equal
pub course-same : (s t : Story) (cs : Option (List Collected)) (all : Bool) (vs vs' : List Verdict) (n : ℕ) → s ≡ t → vs' ≡ vs → IsCourse s cs all vs n → IsCourse t cs all vs' n
course-same s t cs all vs vs' n same items before =
    subst (λ (xs : List Verdict). IsCourse t cs all xs n) (sym items) (subst (λ (x : Story). IsCourse x cs all vs n) same before)

-- without the collectors
pub course-given_up : (s t : Story) (cs : Option (List Collected)) (all : Bool) (vs vs' : List Verdict) (n : ℕ) → t ≡ s → vs' ≡ vs → IsCourse s cs all vs n → IsCourse t None all vs' n
course-given_up s t cs all vs vs' n same items before =
    let kept : IsCourse s None all vs n = record { within = before.within; collectors = tt; last = before.last; verdicts = before.verdicts; stopped = before.stopped } in
    course-same s t None all vs vs' n (sym same) items kept

verdicts-other : (cl : Cluster) (p : List Event) (e : Event) (vs : List Verdict) → ((m : ℕ) → e ≡ Sweep m → ⊥) → AreVerdicts cl p vs → AreVerdicts cl (e ∷ p) vs
verdicts-other cl p (Sweep m) vs other are = absurd (other m refl)
verdicts-other cl p _ vs other are = are

last-other : (cl : Cluster) (p : List Event) (e : Event) (rs : List Verdict) → ((m : ℕ) → e ≡ Sweep m → ⊥) → IsLastFirst cl (e ∷ p) rs
last-other cl p (Sweep m) rs other = absurd (other m refl)
last-other cl p _ rs other = tt

total-other : (cl : Cluster) (p : List Event) (e : Event) → ((m : ℕ) → e ≡ Sweep m → ⊥) → stopped_total cl (e ∷ p) ≡ stopped_total cl p
total-other cl p (Sweep m) other = absurd (other m refl)
total-other cl p _ other = refl

-- the next event, where it is no sweep
pub course-other : (s s' : Story) (cs cs' : Option (List Collected)) (all : Bool) (vs vs' : List Verdict) (n : ℕ) (e : Event) → IsCourse s cs all vs n → MayFollow e s → Adds e s s' → ((m : ℕ) → e ≡ Sweep m → ⊥) → (all ≡ true → vs' ≡ vs)
    → IfSome cs' (AreCollectorsAt s'.cluster s'.past) → IsCourse s' cs' all vs' n
course-other s s' cs cs' all vs vs' n e before may adds other items stand =
    let t : Story = record { cluster = s.cluster; past = e ∷ s.past } in
    let same = story-is t s' (sym adds.cluster) (sym adds.past) in
    let kept : IsCourse t cs' all vs' n = record {
      within = (may.limit, before.within);
      collectors = subst (λ (x : Story). IfSome cs' (AreCollectorsAt x.cluster x.past)) (sym same) stand;
      last = last-other s.cluster s.past e (reverse vs') other;
      verdicts = λ is. subst (λ (xs : List Verdict). AreVerdicts s.cluster (e ∷ s.past) (reverse xs)) (sym (items is)) (verdicts-other s.cluster s.past e (reverse vs) other (before.verdicts is));
      stopped = before.stopped ∙ sym (total-other s.cluster s.past e other);
    } in
    subst (λ (x : Story). IsCourse x cs' all vs' n) same kept

no_sweep : (e : Event) → is_of_collector e ≡ false → (m : ℕ) → e ≡ Sweep m → ⊥
no_sweep e other m is = (let both : true ≡ false = sym (ap is_of_collector is) ∙ other in absurd (cc))

stands-on : (cl : Cluster) (h : List Event) (cs : Option (List Collected)) (e : Event) → is_of_collector e ≡ false → IfSome cs (AreCollectorsAt cl h) → IfSome cs (AreCollectorsAt cl (e ∷ h))
stands-on cl h None e other stand = tt
stands-on cl h (Some cs) e other stand = changes-none cl h e cs other stand

-- the next event, where it is neither a hand nor a sweep
pub course-plain : (s s' : Story) (cs : Option (List Collected)) (all : Bool) (vs vs' : List Verdict) (n : ℕ) (e : Event) → IsCourse s cs all vs n → MayFollow e s → Adds e s s' → is_of_collector e ≡ false → (all ≡ true → vs' ≡ vs)
    → IsCourse s' cs all vs' n
course-plain s s' cs all vs vs' n e before may adds other items =
    let t : Story = record { cluster = s.cluster; past = e ∷ s.past } in
    let same = story-is t s' (sym adds.cluster) (sym adds.past) in
    course-other s s' cs cs all vs vs' n e before may adds (no_sweep e other) items
    (subst (λ (x : Story). IfSome cs (AreCollectorsAt x.cluster x.past)) same (stands-on s.cluster s.past cs e other before.collectors))

-- an event that is none of a collector
pub of_none : (e : Event) → ((m o k : ℕ) → e ≡ Hand m o k → ⊥) → ((m : ℕ) → e ≡ Sweep m → ⊥) → is_of_collector e ≡ false
of_none (Hand m o k) no_hand no_sweeps = absurd (no_hand m o k refl)
of_none (Sweep m) no_hand no_sweeps = absurd (no_sweeps m refl)
of_none _ no_hand no_sweeps = refl

-- what stood before the last event
pub stood-before : (s s' : Story) (cs : Option (List Collected)) (e : Event) → Adds e s s' → IfSome cs (AreCollectorsAt s.cluster s.past) → IfSome cs (AreCollectorsAt s'.cluster (drop 1 s'.past))
stood-before s s' cs e adds stand =
    let before : s.past ≡ drop 1 s'.past = ap (drop 1) (sym adds.past) in
    subst (λ cl. IfSome cs (AreCollectorsAt cl (drop 1 s'.past))) (sym adds.cluster) (subst (λ p. IfSome cs (AreCollectorsAt s.cluster p)) before stand)

-- the next event, where it is a sweep that finds the verdict
pub course-swept : (s s' : Story) (cs cs' : Option (List Collected)) (all : Bool) (vs mid vs' : List Verdict) (v : Verdict) (n n' m : ℕ) → IsCourse s cs all vs n → MayFollow (Sweep m) s → Adds (Sweep m) s s' → IsVerdict s.cluster m s.past v
    → IfSome cs' (AreCollectorsAt s.cluster (Sweep m ∷ s.past)) → (all ≡ true → mid ≡ vs) → vs' ≡ mid ++ v ∷ [] → n' ≡ n + length v.stops → IsCourse s' cs' all vs' n'
course-swept s s' cs cs' all vs mid vs' v n n' m before may adds is stand items more count =
    let t : Story = record { cluster = s.cluster; past = Sweep m ∷ s.past } in
    let order : reverse vs' ≡ v ∷ reverse mid = ap reverse more ∙ reverse-append mid (v ∷ []) in
    let kept : IsCourse t cs' all vs' n' = record {
      within = (may.limit, before.within);
      collectors = stand;
      last = subst (IsLastFirst s.cluster (Sweep m ∷ s.past)) (sym order) is;
      verdicts = λ every. subst (AreVerdicts s.cluster (Sweep m ∷ s.past)) (sym order)
          (is, subst (λ (xs : List Verdict). AreVerdicts s.cluster s.past (reverse xs)) (sym (items every)) (before.verdicts every));
      stopped = count ∙ ap (λ k. k + length v.stops) before.stopped ∙ stops-more s.cluster m s.past v is;
    } in
    subst (λ (x : Story). IsCourse x cs' all vs' n') (story-is t s' (sym adds.cluster) (sym adds.past)) kept
