-- The beginning of a run: what is left of the seeds and of the ties makes the whole.
use Rattle.std.proofs.Common.{◌≡◌, ◌<◌, ◌+◌, ◌++◌, ℕ, List, [], ◌∷◌, append_assoc, drop, get_or, length, map, None, sym, ◌∙◌, ap, subst}
use Rattle.std.proofs.lemmas.List.{drop_more}
use Rattle.crgc_ids.specs.Actor.{Actor}
use Rattle.history_model.specs.declared.events.Event.{Event}
use Rattle.history_model.specs.declared.events.Event.TheVariants.{Seed, Tie}
use Rattle.history_model.specs.Cluster.{Cluster, newborn}
use Rattle.history_model.specs.Legal.{IsLegal, refusal}
use Rattle.history_model.specs.Rows.{onto}
use Rattle.history_model.specs.Story.{Story}
use Rattle.history_model.proofs.Basics.{legal-before}
use Rattle.script_reader.specs.Valid.{IsScript, Scripted}
use Rattle.script_reader.specs.declared.script.Seed.{Seed as SeedRow}
use Rattle.script_reader.specs.declared.script.Tie.{Tie as TieRow}
use Rattle.true_config.specs.declared.applied.Told.TheVariants.{Born}
use Rattle.run_model.specs.Doing.{beginning, cluster_of, seed_actors, seed_number, seeded, tie_of}
use Rattle.run_model.specs.Schedule.{IsWithinLimits}
use Rattle.script_actors.specs.Standing.{AreActorsAt}
use Rattle.script_actors.proofs.Beginnings.{actor-at, tie-ends}
use Rattle.script_progress.specs.Standing.{IsProgressAt}
use Rattle.script_player.specs.declared.driver.Driver.{Driver}
use Rattle.script_player.specs.declared.fault.RunFault.{RunFault}
use Rattle.script_player.specs.Beginning.{IsBegun, seeds_of}
use Rattle.script_player.specs.Making.{HaltsOn}
use Rattle.script_player.specs.Standing.{IsBetween}
use Rattle.script_player.proofs.Halting.{halts-more}
use Rattle.script_player.proofs.Ranges.{begins-legal}
use Rattle.run_model.proofs.FirstLimits.{IsLonger, longer-again, onto-longer}

abbrev pub seed_of : SeedRow → Event
seed_of x = Seed x.node

-- what is left from these events on, after the history, makes the whole
abbrev pub Makes : List Event → List Event → List Event → Type 0
Makes past left whole = onto past left ≡ whole

-- the course after the first i seeds, and the actors that they are
abbrev pub SeedsLeft : Scripted → ℕ → Story → List Actor → Type 0
SeedsLeft s i c actors =
    (c.cluster ≡ cluster_of s) × IsWithinLimits (cluster_of s) c.past × Makes c.past (map seed_of (drop i s.seeds)) (seeds_of s)
    × (actors ++ seeded (drop i s.seeds) c.past ≡ seed_actors s)

-- the course after all seeds and the first i ties
abbrev pub TiesLeft : Scripted → ℕ → Story → Type 0
TiesLeft s i c = (c.cluster ≡ cluster_of s) × IsWithinLimits (cluster_of s) c.past × Makes c.past (map (tie_of s) (drop i s.ties)) (beginning s)

-- the member at the place is the first one that is left
pub left-next : {A : Type 0} (all items : List A) (i : ℕ) (x : A) → items ≡ all → i < length items → x ≡ get_or items i x → drop i all ≡ x ∷ drop (i + 1) all
left-next all items i x same below is =
    subst (λ xs. drop i xs ≡ x ∷ drop (i + 1) xs) same (drop_more items i x below ∙ ap (λ y. y ∷ drop (i + 1) items) (sym is))

-- the event that comes next stands on the way to the whole
next-longer : (past whole left : List Event) (e : Event) → Makes past (e ∷ left) whole → IsLonger (e ∷ past) whole
next-longer past whole left e makes = (let more = onto-longer (e ∷ past) left in (more.0, sym makes ∙ more.1))

seeds-longer : (s : Scripted) → IsLonger (seeds_of s) (beginning s)
seeds-longer s = onto-longer (seeds_of s) (map (tie_of s) s.ties)

longer-legal : (cl : Cluster) (e : Event) (p h : List Event) → IsLegal cl h → IsLonger (e ∷ p) h → refusal cl e p ≡ None
longer-legal cl e p h legal (q, more) = (legal-before cl q (e ∷ p) (subst (IsLegal cl) more legal)).0

module _ (s : Scripted) (fits : IsScript s) (i : ℕ) (c : Story) where
  -- ---- seeds

  module _ (actors : List Actor) (x : SeedRow) (left : SeedsLeft s i c actors) (next : drop i s.seeds ≡ x ∷ drop (i + 1) s.seeds) where
    seed-makes : Makes c.past (Seed x.node ∷ map seed_of (drop (i + 1) s.seeds)) (seeds_of s)
    seed-makes = sym (ap (λ xs. onto c.past (map seed_of xs)) next) ∙ left.2

    pub seed-legal : refusal c.cluster (Seed x.node) c.past ≡ None
    seed-legal =
        subst (λ cl. refusal cl (Seed x.node) c.past ≡ None) (sym left.0)
        (longer-legal (cluster_of s) (Seed x.node) c.past (beginning s) (begins-legal s fits)
        (longer-again (Seed x.node ∷ c.past) (seeds_of s) (beginning s) (next-longer c.past (seeds_of s) (map seed_of (drop (i + 1) s.seeds)) (Seed x.node) seed-makes) (seeds-longer s)))

    pub seed-halts : (f : RunFault) → HaltsOn c.cluster (Seed x.node ∷ c.past) f → HaltsOn (cluster_of s) (seeds_of s) f
    seed-halts f halts =
        let more = next-longer c.past (seeds_of s) (map seed_of (drop (i + 1) s.seeds)) (Seed x.node) seed-makes in
        halts-more (cluster_of s) (Seed x.node ∷ c.past) (seeds_of s) more.0 f more.1 (subst (λ cl. HaltsOn cl (Seed x.node ∷ c.past) f) left.0 halts)

    pub seed-done : (c' : Story) (child : Actor) → c'.cluster ≡ c.cluster → c'.past ≡ Seed x.node ∷ c.past → IsWithinLimits c'.cluster c'.past → Born child ≡ Born (newborn x.node c.past)
        → SeedsLeft s (i + 1) c' (actors ++ child ∷ [])
    seed-done c' child cluster past within told =
        let same = cluster ∙ left.0 in
        let born : newborn x.node c.past ≡ child = cc in
        let rest = drop (i + 1) s.seeds in (
          same,
          subst (λ cl. IsWithinLimits cl c'.past) same within,
          ap (λ h. onto h (map seed_of rest)) past ∙ seed-makes,
          append_assoc actors (child ∷ []) (seeded rest c'.past)
              ∙ ap (λ h. actors ++ child ∷ seeded rest h) past
              ∙ ap (λ a. actors ++ a ∷ seeded rest (Seed x.node ∷ c.past)) (sym born)
              ∙ sym (ap (λ xs. actors ++ seeded xs c.past) next)
              ∙ left.3,
        )

  -- ---- ties

  module _ (t : TieRow) (left : TiesLeft s i c) (next : drop i s.ties ≡ t ∷ drop (i + 1) s.ties) (e : Event) (is : e ≡ tie_of s t) where
    tie-makes : Makes c.past (e ∷ map (tie_of s) (drop (i + 1) s.ties)) (beginning s)
    tie-makes = ap (λ x. onto (x ∷ c.past) (map (tie_of s) (drop (i + 1) s.ties))) is ∙ sym (ap (λ xs. onto c.past (map (tie_of s) xs)) next) ∙ left.2

    pub tie-legal : refusal c.cluster e c.past ≡ None
    tie-legal =
        subst (λ cl. refusal cl e c.past ≡ None) (sym left.0)
        (longer-legal (cluster_of s) e c.past (beginning s) (begins-legal s fits) (next-longer c.past (beginning s) (map (tie_of s) (drop (i + 1) s.ties)) e tie-makes))

    pub tie-halts : (f : RunFault) → HaltsOn c.cluster (e ∷ c.past) f → HaltsOn (cluster_of s) (beginning s) f
    tie-halts f halts =
        let more = next-longer c.past (beginning s) (map (tie_of s) (drop (i + 1) s.ties)) e tie-makes in
        halts-more (cluster_of s) (e ∷ c.past) (beginning s) more.0 f more.1 (subst (λ cl. HaltsOn cl (e ∷ c.past) f) left.0 halts)

    pub tie-done : (c' : Story) → c'.cluster ≡ c.cluster → c'.past ≡ e ∷ c.past → IsWithinLimits c'.cluster c'.past → TiesLeft s (i + 1) c'
    tie-done c' cluster past within =
        let same = cluster ∙ left.0 in
        (same, subst (λ cl. IsWithinLimits cl c'.past) same within, ap (λ h. onto h (map (tie_of s) (drop (i + 1) s.ties))) past ∙ tie-makes)

-- the next tie, as the loop has it: its ends are seeds, and its event is that of the script
module _ (s : Scripted) (fits : IsScript s) (seeds : List Actor) (are : seeds ≡ seed_actors s) (items : List TieRow) (same : items ≡ s.ties) (i : ℕ) (t : TieRow) (below : i < length items) (is : t ≡ get_or items i t) where
  pub tie-ends_there : (t.from < length seeds) × (t.to < length seeds)
  tie-ends_there = (let ties = fits.ties in tie-ends s seeds are i t ties.pass (subst (λ (xs : List TieRow). i < length xs) same below) (subst (λ xs. t ≡ get_or xs i t) same is))

  pub tie-event : (owner target : Actor) → owner ≡ get_or seeds t.from owner → target ≡ get_or seeds t.to target → Tie owner target ≡ tie_of s t
  tie-event owner target from to =
      ap (λ a. Tie a target) (actor-at s seeds are t.from owner tie-ends_there.0 from) ∙ ap (λ a. Tie (seed_number s t.from) a) (actor-at s seeds are t.to target tie-ends_there.1 to)

-- a halt on the way to the seeds is one on the way to the beginning
pub seeds-halt : (s : Scripted) (f : RunFault) → HaltsOn (cluster_of s) (seeds_of s) f → HaltsOn (cluster_of s) (beginning s) f
seeds-halt s f halts = (let more = seeds-longer s in halts-more (cluster_of s) (seeds_of s) (beginning s) more.0 f more.1 halts)

-- the run at its beginning
pub begun-between : (d : Driver) (s : Scripted) → IsScript s → d.script.value ≡ s → d.nodes ≡ s.nodes → d.code ≡ s.code → IsBegun s (beginning s) d.course
    → AreActorsAt s (beginning s) d.actors → IsProgressAt s (beginning s) d.progress → IsBetween d
begun-between d s fits script nodes code begun actors progress =
    let back = sym script in (
      record {
        script = subst IsScript back fits;
        nodes = nodes ∙ ap (λ (x : Scripted). x.nodes) back;
        code = code ∙ ap (λ (x : Scripted). x.code) back;
        cluster = begun.cluster ∙ ap cluster_of back;
        within = subst (λ x. IsWithinLimits (cluster_of x) d.course.past) back (subst (IsWithinLimits (cluster_of s)) (sym begun.past) begun.within);
        actors = subst (λ x. AreActorsAt x d.course.past d.actors) back (subst (λ h. AreActorsAt s h d.actors) (sym begun.past) actors);
        progress = subst (λ x. IsProgressAt x d.course.past d.progress) back (subst (λ h. IsProgressAt s h d.progress) (sym begun.past) progress);
      },
      (0, ap beginning script ∙ sym begun.past),
    )
