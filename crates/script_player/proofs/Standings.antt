-- What stands after the next event, or several.
use Rattle.std.proofs.Common.{◌≡◌, ◌<◌, ◌%◌, ◌==◌, ℕ, suc, Bool, true, false, cond, List, [], ◌∷◌, ◌++◌, length, Some, None, refl, sym, ◌∙◌, ap, subst, arith}
use Rattle.std.specs.List.{find, list_all}
use Rattle.std.proofs.lemmas.Bool.{ne_eqb}
use Rattle.std.proofs.lemmas.Option.{none-some, same_Some}
use Rattle.crgc_ids.specs.Actor.{Actor}
use Rattle.history_model.specs.declared.events.Event.{Event}
use Rattle.history_model.specs.declared.events.Event.TheVariants.{Drop, Retire, Send}
use Rattle.history_model.specs.Cluster.{Cluster, newborn}
use Rattle.history_model.specs.Legal.{refusal}
use Rattle.history_model.specs.State.{is_busy}
use Rattle.history_model.specs.Story.{Story}
use Rattle.history_model.proofs.AccountsBirths.{born-on_node}
use Rattle.script_reader.specs.Valid.{IsScript, Scripted}
use Rattle.true_config.specs.declared.applied.Told.TheVariants.{Born}
use Rattle.run_model.specs.Doing.{cluster_of}
use Rattle.run_model.specs.Planned.{is_possible}
use Rattle.run_model.specs.Round.{is_of_round, round}
use Rattle.run_model.specs.Schedule.{IsWithinLimits, carries, one_more, rounded, schedule}
use Rattle.run_model.specs.Turns.{IsUnderWay}
use Rattle.run_model.specs.declared.run_laws.TheConstants.{TURNS_PER_ROUND}
use Rattle.run_model.proofs.ActsLegal.{busy-born}
use Rattle.script_actors.specs.Standing.{AreActorsAt}
use Rattle.script_actors.specs.Table.{Table}
use Rattle.script_progress.specs.Standing.{IsProgressAt, is_of_no_plan}
use Rattle.script_progress.specs.Used.{Used}
use Rattle.script_player.specs.declared.driver.Driver.{Driver}
use Rattle.script_player.specs.declared.fault.RunFault.{RunFault}
use Rattle.script_player.specs.Making.{HaltsOn, IsCarriedNext, IsScheduled}
use Rattle.script_player.specs.Reported.{IsRunFault}
use Rattle.script_player.specs.Standing.{IsBetween, IsPlainAct, Stands, StandsAt}
use Rattle.script_player.proofs.Halting.{halts-scheduled}
use Rattle.script_player.proofs.Schedules.{schedule-next}
use Rattle.run_model.proofs.Possible.{no-rule}

-- with a longer history, for which the actors and the progress stand
pub stands-next : (d d' : Driver) (h : List Event) → Stands d → d'.script.value ≡ d.script.value → d'.nodes ≡ d.nodes → d'.code ≡ d.code
    → d'.course.cluster ≡ d.course.cluster → d'.course.past ≡ h → IsWithinLimits d'.course.cluster d'.course.past
    → AreActorsAt d.script.value h d'.actors → IsProgressAt d.script.value h d'.progress → StandsAt h d'
stands-next d d' h stands script nodes code cluster past within actors progress =
    let back = sym script in
    let same : d'.course.cluster ≡ cluster_of d'.script.value = cluster ∙ stands.cluster ∙ ap cluster_of back in (
      record {
        script = subst IsScript back stands.script;
        nodes = nodes ∙ stands.nodes ∙ ap (λ (x : Scripted). x.nodes) back;
        code = code ∙ stands.code ∙ ap (λ (x : Scripted). x.code) back;
        cluster = same;
        within = subst (λ cl. IsWithinLimits cl d'.course.past) same within;
        actors = subst (λ x. AreActorsAt x d'.course.past d'.actors) back (subst (λ p. AreActorsAt d.script.value p d'.actors) (sym past) actors);
        progress = subst (λ x. IsProgressAt x d'.course.past d'.progress) back (subst (λ p. IsProgressAt d.script.value p d'.progress) (sym past) progress);
      },
      past,
    )

-- the schedule makes one thing more
pub between-next : (d d' : Driver) (g : List Event) → IsScheduled d.script.value d.course.past → one_more d.script.value d.course.past ≡ Some g
    → d'.script.value ≡ d.script.value → StandsAt g d' → IsBetween d'
between-next d d' g (k, made) more script (stands, past) =
    (stands, (suc k, ap (λ x. schedule x (suc k)) script ∙ schedule-next d.script.value d.course.past k g made more ∙ sym past))

-- where only the course goes on
pub stands-course : (d : Driver) (c : Story) (h : List Event) → Stands d → c.cluster ≡ d.course.cluster → c.past ≡ h → IsWithinLimits c.cluster c.past
    → AreActorsAt d.script.value h d.actors → IsProgressAt d.script.value h d.progress → StandsAt h (record d { course = c })
stands-course d c h stands cluster past within actors progress =
    stands-next d (record d { course = c }) h stands refl refl refl cluster past within actors progress

-- where the plan is used too
pub stands-both : (d : Driver) (c : Story) (p : Used) (h : List Event) → Stands d → c.cluster ≡ d.course.cluster → c.past ≡ h → IsWithinLimits c.cluster c.past
    → AreActorsAt d.script.value h d.actors → IsProgressAt d.script.value h p → StandsAt h (record d { course = c; progress = p })
stands-both d c p h stands cluster past within actors progress =
    stands-next d (record d { course = c; progress = p }) h stands refl refl refl cluster past within actors progress

-- by a round
pub stands-round : (d : Driver) (c : Story) → Stands d → c.cluster ≡ d.course.cluster → c.past ≡ round d.course.cluster d.course.past → IsWithinLimits c.cluster c.past
    → ((cl : Cluster) (h : List Event) → (q : List Event) × (round cl h ≡ q ++ h) × (list_all is_of_round q ≡ true))
    → ((s : Scripted) (q h : List Event) (t : Table) → list_all is_of_round q ≡ true → AreActorsAt s h t → AreActorsAt s (q ++ h) t)
    → ((s : Scripted) (q h : List Event) (p : Used) → list_all is_of_round q ≡ true → IsProgressAt s h p → IsProgressAt s (q ++ h) p)
    → StandsAt (round (cluster_of d.script.value) d.course.past) (record d { course = c })
stands-round d c stands cluster past within adds actors progress =
    let s = d.script.value in
    let h = d.course.past in
    let more = adds (cluster_of s) h in
    stands-course d c (round (cluster_of s) h) stands cluster (past ∙ ap (λ cl. round cl h) stands.cluster) within
    (subst (λ x. AreActorsAt s x d.actors) (sym more.1) (actors s more.0 h d.actors more.2 stands.actors))
    (subst (λ x. IsProgressAt s x d.progress) (sym more.1) (progress s more.0 h d.progress more.2 stands.progress))

-- a round comes where the number of ended turns divides, and else not
pub rounded-true : (s : Scripted) (turns n : ℕ) (h : List Event) → n ≡ turns → n % TURNS_PER_ROUND ≡ 0 → rounded s turns h ≡ round (cluster_of s) h
rounded-true s turns n h same divides =
    ap (λ v. elim v as (λ _. List Event) [ true ↦ round (cluster_of s) h | false ↦ h ])
    (subst (λ k. (k % TURNS_PER_ROUND == 0) ≡ true) same (rw divides refl))

pub rounded-false : (s : Scripted) (turns n : ℕ) (h : List Event) → n ≡ turns → (n % TURNS_PER_ROUND ≡ 0 → ⊥) → rounded s turns h ≡ h
rounded-false s turns n h same rest =
    ap (λ v. elim v as (λ _. List Event) [ true ↦ round (cluster_of s) h | false ↦ h ])
    (subst (λ k. (k % TURNS_PER_ROUND == 0) ≡ false) same (ne_eqb (n % TURNS_PER_ROUND) 0 rest))

-- ---- acts

-- a child that is born next has its place in the table
pub child-here : (d : Driver) (a child : Actor) → Stands d → IsUnderWay d.script.value a d.course.past → Born child ≡ Born (newborn a.node d.course.past) → child.node < length d.actors
child-here d a child stands under told =
    let cl = cluster_of d.script.value in
    let h = d.course.past in
    let born = busy-born cl h under.legal a under.busy in
    let node = born-on_node cl h under.legal a born in
    let same : child ≡ newborn a.node h = cc in
    let nodes = ap (λ (x : Actor). x.node) same in
    let many = stands.actors.nodes in
    omega (arith, node, nodes, many)

-- an act that gives birth to nobody leaves the actors and the plan
pub plain-actors : ((s : Scripted) (h : List Event) (t : Table) (a to : Actor) (refs : List Actor) → is_busy a h ≡ true → AreActorsAt s h t → AreActorsAt s (Send a to refs ∷ h) t)
    → ((s : Scripted) (h : List Event) (t : Table) (a target : Actor) → is_busy a h ≡ true → AreActorsAt s h t → AreActorsAt s (Drop a target ∷ h) t)
    → ((s : Scripted) (h : List Event) (t : Table) (a : Actor) → is_busy a h ≡ true → AreActorsAt s h t → AreActorsAt s (Retire a ∷ h) t)
    → (s : Scripted) (h : List Event) (t : Table) (a : Actor) (e : Event) → IsPlainAct a e → is_busy a h ≡ true → AreActorsAt s h t → AreActorsAt s (e ∷ h) t
plain-actors sends drops retires s h t a (Send b to refs) plain busy are = subst (λ x. AreActorsAt s (Send x to refs ∷ h) t) (sym plain.0) (sends s h t a to refs busy are)
plain-actors sends drops retires s h t a (Drop b target) plain busy are = subst (λ x. AreActorsAt s (Drop x target ∷ h) t) (sym plain) (drops s h t a target busy are)
plain-actors sends drops retires s h t a (Retire b) plain busy are = subst (λ x. AreActorsAt s (Retire x ∷ h) t) (sym plain) (retires s h t a busy are)
plain-actors sends drops retires s h t a _ plain busy are = absurd plain

pub plain-no_plan : (a : Actor) (e : Event) → IsPlainAct a e → is_of_no_plan e ≡ true
plain-no_plan a (Send b to refs) plain = refl
plain-no_plan a (Drop b target) plain = refl
plain-no_plan a (Retire b) plain = refl
plain-no_plan a _ plain = absurd plain

-- ---- carries

pub found-passes : {X : Type 0} (test : X → Bool) (xs : List X) (x : X) → find test xs ≡ Some x → test x ≡ true
found-passes test [] x e = absurd (none-some x e)
found-passes test (y ∷ xs) x e =
    elim (test y) as (λ v. test y ≡ v → cond v (Some y) (find test xs) ≡ Some x → test x ≡ true) [
      | true ↦ λ passes here. subst (λ z. test z ≡ true) (same_Some y x here) passes
      | false ↦ λ _ later. found-passes test xs x later
    ] refl e

-- what is carried next is legal
pub carried-legal : (d : Driver) (e f : Event) → Stands d → IsCarriedNext d.script.value e d.course.past → e ≡ f → refusal d.course.cluster f d.course.past ≡ None
carried-legal d e f stands next same =
    let s = d.script.value in
    let h = d.course.past in
    subst (λ cl. refusal cl f h ≡ None) (sym stands.cluster)
    (subst (λ x. refusal (cluster_of s) x h ≡ None) same (no-rule (refusal (cluster_of s) e h) (found-passes (λ x. is_possible s x h) (carries s h) e next)))

-- where it is one thing of the schedule, so a halt on it is one of the schedule
pub halts-next : (s : Scripted) (h g : List Event) (f : RunFault) → IsScheduled s h → one_more s h ≡ Some g → HaltsOn (cluster_of s) g f → IsRunFault s f
halts-next s h g f (k, made) more halts = halts-scheduled s (suc k) g f (schedule-next s h k g made more) halts
