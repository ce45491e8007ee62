-- What the events of turns make of the parts of a cluster.
use Rattle.std.proofs.Common.{◌≡◌, ◌≤◌, ℕ, Bool, true, false, List, [], ◌∷◌, length, nat_le, option_map, option_to_list, Option, Some, None, refl, sym, ◌∙◌, ap, subst, arith, inl, if◌then◌else◌}
use Rattle.std.proofs.lemmas.Bool.{le-leb}
use Rattle.crgc_ids.proofs.ActorLaws.{same_parts}
use Rattle.crgc_ids.specs.declared.Which.TheVariants.{Actors, Delta, Events}
use Rattle.crgc_ids.specs.Actor.{Actor}
use Rattle.history_model.specs.declared.events.Event.{Event}
use Rattle.history_model.specs.declared.events.Event.TheVariants as events
use Rattle.history_model.specs.Cluster.{births, newborn}
use Rattle.history_model.specs.Legal.{refusal}
use Rattle.history_model.specs.Messages.{Message, waiting}
use Rattle.history_model.specs.Rows.{onto}
use Rattle.history_model.specs.State.{is_busy, is_root, is_up}
use Rattle.behaviour_lang.specs.Bound.{local_names}
use Rattle.script_actors.proofs.TableLemmas.{row-here}
use Rattle.behaviour_lang.specs.declared.act.Act.{Act}
use Rattle.behaviour_lang.specs.declared.act.Act.TheVariants as acts
use Rattle.behaviour_lang.specs.declared.act.List.{List as Lists}
use Rattle.behaviour_lang.specs.declared.act.List.TheVariants as lists
use Rattle.script_reader.specs.Valid.{Scripted}
use Rattle.journal_model.specs.Limits.{passes_actors, passes_delta}
use Rattle.run_model.specs.Doing.{cluster_of, event_of, first_refs, own_name}
use Rattle.run_model.specs.Follows.{added}
use Rattle.run_model.specs.Planned.{crash_due, next_wake}
use Rattle.run_model.specs.Sound.{IsSound}
use Rattle.run_model.proofs.HeldNames.{IsDue}
use Rattle.run_model.proofs.Runs.{sound-due, sound-next}
use Rattle.script_actors.specs.Standing.{AreActorsAt, is_of_no_turn}
use Rattle.script_actors.specs.Table.{AddsRow, IsHere, Table, behaviour_at, names_at, next_on, row}
use Rattle.script_progress.specs.Standing.{IsProgressAt, is_of_no_plan}
use Rattle.script_progress.specs.Used.{Used}
use Rattle.std.specs.Prelude.{Err, IfErr, IfOk, IsSome, Ok, OnOk, Result, is_err}
use Rattle.std.proofs.lemmas.Bool.{false≢true}
use Rattle.true_config.specs.declared.applied.Told.{Told}
use Rattle.true_config.specs.declared.applied.Told.TheVariants.{Taken}
use Rattle.true_config.specs.Applying.{CarriesFew, first_refs as refs_told, is_sweep}
use Rattle.operation_model.specs.declared.operations.Op.{Op}
use Rattle.operation_model.specs.declared.operations.Op.TheVariants as ops
use Rattle.operation_model.specs.declared.replies.Halt.{Halt}
use Rattle.operation_model.specs.declared.replies.Halt.TheVariants.{Limit, Memory}
use Rattle.operation_model.specs.declared.replies.Reply.{Reply}
use Rattle.operation_model.specs.declared.replies.Reply.TheVariants as replies
use Rattle.operation_model.specs.Answers.{AreLegal, IsBegun, MayFollow}
use Rattle.operation_model.specs.Deeds.{Begun}
use Rattle.operation_model.proofs.GrantedTurns.{act-is_due}
use Rattle.operation_model.proofs.LegalGrants.{added-legal}
use Rattle.world_object.specs.declared.parts.ClusterParts.{ClusterParts}
use Rattle.world_object.specs.Answering.{Grants, Halts, HaltsBefore, Happens, IsDone, Makes, events_of, refused_by}
use Rattle.world_object.specs.Standing.{Stands, opening_of}
use Rattle.world_object.specs.State.{names_or_none}
use Rattle.world_object.specs.Turns.{Begins, IsChildless, IsNext, IsPlainAct}
use Rattle.world_object.proofs.Coded.{FitsAct, due-fits}
use Rattle.world_object.proofs.Effects.{act-up, halts-before, happens-done}
use Rattle.world_object.proofs.Standings.{stands-with}

-- the laws of the parts, as the calls that state them give them
abbrev pub ActorsStay : Type 0
ActorsStay = (s : Scripted) (e : Event) (h : List Event) (t : Table) → is_of_no_turn e ≡ true → AreActorsAt s h t → AreActorsAt s (e ∷ h) t

abbrev pub ProgressStays : Type 0
ProgressStays = (s : Scripted) (e : Event) (h : List Event) (p : Used) → is_of_no_plan e ≡ true → IsProgressAt s h p → IsProgressAt s (e ∷ h) p

-- ---- actors and progress changed after the events

module _ (old mid new : ClusterParts) (es : List Event) (t : Table) (u : Used) (happens : Happens es old mid) (others : new ≡ record mid { actors = t; progress = u }) where
  new-is : new ≡ record old { world = mid.world; actors = t; progress = u }
  new-is = others ∙ ap (λ (m : ClusterParts). record m { actors = t; progress = u }) happens.others

  pub makes-changed : Makes es old new
  makes-changed = record {
    follow = happens.follow;
    past = ap (λ (p : ClusterParts). (let w = p.world in w.past)) new-is ∙ happens.past;
    script = ap (λ (p : ClusterParts). p.script.value) new-is;
    claims = ap (λ (p : ClusterParts). p.claims) new-is;
    halt = ap (λ (p : ClusterParts). p.halt) new-is;
    verdicts = ap (λ (p : ClusterParts). p.verdicts) new-is;
  }

  pub stands-changed : Stands old → (let s = old.script.value in let h = onto old.world.past es in AreActorsAt s h t × IsProgressAt s h u × IsSound s h) → Stands new
  stands-changed stands at =
      subst Stands (sym new-is) (stands-with old stands es mid.world happens.cluster happens.past t u at.0 at.1 at.2)

-- ---- turns begin

module _ (old : ClusterParts) (a : Actor) (list : Lists) (refs : List Actor) (root : Bool) (names : List (List ℕ × Actor)) (had : names_at old.actors a ≡ Some names) (root-is : root ≡ is_root a old.world.past) where
  abbrev turn : Begun
  turn = record { actor = a; behaviour = behaviour_at old.actors a; list = list; locals = names; refs = refs; root = root }

  begun : (others : List Actor) → refs ≡ others → IsBegun (opening_of old) [] list others turn
  begun others same = record { behaviour = refl; list_is = refl; names = sym (ap names_or_none had); refs_are = same; root = root-is }

-- the references of the first message
first-same : (ms : List Message) → refs_told ms ≡ first_refs ms
first-same [] = refl
first-same (m ∷ ms) = refl

pub take-grants : (old : ClusterParts) (a : Actor) (refs : List Actor) (root : Bool) (names : List (List ℕ × Actor)) → names_at old.actors a ≡ Some names → root ≡ is_root a old.world.past → refs ≡ refs_told (waiting a old.world.past)
    → Grants old (ops.Take a) (replies.Turn a (behaviour_at old.actors a) lists.Message names refs root)
take-grants old a refs root names had root-is refs-are =
    (turn old a lists.Message refs root names had root-is, refl, refl, begun old a lists.Message refs root names had root-is (first_refs (waiting a old.world.past)) (refs-are ∙ first-same (waiting a old.world.past)))

pub wake-grants : (old : ClusterParts) (a : Actor) (refs : List Actor) (root : Bool) (names : List (List ℕ × Actor)) → names_at old.actors a ≡ Some names → root ≡ is_root a old.world.past → refs ≡ [] → next_wake old.script.value old.world.past ≡ Some a
    → Grants old ops.Wake (replies.Turn a (behaviour_at old.actors a) lists.Wake names refs root)
wake-grants old a refs root names had root-is refs-are next =
    (turn old a lists.Wake refs root names had root-is, refl, next, begun old a lists.Wake refs root names had root-is [] refs-are)

-- the turn has begun
module _ (old mid new : ClusterParts) (e : Event) (a : Actor) (list : Lists) (refs : List Actor) (root : Bool) (u : Used) (r : Reply) (stands : Stands old) (happens : Happens (e ∷ []) old mid)
    (begins : Begins a list refs root (record mid { progress = u }) new r) where
  begun-others : new ≡ record mid { actors = new.actors; progress = u }
  begun-others = begins.others

  pub begun-makes : Makes (e ∷ []) old new
  begun-makes = makes-changed old mid new (e ∷ []) new.actors u happens begun-others

  pub begun-stands : AreActorsAt old.script.value (e ∷ old.world.past) new.actors → IsProgressAt old.script.value (e ∷ old.world.past) u → IsDue old.script.value e old.world.past → Stands new
  begun-stands at used due =
      stands-changed old mid new (e ∷ []) new.actors u happens begun-others stands
      (at, used, sound-next old.script.value e old.world.past stands.sound happens.follow.0 due)

-- ---- acts

module _ (old : ClusterParts) (stands : Stands old) (a : Actor) (act : Act) (next : IsNext old a (Some act)) where
  pub act-is-legal : is_up a.node old.world.past ≡ true → refusal (cluster_of old.script.value) (event_of a (Some act)) old.world.past ≡ None
  act-is-legal up =
      subst (λ v. refusal (cluster_of old.script.value) (event_of a v) old.world.past ≡ None) next.due
      (sound-due old.script.value a old.world.past stands.sound next.busy up)

  pub act-fits : FitsAct old.script.value stands.script.code (Some act)
  act-fits = due-fits old.script.value stands.script.code a old.world.past (Some act) next.due

-- an act is no sweep, and a send has few references
pub act-no_sweep : (a : Actor) (act : Act) (e : Event) → e ≡ event_of a (Some act) → is_sweep e ≡ false
act-no_sweep a act e is = ap is_sweep is ∙ none act
  where
    none : (x : Act) → is_sweep (event_of a (Some x)) ≡ false
    none (acts.Spawn b) = refl
    none (acts.Send t refs) = refl
    none (acts.Drop t) = refl
    none acts.Retire = refl

pub act-few : (old : ClusterParts) (stands : Stands old) (a : Actor) (act : Act) (e : Event) → IsNext old a (Some act) → e ≡ event_of a (Some act) → CarriesFew e
act-few old stands a act e next is = subst CarriesFew (sym is) (few act (act-fits old stands a act next))
  where
    few : (x : Act) → FitsAct old.script.value stands.script.code (Some x) → CarriesFew (event_of a (Some x))
    few (acts.Spawn b) fit = tt
    few (acts.Send t refs) fit = fit
    few (acts.Drop t) fit = tt
    few acts.Retire fit = tt

-- an act that gives birth to nobody is answered that it is done, and is one event
pub childless-grants : (old : ClusterParts) (a : Actor) (act : Act) → IsChildless act → Grants old (ops.Act a act) replies.Done
childless-grants old a (acts.Spawn b) none = absurd none
childless-grants old a (acts.Send t refs) none = refl
childless-grants old a (acts.Drop t) none = refl
childless-grants old a acts.Retire none = refl

pub childless-events : (old : ClusterParts) (a : Actor) (act : Act) → IsChildless act → event_of a (Some act) ∷ [] ≡ events_of old (ops.Act a act) replies.Done
childless-events old a (acts.Spawn b) none = absurd none
childless-events old a (acts.Send t refs) none = refl
childless-events old a (acts.Drop t) none = refl
childless-events old a acts.Retire none = refl

-- acts leave the actors, as the law says it
pub record ActsLeave : Type 0 where
  pub sends : (s : Scripted) (h : List Event) (t : Table) (a to : Actor) (refs : List Actor) → is_busy a h ≡ true → AreActorsAt s h t → AreActorsAt s (events.Send a to refs ∷ h) t
  pub drops : (s : Scripted) (h : List Event) (t : Table) (a target : Actor) → is_busy a h ≡ true → AreActorsAt s h t → AreActorsAt s (events.Drop a target ∷ h) t
  pub retires : (s : Scripted) (h : List Event) (t : Table) (a : Actor) → is_busy a h ≡ true → AreActorsAt s h t → AreActorsAt s (events.Retire a ∷ h) t

module _ (leave : ActsLeave) (stay : ProgressStays) (old : ClusterParts) (stands : Stands old) (a : Actor) where
  acts-leave : (act : Act) → IsChildless act → is_busy a old.world.past ≡ true → AreActorsAt old.script.value (event_of a (Some act) ∷ old.world.past) old.actors
  acts-leave (acts.Spawn b) none busy = absurd none
  acts-leave (acts.Send t refs) none busy = leave.sends old.script.value old.world.past old.actors a t refs busy stands.actors
  acts-leave (acts.Drop t) none busy = leave.drops old.script.value old.world.past old.actors a t busy stands.actors
  acts-leave acts.Retire none busy = leave.retires old.script.value old.world.past old.actors a busy stands.actors

  acts-stay : (act : Act) → IsProgressAt old.script.value (event_of a (Some act) ∷ old.world.past) old.progress
  acts-stay (acts.Spawn b) = stay old.script.value (events.Spawn a) old.world.past old.progress refl stands.progress
  acts-stay (acts.Send t refs) = stay old.script.value (events.Send a t refs) old.world.past old.progress refl stands.progress
  acts-stay (acts.Drop t) = stay old.script.value (events.Drop a t) old.world.past old.progress refl stands.progress
  acts-stay acts.Retire = stay old.script.value (events.Retire a) old.world.past old.progress refl stands.progress

  pub acted-stands : (new : ClusterParts) (act : Act) → IsNext old a (Some act) → IsChildless act → Happens (event_of a (Some act) ∷ []) old new → Stands new
  acted-stands new act next none happens =
      let e = event_of a (Some act) in
      let h = old.world.past in
      let s = old.script.value in
      stands-changed old new new (e ∷ []) old.actors old.progress happens (ap (λ (m : ClusterParts). m) (same-parts new happens)) stands
      (acts-leave act none next.busy, acts-stay act, sound-next s e h stands.sound happens.follow.0 (act-is_due s a h act next.due))
    where
      same-parts : (new : ClusterParts) → Happens (event_of a (Some act) ∷ []) old new → new ≡ record new { actors = old.actors; progress = old.progress }
      same-parts new happens = happens.others ∙ ap (λ (m : ClusterParts). record m { actors = old.actors; progress = old.progress }) (sym happens.others)

  -- a child is born
  pub born-stands : (new mid : ClusterParts) (t : Table) (b : ℕ) → IsNext old a (Some (acts.Spawn b)) → Happens (events.Spawn a ∷ []) (record old { actors = t }) new → AreActorsAt old.script.value (events.Spawn a ∷ old.world.past) t → Stands new
  born-stands new mid t b next happens at =
      let s = old.script.value in
      let h = old.world.past in
      subst Stands (sym happens.others)
      (stands-with old stands (events.Spawn a ∷ []) new.world happens.cluster happens.past t old.progress
      at (acts-stay (acts.Spawn b)) (sound-next s (events.Spawn a) h stands.sound happens.follow.0 (act-is_due s a h (acts.Spawn b) next.due)))

-- ---- rests

-- what is due with a rest keeps what stands
module _ (actors_stay : ActorsStay) (stay : ProgressStays) (s : Scripted) (h : List Event) (t : Table) (u : Used) where
  crashed : (v : Option ℕ) → MayFollow s (option_to_list (option_map events.Crash v)) h → AreActorsAt s h t × IsProgressAt s h u × IsSound s h
      → (let later = onto h (option_to_list (option_map events.Crash v)) in AreActorsAt s later t × IsProgressAt s later u × IsSound s later)
  crashed None follow at = at
  crashed (Some n) follow at = (actors_stay s (events.Crash n) h t refl at.0, stay s (events.Crash n) h u refl at.1, sound-next s (events.Crash n) h at.2 follow.0 tt)

module _ (actors_stay : ActorsStay) (stay : ProgressStays) (old mid new : ClusterParts) (stands : Stands old) (a : Actor) (t : Table) (u : Used) where
  abbrev Rests : List Event
  Rests = events.Rest a ∷ option_to_list (added old.script.value (events.Rest a) old.world.past)

  module _ (happens : Happens Rests old mid) (others : new ≡ record mid { actors = t; progress = u }) where
    pub rested-makes : Makes Rests old new
    rested-makes = makes-changed old mid new Rests t u happens others

    pub rested-stands : AreActorsAt old.script.value (events.Rest a ∷ old.world.past) t → IsProgressAt old.script.value (events.Rest a ∷ old.world.past) u → Stands new
    rested-stands at used =
        let s = old.script.value in
        let h = events.Rest a ∷ old.world.past in
        stands-changed old mid new Rests t u happens others stands
        (crashed actors_stay stay s h t u (crash_due s h) happens.follow.2 (at, used, sound-next s (events.Rest a) old.world.past stands.sound happens.follow.0 tt))

-- ---- links

module _ (actors_stay : ActorsStay) (old mid new : ClusterParts) (stands : Stands old) (e : Event) (u : Used) (happens : Happens (e ∷ []) old mid) (others : new ≡ record mid { progress = u }) where
  on-link : new ≡ record mid { actors = old.actors; progress = u }
  on-link = others ∙ ap (λ (m : ClusterParts). record m { progress = u }) (happens.others ∙ ap (λ (m : ClusterParts). record m { actors = old.actors }) (sym happens.others))

  pub carried-makes : Makes (e ∷ []) old new
  carried-makes = makes-changed old mid new (e ∷ []) old.actors u happens on-link

  pub carried-stands : is_of_no_turn e ≡ true → IsDue old.script.value e old.world.past → IsProgressAt old.script.value (e ∷ old.world.past) u → Stands new
  carried-stands none due used =
      let s = old.script.value in
      let h = old.world.past in
      stands-changed old mid new (e ∷ []) old.actors u happens on-link stands
      (actors_stay s e h old.actors none stands.actors, used, sound-next s e h stands.sound happens.follow.0 due)

-- an event of no turn that uses nothing of the plan
pub quiet-stands : (actors_stay : ActorsStay) (stay : ProgressStays) (old new : ClusterParts) (e : Event) → Stands old → is_of_no_turn e ≡ true → is_of_no_plan e ≡ true → IsDue old.script.value e old.world.past → Happens (e ∷ []) old new → Stands new
quiet-stands actors_stay stay old new e stands no_turn no_plan due happens =
    let s = old.script.value in
    let h = old.world.past in
    subst Stands (sym happens.others)
    (stands-with old stands (e ∷ []) new.world happens.cluster happens.past old.actors old.progress
    (actors_stay s e h old.actors no_turn stands.actors) (stay s e h old.progress no_plan stands.progress) (sound-next s e h stands.sound happens.follow.0 due))

-- ---- births

-- the child that is born next
pub child-next : (old : ClusterParts) → Stands old → (child : Actor) (n k : ℕ) → child.node ≡ n → child.serial ≡ k → k ≡ births n old.world.past → child ≡ next_on old.actors child.node
child-next old stands child n k node serial count =
    let at = stands.actors in
    same_parts child (next_on old.actors child.node) refl (serial ∙ count ∙ ap (λ m. births m old.world.past) (sym node) ∙ sym (at.counts child.node))

pub child-newborn : (old : ClusterParts) (child : Actor) (n k : ℕ) → child.node ≡ n → child.serial ≡ k → k ≡ births n old.world.past → child ≡ newborn n old.world.past
child-newborn old child n k node serial count = same_parts child (newborn n old.world.past) node (serial ∙ count)

-- no serial is left for a child
pub none-born : (old : ClusterParts) → Stands old → (a : Actor) (b k : ℕ) → IsNext old a (Some (acts.Spawn b)) → is_up a.node old.world.past ≡ true → k ≡ births a.node old.world.past → 262144 ≤ k → Halts old (ops.Act a (acts.Spawn b)) (Limit Actors)
none-born old stands a b k next up count past =
    let h = old.world.past in
    let full : passes_actors (events.Spawn a) h ≡ true = le-leb 262144 (births a.node h) (omega (arith, count, past)) in
    (replies.Born (newborn a.node h), refl, (act-is-legal old stands a (acts.Spawn b) next up, inl (ap (λ v. if v then Some Actors else (if passes_delta (cluster_of old.script.value) (events.Spawn a) h then Some Delta else if nat_le 1000000 (length h) then Some Events else None)) full)))

-- ---- turns that have begun are answered

-- the references that were taken
taken_of : Told → List Actor
taken_of (Taken refs) = refs
taken_of told = []

pub taken-same : (told : Told) (refs others : List Actor) → told ≡ Taken others → told ≡ Taken refs → refs ≡ others
unfolding taken_of
taken-same told refs others is had = ap taken_of (sym had ∙ is)

module _ (old mid new : ClusterParts) (a : Actor) (refs : List Actor) (root : Bool) (u : Used) (r : Reply) where
  -- the actor's turn has begun, by that operation
  turn-done : (e : Event) (op : Op) (list : Lists) → Stands old → (happens : Happens (e ∷ []) old mid) → (begins : Begins a list refs root (record mid { progress = u }) new r)
      → ((names : List (List ℕ × Actor)) → names_at old.actors a ≡ Some names → Grants old op (replies.Turn a (behaviour_at old.actors a) list names refs root))
      → ((names : List (List ℕ × Actor)) → e ∷ [] ≡ events_of old op (replies.Turn a (behaviour_at old.actors a) list names refs root)) → IsDone op old new r
  turn-done e op list stands happens begins grants are =
      let same = ap (λ (p : ClusterParts). p.actors) happens.others in
      let names = begins.names in
      let had : names_at old.actors a ≡ Some names = ap (λ t. names_at t a) (sym same) ∙ begins.had in
      let reply : r ≡ replies.Turn a (behaviour_at old.actors a) list names refs root = begins.reply ∙ ap (λ t. replies.Turn a (behaviour_at t a) list names refs root) same in
      subst (IsDone op old new) (sym reply) (record {
        granted = grants names had;
        makes = subst (λ es. Makes es old new) (are names) (begun-makes old mid new e a list refs root u r stands happens begins);
      })

  pub took : Stands old → Happens (events.Take a ∷ []) old mid → Begins a lists.Message refs root (record mid { progress = u }) new r → root ≡ is_root a old.world.past → refs ≡ refs_told (waiting a old.world.past) → IsDone (ops.Take a) old new r
  took stands happens begins root-is refs-are =
      turn-done (events.Take a) (ops.Take a) lists.Message stands happens begins (λ names had. take-grants old a refs root names had root-is refs-are) (λ names. refl)

  pub woke : Stands old → Happens (events.Wake a ∷ []) old mid → Begins a lists.Wake refs root (record mid { progress = u }) new r → root ≡ is_root a old.world.past → refs ≡ [] → next_wake old.script.value old.world.past ≡ Some a → IsDone ops.Wake old new r
  woke stands happens begins root-is refs-are next =
      turn-done (events.Wake a) ops.Wake lists.Wake stands happens begins (λ names had. wake-grants old a refs root names had root-is refs-are next) (λ names. refl)

-- a turn that would begin halts the cluster
some-names : (v : Option (List (List ℕ × Actor))) → IsSome v → (names : List (List ℕ × Actor)) × (v ≡ Some names)
some-names None some = absurd (false≢true some)
some-names (Some names) some = (names, refl)

pub take-halts : (old : ClusterParts) (a : Actor) (why : Halt) → IsSome (names_at old.actors a) → HaltsBefore old (events.Take a ∷ []) why → Halts old (ops.Take a) why
take-halts old a (Limit limit) some halts =
    let names = some-names (names_at old.actors a) some in
    let refs = refs_told (waiting a old.world.past) in
    let root = is_root a old.world.past in
    (replies.Turn a (behaviour_at old.actors a) lists.Message names.0 refs root, take-grants old a refs root names.0 names.1 refl refl, halts)
take-halts old a Memory some halts = tt

pub wake-halts : (old : ClusterParts) (a : Actor) (why : Halt) → IsSome (names_at old.actors a) → next_wake old.script.value old.world.past ≡ Some a → HaltsBefore old (events.Wake a ∷ []) why → Halts old ops.Wake why
wake-halts old a (Limit limit) some next halts =
    let names = some-names (names_at old.actors a) some in
    let root = is_root a old.world.past in
    (replies.Turn a (behaviour_at old.actors a) lists.Wake names.0 [] root, wake-grants old a [] root names.0 names.1 refl refl next, halts)
wake-halts old a Memory some next halts = tt

-- ---- acts are answered

module _ (old new : ClusterParts) (a : Actor) (act : Act) (e : Event) (none : IsChildless act) (is : e ≡ event_of a (Some act)) where
  are-events : e ∷ [] ≡ events_of old (ops.Act a act) replies.Done
  are-events = ap (λ x. x ∷ []) is ∙ childless-events old a act none

  pub plain-done : (r : Result Reply Halt) → IfOk r (λ x. x ≡ replies.Done) → OnOk r (Happens (e ∷ []) old new) → IfOk r (IsDone (ops.Act a act) old new)
  plain-done (Ok x) reply happens = subst (IsDone (ops.Act a act) old new) (sym reply) (happens-done (ops.Act a act) old new replies.Done (e ∷ []) (childless-grants old a act none) are-events happens)
  plain-done (Err why) reply happens = tt

  pub plain-halts : (r : Result Reply Halt) → IfErr r (HaltsBefore old (e ∷ [])) → IfErr r (Halts old (ops.Act a act))
  plain-halts (Ok x) halts = tt
  plain-halts (Err why) halts = halts-before (ops.Act a act) old replies.Done (e ∷ []) why (childless-grants old a act none) are-events halts

-- an act that is due, and gives birth to nobody, is a plain one
pub plain-act : (old : ClusterParts) → Stands old → (a : Actor) (act : Act) (e : Event) → IsNext old a (Some act) → IsChildless act → e ≡ event_of a (Some act) → refused_by old (ops.Act a act) ≡ None → IsPlainAct old a e
plain-act old stands a act e next none is may = record {
  act = act;
  next = next;
  childless = none;
  is = is;
  legal = subst (λ x. refusal (cluster_of old.script.value) x old.world.past ≡ None) (sym is) (act-is-legal old stands a act next (act-up old a act may));
}

-- what is due with a rest is legal
pub rest-legal : (old : ClusterParts) → Stands old → (a : Actor) → IsNext old a None → is_up a.node old.world.past ≡ true → AreLegal old.script.value (events.Rest a ∷ option_to_list (added old.script.value (events.Rest a) old.world.past)) old.world.past
rest-legal old stands a next up =
    let s = old.script.value in
    let h = old.world.past in
    let sound = stands.sound in
    let legal = subst (λ v. refusal (cluster_of s) (event_of a v) h ≡ None) next.due (sound-due s a h sound next.busy up) in
    (legal, added-legal s h sound.0 (events.Rest a) legal)

-- ---- a birth, and what undoes it

pub was-ok : {A B : Type 0} (r : Result A B) (X : Type 0) → is_err r ≡ false → OnOk r X → X
was-ok (Ok a) X fine ok = ok
was-ok (Err e) X fine ok = absurd (false≢true (sym fine))

-- the row of the child, as it was added
pub record HasBorn (before after : Table) (child : Actor) (b : ℕ) : Type 0 where
  pub names : List (List ℕ × Actor)
  pub own : local_names names ≡ own_name child
  pub adds : AddsRow before after child (row b (Some names))

pub undone : (old made : ClusterParts) (t u : Table) → made ≡ record old { actors = t } → u ≡ old.actors → record made { actors = u } ≡ old
undone old made t u same back = ap (λ (m : ClusterParts). record m { actors = u }) same ∙ ap (λ x. record old { actors = x }) back

-- the child is there
pub born-here : (before after : Table) (child : Actor) (b : ℕ) → HasBorn before after child b → IsHere after child
born-here before after child b born = (let adds = born.adds in row-here after child (row b (Some born.names)) adds.is_row)
