-- The verdict of a collector's sweep is one that its pass may tell: whom the pass stopped was dead in a fold within what it was given.
use Rattle.std.proofs.Common.{◌≡◌, ◌==◌, ◌&&◌, ◌||◌, ◌++◌, ◌<◌, ◌≤◌, ℕ, zero, suc, Bool, true, false, cond, not, List, [], ◌∷◌, drop, filter, length, map, slice_get, take, Some, None, if◌then◌else◌, refl, sym, ◌∙◌, ap, subst, inl, inr, arith}
use Rattle.std.specs.List.{list_any}
use Rattle.std.specs.Option.{is_some}
use Rattle.std.proofs.lemmas.Bool.{and_parts, cases_lt, eqb-true, false≢true, ltb-true, ne_eqb, or_cases}
use Rattle.std.proofs.lemmas.List.{append-nil, length-take, length-take-le, take-append-drop, take_all}
use Rattle.std.proofs.lemmas.Option.{none-some, same_Some, slice_get_within}
use Rattle.crgc_ids.specs.Actor.{Actor}
use Rattle.crgc_ids.specs.Members.{IsAmong}
use Rattle.crgc_ids.proofs.MembersLaws.{IsAmong-from_filter}
use Rattle.turn_lock.specs.History.{calls_of, entry}
use Rattle.history_model.specs.declared.events.Event.{Event}
use Rattle.history_model.specs.declared.records.Verdict.{Verdict}
use Rattle.history_model.specs.Cluster.{Cluster}
use Rattle.history_model.specs.Compaction.{IsCompactedVerdict, IsFoldOf, IsWithin, compacted_dead, compacted_stops, nobody}
use Rattle.history_model.specs.Folds.{Fold, is_lost}
use Rattle.history_model.specs.Graph.{holds_actor}
use Rattle.history_model.specs.Legal.{IsLegal}
use Rattle.history_model.specs.Streams.{Notice, stream}
use Rattle.history_model.specs.Sweeps.{dead_of, stop_of}
use Rattle.history_model.proofs.CompactedSweeps.{compacted-nobody, compacted-verdict, fewer-gone, gone-dead, once_dead-gone}
use Rattle.history_model.proofs.CompactionGrowth.{within-trans}
use Rattle.history_model.proofs.FoldSumsKnown.{holds-among}
use Rattle.shadow_graph.specs.Seen.{is_dropped}
use Rattle.shadow_graph.specs.Stands.{IsGraphOf}
use Rattle.run_model.specs.Doing.{cluster_of}
use Rattle.operation_model.specs.declared.operations.Op.{Op}
use Rattle.operation_model.specs.declared.operations.Op.TheVariants as ops
use Rattle.operation_model.specs.declared.replies.Reply.{Reply}
use Rattle.operation_model.specs.declared.replies.Reply.TheVariants as replies
use Rattle.operation_model.specs.Answers.{IsCourse}
use Rattle.operation_model.specs.Courses.{world}
use Rattle.operation_model.specs.Deeds.{Deed, acted_by, carried, claimed, cut, deed_of, flushed, handed, if_done, over_by, published, removed, rested, swept, took_by, woke_by}
use Rattle.behaviour_lang.specs.declared.act.Act.{Act}
use Rattle.operation_model.specs.Fits.{FitsOwn}
use Rattle.operation_model.specs.Hands.{IsGivenFold, IsOwnVerdict, Spells, given, given_by, is_stop_of, own_stopped, stops_actor}
use Rattle.operation_model.specs.Openings.{IsNew, Opening}
use Rattle.operation_model.specs.Turns.{Calls}
use Rattle.operation_model.proofs.CourseLaws.{kept-course}
use Rattle.collector.specs.Collected.{Collected, cut_of, flag_at, folded_of, was_stopped}
use Rattle.collector.specs.Sweeping.{Sweeps, stopped_actors}
use Rattle.collector.specs.Taking.{IsOfStreams}
use Rattle.collector.proofs.NumberLemmas.{from-of, is-from}
use Rattle.collector.proofs.VerdictLemmas.{actors-of}
use Rattle.collected_calls.specs.Collecting.{HasCollected, HaveGiven, IsCollectorOf, is_collecting}
use Rattle.collected_calls.proofs.Following.{given-other, stops-hold, stops-other}
use Rattle.operation_model.proofs.Verdicts.{slice_get-taken}

-- ---- the calls of a pass fitted

abbrev AreFitting : Opening → Calls → Type 0
AreFitting o [] = Unit {0}
AreFitting o (e ∷ earlier) = FitsOwn o earlier e.op × AreFitting o earlier

fitted : (o : Opening) (p : ℕ) (h : Calls) → IsCourse o h → AreFitting o (calls_of p h)
fitted o p [] course = tt
fitted o p (e ∷ h) course =
    elim (e.pass == p) as (λ v. (e.pass == p) ≡ v → AreFitting o (cond v (e ∷ calls_of p h) (calls_of p h))) [
      | true ↦ λ same. (subst (λ q. FitsOwn o (calls_of q h) e.op) (eqb-true e.pass p same) course.0, fitted o p h course.2)
      | false ↦ λ _. fitted o p h course.2
    ] refl

-- a call gives a bulletin, which was not given before; or it tells a verdict that is the pass's own; or it is of neither kind
data Kind (o : Opening) (own : Calls) (op : Op) (r : Reply) : Type 0 where
  hands : (n x k : ℕ) (bytes : List ℕ) → deed_of op r ≡ handed n x k bytes → given n x k own ≡ None → Kind o own op r
  sweeps : (v : Verdict) → deed_of op r ≡ swept v → IsOwnVerdict (cluster_of o.script) own v → Kind o own op r
  neither : is_collecting (deed_of op r) ≡ false → Kind o own op r

done-neither : (d : Deed) (r : Reply) → is_collecting d ≡ false → is_collecting (if_done d r) ≡ false
done-neither d replies.Done is = is
done-neither d r is = refl

woke-neither : (r : Reply) → is_collecting (woke_by r) ≡ false
woke-neither (replies.Turn a b list locals refs root) = refl
woke-neither r = refl

took-neither : (r : Reply) → is_collecting (took_by r) ≡ false
took-neither (replies.Turn a b list locals refs root) = refl
took-neither r = refl

pub over-neither : (r : Reply) → is_collecting (over_by r) ≡ false
over-neither replies.AllDone = refl
over-neither r = refl

kind-hand : (o : Opening) (own : Calls) (n x k : ℕ) (r : Reply) → FitsOwn o own (ops.Hand n x k) → Kind o own (ops.Hand n x k) r
kind-hand o own n x k (replies.Bytes bytes) fits = hands n x k bytes refl fits.1
kind-hand o own n x k r fits = neither refl

kind-sweep : (o : Opening) (own : Calls) (v : Verdict) (r : Reply) → FitsOwn o own (ops.Sweep v) → Kind o own (ops.Sweep v) r
kind-sweep o own v replies.Done fits = sweeps v refl fits.3
kind-sweep o own v r fits = neither refl

acted-neither : (a : Actor) (act : Act) (r : Reply) → is_collecting (acted_by a act r) ≡ false
acted-neither a act (replies.Born c) = refl
acted-neither a act replies.Done = refl
acted-neither a act r = refl

kind : (o : Opening) (own : Calls) (op : Op) (r : Reply) → FitsOwn o own op → Kind o own op r
kind o own (ops.Hand n x k) r fits = kind-hand o own n x k r fits
kind o own (ops.Sweep v) r fits = kind-sweep o own v r fits
kind o own (ops.Claim n) r fits = neither (done-neither (claimed n) r refl)
kind o own ops.Wake r fits = neither (woke-neither r)
kind o own (ops.Take a) r fits = neither (took-neither r)
kind o own (ops.Act a act) r fits = neither (acted-neither a act r)
kind o own (ops.Rest a locals) r fits = neither (done-neither (rested a locals) r refl)
kind o own (ops.Flush a) r fits = neither (done-neither (flushed a) r refl)
kind o own (ops.Publish n) r fits = neither (done-neither (published n) r refl)
kind o own (ops.Window d) r fits = neither (done-neither (cut d) r refl)
kind o own (ops.Remove d) r fits = neither (done-neither (removed d) r refl)
kind o own (ops.Carry f d) r fits = neither (done-neither (carried f d) r refl)
kind o own ops.GiveUp r fits = neither refl
kind o own (ops.Refill skip) r fits = neither refl
kind o own ops.Finished r fits = neither (over-neither r)

-- ---- what was given before

-- all of the fold but what origin o has from number k on
abbrev without : ℕ → ℕ → Fold → Fold
without o k f x = cond (o == x) (take k (f x)) (f x)

without-within : (o k : ℕ) (f : Fold) → IsWithin (without o k f) f
without-within o k f x = elim (o == x) as (λ v. (more : List Notice) × (f x ≡ cond v (take k (f x)) (f x) ++ more)) [
  | true ↦ (drop k (f x), sym (take-append-drop k (f x)))
  | false ↦ ([], sym (append-nil (f x)))
]

within-refl : (f : Fold) → IsWithin f f
within-refl f x = ([], sym (append-nil (f x)))

module _ (m : ℕ) (own later : Calls) (o k : ℕ) (bytes : List ℕ) (fresh : given m o k own ≡ None)
    (next : (x j : ℕ) → given m x j later ≡ (if (o == x) && (k == j) then Some bytes else given m x j own)) (f : Fold) (is : IsGivenFold m later f) where
  -- what another number has was there before
  before : (x j : ℕ) → ((o == x) && (k == j)) ≡ false → given m x j later ≡ given m x j own
  before x j other = next x j ∙ ap (λ t. if t then Some bytes else given m x j own) other

  told-before : (x j : ℕ) (n : Notice) → slice_get (without o k f x) j ≡ Some n → (text : List ℕ) × (given m x j own ≡ Some text) × Spells x text n
  told-before x j n = elim (o == x) as (λ v. (o == x) ≡ v → slice_get (cond v (take k (f x)) (f x)) j ≡ Some n → (text : List ℕ) × (given m x j own ≡ Some text) × Spells x text n) [
    | true ↦ λ _ here.
        let told = is.told x j n (slice_get-taken k (f x) j n here) in
        let under = slice_get_within (take k (f x)) j n here in
        let short = length-take k (f x) in
        let apart : (k == j) ≡ false = ne_eqb k j (λ same. absurd (omega (arith, under, short, same))) in
        (told.0, sym (before x j (ap (λ t. (o == x) && t) apart ∙ and-false (o == x))) ∙ told.1, told.2)
    | false ↦ λ other here.
        let told = is.told x j n here in
        (told.0, sym (before x j (ap (λ t. t && (k == j)) other)) ∙ told.1, told.2)
  ] refl
    where
      and-false : (t : Bool) → (t && false) ≡ false
      and-false true = refl
      and-false false = refl

  -- nothing was there that is not there now
  none-before : (x j : ℕ) → given m x j later ≡ None → given m x j own ≡ None
  none-before x j none = unless ((o == x) && (k == j)) (sym (next x j) ∙ none)
    where
      unless : (t : Bool) → (if t then Some bytes else given m x j own) ≡ None → given m x j own ≡ None
      unless true some = absurd (none-some bytes (sym some))
      unless false same = same

  ends-before : (x : ℕ) → given m x (length (without o k f x)) own ≡ None
  ends-before x = elim (o == x) as (λ v. (o == x) ≡ v → given m x (length (cond v (take k (f x)) (f x))) own ≡ None) [
    | true ↦ λ here.
        elim (cases_lt (length (f x)) k) [
          | inl short ↦ ap (λ xs. given m x (length xs) own) (take_all k (f x) (omega (arith, short))) ∙ none-before x (length (f x)) (is.ends x)
          | inr long ↦ ap (λ j. given m x j own) (length-take-le k (f x) long) ∙ subst (λ y. given m y k own ≡ None) (eqb-true o x here) fresh
        ]
    | false ↦ λ _. none-before x (length (f x)) (is.ends x)
  ] refl

  pub given-before : IsGivenFold m own (without o k f)
  given-before = record { told = told-before; ends = ends-before }

given-still : (m : ℕ) (own later : Calls) (f : Fold) → ((x j : ℕ) → given m x j later ≡ given m x j own) → IsGivenFold m later f → IsGivenFold m own f
given-still m own later f same is = record {
  told = λ x j n here. (let told = is.told x j n here in (told.0, sym (same x j) ∙ told.1, told.2));
  ends = λ x. sym (same x (length (f x))) ∙ is.ends x;
}

-- ---- whom the pass stopped

-- the actor is dead in a fold within this one
abbrev WasDead : Cluster → Actor → Fold → Type 0
WasDead cl a f = (g : Fold) × IsWithin g f × IsAmong a (dead_of cl g)

was_dead-within : (cl : Cluster) (a : Actor) (g f : Fold) → IsWithin g f → WasDead cl a g → WasDead cl a f
was_dead-within cl a g f within was = (was.0, within-trans was.0 g f was.1 within, was.2)

-- whom a verdict stops is dead
stops-dead : (cl : Cluster) (m : ℕ) (stopped : Actor → Bool) (f : Fold) (v : Verdict) (a : Actor) → IsCompactedVerdict cl m nobody stopped f v
    → list_any (is_stop_of a) v.stops ≡ true → IsAmong a (dead_of cl f)
stops-dead cl m stopped f v a verdict stops =
    let lost = is_lost cl f in
    let dead = compacted_dead cl lost nobody f in
    let mine : Actor → Bool = λ b. (b.node == m) && not (stopped b) in
    let actors : stopped_actors v.stops ≡ filter mine dead = ap stopped_actors verdict.stops ∙ actors-of (stop_of cl lost f) (filter mine dead) (λ b. refl) in
    let held : holds_actor (filter mine dead) a ≡ true = ap (λ xs. holds_actor xs a) (sym actors) ∙ sym (stops-hold a v.stops) ∙ stops in
    let among : IsAmong a dead = (IsAmong-from_filter mine a dead ((holds-among (filter mine dead) a).0 held)).0 in
    subst (IsAmong a) (compacted-nobody cl lost f) among

module _ (o : Opening) (m : ℕ) (h : List Event) (legal : IsLegal (cluster_of o.script) h) where
  abbrev cl : Cluster
  cl = cluster_of o.script

  abbrev AllDead : Calls → Type 0
  AllDead own = (f : Fold) → IsFoldOf cl h f → IsGivenFold m own f → (a : Actor) → a.node ≡ m → own_stopped own a ≡ true → WasDead cl a f

  module _ (own : Calls) (all : AllDead own) (pass : ℕ) (op : Op) (r : Reply) where
    abbrev later : Calls
    later = entry pass op r ∷ own

    given-next : (d : Deed) → deed_of op r ≡ d → (x j : ℕ) → given m x j later ≡ given_by m x j d (given m x j own)
    given-next d is x j = ap (λ t. given_by m x j t (given m x j own)) is

    stopped-next : (d : Deed) → deed_of op r ≡ d → (a : Actor) → own_stopped later a ≡ (stops_actor a d || own_stopped own a)
    stopped-next d is a = ap (λ t. stops_actor a t || own_stopped own a) is

    dead-still : ((x j : ℕ) → given m x j later ≡ given m x j own) → ((a : Actor) → own_stopped later a ≡ own_stopped own a) → AllDead later
    dead-still same stopped f fold is a here stops = all f fold (given-still m own later f same is) a here (sym (stopped a) ∙ stops)

    dead-handed : (n x k : ℕ) (bytes : List ℕ) → deed_of op r ≡ handed n x k bytes → given n x k own ≡ None → AllDead later
    dead-handed n x k bytes deed fresh = by-node (n == m) refl
      where
        by-node : (v : Bool) → (n == m) ≡ v → AllDead later
        by-node false other f fold is a at stops = dead-still
            (λ y j. given-next (handed n x k bytes) deed y j ∙ ap (λ t. if t && ((x == y) && (k == j)) then Some bytes else given m y j own) other)
            (stopped-next (handed n x k bytes) deed) f fold is a at stops
        by-node true here f fold is a at stops =
            let unknown : given m x k own ≡ None = subst (λ y. given y x k own ≡ None) (eqb-true n m here) fresh in
            let next : (y j : ℕ) → given m y j later ≡ (if (x == y) && (k == j) then Some bytes else given m y j own) =
            λ y j. given-next (handed n x k bytes) deed y j ∙ ap (λ t. if t && ((x == y) && (k == j)) then Some bytes else given m y j own) here in
            let g = without x k f in
            let within = without-within x k f in
            was_dead-within cl a g f within
            (all g (within-trans g f (λ y. stream cl y h) within fold) (given-before m own later x k bytes unknown next f is) a at (sym (stopped-next (handed n x k bytes) deed a) ∙ stops))

    dead-swept : (v : Verdict) → deed_of op r ≡ swept v → IsOwnVerdict cl own v → AllDead later
    dead-swept v deed verdict f fold is a here stops =
        let before : IsGivenFold m own f = given-still m own later f (given-next (swept v) deed) is in
        elim (or_cases ((v.node == a.node) && list_any (is_stop_of a) v.stops) (own_stopped own a) (sym (stopped-next (swept v) deed a) ∙ stops)) [
          | inl now ↦ (
              let parts = and_parts (v.node == a.node) (list_any (is_stop_of a) v.stops) now in
              let at : v.node ≡ m = eqb-true v.node a.node parts.0 ∙ here in
              let found = verdict h f legal fold (subst (λ n. IsGivenFold n own f) (sym at) before) in
              (f, within-refl f, stops-dead cl v.node (own_stopped own) f v a found parts.1)
              )
          | inr earlier ↦ all f fold before a here earlier
        ]

    dead-next : FitsOwn o own op → AllDead later
    dead-next fits = elim (kind o own op r fits) [
      | hands n x k bytes deed fresh ↦ dead-handed n x k bytes deed fresh
      | sweeps v deed verdict ↦ dead-swept v deed verdict
      | neither other ↦ dead-still (λ x j. given-other m x j (deed_of op r) (given m x j own) other) (λ a. ap (λ t. t || own_stopped own a) (stops-other a (deed_of op r) other))
    ]

  all-dead : (own : Calls) → AreFitting o own → AllDead own
  all-dead [] fit f fold is a here stops = absurd (false≢true stops)
  all-dead (e ∷ own) fit f fold is a here stops = dead-next own (all-dead own fit.1) e.pass e.op e.reply fit.0 f fold is a here stops

-- ---- the verdict

-- tests that agree on m's actors
tests-here : (m : ℕ) (a : Actor) (s t : Bool) → (a.node ≡ m → s ≡ t) → ((a.node == m) && not s) ≡ ((a.node == m) && not t)
tests-here m a s t agree = elim (a.node == m) as (λ v. (a.node == m) ≡ v → (v && not s) ≡ (v && not t)) [
  | true ↦ λ here. ap not (agree (eqb-true a.node m here))
  | false ↦ λ _. refl
] refl

slice_get-there : (xs : List Notice) (j : ℕ) → j < length xs → (n : Notice) × (slice_get xs j ≡ Some n)
slice_get-there [] j less = absurd (omega (arith, less))
slice_get-there (x ∷ xs) zero less = (x, refl)
slice_get-there (x ∷ xs) (suc j) less = slice_get-there xs j (omega (arith, less))

module _ (cl : Cluster) (own : Calls) (c : Collected) (h : HasCollected cl own c) (f : Fold) (is : IsGivenFold c.node own f) where
  -- the fold is what is folded
  long : (o : ℕ) → cut_of c o ≤ length (f o)
  long o = from-of (length (f o)) (cut_of c o) (h.folded o (length (f o)) ∙ ap is_some (is.ends o))

  given-bytes : (o k : ℕ) (bytes : List ℕ) → given c.node o k own ≡ Some bytes → IsOfStreams f o k bytes
  given-bytes o k bytes here =
      let below : k < length (f o) = (
      let less = ltb-true k (cut_of c o) (h.folded o k ∙ ap is_some here) in
      let enough = long o in
      omega (arith, less, enough)
      ) in
      let there = slice_get-there (f o) k below in
      let told = is.told o k there.0 there.1 in
      (there.0, there.1, subst (λ t. Spells o t there.0) (same_Some told.0 bytes (sym told.1 ∙ here)) told.2)

  -- of each origin it is as long
  short : (o : ℕ) → length (f o) ≤ cut_of c o
  short o = elim (cases_lt (cut_of c o) (length (f o))) [
    | inl less ↦ (
        let there = slice_get-there (f o) (cut_of c o) less in
        let told = is.told o (cut_of c o) there.0 there.1 in
        absurd (false≢true (sym (is-from (cut_of c o) (cut_of c o) (omega arith)) ∙ h.folded o (cut_of c o) ∙ ap is_some told.1))
        )
    | inr more ↦ more
  ]

  pub graph-of : IsGraphOf cl f c.graph
  graph-of =
      let fed = h.fed f given-bytes in
      subst (λ g. IsGraphOf cl g c.graph) (λ i o. take_all (cut_of c o) (f o) (short o) i) fed.graph

-- the node of the verdict is the collector's
pub verdict-node : (o : Opening) (h : Calls) (p : ℕ) (old new : Collected) (v : Verdict) → IsNew o → IsCourse o h
    → HasCollected (cluster_of o.script) (calls_of p h) old → Sweeps old new v → v.node ≡ old.node
verdict-node o h p old new v fresh course has sweeping =
    let cl = cluster_of o.script in
    let streams : Fold = λ x. stream cl x (world o h) in
    let kept = kept-course o fresh h course in
    let hands = kept.hands in
    let have : HaveGiven old.node (calls_of p h) streams = λ x k bytes is. (let given = hands.given_is p old.node x k bytes is in (given.notice, given.stands, given.spells)) in
    let fed = has.fed streams have in
    let verdict = sweeping.verdict cl (folded_of old streams) fed.graph in
    verdict.node

pub own-verdict : (o : Opening) (h : Calls) (p : ℕ) (old new : Collected) (v : Verdict) → IsNew o → IsCourse o h
    → IsCollectorOf (cluster_of o.script) (calls_of p h) old → Sweeps old new v → IsOwnVerdict (cluster_of o.script) (calls_of p h) v
own-verdict o h p old new v fresh course of_pass sweeping past f legal fold is =
    let cl = cluster_of o.script in
    let own = calls_of p h in
    let m = old.node in
    let node : v.node ≡ m = verdict-node o h p old new v fresh course of_pass.collected sweeping in
    let given : IsGivenFold m own f = subst (λ n. IsGivenFold n own f) node is in
    let graph = graph-of cl own old of_pass.collected f given in
    let right = once_dead-gone cl (was_stopped old) f (λ a went.
    let here = eqb-true a.node m (and_parts (a.node == m) (flag_at old.stopped a.serial) went).0 in
    all-dead o m past legal own (fitted o p h course) f fold given a here (sym (of_pass.stopped a here) ∙ went)) in
    let gone = gone-dead cl (is_dropped old.graph) f past legal fold (fewer-gone cl (is_dropped old.graph) (was_stopped old) f sweeping.were right) in
    let found = (compacted-verdict cl m (is_dropped old.graph) (was_stopped old) f gone sweeping.were v).0 (sweeping.verdict cl f graph) in
    let tests : (a : Actor) → ((a.node == m) && not (was_stopped old a)) ≡ ((a.node == m) && not (own_stopped own a)) =
    λ a. tests-here m a (was_stopped old a) (own_stopped own a) (of_pass.stopped a) in
    let stops : compacted_stops cl m nobody (was_stopped old) f ≡ compacted_stops cl m nobody (own_stopped own) f =
    (λ i. map (stop_of cl (is_lost cl f) f) (filter (λ a. tests a i) (compacted_dead cl (is_lost cl f) nobody f))) in
    let mine : IsCompactedVerdict cl m nobody (own_stopped own) f v =
    record { node = found.node; cut = found.cut; beyond = found.beyond; lost = found.lost; stops = found.stops ∙ stops } in
    subst (λ n. IsCompactedVerdict cl n nobody (own_stopped own) f v) (sym node) mine
