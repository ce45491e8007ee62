-- Rounds of a collecting thread: bulletins, sweeps and questions.
use Rattle.std.proofs.Common.{◌≡◌, ◌⊎◌, ◌++◌, ◌==◌, ◌&&◌, ◌||◌, ◌<◌, ◌≤◌, ◌+◌, ℕ, append_assoc, Bool, true, false, [], ◌∷◌, Option, Some, None, if◌then◌else◌, nat_lt, refl, sym, ◌∙◌, ap, subst, subst₂, inl, inr, arith}
use Rattle.std.specs.Option.{is_some}
use Rattle.std.proofs.lemmas.Bool.{and_parts, cases_lt}
use Rattle.std.proofs.Math.Bool.{or_comm}
use Rattle.turn_lock.specs.History.{calls_of, entry}
use Rattle.turn_lock.specs.Known.{Made}
use Rattle.history_model.specs.declared.records.Verdict.{Verdict}
use Rattle.history_model.specs.Cluster.{Cluster}
use Rattle.history_model.proofs.Basics.{eqb-refl}
use Rattle.gossip_core.specs.Gossip.{Gossip, count_at, kept_at}
use Rattle.run_model.specs.Doing.{cluster_of}
use Rattle.script_reader.specs.Valid.{Scripted}
use Rattle.operation_model.specs.declared.operations.Op.TheVariants as ops
use Rattle.operation_model.specs.declared.replies.Reply.{Reply}
use Rattle.operation_model.specs.declared.replies.Reply.TheVariants as replies
use Rattle.operation_model.specs.Answers.{IsCourse}
use Rattle.operation_model.specs.Deeds.{Deed, claimed, handed, swept, deed_of, over_by}
use Rattle.operation_model.specs.Fits.{Fits}
use Rattle.operation_model.specs.Hands.{given_since, given_since_by, has_claimed}
use Rattle.operation_model.specs.Openings.{IsNew, Opening}
use Rattle.operation_model.specs.Turns.{Calls}
use Rattle.collector.specs.Collected.{Collected, IsSettled, cut_of, flag_at, node_count}
use Rattle.collector.specs.Sweeping.{Compacts, Sweeps}
use Rattle.collector.proofs.NumberLemmas.{is-from, none-of, or-none}
use Rattle.node_collectors.specs.Standing.{SweepsOut}
use Rattle.collected_calls.specs.Collecting.{HasCollected, IsCollectorOf, RemembersMore}
use Rattle.collected_calls.proofs.Answered.{claimed-known, sweep-answered}
use Rattle.collected_calls.proofs.Fitting.{over-neither, own-verdict, verdict-node}
use Rattle.collected_calls.proofs.Following.{follows-compact, follows-other, follows-sweep, follows-untold, remembers-compact}
use Rattle.world_object.specs.State.{ClusterState, as_opening}
use Rattle.cluster_calls.proofs.Same.{same-then}
use Rattle.cluster_calls.specs.Calling.{CanAsk, IsAsked, IsNoHalt, IsSame, Knows, last_reply}
use Rattle.node_threads.specs.Questions.{AsksNothing, EndsDone, EndsOver, IsOver}
use Rattle.node_threads.specs.Pumping.{done_by}
use Rattle.node_threads.specs.Collecting.{AreSwept, HasDropped, HasEnd, HasEnds, IsAllCollected, IsAnswered, IsDown}
use Rattle.node_threads.specs.Fetching.{AllAreFetched, AreFetched, AreFetchedIfNode, AreHands, AreSweeps, CanCollect, EachIsFetched, Ends, Goes, GoesOrEnds, IsFetched, IsRound}
use Rattle.node_threads.proofs.PumpLemmas.{ask-nothing}
use Rattle.node_threads.proofs.HandLemmas.{IsAlike, answered-earlier, answered-later, can_ask-still, ends-of, ends-then, given-more, goes-of, goes-then, goes_on-of, goes_or-then, hands-append, hands-ask}

-- ---- all bulletins of an origin, and of all

-- what was asked before is of the same collector's node
hands-alike : (before after : Collected) (calls : Calls) → after.node ≡ before.node → AreHands before.node calls → AreHands after.node calls
hands-alike before after calls node hands = subst (λ n. AreHands n calls) (sym node) hands

given-alike : (before after : Collected) (later first : Calls) (some any : Bool) → after.node ≡ before.node → AreHands after.node later → given_since after.node later ≡ some → given_since before.node first ≡ any
    → given_since after.node (later ++ first) ≡ (some || any)
given-alike before after later first some any node hands now was =
    given-more after.node later first hands ∙ (λ i. now i || given_since (node i) first) ∙ ap (λ b. some || b) was

module _ (origin : ℕ) (start before after : Collected) (alike : IsAlike before after) (first later : Calls) where
  fetched-then : (some any : Bool) → AreFetched origin start before any first → AreFetched origin before after some later → AreFetched origin start after (some || any) (later ++ first)
  fetched-then some any f l = record {
    hands = hands-append after.node later first l.hands (hands-alike before after first alike.0 f.hands);
    given = given-alike before after later first some any alike.0 l.hands l.given f.given;
    others = λ o apart. l.others o apart ∙ f.others o apart;
  }

  pub one-more : (any : Bool) → AreFetched origin start before any first → IsFetched origin before after true later → AreFetched origin start after true (later ++ first)
  one-more any f l = fetched-then true any f l.0

  pub no-more : (any : Bool) → AreFetched origin start before any first → IsFetched origin before after false later → AllAreFetched origin start after any (later ++ first)
  no-more any f l = (fetched-then false any f l.0, answered-later (ops.Hand after.node origin (cut_of after origin)) replies.Nothing later first (l.1 refl))

pub none-fetched : (origin : ℕ) (c : Collected) → AreFetched origin c c false []
none-fetched origin c = record { hands = tt; given = refl; others = λ o apart. refl }

module _ (lock : Made ClusterState) (old mid new : Knows) (before half after : Collected) (origin : ℕ) (any : Bool) (v : Option Bool)
    (first : Goes lock old mid before half (AreFetched origin before half any)) (next : GoesOrEnds lock mid new half after (IsFetched origin half after) v) where
  pub fetched-one : v ≡ Some true → Goes lock old new before after (AreFetched origin before after true)
  fetched-one is = goes-then lock old mid new before half after (AreFetched origin before half any) (IsFetched origin half after true) (AreFetched origin before after true)
      (λ alike first later. one-more origin before half after alike first later any) first (goes-of lock mid new half after (IsFetched origin half after) v true is next)

  pub fetched-last : v ≡ Some false → Goes lock old new before after (AllAreFetched origin before after any)
  fetched-last is = goes-then lock old mid new before half after (AreFetched origin before half any) (IsFetched origin half after false) (AllAreFetched origin before after any)
      (λ alike first later. no-more origin before half after alike first later any) first (goes-of lock mid new half after (IsFetched origin half after) v false is next)

  pub fetched-down : v ≡ None → Ends lock new before after
  fetched-down is = ends-then lock old mid new before half after (AreFetched origin before half any) first (ends-of lock mid new half after (IsFetched origin half after) v is next)

-- an end that was found stands while the origin's cut does
end-still : (o : ℕ) (before after : Collected) (later first : Calls) → after.node ≡ before.node → cut_of after o ≡ cut_of before o → HasEnd o before first → HasEnd o after (later ++ first)
end-still o before after later first node cut end =
    answered-earlier (ops.Hand after.node o (cut_of after o)) replies.Nothing later first
    (subst₂ (λ n k. IsAnswered (ops.Hand n o k) replies.Nothing first) (sym node) (sym cut) end)

pub each-more : (f : ℕ) (before after : Collected) → IsAlike before after → (first later : Calls) (any some : Bool) → EachIsFetched f before any first → AreFetchedIfNode f before after some later
    → EachIsFetched (f + 1) after (any || some) (later ++ first)
each-more f before after alike first later any some e l = (
    let fetched = l.0 in
    record {
      hands = hands-append after.node later first fetched.hands (hands-alike before after first alike.0 e.hands);
      given = given-alike before after later first some any alike.0 fetched.hands fetched.given e.given ∙ or_comm some any;
      ends = ends;
    }
    )
  where
    ends : HasEnds (f + 1) after (later ++ first)
    ends o below inside = elim (cases_lt o f) [
      | inl under ↦ (
          let fetched = l.0 in
          let nodes = alike.1 in
          end-still o before after later first alike.0 (fetched.others o (λ same. absurd (omega (arith, under, same)))) (e.ends o under (omega (arith, inside, nodes)))
          )
      | inr over ↦ (
          let same : f ≡ o = omega (arith, below, over) in
          answered-later (ops.Hand after.node o (cut_of after o)) replies.Nothing later first
          (subst (λ k. k < node_count after → HasEnd k after later) same l.1 inside)
          )
    ]

pub each-none : (c : Collected) → EachIsFetched 0 c false []
each-none c = record { hands = tt; given = refl; ends = λ o below inside. absurd (omega (arith, below)) }

pub each-all : (f : ℕ) (c : Collected) (any : Bool) (calls : Calls) → 16 ≤ f → EachIsFetched f c any calls → EachIsFetched 16 c any calls
each-all f c any calls most e = record { hands = e.hands; given = e.given; ends = λ o below inside. e.ends o (omega (arith, below, most)) inside }

-- the cluster has no such node
pub skipped : (f : ℕ) (c : Collected) → node_count c ≤ f → AreFetchedIfNode f c c false []
skipped f c beyond = (record { hands = tt; given = refl; others = λ o apart. refl }, λ inside. absurd (omega (arith, inside, beyond)))

pub if-node : (origin f : ℕ) (before after : Collected) → origin ≡ f → (any : Bool) (calls : Calls) → AllAreFetched origin before after any calls → AreFetchedIfNode f before after any calls
if-node origin f before after same any calls all =
    subst (λ k. AreFetchedIfNode k before after any calls) same (all.0, λ _. all.1)

module _ (lock : Made ClusterState) (old mid new : Knows) (before half after : Collected) (f : ℕ) (any : Bool) (v : Option Bool)
    (first : Goes lock old mid before half (EachIsFetched f half any)) (next : GoesOrEnds lock mid new half after (AreFetchedIfNode f half after) v) where
  pub fetched-each : (some : Bool) → v ≡ Some some → Goes lock old new before after (EachIsFetched (f + 1) after (any || some))
  fetched-each some is = goes-then lock old mid new before half after (EachIsFetched f half any) (AreFetchedIfNode f half after some) (EachIsFetched (f + 1) after (any || some))
      (λ alike first later. each-more f half after alike first later any some) first (goes-of lock mid new half after (AreFetchedIfNode f half after) v some is next)

  pub each-down : v ≡ None → Ends lock new before after
  each-down is = ends-then lock old mid new before half after (EachIsFetched f half any) first (ends-of lock mid new half after (AreFetchedIfNode f half after) v is next)

-- ---- sweeps

module _ (lock : Made ClusterState) (old : Knows) (before : Collected) (can : CanCollect lock old before) where
  abbrev o : Opening
  o = as_opening lock.start

  abbrev cl : Cluster
  cl = (let start = lock.start in cluster_of start.script)

  collected : HasCollected cl old.own before
  collected = (let k = can.collector in k.collected)

  -- nothing waits, so all is folded that can be
  pub settled : IsSettled before
  settled x =
      let cut = cut_of before x in
      let end : nat_lt cut cut ≡ false = is-from cut cut (omega arith) in
      none-of (kept_at before.order x cut) (or-none (nat_lt cut cut) (is_some (kept_at before.order x cut)) (collected.none_waits x cut ∙ end)).1

  of_calls : IsCollectorOf cl (calls_of old.number old.seen) before
  of_calls = subst (λ own. IsCollectorOf cl own before) (sym can.calls) can.collector

  module _ (after : Collected) (v : Verdict) (out : SweepsOut before after v) where
    abbrev mid : Collected
    mid = out.0

    sweeps : Sweeps before mid v
    sweeps = out.1

    compacts : Compacts mid after
    compacts = out.2

    here : v.node ≡ before.node
    here = verdict-node o old.seen old.number before mid v can.opening can.course (let k = of_calls in k.collected) sweeps

    node-is : after.node ≡ before.node
    node-is = compacts.node ∙ sweeps.node

    claimed-here : has_claimed v.node (calls_of old.number old.seen) ≡ true
    claimed-here = (λ i. has_claimed (here i) (can.calls i)) ∙ collected.claimed

    -- the verdict fits
    pub can-sweep : given_since before.node old.own ≡ true → Fits o old.seen (ops.Sweep v) old.number
    can-sweep given = (
      can.opening,
      claimed-here,
      (λ i. given_since (here i) (can.calls i)) ∙ given,
      own-verdict o old.seen old.number before mid v can.opening can.course of_calls sweeps,
    )

    module _ (new : Knows) (r : Reply) (asked : IsAsked o (ops.Sweep v) r old new) (on : IsNoHalt r) where
      dropped-out : HasDropped after
      dropped-out a was = compacts.dropped a ∙ (λ i. (a.node == sym compacts.node i) && flag_at (sym compacts.stopped i) a.serial) ∙ was

      own-is : (t : Reply) → r ≡ t → new.own ≡ entry old.number (ops.Sweep v) t ∷ old.own
      own-is t is = asked.own ∙ ap (λ t. entry old.number (ops.Sweep v) t ∷ old.own) is

      sweep-asks : (t : Reply) → AsksNothing (entry old.number (ops.Sweep v) t ∷ [])
      sweep-asks t (inl is) = absurd (cc)
      sweep-asks t (inr is) = is

      goes-swept : r ≡ replies.Done → Goes lock old new before after (AreSweeps before after true)
      goes-swept is = record {
        can = record {
          may = can_ask-still lock old new asked.same can.may;
          opening = can.opening;
          calls = asked.calls;
          course = asked.course;
          collector = subst (λ own. IsCollectorOf cl own after) (sym (own-is replies.Done is))
              (follows-compact cl (entry old.number (ops.Sweep v) replies.Done ∷ old.own) mid after compacts (follows-sweep cl old.own before mid v sweeps old.number here can.collector));
          dropped = dropped-out;
        };
        node = node-is;
        calls = entry old.number (ops.Sweep v) replies.Done ∷ [];
        own = own-is replies.Done is;
        has = record {
          asks = sweep-asks replies.Done;
          clears = λ earlier. (λ i. if (here ∙ sym node-is) i == after.node then false else given_since after.node earlier) ∙ (λ i. if eqb-refl after.node i then false else given_since after.node earlier);
          cuts = λ x. ap (λ (g : Gossip). count_at g x) (compacts.order ∙ sweeps.order);
        };
      }

      ends-swept : r ≡ replies.Down v.node → Ends lock new before after
      ends-swept is =
          let down : r ≡ replies.Down after.node = is ∙ ap replies.Down (here ∙ sym node-is) in
          record {
            node = node-is;
            down = record {
              last = ap last_reply (own-is (replies.Down after.node) down);
              collector = subst (λ own. RemembersMore cl own after) (sym (own-is (replies.Down after.node) down))
                  (remembers-compact cl (entry old.number (ops.Sweep v) (replies.Down after.node) ∷ old.own) mid after compacts
                  (follows-untold cl old.own before mid v sweeps (ops.Sweep v) (replies.Down after.node) old.number refl can.collector));
            };
            dropped = dropped-out;
          }

      -- what comes of it
      pub swept-out : GoesOrEnds lock old new before after (AreSweeps before after) (done_by v.node r)
      swept-out =
          elim (sweep-answered o asked.last.0 old.number r (goes_on-of r on) v
          (claimed-known o old.seen old.number v.node can.course claimed-here) (subst (IsCourse o) asked.last.1 asked.course)) [
            | inl is ↦ subst (λ t. GoesOrEnds lock old new before after (AreSweeps before after) (done_by v.node t)) (sym is) (goes-swept is)
            | inr is ↦ subst (λ t. GoesOrEnds lock old new before after (AreSweeps before after) (done_by v.node t)) (sym is)
                (subst (λ b. GoesOrEnds lock old new before after (AreSweeps before after) (if b then None else Some false)) (sym (eqb-refl v.node)) (ends-swept is))
          ]

-- ---- rounds

pub round-swept : (before after : Collected) (any : Bool) → IsAlike before after → (first later : Calls) → EachIsFetched 16 before true first → AreSweeps before after any later
    → IsRound after any (later ++ first)
round-swept before after any alike first later e s = record {
  asks = ask-nothing first later (hands-ask before.node first e.hands) s.asks;
  ends = λ o below inside.
      (let nodes = alike.1 in end-still o before after later first alike.0 (s.cuts o) (e.ends o below (omega (arith, inside, nodes))));
  swept = s.clears first;
}

pub round-idle : (c : Collected) (calls : Calls) → EachIsFetched 16 c false calls → IsRound c false calls
round-idle c calls e = record { asks = hands-ask c.node calls e.hands; ends = e.ends; swept = e.given }

-- a round that sweeps
pub round-or_swept : (lock : Made ClusterState) (old mid new : Knows) (before half after : Collected) (u : Option Bool) → u ≡ Some true → GoesOrEnds lock old mid before half (EachIsFetched 16 half) u
    → (v : Option Bool) → GoesOrEnds lock mid new half after (AreSweeps half after) v → GoesOrEnds lock old new before after (IsRound after) v
round-or_swept lock old mid new before half after u is first v next =
    goes_or-then lock old mid new before half after (EachIsFetched 16 half true) (AreSweeps half after) (IsRound after)
    (λ any alike first later. round-swept half after any alike first later) (goes-of lock old mid before half (EachIsFetched 16 half) u true is first) v next

-- what was given in the round is to be swept
pub given-round : (lock : Made ClusterState) (old new : Knows) (before after : Collected) → Goes lock old new before after (EachIsFetched 16 after true) → given_since after.node new.own ≡ true
given-round lock old new before after g =
    let e = g.has in
    ap (given_since after.node) g.own ∙ given-more after.node g.calls old.own e.hands ∙ ap (λ b. b || given_since after.node old.own) e.given

-- ---- questions

over-since : (n : ℕ) (r : Reply) (b : Bool) → given_since_by n (over_by r) b ≡ b
over-since n replies.AllDone b = refl
over-since n r b = refl

-- after a question the collector goes with its pass still
pub can-asked : (lock : Made ClusterState) (old new : Knows) (c : Collected) (r : Reply) → CanCollect lock old c → IsAsked (as_opening lock.start) ops.Finished r old new → CanCollect lock new c
can-asked lock old new c r can asked = record {
  may = can_ask-still lock old new asked.same can.may;
  opening = can.opening;
  calls = asked.calls;
  course = asked.course;
  collector = (
      let start = lock.start in
      subst (λ own. IsCollectorOf (cluster_of start.script) own c) (sym asked.own)
      (follows-other (cluster_of start.script) old.own c ops.Finished r old.number (over-neither r) can.collector)
      );
  dropped = can.dropped;
}

by-less : (n : ℕ) (d : Deed) (b c : Bool) → (b ≡ false → c ≡ false) → given_since_by n d b ≡ false → given_since_by n d c ≡ false
by-less n (handed m o k bytes) b c less is = (let parts = or-none (m == n) b is in (λ i. parts.0 i || less parts.1 i))
by-less n (swept v) b c less is = cleared (v.node == n) is
  where
    cleared : (t : Bool) → (if t then false else b) ≡ false → (if t then false else c) ≡ false
    cleared true is = refl
    cleared false is = less is
by-less n (claimed m) b c less is = cleared (m == n) is
  where
    cleared : (t : Bool) → (if t then false else b) ≡ false → (if t then false else c) ≡ false
    cleared true is = refl
    cleared false is = less is
by-less n d b c less is = less is

-- where nothing given waits for its sweep in either, nothing does in both together
swept-both : (n : ℕ) (later first : Calls) → given_since n first ≡ false → given_since n later ≡ false → given_since n (later ++ first) ≡ false
swept-both n [] first was now = was
swept-both n (e ∷ later) first was now = by-less n (deed_of e.op e.reply) (given_since n later) (given_since n (later ++ first)) (swept-both n later first was) now

pub swept-none : (n : ℕ) (own : Calls) → AreSwept n own own
swept-none n own = ([], refl, refl)

pub over-then : (number : ℕ) (done : Bool) (old new : Calls) → EndsOver number done old new → IsOver number done new
over-then number true old new is = (old, is)
over-then number false old new is = tt

-- a round, and the question after it: from `start` on the loop came to `old`
module _ (lock : Made ClusterState) (start old mid new : Knows) (first before after : Collected) (any over : Bool) (r : Reply)
    (same : IsSame start old) (node : before.node ≡ first.node) (earlier : IsOver start.number over old.own) (was : AreSwept first.node start.own old.own)
    (once : IsSame old mid) (g : Goes lock old mid before after (IsRound after any)) (asked : IsAsked (as_opening lock.start) ops.Finished r mid new) where
  round : IsRound after any g.calls
  round = g.has

  pub node-next : after.node ≡ first.node
  node-next = g.node ∙ node

  same-mid : IsSame start mid
  same-mid = same-then start old mid same once

  pub same-next : IsSame start new
  same-next = same-then start mid new same-mid asked.same

  number-is : mid.number ≡ start.number
  number-is = ap (λ (p : Knows). p.number) same-mid

  -- what was swept stays so
  pub swept-next : AreSwept first.node start.own new.own
  swept-next = (
      let n = first.node in
      let calls = g.calls ++ was.0 in (
        entry mid.number ops.Finished r ∷ calls,
        asked.own ∙ ap (λ (own : Calls). entry mid.number ops.Finished r ∷ own) (g.own ∙ ap (λ (own : Calls). g.calls ++ own) was.1 ∙ sym (append_assoc g.calls was.0 start.own)),
        over-since n r (given_since n calls) ∙ swept-both n g.calls was.0 was.2 (ap (λ k. given_since k g.calls) (sym node-next) ∙ round.swept),
      )
      )

  pub over-next : (done : Bool) → EndsOver mid.number done mid.own new.own → IsOver start.number done new.own
  over-next done is = subst (λ n. IsOver n done new.own) number-is (over-then mid.number done mid.own new.own is)

  -- the second time that nothing is left
  pub all-collected : (done : Bool) → (done && over) ≡ true → EndsOver mid.number done mid.own new.own → (let s = lock.start in IsAllCollected s.script start new after)
  all-collected done twice now = (
      let is = and_parts done over twice in
      let ends : EndsOver mid.number true mid.own new.own = subst (λ b. EndsOver mid.number b mid.own new.own) is.0 now in
      let last : IsOver start.number true old.own = subst (λ b. IsOver start.number b old.own) is.1 earlier in
      let finished : Calls → Calls = λ own. entry start.number ops.Finished replies.AllDone ∷ own in
      record {
        collector = (let can = can-asked lock mid new after r g.can asked in can.collector);
        ends = subst (λ n. EndsDone n (HasEnds 16 after) new.own) (sym (ap (λ (p : Knows). p.number) same-next)) (
          g.calls,
          last.0,
          ends ∙ (λ i. entry (number-is i) ops.Finished replies.AllDone ∷ g.own i) ∙ ap (λ (own : Calls). finished (g.calls ++ own)) last.1,
          round.asks,
          round.ends,
        );
        swept = subst (λ n. AreSwept n start.own new.own) (sym node-next) swept-next;
      }
      )

-- ---- the beginning

-- after the first question what the pass has seen is known
pub can-first : (lock : Made ClusterState) (old new : Knows) (before after : Collected) (r : Reply) → IsNew (as_opening lock.start) → (let start = lock.start in IsCollectorOf (cluster_of start.script) old.own before)
    → Compacts before after → CanAsk lock old → IsAsked (as_opening lock.start) ops.Finished r old new → CanCollect lock new after
can-first lock old new before after r opening of_pass compacts may asked = record {
  may = can_ask-still lock old new asked.same may;
  opening = opening;
  calls = asked.calls;
  course = asked.course;
  collector = (
      let start = lock.start in
      subst (λ own. IsCollectorOf (cluster_of start.script) own after) (sym asked.own)
      (follows-other (cluster_of start.script) old.own after ops.Finished r old.number (over-neither r) (follows-compact (cluster_of start.script) old.own before after compacts of_pass))
      );
  dropped = λ a was. compacts.dropped a ∙ (λ i. (a.node == sym compacts.node i) && flag_at (sym compacts.stopped i) a.serial) ∙ was;
}

pub over-first : (lock : Made ClusterState) (old new : Knows) (r : Reply) (done : Bool) → IsAsked (as_opening lock.start) ops.Finished r old new → EndsOver old.number done old.own new.own → IsOver new.number done new.own
over-first lock old new r done asked is =
    subst (λ n. IsOver n done new.own) (sym (ap (λ (p : Knows). p.number) asked.same)) (over-then old.number done old.own new.own is)

-- the first question gave nothing
pub ended-since : (s : Scripted) (start middle new : Knows) (number : ℕ) (r : Reply) (c : Collected) → middle.own ≡ entry number ops.Finished r ∷ start.own
    → IsAllCollected s middle new c ⊎ IsDown s new c → IsAllCollected s start new c ⊎ IsDown s new c
ended-since s start middle new number r c is (inr down) = inr down
ended-since s start middle new number r c is (inl all) = (
    let was = all.swept in
    let first : Calls = entry number ops.Finished r ∷ [] in
    inl (record {
      collector = all.collector;
      ends = all.ends;
      swept = (
        was.0 ++ first,
        was.1 ∙ ap (λ (own : Calls). was.0 ++ own) is ∙ sym (append_assoc was.0 first start.own),
        swept-both c.node was.0 first (over-since c.node r false) was.2,
      );
    })
    )
