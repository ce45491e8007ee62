-- The hands of a pass, and how its collector goes on with them.
use Rattle.std.proofs.Common.{◌≡◌, ◌++◌, ◌==◌, ◌&&◌, ◌||◌, ◌<◌, ℕ, append_assoc, Bool, true, false, List, [], ◌∷◌, Option, Some, None, if◌then◌else◌, nat_lt, refl, sym, ◌∙◌, ap, subst, subst₂, inl, inr, arith}
use Rattle.std.specs.Option.{is_some}
use Rattle.std.proofs.lemmas.Bool.{cases_lt, false≢true, ne_eqb}
use Rattle.turn_lock.specs.History.{calls_of, entry}
use Rattle.turn_lock.specs.Known.{Made}
use Rattle.history_model.specs.Cluster.{Cluster}
use Rattle.history_model.proofs.Basics.{eqb-refl}
use Rattle.gossip_core.specs.Gossip.{IsFirstMissing}
use Rattle.run_model.specs.Doing.{cluster_of}
use Rattle.operation_model.specs.declared.operations.Op.{Op}
use Rattle.operation_model.specs.declared.operations.Op.TheVariants as ops
use Rattle.operation_model.specs.declared.replies.Reply.{Reply}
use Rattle.operation_model.specs.declared.replies.Reply.TheVariants as replies
use Rattle.operation_model.specs.Answers.{IsCourse}
use Rattle.operation_model.specs.Deeds.{handed_by, deed_of}
use Rattle.operation_model.specs.Fits.{Fits}
use Rattle.operation_model.specs.Hands.{given, given_since, given_since_by, has_claimed}
use Rattle.operation_model.specs.Openings.{Opening}
use Rattle.operation_model.specs.Turns.{Calls}
use Rattle.collector.specs.Collected.{Collected, cut_of, flag_at, node_count}
use Rattle.collector.specs.Taking.{IsTaken, Takes}
use Rattle.collector.proofs.NumberLemmas.{is-below, is-from, key-self, none-of}
use Rattle.node_collectors.specs.Standing.{IsRead}
use Rattle.collected_calls.specs.Collecting.{HasCollected, IsCollectorOf, is_collecting}
use Rattle.collected_calls.proofs.Answered.{GoesOn, HandAnswer, has_bytes, has_none, is_down, hand-answered}
use Rattle.collected_calls.proofs.Following.{follows-hand, follows-other, missing-cut, remembers-stopped}
use Rattle.collected_calls.proofs.Reading.{given-read}
use Rattle.world_object.specs.State.{ClusterState, as_opening}
use Rattle.cluster_calls.specs.Calling.{CanAsk, IsAsked, IsNoHalt, IsSame, Knows, last_reply}
use Rattle.node_threads.specs.Questions.{AsksNothing}
use Rattle.node_threads.specs.Collecting.{HasDropped, IsAnswered}
use Rattle.node_threads.specs.Fetching.{AreHands, CanCollect, CanFold, Ends, Goes, GoesOrEnds, IsFetched, IsFolded, KeepsOthers}

-- ---- one of the calls

pub answered-later : (op : Op) (r : Reply) (later earlier : Calls) → IsAnswered op r later → IsAnswered op r (later ++ earlier)
answered-later op r [] earlier is = absurd is
answered-later op r (e ∷ later) earlier (inl is) = inl is
answered-later op r (e ∷ later) earlier (inr is) = inr (answered-later op r later earlier is)

pub answered-earlier : (op : Op) (r : Reply) (later earlier : Calls) → IsAnswered op r earlier → IsAnswered op r (later ++ earlier)
answered-earlier op r [] earlier is = is
answered-earlier op r (e ∷ later) earlier is = inr (answered-earlier op r later earlier is)

-- ---- hands

hand-asks : (node o k : ℕ) → ops.Hand node o k ≡ ops.Finished → ⊥
hand-asks node o k is = absurd (cc)

-- hands ask nothing
pub hands-ask : (node : ℕ) (calls : Calls) → AreHands node calls → AsksNothing calls
hands-ask node [] hands is = is
hands-ask node (e ∷ calls) hands (inl is) = (let hand = hands.0 in hand-asks node hand.0 hand.1 (sym hand.2 ∙ is))
hands-ask node (e ∷ calls) hands (inr is) = hands-ask node calls hands.1 is

pub hands-append : (node : ℕ) (later first : Calls) → AreHands node later → AreHands node first → AreHands node (later ++ first)
hands-append node [] first hands before = before
hands-append node (e ∷ later) first hands before = (hands.0, hands-append node later first hands.1 before)

or-assoc : (a b c : Bool) → (a || (b || c)) ≡ ((a || b) || c)
or-assoc true b c = refl
or-assoc false b c = refl

hand-since : (node o k : ℕ) (r : Reply) (b c : Bool) → given_since_by node (handed_by node o k r) (b || c) ≡ (given_since_by node (handed_by node o k r) b || c)
hand-since node o k (replies.Bytes bytes) b c = or-assoc (node == node) b c
hand-since node o k r b c = refl

-- hands only add to what was given
pub given-more : (node : ℕ) (later first : Calls) → AreHands node later → given_since node (later ++ first) ≡ (given_since node later || given_since node first)
given-more node [] first hands = refl
given-more node (e ∷ later) first hands =
    let hand = hands.0 in
    let deed : deed_of e.op e.reply ≡ handed_by node hand.0 hand.1 e.reply = ap (λ op. deed_of op e.reply) hand.2 in
    ap (λ d. given_since_by node d (given_since node (later ++ first))) deed
    ∙ ap (given_since_by node (handed_by node hand.0 hand.1 e.reply)) (given-more node later first hands.1)
    ∙ hand-since node hand.0 hand.1 e.reply (given_since node later) (given_since node first)
    ∙ ap (λ d. given_since_by node d (given_since node later) || given_since node first) (sym deed)

-- a number is told by what is below it
same-number : (a b : ℕ) → ((k : ℕ) → nat_lt k a ≡ nat_lt k b) → a ≡ b
same-number a b same = elim (cases_lt a b) [
  | inl less ↦ absurd (false≢true (sym (is-from a a (omega arith)) ∙ same a ∙ is-below a b less))
  | inr more ↦ elim (cases_lt b a) [
    | inl less ↦ absurd (false≢true (sym (is-from b b (omega arith)) ∙ sym (same b) ∙ is-below b a less))
    | inr from ↦ omega (arith, more, from)
  ]
]

-- ---- the pass and its collector go on

pub can_ask-still : (lock : Made ClusterState) (old new : Knows) → IsSame old new → CanAsk lock old → CanAsk lock new
can_ask-still lock old new same may = record { lock_is = ap (λ (p : Knows). p.origin) same ∙ may.lock_is; sound = may.sound }

-- the cluster goes on, as the answer tells
pub goes_on-of : (r : Reply) → IsNoHalt r → GoesOn r
goes_on-of r on why is = subst IsNoHalt is on

-- the same collector's node, and as many nodes
abbrev pub IsAlike : Collected → Collected → Type 0
IsAlike before after = (after.node ≡ before.node) × (node_count after ≡ node_count before)

pub goes-none : (lock : Made ClusterState) (pass : Knows) (c : Collected) (P : Calls → Type 0) → CanCollect lock pass c → P [] → Goes lock pass pass c c P
goes-none lock pass c P can none = record { can = can; node = refl; calls = []; own = refl; has = none }

module _ (lock : Made ClusterState) (old mid new : Knows) (before half after : Collected) where
  alike : (P Q : Calls → Type 0) → Goes lock old mid before half P → Goes lock mid new half after Q → IsAlike half after
  alike P Q first later = (
    later.node,
    (let a = first.can.collector in let b = later.can.collector in b.collected.nodes ∙ sym a.collected.nodes),
  )

  pub goes-then : (P Q R : Calls → Type 0) → (IsAlike half after → (first later : Calls) → P first → Q later → R (later ++ first))
      → Goes lock old mid before half P → Goes lock mid new half after Q → Goes lock old new before after R
  goes-then P Q R both first later = record {
    can = later.can;
    node = later.node ∙ first.node;
    calls = later.calls ++ first.calls;
    own = later.own ∙ ap (λ (own : Calls). later.calls ++ own) first.own ∙ sym (append_assoc later.calls first.calls old.own);
    has = both (alike P Q first later) first.calls later.calls first.has later.has;
  }

  pub ends-then : (P : Calls → Type 0) → Goes lock old mid before half P → Ends lock new half after → Ends lock new before after
  ends-then P first later = record { node = later.node ∙ first.node; down = later.down; dropped = later.dropped }

  pub goes_or-then : (P : Calls → Type 0) (Q R : Bool → Calls → Type 0) → ((any : Bool) → IsAlike half after → (first later : Calls) → P first → Q any later → R any (later ++ first))
      → Goes lock old mid before half P → (v : Option Bool) → GoesOrEnds lock mid new half after Q v → GoesOrEnds lock old new before after R v
  goes_or-then P Q R both first None later = ends-then P first later
  goes_or-then P Q R both first (Some any) later = goes-then P (Q any) (R any) (both any) first later

pub goes-weaker : (lock : Made ClusterState) (old new : Knows) (before after : Collected) (P R : Calls → Type 0) → ((calls : Calls) → P calls → R calls)
    → Goes lock old new before after P → Goes lock old new before after R
goes-weaker lock old new before after P R weaker g = record { can = g.can; node = g.node; calls = g.calls; own = g.own; has = weaker g.calls g.has }

pub goes_or-weaker : (lock : Made ClusterState) (old new : Knows) (before after : Collected) (Q R : Bool → Calls → Type 0) → ((any : Bool) (calls : Calls) → Q any calls → R any calls)
    → (v : Option Bool) → GoesOrEnds lock old new before after Q v → GoesOrEnds lock old new before after R v
goes_or-weaker lock old new before after Q R weaker None ends = ends
goes_or-weaker lock old new before after Q R weaker (Some any) g =
    record { can = g.can; node = g.node; calls = g.calls; own = g.own; has = weaker any g.calls g.has }

pub goes-of : (lock : Made ClusterState) (old new : Knows) (before after : Collected) (Q : Bool → Calls → Type 0) (v : Option Bool) (any : Bool) → v ≡ Some any
    → GoesOrEnds lock old new before after Q v → Goes lock old new before after (Q any)
goes-of lock old new before after Q v any is = subst (GoesOrEnds lock old new before after Q) is

pub ends-of : (lock : Made ClusterState) (old new : Knows) (before after : Collected) (Q : Bool → Calls → Type 0) (v : Option Bool) → v ≡ None
    → GoesOrEnds lock old new before after Q v → Ends lock new before after
ends-of lock old new before after Q v is = subst (GoesOrEnds lock old new before after Q) is

-- ---- one hand

module _ (lock : Made ClusterState) (old : Knows) (before : Collected) (can : CanCollect lock old before) where
  abbrev o : Opening
  o = as_opening lock.start

  abbrev cl : Cluster
  cl = (let start = lock.start in cluster_of start.script)

  collected : HasCollected cl old.own before
  collected = (let k = can.collector in k.collected)

  module _ (node x number : ℕ) (here : node ≡ before.node) (first : IsFirstMissing before.order x number) where
    cut : number ≡ cut_of before x
    cut = missing-cut cl old.own before x number collected first

    -- it fits
    pub can-hand : Fits o old.seen (ops.Hand node x number) old.number
    can-hand = (
      (λ i. has_claimed (here i) (can.calls i)) ∙ collected.claimed,
      (λ i. given (here i) x (cut i) (can.calls i)) ∙ none-of (given before.node x (cut_of before x) old.own) (sym (collected.folded x (cut_of before x)) ∙ is-from (cut_of before x) (cut_of before x) (omega arith)),
    )

    module _ (new : Knows) (r : Reply) (asked : IsAsked o (ops.Hand node x number) r old new) (on : IsNoHalt r) where
      answer : HandAnswer node number r
      answer = hand-answered o asked.last.0 old.number r (goes_on-of r on) node x number (subst (IsCourse o) asked.last.1 asked.course)

      may : CanAsk lock new
      may = can_ask-still lock old new asked.same can.may

      -- the hand, as the collector sees it
      own-is : (t : Reply) → r ≡ t → new.own ≡ entry old.number (ops.Hand before.node x (cut_of before x)) t ∷ old.own
      own-is t is = asked.own ∙ (λ i. entry old.number (ops.Hand (here i) x (cut i)) (is i) ∷ old.own)

      given-here : (bytes : List ℕ) → r ≡ replies.Bytes bytes → given node x number (calls_of old.number new.seen) ≡ Some bytes
      given-here bytes is =
          let same : calls_of old.number new.seen ≡ entry old.number (ops.Hand node x number) (replies.Bytes bytes) ∷ old.own =
          ap (λ n. calls_of n new.seen) (sym (ap (λ (p : Knows). p.number) asked.same)) ∙ asked.calls ∙ asked.own ∙ ap (λ t. entry old.number (ops.Hand node x number) t ∷ old.own) is in
          ap (given node x number) same ∙ (λ i. if eqb-refl node i && key-self x number i then Some bytes else given node x number old.own)

      -- what was given can be taken, and is read
      pub can-fold : x < node_count before → CanFold (node_count before) x number r
      can-fold inside = elim answer [
        | has_bytes bytes is below ↦ subst (CanFold (node_count before) x number) (sym is) (
          below,
          (let nodes = collected.nodes in
              subst (λ n. IsRead n x bytes) (sym nodes)
              (given-read o new.seen old.number node x number bytes can.opening asked.course (subst (λ n. x < n) nodes inside) (given-here bytes is))),
        )
        | has_none is ↦ subst (CanFold (node_count before) x number) (sym is) tt
        | is_down is ↦ subst (CanFold (node_count before) x number) (sym is) tt
      ]

      other-collector : (t : Reply) → r ≡ t → is_collecting (deed_of (ops.Hand before.node x (cut_of before x)) t) ≡ false → IsCollectorOf cl new.own before
      other-collector t is other =
          subst (λ own. IsCollectorOf cl own before) (sym (own-is t is)) (follows-other cl old.own before (ops.Hand before.node x (cut_of before x)) t old.number other can.collector)

      goes-nothing : r ≡ replies.Nothing → Goes lock old new before before (IsFetched x before before false)
      goes-nothing is = record {
        can = record { may = may; opening = can.opening; calls = asked.calls; course = asked.course; collector = other-collector replies.Nothing is refl; dropped = can.dropped };
        node = refl;
        calls = entry old.number (ops.Hand before.node x (cut_of before x)) replies.Nothing ∷ [];
        own = own-is replies.Nothing is;
        has = (record { hands = ((x, cut_of before x, refl), tt); given = refl; others = λ y apart. refl }, λ _. inl (refl, refl));
      }

      ends-down : r ≡ replies.Down node → Ends lock new before before
      ends-down is =
          let down : r ≡ replies.Down before.node = is ∙ ap replies.Down here in
          record {
            node = refl;
            down = record {
              last = ap last_reply (own-is (replies.Down before.node) down);
              collector = remembers-stopped cl new.own before (other-collector (replies.Down before.node) down refl);
            };
            dropped = can.dropped;
          }

      module _ (bytes : List ℕ) (is : r ≡ replies.Bytes bytes) (after : Collected) (takes : Takes x number bytes before after) (taken : IsTaken x number after) where
        collector-next : IsCollectorOf cl new.own after
        collector-next =
            subst (λ own. IsCollectorOf cl own after) (sym (own-is (replies.Bytes bytes) is))
            (follows-hand cl old.own before after x bytes old.number (subst (λ k. Takes x k bytes before after) cut takes) (subst (λ k. IsTaken x k after) cut taken) can.collector)

        others-keep : KeepsOthers x before after
        others-keep y apart = same-number (cut_of after y) (cut_of before y) (λ k.
            (let now = collector-next in let was = can.collector in
            now.collected.folded y k
            ∙ ap (λ (own : Calls). is_some (given after.node y k own)) (own-is (replies.Bytes bytes) is)
            ∙ ap (λ n. is_some (given n y k (entry old.number (ops.Hand before.node x (cut_of before x)) (replies.Bytes bytes) ∷ old.own))) takes.goes_on.node
            ∙ (λ i. is_some (if (before.node == before.node) && (ne_eqb x y (λ e. apart (sym e)) i && (cut_of before x == k)) then Some bytes else given before.node y k old.own))
            ∙ and-last (before.node == before.node) k y
            ∙ sym (was.collected.folded y k)))
          where
            and-last : (b : Bool) (k y : ℕ) → is_some (if b && false then Some bytes else given before.node y k old.own) ≡ is_some (given before.node y k old.own)
            and-last true k y = refl
            and-last false k y = refl

        dropped-still : HasDropped after
        dropped-still a was = (let g = takes.goes_on in g.dropped a ∙ can.dropped a ((λ i. (a.node == sym g.node i) && flag_at (sym g.stopped i) a.serial) ∙ was))

        goes-fetched : Goes lock old new before after (IsFetched x before after true)
        goes-fetched = (
            let g = takes.goes_on in
            record {
              can = record { may = may; opening = can.opening; calls = asked.calls; course = asked.course; collector = collector-next; dropped = dropped-still };
              node = g.node;
              calls = entry old.number (ops.Hand before.node x (cut_of before x)) (replies.Bytes bytes) ∷ [];
              own = own-is (replies.Bytes bytes) is;
              has = (
                record {
                  hands = ((x, cut_of before x, ap (λ n. ops.Hand n x (cut_of before x)) (sym g.node)), tt);
                  given = (λ i. (before.node == g.node i) || false) ∙ (λ i. eqb-refl before.node i || false);
                  others = others-keep;
                },
                λ no. absurd (false≢true (sym no)),
              );
            }
            )

      -- what comes of it
      pub fetched : (more : Option Bool) (after : Collected) → IsFolded x number r before after more → GoesOrEnds lock old new before after (IsFetched x before after) more
      fetched more after folded = elim answer [
        | has_bytes bytes is below ↦ (
            let f = subst (λ t. IsFolded x number t before after more) is folded in
            subst (GoesOrEnds lock old new before after (IsFetched x before after)) (sym f.0) (goes-fetched bytes is after f.1 f.2)
            )
        | has_none is ↦ (
            let f = subst (λ t. IsFolded x number t before after more) is folded in
            subst₂ (λ c v. GoesOrEnds lock old new before c (IsFetched x before c) v) (sym f.1) (sym f.0) (goes-nothing is)
            )
        | is_down is ↦ (
            let f = subst (λ t. IsFolded x number t before after more) is folded in
            subst₂ (λ c v. GoesOrEnds lock old new before c (IsFetched x before c) v) (sym f.1) (sym f.0) (ends-down is)
            )
      ]
