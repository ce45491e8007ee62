-- Tests of quiet sets and quiet points that compute, and that what passes them is one. The moments of `Examples` are shown
-- by them.
use Rattle.std.proofs.Common.{◌≡◌, ◌≢◌, ◌<◌, ◌≤◌, ◌&&◌, ◌||◌, ◌==◌, ℕ, Bool, true, false, not, if◌then◌else◌, cond, nat_lt, List, [], ◌∷◌, ◌++◌, length, is_none, Option, Some, None, flat_map, refl, sym, ◌∙◌, ap, subst, inl, inr, arith, IsTrue, IsFalse}
use Rattle.std.proofs.lemmas.Bool.{and_parts, cases_lt, eqb-true, false≢true, lt-ltb, ltb-true, ne_eqb, not-true, or_cases}
use Rattle.std.specs.List.{list_all, list_any}
use Rattle.crgc_ids.specs.Actor.{Actor}
use Rattle.crgc_ids.specs.Members.{IsAmong}
use Rattle.crgc_ids.specs.Nodes.{nodes_below}
use Rattle.crgc_ids.proofs.MembersLaws.{IsAmong-append_left, IsAmong-append_right, IsAmong-range, list_all-true, list_any-member}
use Rattle.history_model.specs.declared.events.Event.{Event}
use Rattle.history_model.specs.declared.events.Event.TheVariants.{Flush, Publish}
use Rattle.history_model.specs.Cluster.{Cluster, is_born}
use Rattle.history_model.specs.Messages.{Message, sent, message_at, waiting, was_admitted, copies, is_closed}
use Rattle.history_model.specs.Held.{held}
use Rattle.history_model.specs.State.{is_busy, is_root, is_up}
use Rattle.history_model.specs.Streams.{can_flush, entry, is_blank, queue, stream}
use Rattle.history_model.specs.Folds.{cut_at}
use Rattle.history_model.specs.Graph.{holds_actor}
use Rattle.history_model.specs.Legal.{refusal, IsLegal}
use Rattle.history_model.specs.Quiescent.{IsOnLink, IsLive, IsQuietSet, IsQuietPoint}
use Rattle.history_model.specs.Live.{actors_of, is_under_way}
use Rattle.history_model.specs.Rows.{is_legal}
use Rattle.history_model.proofs.Basics.{legal-kept}
use Rattle.history_model.proofs.AccountsBirths.{born-on_node, message_at-among, sent-among, sent-born}
use Rattle.history_model.proofs.CompletenessTold.{blank-empty}
use Rattle.history_model.proofs.FoldSumsKnown.{holds-among}
use Rattle.history_model.proofs.Lists.{IsAmong-flat_map, place-within}
use Rattle.history_model.proofs.LiveCounts.{actors_of-born, place-has}
use Rattle.history_model.proofs.SoundnessQuiet.{got-born, live-born}

-- ---- legality

is_none-none : {A : Type 0} (o : Option A) → is_none o ≡ true → o ≡ None
is_none-none None e = refl
is_none-none (Some x) e = absurd (false≢true e)

-- what tests as legal is legal
pub legal-test : (cl : Cluster) (h : List Event) → is_legal cl h ≡ true → IsLegal cl h
legal-test cl [] t = tt
legal-test cl (e ∷ p) t =
    let both = and_parts (is_none (refusal cl e p)) (is_legal cl p) t in
    (is_none-none (refusal cl e p) both.0, legal-test cl p both.1)

-- ---- all actors and messages there are

-- all actors born so far
abbrev born_actors : Cluster → List Event → List Actor
born_actors cl h = flat_map (λ n. actors_of n h) (nodes_below cl.nodes)

node-among : (n k : ℕ) → k < n → IsAmong k (nodes_below n)
node-among n k below = IsAmong-range k 0 n (omega arith) (omega (arith, below))

born-among : (cl : Cluster) (h : List Event) → IsLegal cl h → (a : Actor) → IsTrue (is_born a h) → IsAmong a (born_actors cl h)
born-among cl h legal a born =
    let node = node-among cl.nodes a.node (born-on_node cl h legal a born) in
    IsAmong-flat_map (λ n. actors_of n h) a a.node (nodes_below cl.nodes) node (actors_of-born h a born)

-- message number k of the link, where it is under way
abbrev message_under_way : ℕ → ℕ → List Event → ℕ → List Message
message_under_way s d h k = if is_under_way s d h k then message_at s d k h else []

-- what is under way from s to d, another node that is up
abbrev messages_to : List Event → ℕ → ℕ → List Message
messages_to h s d = if (s == d) || not (is_up d h) then [] else flat_map (message_under_way s d h) (nodes_below (length (sent s d h)))

-- what is under way from s
abbrev messages_from : Cluster → List Event → ℕ → List Message
messages_from cl h s = flat_map (messages_to h s) (nodes_below cl.nodes)

-- what waits for b, where its node is up
abbrev takeable : List Event → Actor → List Message
takeable h b = if is_up b.node h then waiting b h else []

-- what waits for the actors of nodes that are up, and what is under way
abbrev live_messages : Cluster → List Event → List Message
live_messages cl h = flat_map (takeable h) (born_actors cl h) ++ flat_map (messages_from cl h) (nodes_below cl.nodes)

-- the ends of a message under way are nodes of the cluster
on_link-nodes : (cl : Cluster) (h : List Event) → IsLegal cl h → (m : Message) → IsOnLink h m → (m.from.node < cl.nodes) × (m.to.node < cl.nodes)
on_link-nodes cl h legal m on =
    let there : IsAmong m (message_at m.from.node m.to.node on.0 h) = subst (IsAmong m) (sym on.1) (inl refl) in
    let born = sent-born cl h legal m (sent-among m.from.node m.to.node h m (message_at-among m.from.node m.to.node on.0 h m there)).0 in
    (born-on_node cl h legal m.from born.0, born-on_node cl h legal m.to born.1)

on_link-among : (h : List Event) (m : Message) → IsTrue (is_up m.to.node h) → IsOnLink h m → IsAmong m (messages_to h m.from.node m.to.node)
on_link-among h m up on =
    let s = m.from.node in
    let d = m.to.node in
    let here : IsAmong m (message_under_way s d h on.0) =
    rw (on.2, on.3, lt-ltb 0 (copies s d on.0 h) on.4) (subst (IsAmong m) (sym on.1) (inl refl)) in
    let number = node-among (length (sent s d h)) on.0 (place-within (sent s d h) on.0 m on.1) in
    let all = IsAmong-flat_map (message_under_way s d h) m on.0 (nodes_below (length (sent s d h))) number here in
    rw (ne_eqb s d on.5, up) all

-- what is live is among these
live-among : (cl : Cluster) (h : List Event) → IsLegal cl h → (m : Message) → IsLive h m → IsAmong m (live_messages cl h)
live-among cl h legal m live =
    let nodes = nodes_below cl.nodes in
    let waits = flat_map (takeable h) (born_actors cl h) in
    let on_links = flat_map (messages_from cl h) nodes in
    elim live.1 [
      | inl there ↦
          let born = born-among cl h legal m.to (live-born cl h legal m live) in
          IsAmong-append_left m waits on_links (IsAmong-flat_map (takeable h) m m.to (born_actors cl h) born (rw live.0 there))
      | inr on ↦
          let ends = on_link-nodes cl h legal m on in
          let here = on_link-among h m live.0 on in
          let from = IsAmong-flat_map (messages_to h m.from.node) m m.to.node nodes (node-among cl.nodes m.to.node ends.1) here in
          let all = IsAmong-flat_map (messages_from cl h) m m.from.node nodes (node-among cl.nodes m.from.node ends.0) from in
          IsAmong-append_right m waits on_links all
    ]

-- ---- quiet sets

-- the actor is born, idle and no root
abbrev is_at_rest : List Event → Actor → Bool
is_at_rest h a = is_born a h && (not (is_busy a h) && not (is_root a h))

-- the message goes to an actor of the list or carries one
abbrev touches : List Actor → Message → Bool
touches q m = list_any (holds_actor q) (m.to ∷ m.refs)

abbrev are_untouched : Cluster → List Event → List Actor → Bool
are_untouched cl h q = list_all (λ m. not (touches q m)) (live_messages cl h)

-- b is on the list, or its node is not up, or it holds none of the list
abbrev is_no_holder : Cluster → List Event → List Actor → Actor → Bool
is_no_holder cl h q b = holds_actor q b || (not (is_up b.node h) || not (list_any (λ a. nat_lt 0 (held cl b a h)) q))

abbrev are_held_within : Cluster → List Event → List Actor → Bool
are_held_within cl h q = list_all (is_no_holder cl h q) (born_actors cl h)

abbrev pub is_quiet_set : Cluster → List Event → List Actor → Bool
is_quiet_set cl h q = list_all (is_at_rest h) q && (are_untouched cl h q && are_held_within cl h q)

-- what passes is one
pub quiet_set-test : (cl : Cluster) (h : List Event) (q : List Actor) → is_legal cl h ≡ true → is_quiet_set cl h q ≡ true → IsQuietSet cl h q
quiet_set-test cl h q legal_test test =
    let legal = legal-test cl h legal_test in
    let parts = and_parts (list_all (is_at_rest h) q) (are_untouched cl h q && are_held_within cl h q) test in
    let others = and_parts (are_untouched cl h q) (are_held_within cl h q) parts.1 in
    let rest : (a : Actor) → IsAmong a q → IsTrue (is_born a h) × IsFalse (is_busy a h) × IsFalse (is_root a h) = λ a member.
    let born = and_parts (is_born a h) (not (is_busy a h) && not (is_root a h)) (list_all-true (is_at_rest h) a q parts.0 member) in
    let still = and_parts (not (is_busy a h)) (not (is_root a h)) born.1 in
    (born.0, not-true (is_busy a h) still.0, not-true (is_root a h) still.1) in
    let untouched : (m : Message) → IsLive h m → (a : Actor) → IsAmong a (m.to ∷ m.refs) → ¬ IsAmong a q = λ m live a named member.
    let no = not-true (touches q m) (list_all-true (λ x. not (touches q x)) m (live_messages cl h) others.0 (live-among cl h legal m live)) in
    false≢true (sym no ∙ list_any-member (holds_actor q) a (m.to ∷ m.refs) named ((holds-among q a).1 member)) in
    record {
      born = λ a member. (rest a member).0;
      idle = λ a member. (rest a member).1;
      no_root = λ a member. (rest a member).2;
      no_mail = λ m live member. untouched m live m.to (inl refl) member;
      not_carried = λ m live a member carried. untouched m live a (inr carried) member;
      holders = λ b a member up some.
          let born = got-born cl h legal b a (omega (arith, some)) in
          let holds = list_any-member (λ x. nat_lt 0 (held cl b x h)) a q member (lt-ltb 0 (held cl b a h) some) in
          let either = list_all-true (is_no_holder cl h q) b (born_actors cl h) others.1 (born-among cl h legal b born) in
          elim (or_cases (holds_actor q b) (not (is_up b.node h) || not (list_any (λ x. nat_lt 0 (held cl b x h)) q)) either) [
            | inl is_member ↦ (holds-among q b).0 is_member
            | inr none ↦ absurd (false≢true (rw (up, holds) at none))
          ];
    }

-- ---- quiet points

-- what holds of all pairs of nodes of the cluster
abbrev all_links : Cluster → (ℕ → ℕ → Bool) → Bool
all_links cl test = list_all (λ s. list_all (test s) (nodes_below cl.nodes)) (nodes_below cl.nodes)

link-true : (cl : Cluster) (test : ℕ → ℕ → Bool) (s d : ℕ) → all_links cl test ≡ true → s < cl.nodes → d < cl.nodes → test s d ≡ true
link-true cl test s d all from to =
    let row = list_all-true (λ x. list_all (test x) (nodes_below cl.nodes)) s (nodes_below cl.nodes) all (node-among cl.nodes s from) in
    list_all-true (test s) d (nodes_below cl.nodes) row (node-among cl.nodes d to)

-- each number sent from s to d was admitted or has a copy, where the two differ and are up
abbrev arrives : List Event → ℕ → ℕ → ℕ → Bool
arrives h s d k = was_admitted s d k h || nat_lt 0 (copies s d k h)

abbrev is_delivered : List Event → ℕ → ℕ → Bool
is_delivered h s d =
    (s == d) || ((not (is_up s h) || not (is_up d h)) || list_all (arrives h s d) (nodes_below (length (sent s d h))))

abbrev is_nothing_to_flush : Cluster → List Event → Actor → Bool
is_nothing_to_flush cl h a = not (is_up a.node h) || not (can_flush cl a h)

-- node n's queue is blank, and all of its stream is folded at m
abbrev is_told : Cluster → ℕ → List Event → ℕ → Bool
is_told cl m h n = is_blank (queue cl n h) && (cut_at cl m h n == length (stream cl n h))

abbrev is_told_if_up : Cluster → ℕ → List Event → ℕ → Bool
is_told_if_up cl m h n = not (is_up n h) || is_told cl m h n

abbrev pub is_quiet_point : Cluster → ℕ → List Event → Bool
is_quiet_point cl m h =
    is_up m h
    && (all_links cl (λ n k. is_up n h || (not (is_up k h) || is_closed n k h))
    && (list_all (is_nothing_to_flush cl h) (born_actors cl h)
    && (list_all (is_told_if_up cl m h) (nodes_below cl.nodes) && all_links cl (is_delivered h))))

-- one of two holds, and not the first
second : (a b : Bool) → (not a || b) ≡ true → IsTrue a → IsTrue b
second true b t up = t
second false b t up = absurd (false≢true up)

-- nothing is queued beyond the nodes of the cluster
queue-beyond : (cl : Cluster) (h : List Event) → IsLegal cl h → (n : ℕ) → cl.nodes ≤ n → queue cl n h ≡ []
queue-beyond cl [] legal n beyond = refl
queue-beyond cl (Flush a ∷ p) legal n beyond =
    let node = born-on_node cl p legal.1 a (legal-kept cl (Flush a) p legal).0 in
    let elsewhere : a.node ≢ n = omega arith in
    ap (λ v. cond v (queue cl n p ++ entry cl a p) (queue cl n p)) (ne_eqb a.node n elsewhere) ∙ queue-beyond cl p legal.1 n beyond
queue-beyond cl (Publish m ∷ p) legal n beyond =
    let before = queue-beyond cl p legal.1 n beyond in
    elim (m == n) as (λ v. cond v [] (queue cl n p) ≡ []) [ true ↦ refl | false ↦ before ]
queue-beyond cl (_ ∷ p) legal n beyond = queue-beyond cl p legal.1 n beyond

-- messages are sent between nodes of the cluster
sent-nodes : (cl : Cluster) (h : List Event) → IsLegal cl h → (s d k : ℕ) → k < length (sent s d h) → (s < cl.nodes) × (d < cl.nodes)
sent-nodes cl h legal s d k below =
    let item = place-has (sent s d h) k below in
    let there : IsAmong item.0 (message_at s d k h) = subst (IsAmong item.0) (sym item.1) (inl refl) in
    let found = sent-among s d h item.0 (message_at-among s d k h item.0 there) in
    let born = sent-born cl h legal item.0 found.0 in (
      subst (λ n. n < cl.nodes) found.1 (born-on_node cl h legal item.0.from born.0),
      subst (λ n. n < cl.nodes) found.2 (born-on_node cl h legal item.0.to born.1),
    )

-- what passes is one
pub quiet_point-test : (cl : Cluster) (m : ℕ) (h : List Event) → is_legal cl h ≡ true → is_quiet_point cl m h ≡ true → IsQuietPoint cl m h
quiet_point-test cl m h legal_test test =
    let legal = legal-test cl h legal_test in
    let removals : ℕ → ℕ → Bool = λ n k. is_up n h || (not (is_up k h) || is_closed n k h) in
    let told = list_all (is_told_if_up cl m h) (nodes_below cl.nodes) in
    let flushed = list_all (is_nothing_to_flush cl h) (born_actors cl h) in
    let one = and_parts (is_up m h) (all_links cl removals && (flushed && (told && all_links cl (is_delivered h)))) test in
    let two = and_parts (all_links cl removals) (flushed && (told && all_links cl (is_delivered h))) one.1 in
    let three = and_parts flushed (told && all_links cl (is_delivered h)) two.1 in
    let four = and_parts told (all_links cl (is_delivered h)) three.1 in
    let of : (n : ℕ) → n < cl.nodes → IsTrue (is_up n h) → IsTrue (is_blank (queue cl n h)) × IsTrue (cut_at cl m h n == length (stream cl n h)) =
    λ n node up.
    let either = list_all-true (is_told_if_up cl m h) n (nodes_below cl.nodes) four.0 (node-among cl.nodes n node) in
    and_parts (is_blank (queue cl n h)) (cut_at cl m h n == length (stream cl n h)) (second (is_up n h) (is_told cl m h n) either up) in
    record {
      up = one.0;
      closed = λ n k from to down up.
          let either = link-true cl removals n k two.0 from to in
          second (is_up k h) (is_closed n k h) (rw down at either) up;
      flushed = λ a born up.
          let either = list_all-true (is_nothing_to_flush cl h) a (born_actors cl h) three.0 (born-among cl h legal a born) in
          not-true (can_flush cl a h) (second (is_up a.node h) (not (can_flush cl a h)) either up);
      published = λ n up. elim (cases_lt n cl.nodes) [
        | inl node ↦ blank-empty (queue cl n h) (of n node up).0
        | inr beyond ↦ queue-beyond cl h legal n beyond
      ];
      folded = λ n node up. eqb-true (cut_at cl m h n) (length (stream cl n h)) (of n node up).1;
      delivered = λ s d k apart from to below.
          let ends = sent-nodes cl h legal s d k below in
          let either = link-true cl (is_delivered h) s d four.1 ends.0 ends.1 in
          let numbers = nodes_below (length (sent s d h)) in
          let all : IsTrue (list_all (arrives h s d) numbers) = rw (ne_eqb s d apart, from, to) at either in
          let number = list_all-true (arrives h s d) k numbers all (node-among (length (sent s d h)) k below) in
          elim (or_cases (was_admitted s d k h) (nat_lt 0 (copies s d k h)) number) [
            | inl admitted ↦ inl admitted
            | inr some ↦ inr (ltb-true 0 (copies s d k h) some)
          ];
    }
