-- What a legal history tells names actors of the cluster's nodes alone.
use Rattle.std.proofs.Common.{◌≡◌, ◌==◌, ◌<◌, ◌&&◌, ℕ, Bool, true, false, cond, List, [], ◌∷◌, ◌++◌, Some, flat_map, refl, sym, subst, inl, inr, IsTrue}
use Rattle.std.proofs.lemmas.Bool.{ltb-true, or_cases}
use Rattle.std.specs.Option.{option_to_list}
use Rattle.std.specs.Prelude.{slice_get}
use Rattle.crgc_ids.specs.Actor.{Actor, same_actor}
use Rattle.crgc_ids.specs.Members.{IsAmong}
use Rattle.crgc_ids.proofs.MembersLaws.{IsAmong-append_cases}
use Rattle.history_model.specs.declared.events.Event.{Event}
use Rattle.history_model.specs.declared.events.Event.TheVariants.{Admit, Flush, Publish, Remove, Window}
use Rattle.history_model.specs.Cluster.{Cluster, is_born}
use Rattle.history_model.specs.Facts.{Fact, Note, created, message_facts, names, notes}
use Rattle.history_model.specs.Legal.{IsLegal}
use Rattle.history_model.specs.Messages.{Message, admitted_by, message_at, was_admitted}
use Rattle.history_model.specs.Streams.{Notice, delta, entry, facts_by, final_of, is_flush_of, log, queue, stream, window, window_of}
use Rattle.history_model.proofs.AccountsBirths.{IsMessageBorn, among-else, born-on_node, message_at-among, notes-born, sent-among, sent-born}
use Rattle.history_model.proofs.Basics.{legal-kept, same_actor-equal}
use Rattle.history_model.proofs.Lists.{Each, IsAmong-from_flat_map, among-place, each-map}

-- the facts name actors of the cluster's nodes alone
abbrev pub NameWithin : Cluster → List Fact → Type 0
NameWithin cl facts = (x : Fact) → IsAmong x facts → (a : Actor) → IsTrue (names a x) → a.node < cl.nodes

within-append : (cl : Cluster) (xs ys : List Fact) → NameWithin cl xs → NameWithin cl ys → NameWithin cl (xs ++ ys)
within-append cl xs ys first second x among =
    elim (IsAmong-append_cases x xs ys among) [ inl left ↦ first x left | inr right ↦ second x right ]

within-cond : (cl : Cluster) (b : Bool) (xs ys : List Fact) → NameWithin cl xs → NameWithin cl ys → NameWithin cl (cond b xs ys)
within-cond cl true xs ys first second = first
within-cond cl false xs ys first second = second

within-none : (cl : Cluster) → NameWithin cl []
within-none cl x among = absurd among

-- ---- queues

-- what stands in a log was noted
noted-by : (a : Actor) (x : Fact) (ns : List Note) → IsAmong x (facts_by a ns) → (n : Note) × IsAmong n ns × (x ≡ n.fact)
noted-by a x [] among = absurd among
noted-by a x (n ∷ ns) among =
    let Found : Type 0 = (m : Note) × IsAmong m (n ∷ ns) × (x ≡ m.fact) in
    let later : IsAmong x (facts_by a ns) → Found = λ k. (let found = noted-by a x ns k in (found.0, inr found.1, found.2)) in
    let split = elim (same_actor n.by a) as (λ v. IsAmong x (cond v (n.fact ∷ facts_by a ns) (facts_by a ns)) → Found) [
      | true ↦ λ k. elim k [ inl e ↦ (n, inl refl, e) | inr m ↦ later m ]
      | false ↦ λ k. later k
    ] in
    split among

log-within : (cl : Cluster) (a : Actor) (h : List Event) → IsLegal cl h → NameWithin cl (log cl a h)
log-within cl a [] legal = within-none cl
log-within cl a (e ∷ p) legal =
    let here : NameWithin cl (facts_by a (notes cl e p)) = λ x among b named.
    let found = noted-by a x (notes cl e p) among in
    born-on_node cl (e ∷ p) legal b ((notes-born cl e p legal found.0 found.1).1 b (subst (λ y. IsTrue (names b y)) found.2 named)) in
    within-cond cl (is_flush_of a e) [] (log cl a p ++ facts_by a (notes cl e p)) (within-none cl)
    (within-append cl (log cl a p) (facts_by a (notes cl e p)) (log-within cl a p legal.1) here)

entry-within : (cl : Cluster) (a : Actor) (p : List Event) → IsLegal cl (Flush a ∷ p) → NameWithin cl (entry cl a p)
entry-within cl a p legal x (inl e) b named =
    let same : same_actor a b ≡ true = subst (λ y. IsTrue (names b y)) e named in
    subst (λ c. c.node < cl.nodes) (same_actor-equal a b same) (born-on_node cl p legal.1 a (legal-kept cl (Flush a) p legal).0)
entry-within cl a p legal x (inr later) b named = log-within cl a p legal.1 x later b named

queue-within : (cl : Cluster) (n : ℕ) (h : List Event) → IsLegal cl h → NameWithin cl (queue cl n h)
queue-within cl n [] legal = within-none cl
queue-within cl n (Flush a ∷ p) legal =
    let before = queue-within cl n p legal.1 in
    within-cond cl (a.node == n) (queue cl n p ++ entry cl a p) (queue cl n p) (within-append cl (queue cl n p) (entry cl a p) before (entry-within cl a p legal)) before
queue-within cl n (Publish m ∷ p) legal = within-cond cl (m == n) [] (queue cl n p) (within-none cl) (queue-within cl n p legal.1)
queue-within cl n (e ∷ p) legal = queue-within cl n p legal.1

-- ---- windows

-- what a message stands for names its recipient and its references
message-names : (h : List Event) (m : Message) → IsMessageBorn h m → Each (λ x. (a : Actor) → IsTrue (names a x) → IsTrue (is_born a h)) (message_facts m)
message-names h m born x (inl e) a named =
    let same : same_actor m.to a ≡ true = subst (λ y. IsTrue (names a y)) e named in
    subst (λ c. IsTrue (is_born c h)) (same_actor-equal m.to a same) born.1
message-names h m born x (inr later) a named =
    let carried = each-map (λ y. (b : Actor) → IsTrue (names b y) → IsTrue (is_born b h)) (created m.to) m.refs (λ r among b here.
    elim (or_cases (same_actor m.to b) (same_actor r b) here) [
      | inl same ↦ subst (λ c. IsTrue (is_born c h)) (same_actor-equal m.to b same) born.1
      | inr same ↦ subst (λ c. IsTrue (is_born c h)) (same_actor-equal r b same) (born.2 r among)
    ]) in
    carried x later a named

admitted-within : (cl : Cluster) (s d k : ℕ) (p : List Event) → IsLegal cl p → NameWithin cl (flat_map message_facts (admitted_by (Admit s d k) p))
admitted-within cl s d k p legal x among a named =
    let found = IsAmong-from_flat_map message_facts x (admitted_by (Admit s d k) p) among in
    let place = among-else (was_admitted s d k p) found.0 (message_at s d k p) found.1 in
    let born = sent-born cl p legal found.0 (sent-among s d p found.0 (message_at-among s d k p found.0 place)).0 in
    born-on_node cl p legal a (message-names p found.0 born x found.2 a named)

window-within : (cl : Cluster) (s d : ℕ) (h : List Event) → IsLegal cl h → NameWithin cl (window s d h)
window-within cl s d [] legal = within-none cl
window-within cl s d (Admit x y k ∷ p) legal =
    let before = window-within cl s d p legal.1 in
    let here = flat_map message_facts (admitted_by (Admit x y k) p) in
    within-cond cl ((x == s) && (y == d)) (window s d p ++ here) (window s d p)
    (within-append cl (window s d p) here before (admitted-within cl x y k p legal.1)) before
window-within cl s d (Window y x ∷ p) legal = within-cond cl ((x == s) && (y == d)) [] (window s d p) (within-none cl) (window-within cl s d p legal.1)
window-within cl s d (Remove y x ∷ p) legal = within-cond cl ((x == s) && (y == d)) [] (window s d p) (within-none cl) (window-within cl s d p legal.1)
window-within cl s d (e ∷ p) legal = window-within cl s d p legal.1

-- ---- streams

-- the notice names nodes of the cluster alone
abbrev pub IsNoticeWithin : Cluster → Notice → Type 0
IsNoticeWithin cl (delta facts) = NameWithin cl facts
IsNoticeWithin cl (window_of s facts) = (s < cl.nodes) × NameWithin cl facts
IsNoticeWithin cl (final_of s facts) = (s < cl.nodes) × NameWithin cl facts

one-more : (cl : Cluster) (b : Bool) (xs : List Notice) (x : Notice) → Each (IsNoticeWithin cl) xs → IsNoticeWithin cl x → Each (IsNoticeWithin cl) (cond b (xs ++ x ∷ []) xs)
one-more cl true xs x before here n among = elim (IsAmong-append_cases n xs (x ∷ []) among) [
  | inl left ↦ before n left
  | inr right ↦ elim right [ inl e ↦ subst (IsNoticeWithin cl) (sym e) here | inr none ↦ absurd none ]
]
one-more cl false xs x before here n among = before n among

stream-within : (cl : Cluster) (o : ℕ) (h : List Event) → IsLegal cl h → Each (IsNoticeWithin cl) (stream cl o h)
stream-within cl o [] legal = λ n among. absurd among
stream-within cl o (Publish m ∷ p) legal =
    one-more cl (m == o) (stream cl o p) (delta (queue cl o p)) (stream-within cl o p legal.1) (queue-within cl o p legal.1)
stream-within cl o (Window d s ∷ p) legal =
    one-more cl (d == o) (stream cl o p) (window_of s (window s d p)) (stream-within cl o p legal.1)
    (ltb-true s cl.nodes (legal-kept cl (Window d s) p legal).1.0, window-within cl s d p legal.1)
stream-within cl o (Remove d s ∷ p) legal =
    one-more cl (d == o) (stream cl o p) (final_of s (window s d p)) (stream-within cl o p legal.1)
    (ltb-true s cl.nodes (legal-kept cl (Remove d s) p legal).1.0, window-within cl s d p legal.1)
stream-within cl o (e ∷ p) legal = stream-within cl o p legal.1

-- so is each notice of a stream
pub notice-within : (cl : Cluster) (o k : ℕ) (h : List Event) (n : Notice) → IsLegal cl h → slice_get (stream cl o h) k ≡ Some n → IsNoticeWithin cl n
notice-within cl o k h n legal is =
    stream-within cl o h legal n (among-place k n (stream cl o h) (subst (λ x. IsAmong n (option_to_list x)) (sym is) (inl refl)))
