-- How many facts the queues and windows of a history have, where each message carries at most 16 references.
use Rattle.std.proofs.Common.{◌≡◌, ◌+◌, ◌*◌, ◌≤◌, ◌&&◌, ◌==◌, ℕ, zero, suc, Bool, true, false, cond, not, List, [], ◌∷◌, ◌++◌, flat_map, length, length-append, map, refl, sym, ◌∙◌, ap, subst, inl, inr, arith}
use Rattle.std.proofs.lemmas.List.{length-map, take_all}
use Rattle.std.specs.Prelude.{slice_get}
use Rattle.std.specs.Option.{option_to_list}
use Rattle.crgc_ids.specs.Actor.{Actor, same_actor}
use Rattle.crgc_ids.specs.Members.{IsAmong}
use Rattle.crgc_ids.proofs.MembersLaws.{IsAmong-append_cases}
use Rattle.history_model.specs.declared.events.Event.{Event}
use Rattle.history_model.specs.declared.events.Event.TheVariants.{Seed, Tie, Take, Spawn, Send, Drop, Flush, Publish, Admit, Window, Remove}
use Rattle.history_model.specs.Cluster.{Cluster, newborn}
use Rattle.history_model.specs.Facts.{Fact, Note, created, flagged, message_facts, note_by, notes, sent_to}
use Rattle.history_model.specs.Graph.{delta_facts}
use Rattle.history_model.specs.Messages.{Message, admitted_by, message_at, sent, was_admitted}
use Rattle.history_model.specs.Streams.{Notice, delta, entry, facts_by, final_of, is_flush_of, log, queue, stream, window, window_of}
use Rattle.history_model.specs.Tally.{tally}
use Rattle.history_model.proofs.Basics.{eqb-refl}
use Rattle.history_model.proofs.FoldSumsNotes.{notes-kinds, told-noted}
use Rattle.history_model.proofs.FoldSumsStreams.{deltas-told}
use Rattle.history_model.proofs.JoinedBulletins.{delta_facts-append}
use Rattle.history_model.proofs.Lists.{tally-append}
use Rattle.history_model.proofs.Sums.{flush_horizon, noted_sum, publish_horizon}
use Rattle.journal_model.specs.Lines.{AreWithinRanges, IsWithinRanges}
use Rattle.delta_graph.proofs.FitLemmas.{tally-length}

-- ---- notes

-- an event notes at most 17 facts
notes-few : (cl : Cluster) (e : Event) (p : List Event) → IsWithinRanges e → length (notes cl e p) ≤ 17
notes-few cl (Seed n) p ranges = omega arith
notes-few cl (Tie a b) p ranges = omega arith
notes-few cl (Take a) p ranges = omega arith
notes-few cl (Spawn a) p ranges =
    let more : List Note = note_by a (created (newborn a.node p) a) ∷ [] in
    let c : Actor = newborn a.node p in
    elim (cl.version == 2) as (λ v. length (note_by c (created c c) ∷ note_by c (created a c) ∷ cond v more []) ≤ 17) [ true ↦ omega arith | false ↦ omega arith ]
notes-few cl (Send f t refs) p ranges = (
    let few = ranges.3 in
    let facts : List Fact = sent_to t ∷ map (created t) refs in
    let noted = length-map facts (note_by f) in
    let made = length-map refs (created t) in
    omega arith
    )
notes-few cl (Drop a b) p ranges = omega arith
notes-few cl e p ranges = omega arith

noted-few : (cl : Cluster) (test : Note → Bool) (h : List Event) → AreWithinRanges h → noted_sum cl test h ≤ 17 * length h
noted-few cl test [] ranges = omega arith
noted-few cl test (e ∷ p) ranges =
    let before = noted-few cl test p ranges.1 in
    let here = notes-few cl e p ranges.0 in
    let most = tally-length test (notes cl e p) in
    omega arith

-- ---- flags

abbrev is_flag : Fact → Bool
is_flag (flagged a g) = true
is_flag _ = false

-- nobody notes flags
facts_by-plain : (a : Actor) (ns : List Note) → ((x : Note) → IsAmong x ns → is_flag x.fact ≡ false) → tally is_flag (facts_by a ns) ≡ 0
facts_by-plain a [] plain = refl
facts_by-plain a (x ∷ ns) plain =
    let later = facts_by-plain a ns (λ y m. plain y (inr m)) in
    elim (same_actor x.by a) as (λ v. tally is_flag (cond v (x.fact ∷ facts_by a ns) (facts_by a ns)) ≡ 0) [
      | true ↦ ap (λ v. cond v (tally is_flag (facts_by a ns) + 1) (tally is_flag (facts_by a ns))) (plain x (inl refl)) ∙ later
      | false ↦ later
    ]

log-plain : (cl : Cluster) (a : Actor) (h : List Event) → tally is_flag (log cl a h) ≡ 0
log-plain cl a [] = refl
log-plain cl a (e ∷ p) =
    let before = log-plain cl a p in
    let here = facts_by-plain a (notes cl e p) (notes-kinds (λ x. is_flag x.fact ≡ false) (λ _ _. refl) (λ _ _ _. refl) (λ _. refl) (λ _ _. refl) cl e p) in
    let joined = tally-append is_flag (log cl a p) (facts_by a (notes cl e p)) in
    elim (is_flush_of a e) as (λ v. tally is_flag (cond v [] (log cl a p ++ facts_by a (notes cl e p))) ≡ 0) [ true ↦ refl | false ↦ omega arith ]

-- a queue has flags once for each flush
queue-flags : (cl : Cluster) (n : ℕ) (h : List Event) → tally is_flag (queue cl n h) ≤ length h
queue-flags cl n [] = omega arith
queue-flags cl n (Flush a ∷ p) = (
    let before = queue-flags cl n p in
    let plain = log-plain cl a p in
    let facts : List Fact = entry cl a p in
    let one : tally is_flag facts ≡ tally is_flag (log cl a p) + 1 = refl in
    let joined = tally-append is_flag (queue cl n p) facts in
    elim (a.node == n) as (λ v. tally is_flag (cond v (queue cl n p ++ facts) (queue cl n p)) ≤ length (Flush a ∷ p)) [ true ↦ omega arith | false ↦ omega arith ]
    )
queue-flags cl n (Publish m ∷ p) = (
    let before = queue-flags cl n p in
    elim (m == n) as (λ v. tally is_flag (cond v [] (queue cl n p)) ≤ length (Publish m ∷ p)) [ true ↦ omega arith | false ↦ omega arith ]
    )
queue-flags cl n (e ∷ p) = (let before = queue-flags cl n p in omega arith)

-- ---- queues

abbrev is_plain : Fact → Bool
is_plain f = not (is_flag f)

both-kinds : (xs : List Fact) → length xs ≡ tally is_plain xs + tally is_flag xs
both-kinds [] = refl
both-kinds (x ∷ xs) =
    let later = both-kinds xs in
    elim (is_flag x) as (λ v. length (x ∷ xs) ≡ cond (not v) (tally is_plain xs + 1) (tally is_plain xs) + cond v (tally is_flag xs + 1) (tally is_flag xs)) [ true ↦ omega arith | false ↦ omega arith ]

-- all else that a queue has was noted
queue-noted : (cl : Cluster) (n : ℕ) (h : List Event) → tally is_plain (queue cl n h) ≤ noted_sum cl (λ x. (x.by.node == n) && is_plain x.fact) h
queue-noted cl n h =
    let full : List Event = Publish n ∷ h in
    let told : List Fact = delta_facts (stream cl n h) in
    let facts : List Fact = queue cl n h in
    let size : ℕ = length (stream cl n full) in
    let all = ap (λ v. delta_facts (cond v (stream cl n h ++ delta facts ∷ []) (stream cl n h))) (eqb-refl n) ∙ delta_facts-append (stream cl n h) (delta facts ∷ []) in
    let whole = ap (λ xs. tally is_plain (delta_facts xs)) (take_all size (stream cl n full) (omega arith)) ∙ ap (tally is_plain) all in
    let first = tally-append is_plain told (facts ++ []) in
    let second = tally-append is_plain facts [] in
    let sum = deltas-told cl full n size is_plain (λ a g. refl) in
    let most = told-noted cl (λ a. flush_horizon a (publish_horizon cl n size full) full) (λ x. (x.by.node == n) && is_plain x.fact) full in
    omega arith

pub queue-few : (cl : Cluster) (n : ℕ) (h : List Event) → AreWithinRanges h → length (queue cl n h) ≤ 18 * length h
queue-few cl n h ranges =
    let kinds = both-kinds (queue cl n h) in
    let noted = queue-noted cl n h in
    let few = noted-few cl (λ x. (x.by.node == n) && is_plain x.fact) h ranges in
    let flags = queue-flags cl n h in
    omega arith

-- ---- windows

-- a message that was sent stands for at most 17 facts, and so do those of a list of at most one
sent-few : (s d : ℕ) (h : List Event) → AreWithinRanges h → (k : ℕ) → length (flat_map message_facts (message_at s d k h)) ≤ 17
sent-few s d h ranges k = at (sent s d h) (λ m among. refs-few h ranges m among) k
  where
    refs-few : (q : List Event) → AreWithinRanges q → (m : Message) → IsAmong m (sent s d q) → length m.refs ≤ 16
    refs-few [] r m among = absurd among
    refs-few (Send f t refs ∷ p) r m among = (
        let x : Message = record { from = f; to = t; refs = refs } in
        let before = refs-few p r.1 m in
        let last : IsAmong m (x ∷ []) → length m.refs ≤ 16 = λ l. elim l [ inl e ↦ subst (λ y. length y.refs ≤ 16) (sym e) r.0.3 | inr none ↦ absurd none ] in
        elim ((f.node == s) && (t.node == d)) as (λ v. IsAmong m (cond v (sent s d p ++ x ∷ []) (sent s d p)) → length m.refs ≤ 16) [
          | true ↦ λ both. elim (IsAmong-append_cases m (sent s d p) (x ∷ []) both) [ inl early ↦ before early | inr late ↦ last late ]
          | false ↦ before
        ] among
        )
    refs-few (e ∷ p) r m among = refs-few p r.1 m among

    at : (ms : List Message) → ((m : Message) → IsAmong m ms → length m.refs ≤ 16) → (j : ℕ) → length (flat_map message_facts (option_to_list (slice_get ms j))) ≤ 17
    at [] few j = omega arith
    at (m ∷ ms) few zero = (
        let refs = few m (inl refl) in
        let made = length-map m.refs (created m.to) in
        let joined = length-append (message_facts m) [] in
        omega arith
        )
    at (m ∷ ms) few (suc j) = at ms (λ x among. few x (inr among)) j

pub window-few : (s d : ℕ) (h : List Event) → AreWithinRanges h → length (window s d h) ≤ 17 * length h
window-few s d [] ranges = omega arith
window-few s d (Admit x y k ∷ p) ranges = (
    let before = window-few s d p ranges.1 in
    let more : List Fact = flat_map message_facts (admitted_by (Admit x y k) p) in
    let message = sent-few x y p ranges.1 k in
    let few : length more ≤ 17 = elim (was_admitted x y k p) as (λ v. length (flat_map message_facts (cond v [] (message_at x y k p))) ≤ 17) [ true ↦ omega arith | false ↦ message ] in
    let joined = length-append (window s d p) more in
    elim ((x == s) && (y == d)) as (λ v. length (cond v (window s d p ++ more) (window s d p)) ≤ 17 * length (Admit x y k ∷ p)) [ true ↦ omega arith | false ↦ omega arith ]
    )
window-few s d (Window y x ∷ p) ranges = (
    let before = window-few s d p ranges.1 in
    elim ((x == s) && (y == d)) as (λ v. length (cond v [] (window s d p)) ≤ 17 * length (Window y x ∷ p)) [ true ↦ omega arith | false ↦ omega arith ]
    )
window-few s d (Remove y x ∷ p) ranges = (
    let before = window-few s d p ranges.1 in
    elim ((x == s) && (y == d)) as (λ v. length (cond v [] (window s d p)) ≤ 17 * length (Remove y x ∷ p)) [ true ↦ omega arith | false ↦ omega arith ]
    )
window-few s d (e ∷ p) ranges = (let before = window-few s d p ranges.1 in omega arith)

-- ---- streams

one-more : (v : Bool) (xs : List Notice) (x : Notice) (e : Event) (p : List Event) → length xs ≤ length p → length (cond v (xs ++ x ∷ []) xs) ≤ length (e ∷ p)
one-more true xs x e p short = (let joined = length-append xs (x ∷ []) in omega arith)
one-more false xs x e p short = omega arith

-- a stream has at most one bulletin for each event
pub stream-short : (cl : Cluster) (n : ℕ) (h : List Event) → length (stream cl n h) ≤ length h
stream-short cl n [] = omega arith
stream-short cl n (Publish m ∷ p) = one-more (m == n) (stream cl n p) (delta (queue cl n p)) (Publish m) p (stream-short cl n p)
stream-short cl n (Window d s ∷ p) = one-more (d == n) (stream cl n p) (window_of s (window s d p)) (Window d s) p (stream-short cl n p)
stream-short cl n (Remove d s ∷ p) = one-more (d == n) (stream cl n p) (final_of s (window s d p)) (Remove d s) p (stream-short cl n p)
stream-short cl n (e ∷ p) = (let before = stream-short cl n p in omega arith)
