-- Logs with several facts more, blank logs, and the log of an actor in a history.
use Rattle.std.proofs.Common.{◌≡◌, ◌-◌, ◌==◌, ◌&&◌, ◌||◌, ℕ, zero, suc, take, length-append, Bool, true, false, cond, not, List, [], ◌∷◌, ◌++◌, length, map, flat_map, replicate, refl, sym, ◌∙◌, ap, ap₂, subst, inl, inr, arith, append_assoc, append-nil}
use Rattle.std.proofs.Math.Seq.{take-append_seam}
use Rattle.std.proofs.lemmas.Bool.{false_from_ne_true}
use Rattle.std.proofs.lemmas.List.{length-map}
use Rattle.std.proofs.lemmas.Bool.Decides.{Decides-eqb}
use Rattle.std.specs.List.{AllByRecursion}
use Rattle.std.specs.Prelude.{Some}
use Rattle.crgc_ids.specs.Actor.{Actor, same_actor}
use Rattle.crgc_ids.specs.Members.{IsAmong}
use Rattle.crgc_ids.specs.declared.rising.ActorCount.{ActorCount}
use Rattle.crgc_ids.specs.declared.rising.PairCount.{PairCount}
use Rattle.crgc_ids.proofs.MembersLaws.{IsAmong-append_left}
use Rattle.history_model.specs.declared.events.Event.{Event}
use Rattle.history_model.specs.declared.events.Event.TheVariants.{Flush}
use Rattle.history_model.specs.declared.records.Entry.{Entry}
use Rattle.history_model.specs.Cluster.{Cluster}
use Rattle.history_model.specs.Facts as facts
use Rattle.history_model.specs.Facts.{Fact, Flags, Note, message_facts, note_by, notes}
use Rattle.history_model.specs.Graph.{named_by}
use Rattle.history_model.specs.Ledgers.{CountAlike, Ledger, entry_ledger, fact_counts, ledger_counts}
use Rattle.history_model.specs.Messages.{Message}
use Rattle.history_model.specs.Streams.{are_flags, can_flush, facts_by, flags_at, flushed_flags, is_blank, is_flush_of, log}
use Rattle.history_model.specs.Tells.{TellsEntry}
use Rattle.history_model.proofs.Basics.{same_actor-equal}
use Rattle.history_model.proofs.FoldSumsLogs.{log-next}
use Rattle.history_model.proofs.FoldSumsNotes.{notes-kinds}
use Rattle.history_model.proofs.TellsBulletins.{ledger-same}
use Rattle.history_model.proofs.TellsCounts.{alike-back, alike-both, alike-same, alike-then, both, facts-both}
use Rattle.history_model.proofs.TellsNames.{facts-named, named-alike}
use Rattle.entry_records.specs.Log.{IsEntryOf, IsLogAt, IsLogOf, MayNote, Log, log_facts, log_with, may_flush}
use Rattle.entry_records.specs.Unflushed.{Unflushed, facts_noted, is_nothing, with_facts, without_last_sent}
use Rattle.entry_records.proofs.CountLemmas.{log-next_fact}
use Rattle.entry_records.proofs.EntryLemmas.{own_row}

-- the references of a message come last among those made
pub with-references : (to : Actor) (refs : List Actor) (n : Unflushed) → with_facts (map (facts.created to) refs) n ≡ record n { created = n.created ++ map (λ a. (to, a)) refs }
with-references to [] n = λ i. record n { created = sym (append-nil n.created) i }
with-references to (a ∷ refs) n =
    with-references to refs (record n { created = n.created ++ (to, a) ∷ [] })
    ∙ (λ i. record n { created = append_assoc n.created ((to, a) ∷ []) (map (λ b. (to, b)) refs) i })

-- the last message is taken back
pub message-taken_back : (m : Message) (n : Unflushed) → without_last_sent (length m.refs) (with_facts (message_facts m) n) ≡ n
message-taken_back m n =
    let pairs = map (λ a. (m.to, a)) m.refs in
    let sent : take (length (n.sent ++ m.to ∷ []) - 1) (n.sent ++ m.to ∷ []) ≡ n.sent = first-of n.sent (m.to ∷ []) 1 refl in
    let created : take (length (n.created ++ pairs) - length m.refs) (n.created ++ pairs) ≡ n.created = first-of n.created pairs (length m.refs) (length-map m.refs (λ a. (m.to, a))) in
    ap (without_last_sent (length m.refs)) (with-references m.to m.refs (record n { sent = n.sent ++ m.to ∷ [] }))
    ∙ (λ i. record n { sent = sent i; created = created i })
  where
    first-of : {X : Type 0} (xs ys : List X) (k : ℕ) → length ys ≡ k → take (length (xs ++ ys) - k) (xs ++ ys) ≡ xs
    first-of xs ys k long =
        let joined = length-append xs ys in
        let short : length (xs ++ ys) - k ≡ length xs = omega arith in
        ap (λ j. take j (xs ++ ys)) short ∙ take-append_seam xs ys

-- a log that counts what facts say goes on to do so with these facts more
pub log-facts : (known more : List Fact) (l : Log) → IsLogOf known l → AllByRecursion (MayNote l.actor) more → IsLogOf (known ++ more) (log_with more l)
log-facts known [] l is own = subst (λ facts. IsLogOf facts l) (sym (append-nil known)) is
log-facts known (f ∷ more) l is own =
    let later = log-facts (known ++ f ∷ []) more (log_with (f ∷ []) l) (log-next_fact known f l is own.0) own.1 in
    subst (λ facts. IsLogOf facts (log_with (f ∷ more) l)) (append_assoc known (f ∷ []) more) later

-- ---- blank logs

-- nothing is noted exactly where there are no facts
pub nothing-blank : (a : Actor) (n : Unflushed) → is_nothing n ≡ is_blank (facts_noted a n)
nothing-blank a n = received n.received n.sent n.created n.released
  where
    some : (k : ℕ) → (suc k == 0) ≡ false
    some k = false_from_ne_true (suc k == 0) (λ t. absurd (omega (arith, (Decides-eqb (suc k) 0).0 t)))

    given_up : (r : List Actor) → (length r == 0) ≡ is_blank (map (facts.released a) r)
    given_up [] = refl
    given_up (x ∷ r) = some (length r)

    made : (c : List (Actor × Actor)) (r : List Actor) → ((length c == 0) && (length r == 0)) ≡ is_blank (map (λ p. facts.created p.0 p.1) c ++ map (facts.released a) r)
    made [] r = given_up r
    made (p ∷ c) r = ap (λ v. v && (length r == 0)) (some (length c))

    told : (s : List Actor) (c : List (Actor × Actor)) (r : List Actor) → ((length s == 0) && ((length c == 0) && (length r == 0))) ≡ is_blank (map facts.sent_to s ++ (map (λ p. facts.created p.0 p.1) c ++ map (facts.released a) r))
    told [] c r = made c r
    told (x ∷ s) c r = ap (λ v. v && ((length c == 0) && (length r == 0))) (some (length s))

    received : (k : ℕ) (s : List Actor) (c : List (Actor × Actor)) (r : List Actor) → ((k == 0) && ((length s == 0) && ((length c == 0) && (length r == 0)))) ≡ is_blank (replicate k (facts.received a) ++ (map facts.sent_to s ++ (map (λ p. facts.created p.0 p.1) c ++ map (facts.released a) r)))
    received zero s c r = told s c r
    received (suc k) s c r = ap (λ v. v && ((length s == 0) && ((length c == 0) && (length r == 0)))) (some k)

-- each fact names someone
someone : (f : Fact) → (a : Actor) × IsAmong a (named_by f)
someone (facts.received a) = (a, inl refl)
someone (facts.sent_to a) = (a, inl refl)
someone (facts.created b a) = (b, inl refl)
someone (facts.released b a) = (b, inl refl)
someone (facts.flagged a g) = (a, inl refl)

-- facts that count alike name the same actors: so there are none of one list where there are none of the other
pub blank-alike : (xs ys : List Fact) → CountAlike (fact_counts xs) (fact_counts ys) → is_blank xs ≡ is_blank ys
blank-alike [] [] alike = refl
blank-alike [] (y ∷ ys) alike =
    let named = someone y in
    absurd ((facts-named named.0 []).1 (named-alike (fact_counts (y ∷ ys)) (fact_counts []) (alike-back (fact_counts []) (fact_counts (y ∷ ys)) alike) named.0 ((facts-named named.0 (y ∷ ys)).0 (IsAmong-append_left named.0 (named_by y) (flat_map named_by ys) named.1))))
blank-alike (x ∷ xs) [] alike =
    let named = someone x in
    absurd ((facts-named named.0 []).1 (named-alike (fact_counts (x ∷ xs)) (fact_counts []) alike named.0 ((facts-named named.0 (x ∷ xs)).0 (IsAmong-append_left named.0 (named_by x) (flat_map named_by xs) named.1))))
blank-alike (x ∷ xs) (y ∷ ys) alike = refl

-- ---- entries

-- facts that count alike are told by the same entries, with the same flags
pub entry-alike : (a : Actor) (flags : Flags) (e : Entry) (xs ys : List Fact) → CountAlike (fact_counts xs) (fact_counts ys) → TellsEntry a e (facts.flagged a flags ∷ xs) → TellsEntry a e (facts.flagged a flags ∷ ys)
entry-alike a flags e xs ys alike tells =
    let one : List Fact = facts.flagged a flags ∷ [] in
    let more = alike-then (fact_counts (one ++ xs)) (both (fact_counts one) (fact_counts xs)) (fact_counts (one ++ ys)) (facts-both one xs)
    (alike-then (both (fact_counts one) (fact_counts xs)) (both (fact_counts one) (fact_counts ys)) (fact_counts (one ++ ys))
    (alike-both (fact_counts one) (fact_counts one) (fact_counts xs) (fact_counts ys) (alike-same (fact_counts one)) alike)
    (alike-back (fact_counts (one ++ ys)) (both (fact_counts one) (fact_counts ys)) (facts-both one ys))) in
    (tells.0, alike-then (ledger_counts (entry_ledger e)) (fact_counts (one ++ xs)) (fact_counts (one ++ ys)) tells.1 more)

-- an owner's row as one of its own
abbrev to_actor : PairCount → ActorCount
to_actor r = record { actor = r.target; count = r.count }

-- the entry with these rows, where the ledger has the one state of an entry
from_ledger : Entry → Ledger → Entry
from_ledger e l =
    elim l.states [
      | [] ↦ e
      | s ∷ rest ↦ record { actor = s.actor; received = s.received; busy = s.busy; root = s.root; created = l.created; sent = l.sent; released = map to_actor l.released }
    ]

-- an entry is determined by its rows
pub entry-same : (e f : Entry) → entry_ledger e ≡ entry_ledger f → e ≡ f
unfolding from_ledger
entry-same e f rows = sym (whole e) ∙ ap (from_ledger e) rows ∙ whole f
  where
    given_back : (a : Actor) (rows : List ActorCount) → map to_actor (map (own_row a) rows) ≡ rows
    given_back a [] = refl
    given_back a (r ∷ rows) = ap (λ rs. r ∷ rs) (given_back a rows)

    whole : (g : Entry) → from_ledger e (entry_ledger g) ≡ g
    whole g = λ i. record { actor = g.actor; received = g.received; busy = g.busy; root = g.root; created = g.created; sent = g.sent; released = given_back g.actor g.released i }

-- a log has one entry with these flags
pub entry-one : (l : Log) (flags : Flags) (e f : Entry) → IsEntryOf l flags e → IsEntryOf l flags f → e ≡ f
entry-one l flags e f first second =
    let told = fact_counts (facts.flagged l.actor flags ∷ log_facts l) in
    let alike = alike-then (ledger_counts (entry_ledger e)) told (ledger_counts (entry_ledger f)) first.tells.1 (alike-back (ledger_counts (entry_ledger f)) told second.tells.1) in
    entry-same e f (ledger-same (entry_ledger e) (entry_ledger f) first.ordered second.ordered alike)

-- ---- the log of an actor in a history

-- what an actor notes it may note
own-facts : (a : Actor) (ns : List Note) → ((x : Note) → IsAmong x ns → MayNote x.by x.fact) → AllByRecursion (MayNote a) (facts_by a ns)
own-facts a [] own = tt
own-facts a (n ∷ ns) own =
    let later = own-facts a ns (λ x m. own x (inr m)) in
    let first = own n (inl refl) in
    let Case : Bool → Type 0 = λ v. same_actor n.by a ≡ v → AllByRecursion (MayNote a) (cond v (n.fact ∷ facts_by a ns) (facts_by a ns)) in
    let case : Case (same_actor n.by a) = elim (same_actor n.by a) as Case [
      | true ↦ λ t. (subst (λ b. MayNote b n.fact) (same_actor-equal n.by a t) first, later)
      | false ↦ λ _. later
    ] in
    case refl

noted-own : (cl : Cluster) (e : Event) (p : List Event) (x : Note) → IsAmong x (notes cl e p) → MayNote x.by x.fact
noted-own cl e p = notes-kinds (λ x. MayNote x.by x.fact) (λ _ _. tt) (λ _ _ _. tt) (λ _. refl) (λ _ _. refl) cl e p

-- an event that is no flush of a leaves the flags of its last flush
flags-kept : (a : Actor) (e : Event) (p : List Event) → is_flush_of a e ≡ false → flushed_flags a (e ∷ p) ≡ flushed_flags a p
flags-kept a (Flush b) p other = ap (λ v. cond v (Some (flags_at a p)) (flushed_flags a p)) other
flags-kept a e p other = refl

-- an event adds to the log what its actor notes
pub log-step : (cl : Cluster) (e : Event) (h : List Event) (l : Log) → is_flush_of l.actor e ≡ false → IsLogAt cl h l → IsLogAt cl (e ∷ h) (log_with (facts_by l.actor (notes cl e h)) l)
log-step cl e h l other at_h =
    let a = l.actor in
    let more = facts_by a (notes cl e h) in
    record {
      facts = subst (λ known. IsLogOf known (log_with more l)) (sym (log-next cl a e h other)) (log-facts (log cl a h) more l at_h.facts (own-facts a (notes cl e h) (noted-own cl e h)));
      flushed = at_h.flushed ∙ sym (flags-kept a e h other);
    }

-- the log says whether its actor can be flushed
pub log-may_flush : (cl : Cluster) (h : List Event) (l : Log) → IsLogAt cl h l → may_flush l (flags_at l.actor h) ≡ can_flush cl l.actor h
log-may_flush cl h l at_h =
    ap₂ (λ blank flags. not blank || not (are_flags flags (flags_at l.actor h))) (blank-alike (log_facts l) (log cl l.actor h) at_h.facts) at_h.flushed
