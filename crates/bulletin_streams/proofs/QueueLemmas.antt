-- Entries and the facts that they tell: there are entries exactly where there are facts.
use Rattle.std.proofs.Common.{◌≡◌, ◌<◌, ◌&&◌, Option, ℕ, not, List, [], ◌∷◌, length, refl, sym, ◌∙◌, ap, subst, inl, arith}
use Rattle.std.proofs.lemmas.Bool.{cond-true, lt-ltb}
use Rattle.std.specs.Prelude.{None, Some, nat_lt, unwrap_or}
use Rattle.crgc_ids.specs.Actor.{same_actor}
use Rattle.std.specs.List.{AllByRecursion}
use Rattle.history_model.specs.declared.events.Event.{Event}
use Rattle.history_model.specs.declared.events.Event.TheVariants.{Publish}
use Rattle.history_model.specs.declared.records.Entry.{Entry}
use Rattle.history_model.specs.Cluster.{Cluster}
use Rattle.history_model.specs.Facts.{Fact, Flags, created, flagged, is_created, is_received, is_released, is_sent_to, received, released, sent_to}
use Rattle.history_model.specs.Graph.{last_flags}
use Rattle.history_model.specs.Ledgers.{CountFromOne, entries_ledger, entry_ledger, row_flags}
use Rattle.history_model.specs.Streams.{is_blank, queue}
use Rattle.history_model.specs.Tells.{TellEntries}
use Rattle.history_model.proofs.Basics.{same_actor-refl}
use Rattle.history_model.proofs.TellsBulletins.{ledger-rising_names}
use Rattle.history_model.proofs.TellsNames.{tally-member}
use Rattle.journal_model.specs.Limits.{passes_delta}
use Rattle.delta_graph.specs.Sums.{named_count}
use Rattle.delta_graph.proofs.FitLemmas.{entries-stand}
use Rattle.bulletin_streams.specs.Standing.{AreStreamsOf}
use Rattle.bulletin_streams.specs.StreamState.{StreamState, stream_at}

-- no entries tell no fact
none-told : (x : Fact) (xs : List Fact) → TellEntries [] (x ∷ xs) → ⊥
none-told (received a) xs tells = (let some = tally-member (is_received a) (received a) (received a ∷ xs) (inl refl) (same_actor-refl a) in let none = tells.received a in omega arith)
none-told (sent_to a) xs tells = (let some = tally-member (is_sent_to a) (sent_to a) (sent_to a ∷ xs) (inl refl) (same_actor-refl a) in let none = tells.sent a in omega arith)
none-told (created b a) xs tells = (
    let both = ap (λ v. v && same_actor a a) (same_actor-refl b) ∙ same_actor-refl a in
    let some = tally-member (is_created b a) (created b a) (created b a ∷ xs) (inl refl) both in
    let none = tells.created b a in
    omega arith
    )
none-told (released b a) xs tells = (
    let both = ap (λ v. v && same_actor a a) (same_actor-refl b) ∙ same_actor-refl a in
    let some = tally-member (is_released b a) (released b a) (released b a ∷ xs) (inl refl) both in
    let none = tells.released b a in
    omega arith
    )
none-told (flagged a g) xs tells = (
    let found = cond-true (same_actor a a) (Some (unwrap_or (last_flags a xs) g)) (last_flags a xs) (same_actor-refl a) in
    let none = tells.flags a in
    absurd (apart (none ∙ found))
    )
  where
    apart : {F : Flags} → None ≡ Some F → ⊥
    apart e = absurd (cc)

-- an entry tells its flags
some-told : (e : Entry) (es : List Entry) → TellEntries (e ∷ es) [] → ⊥
some-told e es tells = absurd (apart (sym found ∙ tells.flags e.actor))
  where
    rest : Option Flags
    rest = row_flags e.actor (entries_ledger es).states

    flags : Flags
    flags = record { busy = e.busy; root = e.root }

    found : row_flags e.actor (entries_ledger (e ∷ es)).states ≡ Some (unwrap_or rest flags)
    found = cond-true (same_actor e.actor e.actor) (Some (unwrap_or rest flags)) rest (same_actor-refl e.actor)

    apart : {F : Flags} → Some F ≡ None → ⊥
    apart e = absurd (cc)

pub some-entries : (es : List Entry) (facts : List Fact) → TellEntries es facts → nat_lt 0 (length es) ≡ not (is_blank facts)
some-entries [] [] tells = refl
some-entries (e ∷ es) (x ∷ xs) tells = lt-ltb 0 (length (e ∷ es)) (omega arith)
some-entries [] (x ∷ xs) tells = absurd (none-told x xs tells)
some-entries (e ∷ es) [] tells = absurd (some-told e es tells)

-- entries of which none counts 0 name more actors than a Delta may exactly where a publish passes the limit
pub entries-limit : (cl : Cluster) (n : ℕ) (h : List Event) (es : List Entry) → AllByRecursion (λ e. CountFromOne (entry_ledger e)) es → TellEntries es (queue cl n h) → nat_lt 200000 (named_count es) ≡ passes_delta cl (Publish n) h
entries-limit cl n h es stand tells = ap (λ xs. nat_lt 200000 (length xs)) (ledger-rising_names (queue cl n h) (entries_ledger es) (entries-stand es stand) tells)

pub limit-at : (streams : List StreamState) (n : ℕ) (s : StreamState) → s ≡ stream_at streams n → AllByRecursion (λ e. CountFromOne (entry_ledger e)) s.entries → n < 16 → (cl : Cluster) (h : List Event) → AreStreamsOf cl h streams
    → nat_lt 200000 (named_count s.entries) ≡ passes_delta cl (Publish n) h
limit-at streams n s same stand low cl h stands = entries-limit cl n h s.entries stand (subst (λ x. TellEntries x.entries (queue cl n h)) (sym same) (stands n low).entries)
