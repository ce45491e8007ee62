-- Bulletins, entries and the notices of streams: which rows tell a notice, and that rising rows are the only ones.
use Rattle.std.proofs.Common.{◌≡◌, ◌↔◌, ℕ, true, false, List, [], ◌∷◌, ◌++◌, flat_map, refl, sym, ◌∙◌, ap, subst, inl, inr, append_assoc, append-nil}
use Rattle.std.proofs.lemmas.Bool.{cases_Bool, cond-true, cond-false}
use Rattle.std.proofs.lemmas.Option.{same_Some}
use Rattle.std.specs.Prelude.{Some, None, unwrap_or}
use Rattle.crgc_ids.specs.Actor.{Actor, IsActorBelow, same_actor}
use Rattle.crgc_ids.specs.Members.{IsAmong, IsPart}
use Rattle.crgc_ids.specs.Rising.{IsRising}
use Rattle.crgc_ids.specs.declared.rising.ActorCount.{ActorCount}
use Rattle.crgc_ids.specs.declared.rising.PairCount.{PairCount}
use Rattle.crgc_ids.proofs.MembersLaws.{all-member}
use Rattle.history_model.specs.declared.records.Bulletin.{Bulletin}
use Rattle.history_model.specs.declared.records.Bulletin.TheVariants as bulletins
use Rattle.history_model.specs.declared.records.Delta.{Delta}
use Rattle.history_model.specs.declared.records.Entry.{Entry}
use Rattle.history_model.specs.declared.records.StateRow.{StateRow}
use Rattle.history_model.specs.Facts.{Fact}
use Rattle.history_model.specs.Streams.{Notice, delta, window_of, final_of}
use Rattle.history_model.specs.Graph.{named_by, rising_actors}
use Rattle.history_model.specs.Ledgers.{CountAlike, CountFromOne, IsInOrder, Ledger, delta_ledger, entries_ledger, entry_ledger, fact_counts, joined, ledger_counts, ledger_names, no_rows, received_total, row_flags, state_flags}
use Rattle.history_model.specs.Tells.{TellsDelta, IsDeltaOf, IsLedgerOf, IsOrdered, TellEntries, Tells, TellsEntry, bulletin_ledger, facts_in}
use Rattle.history_model.proofs.Basics.{same_actor-equal, same_actor-refl}
use Rattle.history_model.proofs.RisingActors.{rising_actors-same}
use Rattle.history_model.proofs.TellsCounts.{alike-back, alike-both, alike-then, both, facts-both, rows-both}
use Rattle.history_model.proofs.TellsNames.{facts-named, named-alike, row_flags-some, rows-named}
use Rattle.history_model.proofs.TellsRows.{counted-same, key-other, rows-same, total-row}
use Rattle.crgc_ids.proofs.KeyOrders.{actor_order, pair_order}

-- ---- rising rows that count alike are the same

abbrev StatesRise : List StateRow → Type 0
StatesRise rows = IsRising (λ r s. IsActorBelow r.actor s.actor) rows

-- rows of other actors tell no flags
row_flags-none : (a : Actor) (rows : List StateRow) → ((r : StateRow) → IsAmong r rows → same_actor a r.actor ≡ false) → row_flags a rows ≡ None
row_flags-none a [] other = refl
row_flags-none a (r ∷ rest) other =
    cond-false (same_actor a r.actor) (Some (unwrap_or (row_flags a rest) (state_flags r))) (row_flags a rest) (other r (inl refl))
    ∙ row_flags-none a rest (λ s m. other s (inr m))

-- rising rows tell of a row's actor the row's flags
row_flags-row : (r : StateRow) (rows : List StateRow) → StatesRise rows → IsAmong r rows → row_flags r.actor rows ≡ Some (state_flags r)
row_flags-row r [] rise m = absurd m
row_flags-row r (s ∷ rest) rise (inl e) =
    let a = r.actor in
    let none = row_flags-none a rest
    (λ t m. key-other IsActorBelow same_actor (λ x. x.actor) actor_order a t (subst (λ w. IsActorBelow w.actor t.actor) (sym e) (all-member (λ w. IsActorBelow s.actor w.actor) t rest rise.0 m))) in
    cond-true (same_actor a s.actor) (Some (unwrap_or (row_flags a rest) (state_flags s))) (row_flags a rest) (subst (λ w. same_actor a w.actor ≡ true) e (same_actor-refl a))
    ∙ ap (λ o. Some (unwrap_or o (state_flags s))) none ∙ ap (λ w. Some (state_flags w)) (sym e)
row_flags-row r (s ∷ rest) rise (inr m) =
    let a = r.actor in
    let above = all-member (λ w. IsActorBelow s.actor w.actor) r rest rise.0 m in
    let other : same_actor a s.actor ≡ false =
    elim (cases_Bool (same_actor a s.actor)) [
      | inl t ↦ absurd (actor_order.apart s.actor (subst (IsActorBelow s.actor) (same_actor-equal a s.actor t) above))
      | inr f ↦ f
    ] in
    cond-false (same_actor a s.actor) (Some (unwrap_or (row_flags a rest) (state_flags s))) (row_flags a rest) other ∙ row_flags-row r rest rise.1 m

states-part : (xs ys : List StateRow) → StatesRise xs → StatesRise ys → ((a : Actor) → received_total a xs ≡ received_total a ys) → ((a : Actor) → row_flags a xs ≡ row_flags a ys) → IsPart xs ys
states-part xs ys rise rise' totals flags x m =
    let here = row_flags-row x xs rise m in
    let found = row_flags-some x.actor ys (state_flags x) (sym (flags x.actor) ∙ here) in
    let y : StateRow = found.0 in
    let there = row_flags-row y ys rise' found.1 in
    let same_flags = same_Some (state_flags y) (state_flags x) (sym there ∙ ap (λ a. row_flags a ys) found.2 ∙ sym (flags x.actor) ∙ here) in
    let took = total-row IsActorBelow same_actor (λ r. r.actor) actor_order (λ r. r.received) x xs rise m in
    let took' = total-row IsActorBelow same_actor (λ r. r.actor) actor_order (λ r. r.received) y ys rise' found.1 in
    let same_count : y.received ≡ x.received = sym took' ∙ ap (λ a. received_total a ys) found.2 ∙ sym (totals x.actor) ∙ took in
    let one : y ≡ x = λ i. record { actor = found.2 i; received = same_count i; busy = (same_flags i).busy; root = (same_flags i).root } in
    subst (λ z. IsAmong z ys) one found.1

pub ledger-same : (l m : Ledger) → IsInOrder l → IsInOrder m → CountAlike (ledger_counts l) (ledger_counts m) → l ≡ m
ledger-same l m order order' alike =
    let rise = order.0 in
    let rise' = order'.0 in
    let stand = order.1 in
    let stand' = order'.1 in
    let states : l.states ≡ m.states =
    rows-same IsActorBelow same_actor (λ r. r.actor) actor_order l.states m.states rise.states rise'.states
    (states-part l.states m.states rise.states rise'.states alike.received alike.flags)
    (states-part m.states l.states rise'.states rise.states (λ a. sym (alike.received a)) (λ a. sym (alike.flags a))) in
    let one_actor : (x y : ActorCount) → x.actor ≡ y.actor → x.count ≡ y.count → x ≡ y = λ x y p q i. record { actor = p i; count = q i } in
    let one_pair : (x y : PairCount) → (x.owner, x.target) ≡ (y.owner, y.target) → x.count ≡ y.count → x ≡ y =
    λ x y p q i. record { owner = (p i).0; target = (p i).1; count = q i } in
    let sent : l.sent ≡ m.sent =
    counted-same IsActorBelow same_actor (λ r. r.actor) actor_order (λ r. r.count) one_actor l.sent m.sent rise.sent rise'.sent stand.sent stand'.sent alike.sent in
    let created : l.created ≡ m.created =
    counted-same _ _ (λ r. (r.owner, r.target)) pair_order (λ r. r.count) one_pair l.created m.created rise.created rise'.created stand.created stand'.created (λ k. alike.created k.0 k.1) in
    let released : l.released ≡ m.released =
    counted-same _ _ (λ r. (r.owner, r.target)) pair_order (λ r. r.count) one_pair l.released m.released rise.released rise'.released stand.released stand'.released (λ k. alike.released k.0 k.1) in
    λ i. record { states = states i; sent = sent i; created = created i; released = released i }

-- ---- bulletins

-- the bulletin of a notice's kind, node and link with these rows
as_bulletin : ℕ → Notice → Ledger → Bulletin
as_bulletin o (delta facts) l = bulletins.Delta (record { node = o; states = l.states; sent = l.sent; created = l.created; released = l.released })
as_bulletin o (window_of s facts) l = bulletins.Window (record { at = o; from = s; messages = l.sent; carried = l.created })
as_bulletin o (final_of s facts) l = bulletins.Final (record { at = o; from = s; messages = l.sent; carried = l.created })

-- a bulletin that tells a notice counts its facts
pub tells-counts : (o : ℕ) (b : Bulletin) (n : Notice) → Tells o b n → IsLedgerOf (facts_in n) (bulletin_ledger b)
tells-counts o (bulletins.Delta d) (delta facts) t = t.1
tells-counts o (bulletins.Window w) (window_of s facts) t = t.2
tells-counts o (bulletins.Final w) (final_of s facts) t = t.2
tells-counts o b n t = absurd t

tells-rebuilt : (o : ℕ) (b : Bulletin) (n : Notice) → Tells o b n → b ≡ as_bulletin o n (bulletin_ledger b)
unfolding as_bulletin
tells-rebuilt o (bulletins.Delta d) (delta facts) t = λ i. bulletins.Delta (record { node = t.0 i; states = d.states; sent = d.sent; created = d.created; released = d.released })
tells-rebuilt o (bulletins.Window w) (window_of s facts) t = λ i. bulletins.Window (record { at = t.0 i; from = t.1 i; messages = w.messages; carried = w.carried })
tells-rebuilt o (bulletins.Final w) (final_of s facts) t = λ i. bulletins.Final (record { at = t.0 i; from = t.1 i; messages = w.messages; carried = w.carried })
tells-rebuilt o b n t = absurd t

-- rising rows that tell one notice are the same
pub tells-same : (o : ℕ) (b c : Bulletin) (n : Notice) → IsOrdered b → IsOrdered c → Tells o b n → Tells o c n → b ≡ c
tells-same o b c n order order' t t' =
    let alike = alike-then (ledger_counts (bulletin_ledger b)) (fact_counts (facts_in n)) (ledger_counts (bulletin_ledger c)) (tells-counts o b n t)
    (alike-back (ledger_counts (bulletin_ledger c)) (fact_counts (facts_in n)) (tells-counts o c n t')) in
    let rows = ledger-same (bulletin_ledger b) (bulletin_ledger c) order order' alike in
    tells-rebuilt o b n t ∙ ap (as_bulletin o n) rows ∙ sym (tells-rebuilt o c n t')

-- ---- names

-- rows that count what facts say name the same actors, and as many
pub ledger-named : (facts : List Fact) (l : Ledger) → CountFromOne l → IsLedgerOf facts l → (a : Actor) → IsAmong a (ledger_names l) ↔ IsAmong a (flat_map named_by facts)
ledger-named facts l stand alike a = (
  λ h. (facts-named a facts).1 (named-alike (ledger_counts l) (fact_counts facts) alike a ((rows-named a l stand).0 h)),
  λ h. (rows-named a l stand).1 (named-alike (fact_counts facts) (ledger_counts l) (alike-back (ledger_counts l) (fact_counts facts) alike) a ((facts-named a facts).0 h)),
)

pub ledger-rising_names : (facts : List Fact) (l : Ledger) → CountFromOne l → IsLedgerOf facts l → rising_actors (ledger_names l) ≡ rising_actors (flat_map named_by facts)
ledger-rising_names facts l stand alike =
    rising_actors-same (ledger_names l) (flat_map named_by facts) (λ a. (ledger-named facts l stand alike a).0) (λ a. (ledger-named facts l stand alike a).1)

-- ---- entries

entries-joined : (es more : List Entry) → entries_ledger (es ++ more) ≡ joined (entries_ledger es) (entries_ledger more)
entries-joined [] more = refl
entries-joined (e ∷ es) more =
    let l = entry_ledger e in
    let m = entries_ledger es in
    let n = entries_ledger more in
    ap (joined l) (entries-joined es more)
    ∙ (λ i. record {
      states = sym (append_assoc l.states m.states n.states) i;
      sent = sym (append_assoc l.sent m.sent n.sent) i;
      created = sym (append_assoc l.created m.created n.created) i;
      released = sym (append_assoc l.released m.released n.released) i;
    })

ledger-alone : (l : Ledger) → joined l no_rows ≡ l
ledger-alone l = λ i. record {
  states = append-nil l.states i;
  sent = append-nil l.sent i;
  created = append-nil l.created i;
  released = append-nil l.released i;
}

-- joined rows count what joined facts say
pub joined-tells : (xs ys : List Fact) (l m : Ledger) → IsLedgerOf xs l → IsLedgerOf ys m → IsLedgerOf (xs ++ ys) (joined l m)
joined-tells xs ys l m first second =
    alike-then (ledger_counts (joined l m)) (both (ledger_counts l) (ledger_counts m)) (fact_counts (xs ++ ys)) (rows-both l m)
    (alike-then (both (ledger_counts l) (ledger_counts m)) (both (fact_counts xs) (fact_counts ys)) (fact_counts (xs ++ ys))
    (alike-both (ledger_counts l) (fact_counts xs) (ledger_counts m) (fact_counts ys) first second)
    (alike-back (fact_counts (xs ++ ys)) (both (fact_counts xs) (fact_counts ys)) (facts-both xs ys)))

pub no_entries-tell : IsLedgerOf [] (entries_ledger [])
no_entries-tell = record { received = λ _. refl; flags = λ _. refl; sent = λ _. refl; created = λ _ _. refl; released = λ _ _. refl }

-- more entries tell their facts after the others
pub more_entries-tell : (es fs : List Entry) (xs ys : List Fact) → TellEntries es xs → TellEntries fs ys → TellEntries (es ++ fs) (xs ++ ys)
more_entries-tell es fs xs ys first second =
    subst (IsLedgerOf (xs ++ ys)) (sym (entries-joined es fs)) (joined-tells xs ys (entries_ledger es) (entries_ledger fs) first second)

-- one entry alone
pub one_entry-tells : (a : Actor) (e : Entry) (xs : List Fact) → TellsEntry a e xs → TellEntries (e ∷ []) xs
one_entry-tells a e xs tells = subst (IsLedgerOf xs) (sym (ledger-alone (entry_ledger e))) tells.1

-- the sum of entries that count facts tells these facts
pub delta-tells : (o : ℕ) (es : List Entry) (d : Delta) (xs : List Fact) → TellEntries es xs → IsDeltaOf o es d → TellsDelta o d xs
delta-tells o es d xs tells sum =
    (sum.0, alike-then (ledger_counts (delta_ledger d)) (ledger_counts (entries_ledger es)) (fact_counts xs) sum.1 tells)
