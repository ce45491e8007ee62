-- The numbers of rows and of a table's actors have room in the bulletin's form.
use Rattle.std.proofs.Common.{◌≡◌, ◌⊎◌, ℕ, Bool, ltb, List, ◌++◌, length, sym, ap, subst, ◌∙◌, inl, inr, arith}
use Rattle.std.specs.List.{AllByRecursion}
use Rattle.crgc_ids.specs.Actor.{Actor, IsActor}
use Rattle.crgc_ids.specs.Members.{IsAmong, IsPart}
use Rattle.crgc_ids.specs.declared.rising.ActorCount.{ActorCount}
use Rattle.crgc_ids.proofs.MembersLaws.{all-member, all-from_members}
use Rattle.history_model.specs.declared.records.Bulletin.{Bulletin}
use Rattle.history_model.specs.declared.records.Bulletin.TheVariants as bulletins
use Rattle.history_model.specs.declared.records.Delta.{Delta}
use Rattle.history_model.specs.declared.records.StateRow.{StateRow}
use Rattle.history_model.specs.declared.records.Window.{Window}
use Rattle.wire_grammar.specs.Named.{count_names, delta_names, is_wide, names_of, pair_names, state_names, table_of, window_names}
use Rattle.wire_grammar.specs.Spellable.{IsSpellable}
use Rattle.wire_grammar.proofs.Names.{each-left, each-right, rows_length, table_short}
use Rattle.wire_grammar.proofs.Tables.{table_of-has, table_of-only, table_of-rises}
use Rattle.graph_wire.specs.Rises.{DeltaRises, KeysRise, WindowRises}
use Rattle.graph_wire.specs.Writable.{DeltaHasRoom, IsWritable, IsWritableDelta, IsWritableWindow, WindowHasRoom}

table-actors : (names : List Actor) → AllByRecursion IsActor names → AllByRecursion IsActor (table_of names)
table-actors names all = all-from_members IsActor (table_of names) (λ x m. all-member IsActor x names all (table_of-only x names m))

pub delta-room : (wide : Bool) (d : Delta) → IsWritableDelta d → AllByRecursion IsActor (delta_names d) → DeltaRises d → is_wide (table_of (delta_names d)) ≡ wide → DeltaHasRoom wide (table_of (delta_names d)) d
delta-room wide d h all up form =
    let names = delta_names d in
    let t = table_of names in
    let In : Actor → Type 0 = λ x. IsAmong x t in
    let rises = table_of-rises names in
    let room = table_short wide t (table-actors names all) rises form in
    let part : IsPart names t = λ x m. table_of-has x names m in
    let later = each-right In (state_names d.states) (count_names d.sent ++ (pair_names d.created ++ pair_names d.released)) part in
    let most_states = rows_length (λ (r : StateRow). r.actor) t d.states rises up.0 (each-left In (state_names d.states) (count_names d.sent ++ (pair_names d.created ++ pair_names d.released)) part) in
    let most_sent = rows_length (λ (r : ActorCount). r.actor) t d.sent rises up.1 (each-left In (count_names d.sent) (pair_names d.created ++ pair_names d.released) later) in
    record { rises = rises; room = room; states = omega arith; sent = omega arith; created = h.created; released = h.released }

pub window-room : (wide : Bool) (w : Window) → IsWritableWindow w → AllByRecursion IsActor (window_names w) → WindowRises w → is_wide (table_of (window_names w)) ≡ wide → WindowHasRoom wide (table_of (window_names w)) w
window-room wide w h all up form =
    let names = window_names w in
    let t = table_of names in
    let In : Actor → Type 0 = λ x. IsAmong x t in
    let rises = table_of-rises names in
    let room = table_short wide t (table-actors names all) rises form in
    let part : IsPart names t = λ x m. table_of-has x names m in
    let most = rows_length (λ (r : ActorCount). r.actor) t w.messages rises up (each-left In (count_names w.messages) (pair_names w.carried) part) in
    record { rises = rises; room = room; messages = omega arith; carried = h.carried }

-- the same of the table that was made, and of its length
pub delta-ready : (b : Bulletin) (d : Delta) (table : List Actor) (n : ℕ) → b ≡ bulletins.Delta d → IsWritable b → AllByRecursion IsActor (names_of b) → KeysRise b → table ≡ table_of (names_of b) → n ≡ length table → DeltaHasRoom (ltb 65535 n) table d
delta-ready b d table n e h all up made len =
    let made_is : table ≡ table_of (delta_names d) = made ∙ ap (λ x. table_of (names_of x)) e in
    let form : is_wide (table_of (delta_names d)) ≡ ltb 65535 n = ap (λ t. ltb 65535 (length t)) (sym made_is) ∙ ap (λ k. ltb 65535 k) (sym len) in
    subst (λ t. DeltaHasRoom (ltb 65535 n) t d) (sym made_is)
    (delta-room (ltb 65535 n) d (subst IsWritable e h) (subst (λ x. AllByRecursion IsActor (names_of x)) e all) (subst KeysRise e up) form)

abbrev IsOf : Bulletin → Window → Type 0
IsOf b w = (b ≡ bulletins.Window w) ⊎ (b ≡ bulletins.Final w)

window-ready-from : (w : Window) (table : List Actor) (n : ℕ) → IsWritableWindow w → AllByRecursion IsActor (window_names w) → WindowRises w → table ≡ table_of (window_names w) → n ≡ length table → WindowHasRoom (ltb 65535 n) table w
window-ready-from w table n h all up made len =
    let form : is_wide (table_of (window_names w)) ≡ ltb 65535 n = ap (λ t. ltb 65535 (length t)) (sym made) ∙ ap (λ k. ltb 65535 k) (sym len) in
    subst (λ t. WindowHasRoom (ltb 65535 n) t w) (sym made) (window-room (ltb 65535 n) w h all up form)

pub window-ready : (b : Bulletin) (w : Window) (table : List Actor) (n : ℕ) → IsOf b w → IsWritable b → AllByRecursion IsActor (names_of b) → KeysRise b → table ≡ table_of (names_of b) → n ≡ length table → WindowHasRoom (ltb 65535 n) table w
window-ready b w table n (inl e) h all up made len =
    window-ready-from w table n (subst IsWritable e h) (subst (λ x. AllByRecursion IsActor (names_of x)) e all) (subst KeysRise e up) (made ∙ ap (λ x. table_of (names_of x)) e) len
window-ready b w table n (inr e) h all up made len =
    window-ready-from w table n (subst IsWritable e h) (subst (λ x. AllByRecursion IsActor (names_of x)) e all) (subst KeysRise e up) (made ∙ ap (λ x. table_of (names_of x)) e) len

-- what has a spelling can be written
pub spellable-writable : (b : Bulletin) → IsSpellable b → IsWritable b
spellable-writable (bulletins.Delta d) h = record { states = h.states.fit; sent = h.sent.fit; created = h.created.fit; released = h.released.fit }
spellable-writable (bulletins.Window w) h = record { link = h.link; messages = h.messages.fit; carried = h.carried.fit }
spellable-writable (bulletins.Final w) h = record { link = h.link; messages = h.messages.fit; carried = h.carried.fit }
