-- Whole bulletins that are read part by part, and then searched for an actor without a mark.
use Rattle.std.proofs.Common.{◌≡◌, ◌≤◌, ℕ, ◌+◌, ◌*◌, ◌++◌, Bool, List, drop, length, Option, Result, Ok, Err, sym, ap, subst, ◌∙◌, arith}
use Rattle.std.specs.Prelude.{IfOk}
use Rattle.crgc_bytes.specs.Place.{IsBytes, Place}
use Rattle.crgc_ids.specs.Actor.{Actor}
use Rattle.history_model.specs.declared.records.Bulletin.{Bulletin}
use Rattle.history_model.specs.declared.records.Delta.{Delta}
use Rattle.history_model.specs.declared.records.Window.{Window}
use Rattle.wire_grammar.specs.Named.{count_names, delta_names, pair_names, state_names, window_names}
use Rattle.wire_grammar.specs.Reading.{all_named, counts_at, delta_at, link_at, node_at, pairs_at, reading, states_at, table_at, unnamed, window_at}
use Rattle.wire_grammar.specs.Spelling.{index_len, spelled}
use Rattle.wire_grammar.specs.Spellable.{IsSpellable}
use Rattle.wire_grammar.proofs.Bulletins.{reading-found}
use Rattle.wire_grammar.proofs.Rows.{table-offset}
use Rattle.graph_wire.specs.Gives.{GivesPrefix}
use Rattle.graph_wire.specs.Marks.{actors_of, AreNamed, IsFresh, Marks}
use Rattle.graph_wire.specs.declared.fault.ReadFault.{ReadFault}
use Rattle.graph_wire.specs.declared.table.TableActor.{TableActor}
use Rattle.graph_wire.proofs.Marks.{actors_of-length, AreNamed-from, Marks-then}

-- the marks after all sections give the first unnamed actor
named-ends : (names : List Actor) (fresh table : List TableActor) (offset first : ℕ) (o : Option ℕ) → IsFresh fresh → Marks names fresh table → offset ≡ first
    → ((xs : List Actor) → AreNamed xs table → o ≡ unnamed xs first (actors_of table)) → unnamed names offset (actors_of fresh) ≡ o
named-ends names fresh table offset first o new marks e h =
    ap (λ n. unnamed names n (actors_of fresh)) e
    ∙ ap (λ xs. unnamed names first xs) (sym marks.actors)
    ∙ sym (h names (AreNamed-from names fresh table new marks))

-- a table begins at its first actor
first-offset : (wide : Bool) (p q : Place) (t : List TableActor) (first : ℕ) → table_at wide p ≡ Ok (actors_of t, q) → first + 5 * length t ≡ q.offset → p.offset + index_len wide ≡ first
first-offset wide p q t first e f = omega (arith, table-offset wide p q (actors_of t) e, actors_of-length t)

-- there is room before the place that is reached for the table's actors
pub table-room : (wide : Bool) (p q : Place) (t : List TableActor) → table_at wide p ≡ Ok (actors_of t, q) → 5 * length t ≤ q.offset
table-room wide p q t e = omega (arith, table-offset wide p q (actors_of t) e, actors_of-length t)

pub delta-ends : (wide : Bool) (p n1 t1 a1 b1 c1 r1 : Place) (d : Delta) (items t ta tb tc tr : List TableActor) (first : ℕ) (o : Option ℕ)
    → node_at p ≡ Ok (d.node, n1) → table_at wide n1 ≡ Ok (actors_of items, t1) → IsFresh items → t ≡ items
    → states_at wide (actors_of t) t1 ≡ Ok (d.states, a1) → Marks (state_names d.states) t ta
    → counts_at wide (actors_of ta) a1 ≡ Ok (d.sent, b1) → Marks (count_names d.sent) ta tb
    → pairs_at wide (actors_of tb) b1 ≡ Ok (d.created, c1) → Marks (pair_names d.created) tb tc
    → pairs_at wide (actors_of tc) c1 ≡ Ok (d.released, r1) → Marks (pair_names d.released) tc tr
    → first + 5 * length items ≡ t1.offset → ((xs : List Actor) → AreNamed xs tr → o ≡ unnamed xs first (actors_of tr))
    → delta_at wide p ≡ all_named o (d, r1)
unfolding delta_at
delta-ends wide p n1 t1 a1 b1 c1 r1 d items t ta tb tc tr first o en et-items new-items same ea ma eb mb ec mc er mr ef eo =
    let et : table_at wide n1 ≡ Ok (actors_of t, t1) = subst (λ x. table_at wide n1 ≡ Ok (actors_of x, t1)) (sym same) et-items in
    let new = subst IsFresh (sym same) new-items in
    let place = first-offset wide n1 t1 items first et-items ef in
    let two = Marks-then (pair_names d.created) (pair_names d.released) tb tc tr mc mr in
    let three = Marks-then (count_names d.sent) (pair_names d.created ++ pair_names d.released) ta tb tr mb two in
    let four = Marks-then (state_names d.states) (count_names d.sent ++ (pair_names d.created ++ pair_names d.released)) t ta tr ma three in
    let b-first : counts_at wide (actors_of t) a1 ≡ Ok (d.sent, b1) = ap (λ xs. counts_at wide xs a1) (sym ma.actors) ∙ eb in
    let c-first : pairs_at wide (actors_of t) b1 ≡ Ok (d.created, c1) = ap (λ xs. pairs_at wide xs b1) (sym (mb.actors ∙ ma.actors)) ∙ ec in
    let r-first : pairs_at wide (actors_of t) c1 ≡ Ok (d.released, r1) = ap (λ xs. pairs_at wide xs c1) (sym (mc.actors ∙ mb.actors ∙ ma.actors)) ∙ er in
    let found : unnamed (delta_names d) (n1.offset + index_len wide) (actors_of t) ≡ o = named-ends (delta_names d) t tr (n1.offset + index_len wide) first o new four place eo in
    rw (en, et, ea, b-first, c-first, r-first) (ap (λ x. all_named x (d, r1)) found)

pub window-ends : (wide : Bool) (p n1 t1 b1 c1 : Place) (w : Window) (items t tb tc : List TableActor) (first : ℕ) (o : Option ℕ)
    → link_at p ≡ Ok ((w.at, w.from), n1) → table_at wide n1 ≡ Ok (actors_of items, t1) → IsFresh items → t ≡ items
    → counts_at wide (actors_of t) t1 ≡ Ok (w.messages, b1) → Marks (count_names w.messages) t tb
    → pairs_at wide (actors_of tb) b1 ≡ Ok (w.carried, c1) → Marks (pair_names w.carried) tb tc
    → first + 5 * length items ≡ t1.offset → ((xs : List Actor) → AreNamed xs tc → o ≡ unnamed xs first (actors_of tc))
    → window_at wide p ≡ all_named o (w, c1)
unfolding window_at
window-ends wide p n1 t1 b1 c1 w items t tb tc first o en et-items new-items same eb mb ec mc ef eo =
    let et : table_at wide n1 ≡ Ok (actors_of t, t1) = subst (λ x. table_at wide n1 ≡ Ok (actors_of x, t1)) (sym same) et-items in
    let new = subst IsFresh (sym same) new-items in
    let place = first-offset wide n1 t1 items first et-items ef in
    let both = Marks-then (count_names w.messages) (pair_names w.carried) t tb tc mb mc in
    let c-first : pairs_at wide (actors_of t) b1 ≡ Ok (w.carried, c1) = ap (λ xs. pairs_at wide xs b1) (sym mb.actors) ∙ ec in
    let found : unnamed (window_names w) (n1.offset + index_len wide) (actors_of t) ≡ o = named-ends (window_names w) t tc (n1.offset + index_len wide) first o new both place eo in
    rw (en, et, eb, c-first) (ap (λ x. all_named x (w, c1)) found)

pub is-found : (bytes : List ℕ) (r : Result (Bulletin × ℕ) ReadFault) → IsBytes bytes → GivesPrefix r (reading bytes) → IfOk r (λ x. IsSpellable x.0 × (bytes ≡ spelled x.0 ++ drop x.1 bytes) × (x.1 ≡ length (spelled x.0)))
is-found bytes (Ok x) fits given = reading-found bytes x.0 x.1 fits given
is-found bytes (Err e) fits given = tt
