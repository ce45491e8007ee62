-- Whole bulletins: what is read is the bulletin that is spelled so, and each spelling is read.
use Rattle.std.proofs.Common.{◌≡◌, ◌≢◌, ◌⊎◌, ◌<◌, ◌≤◌, ◌+◌, ◌^◌, ◌==◌, ◌&&◌, ◌||◌, ℕ, zero, suc, Bool, true, false, eqb, ltb, not, List, [], ◌∷◌, ◌++◌, length, drop, Result, Ok, Err, refl, sym, ap, subst, ◌∙◌, inl, inr, arith}
use Rattle.std.specs.List.{AllByRecursion}
use Rattle.std.proofs.lemmas.List.{append-nil, drop_at, length-append, nil_from_length}
use Rattle.std.proofs.lemmas.Bool.{and_from, eqb-false, eqb-true, lt-ltb, ltb-true, ne_eqb}
use Rattle.byteorder.specs.Endian.{big_bytes}
use Rattle.crgc_bytes.specs.Place.{IsBytes, Place}
use Rattle.crgc_ids.specs.Actor.{Actor, IsActorBelow, IsPairBelow, IsActor}
use Rattle.crgc_ids.specs.Members.{IsAmong, IsPart}
use Rattle.crgc_ids.specs.declared.rising.ActorCount.{ActorCount}
use Rattle.crgc_ids.specs.declared.rising.PairCount.{PairCount}
use Rattle.crgc_ids.proofs.MembersLaws.{all-member, all-from_members}
use Rattle.history_model.specs.declared.records.Bulletin.{Bulletin}
use Rattle.history_model.specs.declared.records.Bulletin.TheVariants as bulletins
use Rattle.history_model.specs.declared.records.Delta.{Delta}
use Rattle.history_model.specs.declared.records.StateRow.{StateRow}
use Rattle.history_model.specs.declared.records.Window.{Window}
use Rattle.wire_grammar.specs.declared.fault.WireFault.{WireFault}
use Rattle.wire_grammar.specs.declared.fault.WireKind.TheVariants.{Kind, Magic, Node}
use Rattle.wire_grammar.specs.Fields.{Reader, made}
use Rattle.wire_grammar.specs.Named.{count_names, delta_names, is_wide, names_of, pair_names, state_names, table_of, window_names}
use Rattle.wire_grammar.specs.Spelling.{counts_text, delta_text, index_len, magic, pairs_text, spelled, states_text, table_text, window_text}
use Rattle.wire_grammar.specs.Reading.{body_at, bulletin_at, counts_at, delta_at, kind_at, link_at, magic_at, node_at, pairs_at, reading, states_at, table_at, window_at}
use Rattle.wire_grammar.specs.Spellable.{AreCounts, ArePairs, AreStates, BeginsWithSpelling, IsActorCount, IsDelta, IsPairCount, IsSpellable, IsStateRow, IsWindow}
use Rattle.wire_grammar.proofs.Readers.{IsReader, Moves, Moves-bytes, Moves-first, Moves-second, Moves-then, between, bind_ok, both-reader, checked-reader, number-reader, ok_is}
use Rattle.wire_grammar.proofs.Rows.{AreFitting, CountFits, PairFits, StateFits, counts-reader, node-reader, pairs-reader, reader-like, states-reader, table-reader}
use Rattle.wire_grammar.proofs.Names.{all_named-again, all_named-ok, each-both, each-left, each-right, len_short, rows-actors, rows-fit, rows-found, rows-named, rows_length, table_is, table_short}
use Rattle.wire_grammar.proofs.Tables.{IsTable, table_of-has, table_of-only, table_of-rises}
use Rattle.history_model.proofs.Lists.{Each, each-more, each-one}

abbrev StateAbove : StateRow → StateRow → Type 0
StateAbove r s = IsActorBelow r.actor s.actor

abbrev CountAbove : ActorCount → ActorCount → Type 0
CountAbove r s = IsActorBelow r.actor s.actor

abbrev PairAbove : PairCount → PairCount → Type 0
PairAbove r s = IsPairBelow r.owner r.target s.owner s.target

abbrev state_name : StateRow → List Actor
state_name r = r.actor ∷ []

abbrev count_name : ActorCount → List Actor
count_name r = r.actor ∷ []

abbrev pair_name : PairCount → List Actor
pair_name r = r.owner ∷ r.target ∷ []

-- ---- the three kinds of rows, against a table

in_table : (t : List Actor) → AllByRecursion IsActor t → (a : Actor) → IsAmong a t → IsActor a
in_table t all a m = all-member IsActor a t all m

state-actors : (r : StateRow) → IsStateRow r → Each IsActor (state_name r)
state-actors r h = each-one IsActor r.actor h.0

state-found : (t : List Actor) → AllByRecursion IsActor t → (r : StateRow) → StateFits t r → IsStateRow r
state-found t all r h = (in_table t all r.actor h.0, h.1)

state-named : (t : List Actor) (r : StateRow) → StateFits t r → IsPart (state_name r) t
state-named t r h = each-one (λ x. IsAmong x t) r.actor h.0

state-fitting : (t : List Actor) (r : StateRow) → IsStateRow r → IsPart (state_name r) t → StateFits t r
state-fitting t r h p = (p r.actor (inl refl), h.1)

count-actors : (r : ActorCount) → IsActorCount r → Each IsActor (count_name r)
count-actors r h = each-one IsActor r.actor h.0

count-found : (t : List Actor) → AllByRecursion IsActor t → (r : ActorCount) → CountFits t r → IsActorCount r
count-found t all r h = (in_table t all r.actor h.0, h.1)

count-named : (t : List Actor) (r : ActorCount) → CountFits t r → IsPart (count_name r) t
count-named t r h = each-one (λ x. IsAmong x t) r.actor h.0

count-fitting : (t : List Actor) (r : ActorCount) → IsActorCount r → IsPart (count_name r) t → CountFits t r
count-fitting t r h p = (p r.actor (inl refl), h.1)

pair-actors : (r : PairCount) → IsPairCount r → Each IsActor (pair_name r)
pair-actors r h = each-more IsActor r.owner (r.target ∷ []) h.0 (each-one IsActor r.target h.1)

pair-found : (t : List Actor) → AllByRecursion IsActor t → (r : PairCount) → PairFits t r → IsPairCount r
pair-found t all r h = (in_table t all r.owner h.0, in_table t all r.target h.1, h.2)

pair-named : (t : List Actor) (r : PairCount) → PairFits t r → IsPart (pair_name r) t
pair-named t r h = each-more (λ x. IsAmong x t) r.owner (r.target ∷ []) h.0 (each-one (λ x. IsAmong x t) r.target h.1)

pair-fitting : (t : List Actor) (r : PairCount) → IsPairCount r → IsPart (pair_name r) t → PairFits t r
pair-fitting t r h p = (p r.owner (inl refl), p r.target (inr (inl refl)), h.2)

-- a table of actors in the form that its length asks for
pub record IsFormed (wide : Bool) (t : List Actor) : Type 0 where
  pub rises : IsTable t
  pub actors : AllByRecursion IsActor t
  pub form : is_wide t ≡ wide

formed : (wide : Bool) (t : List Actor) → AreFitting IsActorBelow IsActor (λ n. (n < 256 ^ index_len wide) × (ltb 65535 n ≡ wide)) t → IsFormed wide t
formed wide t h = record { rises = h.rise; actors = h.fit; form = h.len.1 }

module _ (wide : Bool) (t : List Actor) (f : IsFormed wide t) where
  short : length t < 256 ^ index_len wide
  short = table_short wide t f.actors f.rises f.form

  room : length t ≤ 256 ^ index_len wide
  room = let h = short in omega arith

  table-fits : AreFitting IsActorBelow IsActor (λ n. (n < 256 ^ index_len wide) × (ltb 65535 n ≡ wide)) t
  table-fits = record { rise = f.rises; fit = f.actors; len = (short, f.form) }

  states : IsReader (states_text wide t) (states_at wide t) (λ xs. AreStates xs × IsPart (state_names xs) t)
  states =
      reader-like
      (λ xs h. (
        rows-found state_name StateAbove IsStateRow (StateFits) state-actors state-found state-named state-fitting t (λ n. n < 256 ^ index_len wide) xs f.actors (len_short wide) h,
        rows-named state_name StateAbove IsStateRow (StateFits) state-actors state-found state-named state-fitting t (λ n. n < 256 ^ index_len wide) xs h,
      ))
      (λ xs h. let most = rows_length (λ (r : StateRow). r.actor) t xs f.rises h.0.rise h.1 in let few = short in
      rows-fit state_name StateAbove IsStateRow (StateFits) state-actors state-found state-named state-fitting t (λ n. n < 256 ^ index_len wide) xs h.0 h.1 (omega arith))
      (states-reader wide t f.rises room)

  counts : IsReader (counts_text wide t) (counts_at wide t) (λ xs. AreCounts xs × IsPart (count_names xs) t)
  counts =
      reader-like
      (λ xs h. (
        rows-found count_name CountAbove IsActorCount CountFits count-actors count-found count-named count-fitting t (λ n. n < 256 ^ index_len wide) xs f.actors (len_short wide) h,
        rows-named count_name CountAbove IsActorCount CountFits count-actors count-found count-named count-fitting t (λ n. n < 256 ^ index_len wide) xs h,
      ))
      (λ xs h. let most = rows_length (λ (r : ActorCount). r.actor) t xs f.rises h.0.rise h.1 in let few = short in
      rows-fit count_name CountAbove IsActorCount CountFits count-actors count-found count-named count-fitting t (λ n. n < 256 ^ index_len wide) xs h.0 h.1 (omega arith))
      (counts-reader wide t f.rises room)

  pairs : IsReader (pairs_text wide t) (pairs_at wide t) (λ xs. ArePairs xs × IsPart (pair_names xs) t)
  pairs =
      reader-like
      (λ xs h. (
        rows-found pair_name PairAbove IsPairCount PairFits pair-actors pair-found pair-named pair-fitting t (λ n. n < 2 ^ 32) xs f.actors (λ n k. k) h,
        rows-named pair_name PairAbove IsPairCount PairFits pair-actors pair-found pair-named pair-fitting t (λ n. n < 2 ^ 32) xs h,
      ))
      (λ xs h. rows-fit pair_name PairAbove IsPairCount PairFits pair-actors pair-found pair-named pair-fitting t (λ n. n < 2 ^ 32) xs h.0 h.1 h.0.fit)
      (pairs-reader wide t f.rises room)

table : (wide : Bool) → IsReader (table_text wide) (table_at wide) (IsFormed wide)
table wide = reader-like (formed wide) (table-fits wide) (table-reader wide)

-- the table of names of actors
names-formed : (wide : Bool) (names : List Actor) → Each IsActor names → is_wide (table_of names) ≡ wide → IsFormed wide (table_of names)
names-formed wide names h e = record {
  rises = table_of-rises names;
  actors = all-from_members IsActor (table_of names) (λ x m. h x (table_of-only x names m));
  form = e;
}

-- ---- a Delta

delta-actors : (d : Delta) → IsDelta d → Each IsActor (delta_names d)
delta-actors d h =
    each-both IsActor (state_names d.states) (count_names d.sent ++ (pair_names d.created ++ pair_names d.released))
    (rows-actors state_name StateAbove IsStateRow StateFits state-actors state-found state-named state-fitting d.states h.states)
    (each-both IsActor (count_names d.sent) (pair_names d.created ++ pair_names d.released)
    (rows-actors count_name CountAbove IsActorCount CountFits count-actors count-found count-named count-fitting d.sent h.sent)
    (each-both IsActor (pair_names d.created) (pair_names d.released)
    (rows-actors pair_name PairAbove IsPairCount PairFits pair-actors pair-found pair-named pair-fitting d.created h.created)
    (rows-actors pair_name PairAbove IsPairCount PairFits pair-actors pair-found pair-named pair-fitting d.released h.released)))

abbrev delta_over : Bool → Delta → List ℕ
delta_over wide d = delta_text wide (table_of (delta_names d)) d

delta-takes : (wide : Bool) (p q : Place) (d : Delta) → IsBytes p.rest → delta_at wide p ≡ Ok (d, q) → (IsDelta d × (is_wide (table_of (delta_names d)) ≡ wide)) × Moves p (delta_over wide d) q
unfolding delta_at delta_text
delta-takes wide p q d fits e =
    let n = bind_ok (node_at p) _ (d, q) e in
    let t = bind_ok (table_at wide n.0.1) _ (d, q) n.2 in
    let a = bind_ok (states_at wide t.0.0 t.0.1) _ (d, q) t.2 in
    let b = bind_ok (counts_at wide t.0.0 a.0.1) _ (d, q) a.2 in
    let c = bind_ok (pairs_at wide t.0.0 b.0.1) _ (d, q) b.2 in
    let r = bind_ok (pairs_at wide t.0.0 c.0.1) _ (d, q) c.2 in
    let found : Delta = record { node = n.0.0; states = a.0.0; sent = b.0.0; created = c.0.0; released = r.0.0 } in
    let named = all_named-ok (delta_names found) (n.0.1.offset + index_len wide) t.0.0 (found, r.0.1) (d, q) r.2 in
    let n-takes = node-reader.takes p n.0.1 n.0.0 fits n.1 in
    let n-bytes = Moves-bytes p n.0.1 (big_bytes 1 n.0.0) n-takes.1 fits in
    let t-takes = (table wide).takes n.0.1 t.0.1 t.0.0 n-bytes t.1 in
    let t-bytes = Moves-bytes n.0.1 t.0.1 (table_text wide t.0.0) t-takes.1 n-bytes in
    let a-takes = (states wide t.0.0 t-takes.0).takes t.0.1 a.0.1 a.0.0 t-bytes a.1 in
    let a-bytes = Moves-bytes t.0.1 a.0.1 (states_text wide t.0.0 a.0.0) a-takes.1 t-bytes in
    let b-takes = (counts wide t.0.0 t-takes.0).takes a.0.1 b.0.1 b.0.0 a-bytes b.1 in
    let b-bytes = Moves-bytes a.0.1 b.0.1 (counts_text wide t.0.0 b.0.0) b-takes.1 a-bytes in
    let c-takes = (pairs wide t.0.0 t-takes.0).takes b.0.1 c.0.1 c.0.0 b-bytes c.1 in
    let c-bytes = Moves-bytes b.0.1 c.0.1 (pairs_text wide t.0.0 c.0.0) c-takes.1 b-bytes in
    let r-takes = (pairs wide t.0.0 t-takes.0).takes c.0.1 r.0.1 r.0.0 c-bytes r.1 in
    let all : IsPart (delta_names found) t.0.0 =
    each-both (λ x. IsAmong x t.0.0) (state_names a.0.0) (count_names b.0.0 ++ (pair_names c.0.0 ++ pair_names r.0.0)) a-takes.0.1
    (each-both (λ x. IsAmong x t.0.0) (count_names b.0.0) (pair_names c.0.0 ++ pair_names r.0.0) b-takes.0.1
    (each-both (λ x. IsAmong x t.0.0) (pair_names c.0.0) (pair_names r.0.0) c-takes.0.1 r-takes.0.1)) in
    let same : table_of (delta_names found) ≡ t.0.0 = table_is t.0.0 (delta_names found) t-takes.0.rises named.0 all in
    let cr = Moves-then b.0.1 c.0.1 r.0.1 (pairs_text wide t.0.0 c.0.0) (pairs_text wide t.0.0 r.0.0) c-takes.1 r-takes.1 in
    let br = Moves-then a.0.1 b.0.1 r.0.1 (counts_text wide t.0.0 b.0.0) _ b-takes.1 cr in
    let ar = Moves-then t.0.1 a.0.1 r.0.1 (states_text wide t.0.0 a.0.0) _ a-takes.1 br in
    let tr = Moves-then n.0.1 t.0.1 r.0.1 (table_text wide t.0.0) _ t-takes.1 ar in
    let nr : Moves p (delta_text wide t.0.0 found) r.0.1 = Moves-then p n.0.1 r.0.1 (big_bytes 1 n.0.0) _ n-takes.1 tr in
    let whole : Moves p (delta_over wide found) r.0.1 = subst (λ x. Moves p (delta_text wide x found) r.0.1) (sym same) nr in
    let is : IsDelta found = record { node = n-takes.0; states = a-takes.0.0; sent = b-takes.0.0; created = c-takes.0.0; released = r-takes.0.0 } in
    subst (λ (y : Delta × Place). (IsDelta y.0 × (is_wide (table_of (delta_names y.0)) ≡ wide)) × Moves p (delta_over wide y.0) y.1) named.1
    ((is, ap is_wide same ∙ t-takes.0.form), whole)

delta-again : (wide : Bool) (p q : Place) (d : Delta) → IsDelta d × (is_wide (table_of (delta_names d)) ≡ wide) → Moves p (delta_over wide d) q → delta_at wide p ≡ Ok (d, q)
unfolding delta_at delta_text
delta-again wide p q d h m =
    let t = table_of (delta_names d) in
    let f : IsFormed wide t = names-formed wide (delta_names d) (delta-actors d h.0) h.1 in
    let all : IsPart (delta_names d) t = λ x k. table_of-has x (delta_names d) k in
    let In : Actor → Type 0 = λ x. IsAmong x t in
    let after_states = each-right In (state_names d.states) (count_names d.sent ++ (pair_names d.created ++ pair_names d.released)) all in
    let after_sent = each-right In (count_names d.sent) (pair_names d.created ++ pair_names d.released) after_states in
    let r-text = pairs_text wide t d.released in
    let c-text = pairs_text wide t d.created ++ r-text in
    let b-text = counts_text wide t d.sent ++ c-text in
    let a-text = states_text wide t d.states ++ b-text in
    let t-text = table_text wide t ++ a-text in
    let n1 = between p (big_bytes 1 d.node) t-text q in
    let n-reads = node-reader.again p n1 d.node h.0.node (Moves-first p q (big_bytes 1 d.node) t-text m) in
    let m1 = Moves-second p q (big_bytes 1 d.node) t-text m in
    let t1 = between n1 (table_text wide t) a-text q in
    let t-reads = (table wide).again n1 t1 t f (Moves-first n1 q (table_text wide t) a-text m1) in
    let m2 = Moves-second n1 q (table_text wide t) a-text m1 in
    let a1 = between t1 (states_text wide t d.states) b-text q in
    let a-reads = (states wide t f).again t1 a1 d.states (h.0.states, each-left In (state_names d.states) (count_names d.sent ++ (pair_names d.created ++ pair_names d.released)) all) (Moves-first t1 q (states_text wide t d.states) b-text m2) in
    let m3 = Moves-second t1 q (states_text wide t d.states) b-text m2 in
    let b1 = between a1 (counts_text wide t d.sent) c-text q in
    let b-reads = (counts wide t f).again a1 b1 d.sent (h.0.sent, each-left In (count_names d.sent) (pair_names d.created ++ pair_names d.released) after_states) (Moves-first a1 q (counts_text wide t d.sent) c-text m3) in
    let m4 = Moves-second a1 q (counts_text wide t d.sent) c-text m3 in
    let c1 = between b1 (pairs_text wide t d.created) r-text q in
    let c-reads = (pairs wide t f).again b1 c1 d.created (h.0.created, each-left In (pair_names d.created) (pair_names d.released) after_sent) (Moves-first b1 q (pairs_text wide t d.created) r-text m4) in
    let m5 = Moves-second b1 q (pairs_text wide t d.created) r-text m4 in
    let r-reads = (pairs wide t f).again c1 q d.released (h.0.released, each-right In (pair_names d.created) (pair_names d.released) after_sent) m5 in
    let named = all_named-again (delta_names d) (n1.offset + index_len wide) t (d, q) (λ x k. table_of-only x (delta_names d) k) in
    rw (n-reads, t-reads, a-reads, b-reads, c-reads, r-reads) named

delta : (wide : Bool) → IsReader (delta_over wide) (delta_at wide) (λ d. IsDelta d × (is_wide (table_of (delta_names d)) ≡ wide))
delta wide = record { takes = delta-takes wide; again = delta-again wide }

-- ---- a Window or a Final

not-true : (b : Bool) → not b ≡ true → b ≡ false
not-true true h = absurd cc
not-true false h = refl

or-left : (b : Bool) → (b || false) ≡ true → b ≡ true
or-left true h = refl
or-left false h = absurd cc

and-both : (a b : Bool) → (a && b) ≡ true → (a ≡ true) × (b ≡ true)
and-both true b h = (refl, h)
and-both false b h = absurd cc

link-reader : IsReader (λ (z : ℕ × ℕ). big_bytes 1 z.0 ++ big_bytes 1 z.1) link_at (λ z. (z.0 < 16) × (z.1 < 16) × (z.1 ≢ z.0))
link-reader =
    reader-like
    (λ z h. (h.0, h.1.0, eqb-false z.1 z.0 (not-true (eqb z.1 z.0) h.1.1)))
    (λ z h. (h.0, (h.1, ap not (ne_eqb z.1 z.0 h.2))))
    (both-reader node-reader (λ n h. checked-reader Node (λ m. not (m == n)) node-reader))

window-actors : (w : Window) → IsWindow w → Each IsActor (window_names w)
window-actors w h =
    each-both IsActor (count_names w.messages) (pair_names w.carried)
    (rows-actors count_name CountAbove IsActorCount CountFits count-actors count-found count-named count-fitting w.messages h.messages)
    (rows-actors pair_name PairAbove IsPairCount PairFits pair-actors pair-found pair-named pair-fitting w.carried h.carried)

abbrev window_over : Bool → Window → List ℕ
window_over wide w = window_text wide (table_of (window_names w)) w

window-takes : (wide : Bool) (p q : Place) (w : Window) → IsBytes p.rest → window_at wide p ≡ Ok (w, q) → (IsWindow w × (is_wide (table_of (window_names w)) ≡ wide)) × Moves p (window_over wide w) q
unfolding window_at window_text
window-takes wide p q w fits e =
    let n = bind_ok (link_at p) _ (w, q) e in
    let t = bind_ok (table_at wide n.0.1) _ (w, q) n.2 in
    let b = bind_ok (counts_at wide t.0.0 t.0.1) _ (w, q) t.2 in
    let c = bind_ok (pairs_at wide t.0.0 b.0.1) _ (w, q) b.2 in
    let found : Window = record { at = n.0.0.0; from = n.0.0.1; messages = b.0.0; carried = c.0.0 } in
    let named = all_named-ok (window_names found) (n.0.1.offset + index_len wide) t.0.0 (found, c.0.1) (w, q) c.2 in
    let n-takes = link-reader.takes p n.0.1 n.0.0 fits n.1 in
    let n-text = big_bytes 1 n.0.0.0 ++ big_bytes 1 n.0.0.1 in
    let n-bytes = Moves-bytes p n.0.1 n-text n-takes.1 fits in
    let t-takes = (table wide).takes n.0.1 t.0.1 t.0.0 n-bytes t.1 in
    let t-bytes = Moves-bytes n.0.1 t.0.1 (table_text wide t.0.0) t-takes.1 n-bytes in
    let b-takes = (counts wide t.0.0 t-takes.0).takes t.0.1 b.0.1 b.0.0 t-bytes b.1 in
    let b-bytes = Moves-bytes t.0.1 b.0.1 (counts_text wide t.0.0 b.0.0) b-takes.1 t-bytes in
    let c-takes = (pairs wide t.0.0 t-takes.0).takes b.0.1 c.0.1 c.0.0 b-bytes c.1 in
    let all : IsPart (window_names found) t.0.0 = each-both (λ x. IsAmong x t.0.0) (count_names b.0.0) (pair_names c.0.0) b-takes.0.1 c-takes.0.1 in
    let same : table_of (window_names found) ≡ t.0.0 = table_is t.0.0 (window_names found) t-takes.0.rises named.0 all in
    let bc = Moves-then t.0.1 b.0.1 c.0.1 (counts_text wide t.0.0 b.0.0) (pairs_text wide t.0.0 c.0.0) b-takes.1 c-takes.1 in
    let tc = Moves-then n.0.1 t.0.1 c.0.1 (table_text wide t.0.0) _ t-takes.1 bc in
    let nc : Moves p (window_text wide t.0.0 found) c.0.1 = Moves-then p n.0.1 c.0.1 n-text _ n-takes.1 tc in
    let whole : Moves p (window_over wide found) c.0.1 = subst (λ x. Moves p (window_text wide x found) c.0.1) (sym same) nc in
    let is : IsWindow found = record { at_node = n-takes.0.0; from_node = n-takes.0.1; link = n-takes.0.2; messages = b-takes.0.0; carried = c-takes.0.0 } in
    subst (λ (y : Window × Place). (IsWindow y.0 × (is_wide (table_of (window_names y.0)) ≡ wide)) × Moves p (window_over wide y.0) y.1) named.1
    ((is, ap is_wide same ∙ t-takes.0.form), whole)

window-again : (wide : Bool) (p q : Place) (w : Window) → IsWindow w × (is_wide (table_of (window_names w)) ≡ wide) → Moves p (window_over wide w) q → window_at wide p ≡ Ok (w, q)
unfolding window_at window_text
window-again wide p q w h m =
    let t = table_of (window_names w) in
    let f : IsFormed wide t = names-formed wide (window_names w) (window-actors w h.0) h.1 in
    let all : IsPart (window_names w) t = λ x k. table_of-has x (window_names w) k in
    let In : Actor → Type 0 = λ x. IsAmong x t in
    let c-text = pairs_text wide t w.carried in
    let b-text = counts_text wide t w.messages ++ c-text in
    let t-text = table_text wide t ++ b-text in
    let n-text = big_bytes 1 w.at ++ big_bytes 1 w.from in
    let n1 = between p n-text t-text q in
    let n-reads = link-reader.again p n1 (w.at, w.from) (h.0.at_node, h.0.from_node, h.0.link) (Moves-first p q n-text t-text m) in
    let m1 = Moves-second p q n-text t-text m in
    let t1 = between n1 (table_text wide t) b-text q in
    let t-reads = (table wide).again n1 t1 t f (Moves-first n1 q (table_text wide t) b-text m1) in
    let m2 = Moves-second n1 q (table_text wide t) b-text m1 in
    let b1 = between t1 (counts_text wide t w.messages) c-text q in
    let b-reads = (counts wide t f).again t1 b1 w.messages (h.0.messages, each-left In (count_names w.messages) (pair_names w.carried) all) (Moves-first t1 q (counts_text wide t w.messages) c-text m2) in
    let m3 = Moves-second t1 q (counts_text wide t w.messages) c-text m2 in
    let c-reads = (pairs wide t f).again b1 q w.carried (h.0.carried, each-right In (count_names w.messages) (pair_names w.carried) all) m3 in
    let named = all_named-again (window_names w) (n1.offset + index_len wide) t (w, q) (λ x k. table_of-only x (window_names w) k) in
    rw (n-reads, t-reads, b-reads, c-reads) named

window : (wide : Bool) → IsReader (window_over wide) (window_at wide) (λ w. IsWindow w × (is_wide (table_of (window_names w)) ≡ wide))
window wide = record { takes = window-takes wide; again = window-again wide }

-- ---- all kinds

-- the number of each kind, and what follows it
abbrev kind_of : Bulletin → ℕ
kind_of (bulletins.Delta d) = 1
kind_of (bulletins.Window w) = 2
kind_of (bulletins.Final w) = 3

abbrev body_text : Bool → Bulletin → List ℕ
body_text wide (bulletins.Delta d) = delta_over wide d
body_text wide (bulletins.Window w) = window_over wide w
body_text wide (bulletins.Final w) = window_over wide w

-- the form that a bulletin asks for
abbrev form_of : Bulletin → Bool
form_of b = is_wide (table_of (names_of b))

spelled-parts : (b : Bulletin) → spelled b ≡ (big_bytes 4 (magic (form_of b)) ++ big_bytes 1 (kind_of b)) ++ body_text (form_of b) b
unfolding spelled
spelled-parts (bulletins.Delta d) = refl
spelled-parts (bulletins.Window w) = refl
spelled-parts (bulletins.Final w) = refl

record BodyTakes (wide : Bool) (kind : ℕ) (p q : Place) (b : Bulletin) : Type 0 where
  is : IsSpellable b
  form : form_of b ≡ wide
  kind_is : kind_of b ≡ kind
  moves : Moves p (body_text wide b) q

made-takes : {X : Type 0} (make : X → Bulletin) (read : Reader X) (wide : Bool) (kind : ℕ) (p q : Place) (b : Bulletin)
    → ((x : X) (r : Place) → read p ≡ Ok (x, r) → BodyTakes wide kind p r (make x)) → made make read p ≡ Ok (b, q) → BodyTakes wide kind p q b
made-takes make read wide kind p q b f e =
    let a = bind_ok (read p) (λ x. Ok (make x.0, x.1)) (b, q) e in
    subst (λ (y : Bulletin × Place). BodyTakes wide kind p y.1 y.0) (ok_is (make a.0.0, a.0.1) (b, q) a.2) (f a.0.0 a.0.1 a.1)

body-takes : (wide : Bool) (kind : ℕ) (p q : Place) (b : Bulletin) → IsBytes p.rest → 0 < kind → kind < 4 → body_at wide kind p ≡ Ok (b, q) → BodyTakes wide kind p q b
body-takes wide zero p q b fits low high e = absurd (omega arith)
body-takes wide (suc zero) p q b fits low high e =
    made-takes bulletins.Delta (delta_at wide) wide 1 p q b
    (λ d r k. let t = delta-takes wide p r d fits k in record { is = t.0.0; form = t.0.1; kind_is = refl; moves = t.1 }) e
body-takes wide (suc (suc zero)) p q b fits low high e =
    made-takes bulletins.Window (window_at wide) wide 2 p q b
    (λ w r k. let t = window-takes wide p r w fits k in record { is = t.0.0; form = t.0.1; kind_is = refl; moves = t.1 }) e
body-takes wide (suc (suc (suc zero))) p q b fits low high e =
    made-takes bulletins.Final (window_at wide) wide 3 p q b
    (λ w r k. let t = window-takes wide p r w fits k in record { is = t.0.0; form = t.0.1; kind_is = refl; moves = t.1 }) e
body-takes wide (suc (suc (suc (suc kind)))) p q b fits low high e = absurd (omega arith)

body-again : (wide : Bool) (p q : Place) (b : Bulletin) → IsSpellable b → form_of b ≡ wide → Moves p (body_text wide b) q → body_at wide (kind_of b) p ≡ Ok (b, q)
body-again wide p q (bulletins.Delta d) h e m = let one = delta-again wide p q d (h, e) m in rw one refl
body-again wide p q (bulletins.Window w) h e m = let one = window-again wide p q w (h, e) m in rw one refl
body-again wide p q (bulletins.Final w) h e m = let one = window-again wide p q w (h, e) m in rw one refl

-- the number that a form begins with
magic-known : (n : ℕ) → ((n == magic false) || (n == magic true)) ≡ true → magic (n == magic true) ≡ n
magic-known n h =
    let P : Bool → Type 0 = λ v. (n == magic true) ≡ v → ((n == magic false) || v) ≡ true → magic v ≡ n in
    let cases : P (n == magic true) = elim (n == magic true) as P [
      | true ↦ (λ e k. sym (eqb-true n (magic true) e))
      | false ↦ (λ e k. sym (eqb-true n (magic false) (or-left (n == magic false) k)))
    ] in
    cases refl h

magic-found : (wide : Bool) → (((magic wide == magic false) || (magic wide == magic true)) ≡ true) × ((magic wide == magic true) ≡ wide)
magic-found true = (refl, refl)
magic-found false = (refl, refl)

magic-reader : IsReader (big_bytes 4) magic_at (λ n. (n < 256 ^ 4) × (((n == magic false) || (n == magic true)) ≡ true))
magic-reader = checked-reader Magic (λ n. (n == magic false) || (n == magic true)) (number-reader 4)

kind-reader : IsReader (big_bytes 1) kind_at (λ n. (0 < n) × (n < 4))
kind-reader =
    reader-like
    (λ n h. let b = and-both (ltb 0 n) (ltb n 4) h.1 in (ltb-true 0 n b.0, ltb-true n 4 b.1))
    (λ n h. (omega (arith, h.1), and_from (ltb 0 n) (ltb n 4) (lt-ltb 0 n h.0) (lt-ltb n 4 h.1)))
    (checked-reader Kind (λ n. ltb 0 n && ltb n 4) (number-reader 1))

bulletin-takes : (p q : Place) (b : Bulletin) → IsBytes p.rest → bulletin_at p ≡ Ok (b, q) → IsSpellable b × Moves p (spelled b) q
unfolding bulletin_at
bulletin-takes p q b fits e =
    let m = bind_ok (magic_at p) _ (b, q) e in
    let k = bind_ok (kind_at m.0.1) _ (b, q) m.2 in
    let wide = m.0.0 == magic true in
    let m-takes = magic-reader.takes p m.0.1 m.0.0 fits m.1 in
    let m-bytes = Moves-bytes p m.0.1 (big_bytes 4 m.0.0) m-takes.1 fits in
    let k-takes = kind-reader.takes m.0.1 k.0.1 k.0.0 m-bytes k.1 in
    let k-bytes = Moves-bytes m.0.1 k.0.1 (big_bytes 1 k.0.0) k-takes.1 m-bytes in
    let body = body-takes wide k.0.0 k.0.1 q b k-bytes k-takes.0.0 k-takes.0.1 k.2 in
    let head = Moves-then p m.0.1 k.0.1 (big_bytes 4 m.0.0) (big_bytes 1 k.0.0) m-takes.1 k-takes.1 in
    let whole = Moves-then p k.0.1 q (big_bytes 4 m.0.0 ++ big_bytes 1 k.0.0) (body_text wide b) head body.moves in
    let number : magic (form_of b) ≡ m.0.0 = ap magic body.form ∙ magic-known m.0.0 m-takes.0.1 in
    let same : spelled b ≡ (big_bytes 4 m.0.0 ++ big_bytes 1 k.0.0) ++ body_text wide b =
    spelled-parts b
    ∙ ap (λ f. (big_bytes 4 (magic (form_of b)) ++ big_bytes 1 (kind_of b)) ++ body_text f b) body.form
    ∙ ap (λ n. (big_bytes 4 n ++ big_bytes 1 (kind_of b)) ++ body_text wide b) number
    ∙ ap (λ n. (big_bytes 4 m.0.0 ++ big_bytes 1 n) ++ body_text wide b) body.kind_is in
    (body.is, subst (λ t. Moves p t q) (sym same) whole)

kind-known : (b : Bulletin) → (0 < kind_of b) × (kind_of b < 4)
kind-known (bulletins.Delta d) = (omega arith, omega arith)
kind-known (bulletins.Window w) = (omega arith, omega arith)
kind-known (bulletins.Final w) = (omega arith, omega arith)

magic-short : (wide : Bool) → magic wide < 256 ^ 4
magic-short true = omega arith
magic-short false = omega arith

bulletin-again : (p q : Place) (b : Bulletin) → IsSpellable b → Moves p (spelled b) q → bulletin_at p ≡ Ok (b, q)
unfolding bulletin_at
bulletin-again p q b h m =
    let wide = form_of b in
    let head = big_bytes 4 (magic wide) ++ big_bytes 1 (kind_of b) in
    let moves : Moves p (head ++ body_text wide b) q = subst (λ t. Moves p t q) (spelled-parts b) m in
    let h1 = between p head (body_text wide b) q in
    let first : Moves p head h1 = Moves-first p q head (body_text wide b) moves in
    let m1 = between p (big_bytes 4 (magic wide)) (big_bytes 1 (kind_of b)) h1 in
    let m-reads = magic-reader.again p m1 (magic wide) (magic-short wide, (magic-found wide).0) (Moves-first p h1 (big_bytes 4 (magic wide)) (big_bytes 1 (kind_of b)) first) in
    let k-reads = kind-reader.again m1 h1 (kind_of b) (kind-known b) (Moves-second p h1 (big_bytes 4 (magic wide)) (big_bytes 1 (kind_of b)) first) in
    let body = body-again wide h1 q b h refl (Moves-second p q head (body_text wide b) moves) in
    rw (m-reads, k-reads, (magic-found wide).1) body

-- ---- all of the bytes

abbrev start : List ℕ → Place
start bytes = record { offset = 0; rest = bytes }

-- the bulletin that is read has a spelling, which begins the bytes and has the length that is answered
pub reading-found : (bytes : List ℕ) (b : Bulletin) (n : ℕ) → IsBytes bytes → reading bytes ≡ Ok (b, n) → IsSpellable b × (bytes ≡ spelled b ++ drop n bytes) × (n ≡ length (spelled b))
unfolding reading
reading-found bytes b n fits e =
    let a = bind_ok (bulletin_at (start bytes)) (λ x. Ok (x.0, x.1.offset)) (b, n) e in
    let t = bulletin-takes (start bytes) a.0.1 a.0.0 fits a.1 in
    let same = ok_is (a.0.0, a.0.1.offset) (b, n) a.2 in
    let len : a.0.1.offset ≡ length (spelled a.0.0) = omega (arith, t.1.count) in
    let rest : bytes ≡ spelled a.0.0 ++ drop a.0.1.offset bytes =
    t.1.parts ∙ ap (λ r. spelled a.0.0 ++ r) (sym (ap (drop a.0.1.offset) t.1.parts ∙ drop_at (spelled a.0.0) a.0.1.rest a.0.1.offset (sym len))) in
    subst (λ (y : Bulletin × ℕ). IsSpellable y.0 × (bytes ≡ spelled y.0 ++ drop y.1 bytes) × (y.1 ≡ length (spelled y.0))) same (t.0, rest, len)

-- each spelling is read, whatever follows it
pub reading-again : (b : Bulletin) (rest : List ℕ) → IsSpellable b → reading (spelled b ++ rest) ≡ Ok (b, length (spelled b))
unfolding reading
reading-again b rest h =
    let q : Place = record { offset = length (spelled b); rest = rest } in
    let m : Moves (start (spelled b ++ rest)) (spelled b) q = record { parts = refl; count = omega arith } in
    let one = bulletin-again (start (spelled b ++ rest)) q b h m in
    rw one refl

-- a bulletin is determined by its spelling, and no spelling is a proper prefix of another
pub spelling-first : (a b : Bulletin) (rest : List ℕ) → IsSpellable a → IsSpellable b → spelled a ++ rest ≡ spelled b → (a ≡ b) × (rest ≡ [])
spelling-first a b rest h k e =
    let one = reading-again a rest h in
    let two : reading (spelled b) ≡ Ok (b, length (spelled b)) = ap reading (sym (append-nil (spelled b))) ∙ reading-again b [] k in
    let same = ok_is (a, length (spelled a)) (b, length (spelled b)) (sym one ∙ ap reading e ∙ two) in
    let len : length (spelled a) ≡ length (spelled b) = ap (λ (y : Bulletin × ℕ). y.1) same in
    (ap (λ (y : Bulletin × ℕ). y.0) same, nil_from_length rest (omega (arith, len, ap length e, length-append (spelled a) rest)))

-- bytes have a first fault or begin with a spelling
pub reading-cases : (bytes : List ℕ) → IsBytes bytes → BeginsWithSpelling bytes ⊎ ((f : WireFault) × (reading bytes ≡ Err f))
reading-cases bytes fits =
    let P : Result (Bulletin × ℕ) WireFault → Type 0 = λ r. reading bytes ≡ r → BeginsWithSpelling bytes ⊎ ((f : WireFault) × (reading bytes ≡ Err f)) in
    let cases : P (reading bytes) = elim (reading bytes) as P [
      | Ok x ↦ (λ e. let t = reading-found bytes x.0 x.1 fits e in inl (x.0, drop x.1 bytes, (t.0, t.1)))
      | Err f ↦ (λ e. inr (f, e))
    ] in
    cases refl

-- and not both
pub reading-not_both : (bytes : List ℕ) (f : WireFault) → BeginsWithSpelling bytes → reading bytes ≡ Err f → ⊥
reading-not_both bytes f s e =
    let one = reading-again s.0 s.1 s.2.0 in
    let two = sym (ap reading s.2.1) ∙ e in
    let bad = sym one ∙ two in absurd cc
