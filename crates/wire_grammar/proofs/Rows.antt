-- The readers of a bulletin's parts: what is read is spelled so, and what is spelled so is read.
use Rattle.std.proofs.Common.{◌≡◌, ◌<◌, ◌≤◌, ◌+◌, ◌*◌, ◌^◌, ◌%◌, ◌==◌, ◌&&◌, ◌||◌, ℕ, zero, suc, Bool, true, false, cond, ltb, not, List, [], ◌∷◌, ◌++◌, length, Option, Some, None, Ok, refl, sym, ap, subst, ◌∙◌, arith}
use Rattle.std.specs.List.{AllByRecursion, slice_get}
use Rattle.std.specs.Bool.{Decides}
use Rattle.std.proofs.lemmas.Bool.{le-ltb, ltb-true, lt-ltb}
use Rattle.std.proofs.lemmas.Bool.Decides.{Decides-and, Decides-or}
use Rattle.byteorder.specs.Endian.{big_bytes, big_number}
use Rattle.crgc_bytes.specs.Place.{Place, after}
use Rattle.crgc_ids.specs.Actor.{Actor, IsActorBelow, IsPairBelow, is_actor_below, same_actor, IsActor}
use Rattle.crgc_ids.specs.Members.{IsAmong}
use Rattle.crgc_ids.specs.Rising.{IsRising}
use Rattle.crgc_ids.specs.declared.rising.ActorCount.{ActorCount}
use Rattle.crgc_ids.specs.declared.rising.PairCount.{PairCount}
use Rattle.crgc_ids.proofs.ActorLaws.{IsActorBelow-trans, IsPairBelow-trans, is_actor_below-decides, same_actor-decides}
use Rattle.history_model.specs.declared.records.StateRow.{StateRow}
use Rattle.wire_grammar.specs.declared.fault.WireKind.{WireKind}
use Rattle.wire_grammar.specs.declared.fault.WireKind.TheVariants.{Flags, Narrow, Node, Order, Short, Zero}
use Rattle.wire_grammar.specs.Fields.{◌>>=◌, Reader, both, checked, fault, is_above, number_at, rows_at}
use Rattle.wire_grammar.specs.Named.{index_of}
use Rattle.wire_grammar.specs.Spelling.{actor_text, count_text, counts_text, flags, index_len, index_text, pair_text, pairs_text, state_text, states_text, table_text}
use Rattle.wire_grammar.specs.Reading.{actor_at, actor_of, count_at, count_row, counts_at, flags_at, index_at, is_pair_below, key_at, node_at, pair_key_at, pair_row, pairs_at, serial_at, state_row, states_at, table_at, table_len_at, table_row}
use Rattle.wire_grammar.specs.Spellable.{IsCount}
use Rattle.wire_grammar.proofs.Readers.{AreChained, IsReader, Moves, bind_ok, both-reader, checked-reader, guard_ok, made-reader, number-reader, ok_is, section-reader}
use Rattle.wire_grammar.proofs.Tables.{IsTable, index_of-slice_get, slice_get-index_of, slice_get-member}
use Rattle.crgc_ids.proofs.MembersLaws.{all-implied}

-- the same reader, with what fits in other words
pub reader-like : {X : Type 0} {text : X → List ℕ} {read : Reader X} {F G : X → Type 0} → ((x : X) → F x → G x) → ((x : X) → G x → F x) → IsReader text read F → IsReader text read G
reader-like there back r = record {
  takes = λ p q x fits e. let t = r.takes p q x fits e in (there x t.0, t.1);
  again = λ p q x h m. r.again p q x (back x h) m;
}

pub node-reader : IsReader (big_bytes 1) node_at (λ n. n < 16)
node-reader =
    reader-like (λ n h. ltb-true n 16 h.1) (λ n h. (omega arith, lt-ltb n 16 h))
    (checked-reader Node (λ n. ltb n 16) (number-reader 1))

serial-reader : IsReader (big_bytes 4) serial_at (λ n. n < 262144)
serial-reader =
    reader-like (λ n h. ltb-true n 262144 h.1) (λ n h. (omega arith, lt-ltb n 262144 h))
    (checked-reader Node (λ n. ltb n 262144) (number-reader 4))

actor-reader : IsReader actor_text actor_at IsActor
actor-reader =
    made-reader (λ x. record { node = x.0; serial = x.1 }) (λ (a : Actor). (a.node, a.serial)) (λ x h. refl) (λ a. refl)
    (both-reader node-reader (λ n h. serial-reader))

count-reader : IsReader (big_bytes 4) count_at IsCount
count-reader =
    reader-like (λ n h. (ltb-true 0 n h.1, h.0)) (λ n h. (h.1, lt-ltb 0 n h.0))
    (checked-reader Zero (λ n. ltb 0 n) (number-reader 4))

flags-reader : IsReader (big_bytes 1) flags_at (λ n. n < 4)
flags-reader =
    reader-like (λ n h. ltb-true n 4 h.1) (λ n h. (omega arith, lt-ltb n 4 h))
    (checked-reader Flags (λ n. ltb n 4) (number-reader 1))

actor_ok : (o : Option Actor) (offset : ℕ) (p q : Place) (a : Actor) → actor_of offset o p ≡ Ok (a, q) → (o ≡ Some a) × (p ≡ q)
actor_ok None offset p q a e = absurd cc
actor_ok (Some b) offset p q a e =
    let same = ok_is (b, p) (a, q) e in
    (ap (λ (z : Actor × Place). Some z.0) same, ap (λ (z : Actor × Place). z.1) same)

index_below : (table : List Actor) (n : ℕ) (a : Actor) → slice_get table n ≡ Some a → n < length table
index_below [] n a e = absurd cc
index_below (b ∷ rest) zero a e = omega arith
index_below (b ∷ rest) (suc n) a e = let h = index_below rest n a e in omega arith

module _ (wide : Bool) (table : List Actor) (rises : IsTable table) (short : length table ≤ 256 ^ index_len wide) where
  index-reader : IsReader (index_text wide table) (index_at wide table) (λ a. IsAmong a table)
  unfolding index_at
  index-reader = record {
    takes = λ p q a fits e.
        let n = bind_ok (number_at (index_len wide) p) (λ n. actor_of p.offset (slice_get table n.0) n.1) (a, q) e in
        let found = actor_ok (slice_get table n.0.0) p.offset n.0.1 q a n.2 in
        let t = (number-reader (index_len wide)).takes p n.0.1 n.0.0 fits n.1 in (
          slice_get-member table n.0.0 a found.0,
          subst (λ (z : ℕ × Place). Moves p (big_bytes (index_len wide) z.0) z.1)
              (λ i. (sym (index_of-slice_get table n.0.0 a rises found.0) i, found.1 i)) t.1,
        );
    again = λ p q a h m.
        let there = slice_get-index_of table a rises h in
        let below = index_below table (index_of table a) a there in
        let one = (number-reader (index_len wide)).again p q (index_of table a) (omega arith) m in
        rw (one, there) refl;
  }

  key-reader : (last : Option Actor) → IsReader (index_text wide table) (key_at wide table last) (λ a. IsAmong a table × (is_above is_actor_below last a ≡ true))
  key-reader last = checked-reader Order (is_above is_actor_below last) index-reader

  pair-key-reader : (last : Option (Actor × Actor))
      → IsReader (λ (z : Actor × Actor). index_text wide table z.0 ++ index_text wide table z.1) (pair_key_at wide table last)
      (λ z. (IsAmong z.0 table × IsAmong z.1 table) × (is_above is_pair_below last z ≡ true))
  pair-key-reader last = checked-reader Order (is_above is_pair_below last) (both-reader index-reader (λ a h. index-reader))

-- flags and their number
flags_back : (n : ℕ) → n < 4 → flags (n % 2 == 1) (ltb 1 n) ≡ n
flags_back zero h = refl
flags_back (suc zero) h = refl
flags_back (suc (suc zero)) h = refl
flags_back (suc (suc (suc zero))) h = refl
flags_back (suc (suc (suc (suc n)))) h = absurd (omega arith)

busy_back : (busy root : Bool) → (flags busy root % 2 == 1) ≡ busy
busy_back true true = refl
busy_back true false = refl
busy_back false true = refl
busy_back false false = refl

root_back : (busy root : Bool) → ltb 1 (flags busy root) ≡ root
root_back true true = refl
root_back true false = refl
root_back false true = refl
root_back false false = refl

flags_below : (busy root : Bool) → flags busy root < 4
flags_below true true = omega arith
flags_below true false = omega arith
flags_below false true = omega arith
flags_below false false = omega arith

module _ {X K : Type 0} (key : X → K) (below : K → K → Bool) (Above : X → X → Type 0) (Fits : X → Type 0)
    (up : (x y : X) → Decides (below (key x) (key y)) (Above x y))
    (trans : (x y z : X) → Above x y → Above y z → Above x z)
  where
    chain-above : (x : X) (xs : List X) → AreChained key below Fits (Some (key x)) xs → AllByRecursion (Above x) xs
    chain-above x [] h = tt
    chain-above x (y ∷ ys) h =
        let first = (up x y).0 h.0.1 in
        (first, all-implied (Above y) (Above x) (λ z k. trans x y z first k) ys (chain-above y ys h.1))

    -- chained rows rise, and each of them fits
    pub chain-rises : (last : Option K) (xs : List X) → AreChained key below Fits last xs → IsRising Above xs × AllByRecursion Fits xs
    chain-rises last [] h = (tt, tt)
    chain-rises last (x ∷ xs) h =
        let rest = chain-rises (Some (key x)) xs h.1 in
        ((chain-above x xs h.1, rest.0), (h.0.0, rest.1))

    chain-after : (x : X) (xs : List X) → AllByRecursion (Above x) xs → IsRising Above xs → AllByRecursion Fits xs → AreChained key below Fits (Some (key x)) xs
    chain-after x [] a r f = tt
    chain-after x (y ∷ ys) a r f = ((f.0, (up x y).1 a.0), chain-after y ys r.0 r.1 f.1)

    -- rows that rise and fit are chained
    pub rises-chain : (xs : List X) → IsRising Above xs → AllByRecursion Fits xs → AreChained key below Fits None xs
    rises-chain [] r f = tt
    rises-chain (x ∷ xs) r f = ((f.0, refl), chain-after x xs r.0 r.1 f.1)

-- the rows of a section: they rise, each of them fits, and their number has k bytes
pub record AreFitting {X : Type 0} (Above : X → X → Type 0) (Fits : X → Type 0) (IsLen : ℕ → Type 0) (rows : List X) : Type 0 where
  pub rise : IsRising Above rows
  pub fit : AllByRecursion Fits rows
  pub len : IsLen (length rows)

pub pair_below-decides : (x y : Actor × Actor) → Decides (is_pair_below x y) (IsPairBelow x.0 x.1 y.0 y.1)
pair_below-decides x y =
    Decides-or (is_actor_below x.0 y.0) (same_actor x.0 y.0 && is_actor_below x.1 y.1) (is_actor_below-decides x.0 y.0)
    (Decides-and (same_actor x.0 y.0) (is_actor_below x.1 y.1) (same_actor-decides x.0 y.0) (is_actor_below-decides x.1 y.1))

table_len-reader : (wide : Bool) → IsReader (big_bytes (index_len wide)) (table_len_at wide) (λ n. (n < 256 ^ index_len wide) × (ltb 65535 n ≡ wide))
table_len-reader true =
    reader-like (λ n h. (h.0, h.1)) (λ n h. (h.0, h.1))
    (checked-reader Narrow (λ n. false || ltb 65535 n) (number-reader 4))
table_len-reader false =
    reader-like (λ n h. (h.0, le-ltb 65535 n (omega (arith, h.0)))) (λ n h. (h.0, refl))
    (checked-reader Narrow (λ n. true || ltb 65535 n) (number-reader 2))

pub table-reader : (wide : Bool) → IsReader (table_text wide) (table_at wide)
    (AreFitting IsActorBelow IsActor (λ n. (n < 256 ^ index_len wide) × (ltb 65535 n ≡ wide)))
unfolding table_at
table-reader wide =
    let IsLen : ℕ → Type 0 = λ n. (n < 256 ^ index_len wide) × (ltb 65535 n ≡ wide) in
    reader-like
    (λ xs h. let c = chain-rises (λ a. a) is_actor_below IsActorBelow IsActor is_actor_below-decides IsActorBelow-trans None xs h.0 in record { rise = c.0; fit = c.1; len = h.1 })
    (λ xs h. (rises-chain (λ a. a) is_actor_below IsActorBelow IsActor is_actor_below-decides IsActorBelow-trans xs h.rise h.fit, h.len))
    (section-reader (λ a. a) is_actor_below actor_text table_row IsActor
    (λ last. checked-reader Order (is_above is_actor_below last) actor-reader)
    (index_len wide) (table_len_at wide) IsLen (table_len-reader wide))

abbrev StateAbove : StateRow → StateRow → Type 0
StateAbove r s = IsActorBelow r.actor s.actor

abbrev CountAbove : ActorCount → ActorCount → Type 0
CountAbove r s = IsActorBelow r.actor s.actor

abbrev PairAbove : PairCount → PairCount → Type 0
PairAbove r s = IsPairBelow r.owner r.target s.owner s.target

abbrev pub StateFits : List Actor → StateRow → Type 0
StateFits table r = IsAmong r.actor table × (r.received < 2 ^ 32)

abbrev pub CountFits : List Actor → ActorCount → Type 0
CountFits table r = IsAmong r.actor table × IsCount r.count

abbrev pub PairFits : List Actor → PairCount → Type 0
PairFits table r = IsAmong r.owner table × IsAmong r.target table × IsCount r.count

module _ (wide : Bool) (table : List Actor) (rises : IsTable table) (short : length table ≤ 256 ^ index_len wide) where
  state-row-reader : (last : Option Actor) → IsReader (state_text wide table) (state_row wide table last) (λ r. StateFits table r × (is_above is_actor_below last r.actor ≡ true))
  unfolding state_row
  state-row-reader last =
      reader-like (λ r h. ((h.0.0, h.1.0), h.0.1)) (λ r h. ((h.0.0, h.1), (h.0.1, flags_below r.busy r.root)))
      (made-reader
      (λ (x : Actor × (ℕ × ℕ)). record { actor = x.0; received = x.1.0; busy = x.1.1 % 2 == 1; root = ltb 1 x.1.1 })
      (λ (r : StateRow). (r.actor, (r.received, flags r.busy r.root)))
      (λ x h. λ i. (x.0, (x.1.0, flags_back x.1.1 h.1.1 i)))
      (λ r. λ i. record { actor = r.actor; received = r.received; busy = busy_back r.busy r.root i; root = root_back r.busy r.root i })
      (both-reader (key-reader wide table rises short last) (λ a h. both-reader (number-reader 4) (λ n k. flags-reader))))

  count-row-reader : (last : Option Actor) → IsReader (count_text wide table) (count_row wide table last) (λ r. CountFits table r × (is_above is_actor_below last r.actor ≡ true))
  unfolding count_row
  count-row-reader last =
      reader-like (λ r h. ((h.0.0, h.1), h.0.1)) (λ r h. ((h.0.0, h.1), h.0.1))
      (made-reader (λ (x : Actor × ℕ). record { actor = x.0; count = x.1 }) (λ (r : ActorCount). (r.actor, r.count)) (λ x h. refl) (λ r. refl)
      (both-reader (key-reader wide table rises short last) (λ a h. count-reader)))

  pair-row-reader : (last : Option (Actor × Actor)) → IsReader (pair_text wide table) (pair_row wide table last) (λ r. PairFits table r × (is_above is_pair_below last (r.owner, r.target) ≡ true))
  unfolding pair_row
  pair-row-reader last =
      reader-like (λ r h. ((h.0.0.0, h.0.0.1, h.1), h.0.1)) (λ r h. (((h.0.0, h.0.1), h.1), h.0.2))
      (made-reader (λ (x : (Actor × Actor) × ℕ). record { owner = x.0.0; target = x.0.1; count = x.1 })
      (λ (r : PairCount). ((r.owner, r.target), r.count)) (λ x h. refl) (λ r. refl)
      (both-reader (pair-key-reader wide table rises short last) (λ a h. count-reader)))

  pub states-reader : IsReader (states_text wide table) (states_at wide table) (AreFitting StateAbove (StateFits table) (λ n. n < 256 ^ index_len wide))
  unfolding states_at
  states-reader =
      let up : (x y : StateRow) → Decides (is_actor_below x.actor y.actor) (StateAbove x y) = λ x y. is_actor_below-decides x.actor y.actor in
      let trans : (x y z : StateRow) → StateAbove x y → StateAbove y z → StateAbove x z = λ x y z. IsActorBelow-trans x.actor y.actor z.actor in
      let key : StateRow → Actor = λ r. r.actor in
      reader-like
      (λ xs h. let c = chain-rises key is_actor_below StateAbove (StateFits table) up trans None xs h.0 in record { rise = c.0; fit = c.1; len = h.1 })
      (λ xs h. (rises-chain key is_actor_below StateAbove (StateFits table) up trans xs h.rise h.fit, h.len))
      (section-reader key is_actor_below (state_text wide table) (state_row wide table) (StateFits table) state-row-reader
      (index_len wide) (number_at (index_len wide)) (λ n. n < 256 ^ index_len wide) (number-reader (index_len wide)))

  pub counts-reader : IsReader (counts_text wide table) (counts_at wide table) (AreFitting CountAbove (CountFits table) (λ n. n < 256 ^ index_len wide))
  unfolding counts_at
  counts-reader =
      let up : (x y : ActorCount) → Decides (is_actor_below x.actor y.actor) (CountAbove x y) = λ x y. is_actor_below-decides x.actor y.actor in
      let trans : (x y z : ActorCount) → CountAbove x y → CountAbove y z → CountAbove x z = λ x y z. IsActorBelow-trans x.actor y.actor z.actor in
      let key : ActorCount → Actor = λ r. r.actor in
      reader-like
      (λ xs h. let c = chain-rises key is_actor_below CountAbove (CountFits table) up trans None xs h.0 in record { rise = c.0; fit = c.1; len = h.1 })
      (λ xs h. (rises-chain key is_actor_below CountAbove (CountFits table) up trans xs h.rise h.fit, h.len))
      (section-reader key is_actor_below (count_text wide table) (count_row wide table) (CountFits table) count-row-reader
      (index_len wide) (number_at (index_len wide)) (λ n. n < 256 ^ index_len wide) (number-reader (index_len wide)))

  pub pairs-reader : IsReader (pairs_text wide table) (pairs_at wide table) (AreFitting PairAbove (PairFits table) (λ n. n < 2 ^ 32))
  unfolding pairs_at
  pairs-reader =
      let up : (x y : PairCount) → Decides (is_pair_below (x.owner, x.target) (y.owner, y.target)) (PairAbove x y) = λ x y. pair_below-decides (x.owner, x.target) (y.owner, y.target) in
      let trans : (x y z : PairCount) → PairAbove x y → PairAbove y z → PairAbove x z = λ x y z. IsPairBelow-trans x.owner x.target y.owner y.target z.owner z.target in
      let key : PairCount → Actor × Actor = λ r. (r.owner, r.target) in
      reader-like
      (λ xs h. let c = chain-rises key is_pair_below PairAbove (PairFits table) up trans None xs h.0 in record { rise = c.0; fit = c.1; len = h.1 })
      (λ xs h. (rises-chain key is_pair_below PairAbove (PairFits table) up trans xs h.rise h.fit, h.len))
      (section-reader key is_pair_below (pair_text wide table) (pair_row wide table) (PairFits table) pair-row-reader
      4 (number_at 4) (λ n. n < 2 ^ 32) (number-reader 4))

-- ---- how far a table leads

number-offset : (k : ℕ) (p q : Place) (n : ℕ) → number_at k p ≡ Ok (n, q) → q.offset ≡ p.offset + k
number-offset k p q n e =
    let P : Bool → Type 0 = λ v. cond v (fault {X = ℕ × Place} Short p.offset) (Ok (big_number k p.rest, after k p)) ≡ Ok (n, q) → q.offset ≡ p.offset + k in
    let cases : (v : Bool) → P v = λ v. elim v as P [
      | true ↦ (λ f. absurd cc)
      | false ↦ (λ f. sym (ap (λ (z : ℕ × Place). z.1.offset) (ok_is (big_number k p.rest, after k p) (n, q) f)))
    ] in
    cases (ltb (length p.rest) k) e

checked-offset : {X : Type 0} (kind : WireKind) (test : X → Bool) (read : Reader X) (k : ℕ) → ((p q : Place) (x : X) → read p ≡ Ok (x, q) → q.offset ≡ p.offset + k)
    → (p q : Place) (x : X) → checked kind test read p ≡ Ok (x, q) → q.offset ≡ p.offset + k
checked-offset {X = X} kind test read k f p q x e =
    let a = bind_ok (read p) (λ y. cond (test y.0) (Ok y) (fault kind p.offset)) (x, q) e in
    let g = guard_ok (test a.0.0) (record { kind = kind; offset = p.offset }) a.0 (x, q) a.2 in
    f p q x (a.1 ∙ ap (λ (z : X × Place). Ok z) g.1)

actor-offset : (p q : Place) (a : Actor) → actor_at p ≡ Ok (a, q) → q.offset ≡ p.offset + 5
actor-offset p q a e =
    let m = bind_ok (both node_at (λ _. serial_at) p) (λ x. Ok (record { node = x.0.0; serial = x.0.1 }, x.1)) (a, q) e in
    let n = bind_ok (node_at p) (λ x. serial_at x.1 >>= λ y. Ok ((x.0, y.0), y.1)) m.0 m.1 in
    let s = bind_ok (serial_at n.0.1) (λ y. Ok ((n.0.0, y.0), y.1)) m.0 n.2 in
    let one = checked-offset Node (λ n. ltb n 16) (number_at 1) 1 (number-offset 1) p n.0.1 n.0.0 n.1 in
    let two = checked-offset Node (λ n. ltb n 262144) (number_at 4) 4 (number-offset 4) n.0.1 s.0.1 s.0.0 s.1 in
    let last = ap (λ (z : Actor × Place). z.1.offset) (ok_is (record { node = m.0.0.0; serial = m.0.0.1 }, m.0.1) (a, q) m.2) in
    let mid = ap (λ (z : (ℕ × ℕ) × Place). z.1.offset) (ok_is ((n.0.0, s.0.0), s.0.1) m.0 s.2) in
    omega arith

rows-offset : (n : ℕ) (last : Option Actor) (p q : Place) (xs : List Actor) → rows_at (λ a. a) table_row n last p ≡ Ok (xs, q) → q.offset ≡ p.offset + 5 * length xs
unfolding rows_at
rows-offset zero last p q xs e =
    let same = ok_is ([], p) (xs, q) e in
    let one = ap (λ (z : List Actor × Place). z.1.offset) same in
    let two = ap (λ (z : List Actor × Place). length z.0) same in
    omega arith
rows-offset (suc n) last p q xs e =
    let a = bind_ok (table_row last p) (λ x. rows_at (λ a. a) table_row n (Some x.0) x.1 >>= λ ys. Ok (x.0 ∷ ys.0, ys.1)) (xs, q) e in
    let b = bind_ok (rows_at (λ a. a) table_row n (Some a.0.0) a.0.1) (λ ys. Ok (a.0.0 ∷ ys.0, ys.1)) (xs, q) a.2 in
    let one = checked-offset Order (is_above is_actor_below last) actor_at 5 actor-offset p a.0.1 a.0.0 a.1 in
    let two = rows-offset n (Some a.0.0) a.0.1 b.0.1 b.0.0 b.1 in
    let same = ok_is (a.0.0 ∷ b.0.0, b.0.1) (xs, q) b.2 in
    let end = ap (λ (z : List Actor × Place). z.1.offset) same in
    let len = ap (λ (z : List Actor × Place). length z.0) same in
    omega arith

-- a table ends behind its count and five bytes for each actor
pub table-offset : (wide : Bool) (p q : Place) (t : List Actor) → table_at wide p ≡ Ok (t, q) → q.offset ≡ (p.offset + index_len wide) + 5 * length t
unfolding table_at
table-offset wide p q t e =
    let n = bind_ok (table_len_at wide p) (λ n. rows_at (λ a. a) table_row n.0 None n.1) (t, q) e in
    let one = checked-offset Narrow (λ n. not wide || ltb 65535 n) (number_at (index_len wide)) (index_len wide) (number-offset (index_len wide)) p n.0.1 n.0.0 n.1 in
    let two = rows-offset n.0.0 None n.0.1 q t n.2 in
    omega arith
