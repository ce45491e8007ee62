-- Bulletins that tell few facts have few rows: so it is with each bulletin of a history within its limits.
use Rattle.std.proofs.Common.{◌≡◌, ◌≢◌, ◌+◌, ◌*◌, ◌<◌, ◌≤◌, ◌^◌, ◌&&◌, ◌⊎◌, ℕ, zero, suc, Bool, true, false, cond, not, List, [], ◌∷◌, ◌++◌, length, eqb, refl, sym, ◌∙◌, ap, subst, inl, inr, arith}
use Rattle.std.proofs.lemmas.Bool.{and_from, and_parts, cases_Bool, cases_lt, lt-ltb, false_from_ne_true, false≢true, true≢false}
use Rattle.std.proofs.lemmas.Bool.Decides.{Decides-eqb}
use Rattle.std.proofs.lemmas.List.Sums.{sum_by-cons}
use Rattle.std.specs.List.{AllByRecursion, sum_by}
use Rattle.std.specs.Prelude.{Some, nat_lt, slice_get, unwrap_or}
use Rattle.crgc_ids.specs.Actor.{Actor, IsActorBelow, same_actor}
use Rattle.crgc_ids.specs.Members.{IsAmong}
use Rattle.crgc_ids.specs.Rising.{IsRising}
use Rattle.crgc_ids.specs.declared.rising.ActorCount.{ActorCount}
use Rattle.crgc_ids.specs.declared.rising.PairCount.{PairCount}
use Rattle.crgc_ids.proofs.ActorLaws.{IsActorBelow-apart}
use Rattle.crgc_ids.proofs.MembersLaws.{IsAmong-append_cases, all-member}
use Rattle.history_model.specs.declared.events.Event.{Event}
use Rattle.history_model.specs.declared.events.Event.TheVariants.{Publish, Remove, Window}
use Rattle.history_model.specs.declared.records.Bulletin.{Bulletin}
use Rattle.history_model.specs.declared.records.Bulletin.TheVariants as bulletins
use Rattle.history_model.specs.declared.records.StateRow.{StateRow}
use Rattle.history_model.specs.Cluster.{Cluster}
use Rattle.history_model.specs.Facts.{Fact, Flags, created, flagged, is_created, is_flagged, is_released, is_sent_to, released, sent_to}
use Rattle.history_model.specs.Graph.{last_flags, rising_actors}
use Rattle.history_model.specs.Ledgers.{IsInOrder, Ledger, actor_total, pair_total, row_flags, state_flags}
use Rattle.history_model.specs.Legal.{IsLegal}
use Rattle.history_model.specs.Streams.{Notice, delta, final_of, queue, stream, window, window_of}
use Rattle.history_model.specs.Tally.{tally}
use Rattle.history_model.specs.Tells.{IsLedgerOf, IsOrdered, Tells, bulletin_ledger, fact_names, facts_in}
use Rattle.history_model.proofs.Basics.{legal-kept, same_actor-equal, same_actor-refl, same_actor-sym}
use Rattle.history_model.proofs.Lists.{tally-none, tally-one}
use Rattle.history_model.proofs.TellsBulletins.{ledger-rising_names, tells-counts}
use Rattle.journal_model.specs.Limits.{named_count}
use Rattle.journal_model.specs.Lines.{AreWithinRanges}
use Rattle.bulletin_streams.specs.Standing.{FitsWire, HasFewRows, IsOfTwoNodes, IsWithinLimits, KeepsDeltaLimit, TellsNumber}
use Rattle.bulletin_streams.proofs.BoundLemmas.{queue-few, window-few}

-- ---- rows and facts

-- each row has a key, and each fact counts for one key at most
record IsKeyed {R F : Type 0} (same : R → R → Bool) (test : R → F → Bool) : Type 0 where
  itself : (r : R) → same r r ≡ true
  exact : (r s : R) (f : F) → test r f ≡ true → test s f ≡ same r s

module _ {R F : Type 0} (same : R → R → Bool) (test : R → F → Bool) (keyed : IsKeyed same test) where
  -- a fact that counts for a row is taken out
  taken_out : (r : R) (facts : List F) → 0 < tally (test r) facts → (rest : List F) × (length facts ≡ length rest + 1) × ((s : R) → tally (test s) facts ≡ tally (test s) rest + cond (same r s) 1 0)
  taken_out r [] some = absurd (omega arith)
  taken_out r (f ∷ facts) some =
      elim (cases_Bool (test r f)) [
        | inl t ↦ (facts, omega arith, λ s. tally-one (test s) f facts ∙ ap (λ v. tally (test s) facts + cond v 1 0) (keyed.exact r s f t))
        | inr fails ↦ (
            let less : tally (test r) (f ∷ facts) ≡ tally (test r) facts = ap (λ v. cond v (tally (test r) facts + 1) (tally (test r) facts)) fails in
            let found = taken_out r facts (omega arith) in
            (f ∷ found.0, (let size = found.1 in omega arith), λ s. (let here = tally-one (test s) f facts in let there = tally-one (test s) f found.0 in let rest = found.2 s in omega (arith, here, there, rest)))
            )
      ]

  -- there are no more rows than facts, where for each key there are not
  rows-few : (rows : List R) (facts : List F) → ((s : R) → tally (λ r. same r s) rows ≤ tally (test s) facts) → length rows ≤ length facts
  rows-few [] facts fewer = omega arith
  rows-few (r ∷ rows) facts fewer =
      let here = fewer r in
      let own = tally-one (λ x. same x r) r rows ∙ ap (λ v. tally (λ x. same x r) rows + cond v 1 0) (keyed.itself r) in
      let found = taken_out r facts (omega (arith, here, own)) in
      let later = rows-few rows found.0 (λ s. (let most = fewer s in let one = tally-one (λ x. same x s) r rows in let rest = found.2 s in omega (arith, most, one, rest))) in
      let size = found.1 in
      omega arith

-- rows that count from 1 count at least once each
counted : {R : Type 0} (p q : R → Bool) (count : R → ℕ) → ((r : R) → p r ≡ q r) → (rows : List R) → AllByRecursion (λ r. 0 < count r) rows → tally p rows ≤ sum_by (λ r. cond (q r) (count r) 0) rows
counted p q count alike [] stand = omega arith
counted p q count alike (r ∷ rows) stand =
    let later = counted p q count alike rows stand.1 in
    let some = stand.0 in
    let one = tally-one p r rows ∙ ap (λ v. tally p rows + cond v 1 0) (alike r) in
    let all = sum_by-cons (λ x. cond (q x) (count x) 0) r rows in
    let here : cond (q r) 1 0 ≤ cond (q r) (count r) 0 = elim (q r) as (λ v. cond v 1 0 ≤ cond v (count r) 0) [ true ↦ omega arith | false ↦ omega arith ] in
    omega (arith, later, one, all, here)

-- ---- the three kinds of rows

sent-keyed : IsKeyed {R = ActorCount} {F = Fact} (λ r s. same_actor r.actor s.actor) (λ r. is_sent_to r.actor)
sent-keyed = record { itself = λ r. same_actor-refl r.actor; exact = λ r s. exact r.actor s.actor }
  where
    exact : (a b : Actor) (f : Fact) → is_sent_to a f ≡ true → is_sent_to b f ≡ same_actor a b
    exact a b (sent_to c) t = ap (λ x. same_actor x b) (same_actor-equal c a t)
    exact a b f t = absurd (false≢true t)

pub sent-few : (facts : List Fact) (rows : List ActorCount) → AllByRecursion (λ r. 0 < r.count) rows → ((a : Actor) → actor_total a rows ≡ tally (is_sent_to a) facts) → length rows ≤ length facts
sent-few facts rows stand counts =
    rows-few (λ r s. same_actor r.actor s.actor) (λ r. is_sent_to r.actor) sent-keyed rows facts
    (λ s. (let most = counted (λ r. same_actor r.actor s.actor) (λ r. same_actor s.actor r.actor) (λ r. r.count) (λ r. same_actor-sym r.actor s.actor) rows stand in let all = counts s.actor in omega (arith, most, all)))

abbrev same_pair : PairCount → PairCount → Bool
same_pair r s = same_actor r.owner s.owner && same_actor r.target s.target

pair-sym : (r s : PairCount) → same_pair r s ≡ (same_actor s.owner r.owner && same_actor s.target r.target)
pair-sym r s = λ i. same_actor-sym r.owner s.owner i && same_actor-sym r.target s.target i

-- facts about pairs
pair-exact : (x y b a c d : Actor) → (same_actor x b && same_actor y a) ≡ true → (same_actor x c && same_actor y d) ≡ (same_actor b c && same_actor a d)
pair-exact x y b a c d t =
    let both = and_parts (same_actor x b) (same_actor y a) t in
    let first = same_actor-equal x b both.0 in
    let second = same_actor-equal y a both.1 in
    λ i. same_actor (first i) c && same_actor (second i) d

pair-itself : (r : PairCount) → same_pair r r ≡ true
pair-itself r = and_from (same_actor r.owner r.owner) (same_actor r.target r.target) (same_actor-refl r.owner) (same_actor-refl r.target)

created-keyed : IsKeyed {R = PairCount} {F = Fact} same_pair (λ r. is_created r.owner r.target)
created-keyed = record { itself = pair-itself; exact = exact }
  where
    exact : (r s : PairCount) (f : Fact) → is_created r.owner r.target f ≡ true → is_created s.owner s.target f ≡ same_pair r s
    exact r s (created x y) t = pair-exact x y r.owner r.target s.owner s.target t
    exact r s f t = absurd (false≢true t)

released-keyed : IsKeyed {R = PairCount} {F = Fact} same_pair (λ r. is_released r.owner r.target)
released-keyed = record { itself = pair-itself; exact = exact }
  where
    exact : (r s : PairCount) (f : Fact) → is_released r.owner r.target f ≡ true → is_released s.owner s.target f ≡ same_pair r s
    exact r s (released x y) t = pair-exact x y r.owner r.target s.owner s.target t
    exact r s f t = absurd (false≢true t)

pairs-few : (test : Actor → Actor → Fact → Bool) → IsKeyed {R = PairCount} {F = Fact} same_pair (λ r. test r.owner r.target) → (facts : List Fact) (rows : List PairCount) → AllByRecursion (λ r. 0 < r.count) rows
    → ((b a : Actor) → pair_total b a rows ≡ tally (test b a) facts) → length rows ≤ length facts
pairs-few test keyed facts rows stand counts =
    rows-few same_pair (λ r. test r.owner r.target) keyed rows facts
    (λ s. (let most = counted (λ r. same_pair r s) (λ r. same_actor s.owner r.owner && same_actor s.target r.target) (λ r. r.count) (λ r. pair-sym r s) rows stand in let all = counts s.owner s.target in omega (arith, most, all)))

state-keyed : IsKeyed {R = StateRow} {F = Fact} (λ r s. same_actor r.actor s.actor) (λ r. is_flagged r.actor)
state-keyed = record { itself = λ r. same_actor-refl r.actor; exact = λ r s. exact r.actor s.actor }
  where
    exact : (a b : Actor) (f : Fact) → is_flagged a f ≡ true → is_flagged b f ≡ same_actor a b
    exact a b (flagged c g) t = ap (λ x. same_actor x b) (same_actor-equal c a t)
    exact a b f t = absurd (false≢true t)

-- flags are those of a fact
flags-counted : (a : Actor) (facts : List Fact) (g : Flags) → last_flags a facts ≡ Some g → 0 < tally (is_flagged a) facts
flags-counted a [] g e = absurd (cc)
flags-counted a (flagged b f ∷ rest) g e =
    let Found : Bool → Type 0 = λ v. cond v (Some (unwrap_or (last_flags a rest) f)) (last_flags a rest) ≡ Some g → 0 < cond v (tally (is_flagged a) rest + 1) (tally (is_flagged a) rest) in
    let found : Found (same_actor b a) = elim (same_actor b a) as Found [ true ↦ λ _. omega arith | false ↦ λ k. flags-counted a rest g k ] in
    found e
flags-counted a (x ∷ rest) g e = flags-counted a rest g e

-- an actor has at most one of rising rows, and then it has flags
states-once : (a : Actor) (rows : List StateRow) → IsRising (λ r s. IsActorBelow r.actor s.actor) rows → (tally (λ r. same_actor r.actor a) rows ≡ 0) ⊎ ((tally (λ r. same_actor r.actor a) rows ≡ 1) × (g : Flags) × (row_flags a rows ≡ Some g))
states-once a [] rise = inl refl
states-once a (r ∷ rows) rise =
    let test : StateRow → Bool = λ x. same_actor x.actor a in
    let Case : Bool → Type 0 = λ v. (cond v (tally test rows + 1) (tally test rows) ≡ 0) ⊎ ((cond v (tally test rows + 1) (tally test rows) ≡ 1) × (g : Flags) × (cond v (Some (unwrap_or (row_flags a rows) (state_flags r))) (row_flags a rows) ≡ Some g)) in
    let case : Case (same_actor r.actor a) = elim (same_actor r.actor a) as (λ v. same_actor r.actor a ≡ v → Case v) [
      | true ↦ λ t. (
          let none : tally test rows ≡ 0 = tally-none test rows (λ x m. false_from_ne_true (test x) (λ same.
          IsActorBelow-apart r.actor (subst (IsActorBelow r.actor) (same_actor-equal x.actor a same ∙ sym (same_actor-equal r.actor a t)) (all-member (λ y. IsActorBelow r.actor y.actor) x rows rise.0 m)))) in
          inr (omega arith, unwrap_or (row_flags a rows) (state_flags r), refl)
          )
      | false ↦ λ _. states-once a rows rise.1
    ] refl in
    subst (λ w. (cond (same_actor r.actor a) (tally test rows + 1) (tally test rows) ≡ 0) ⊎ ((cond (same_actor r.actor a) (tally test rows + 1) (tally test rows) ≡ 1) × (g : Flags) × (cond w (Some (unwrap_or (row_flags a rows) (state_flags r))) (row_flags a rows) ≡ Some g))) (same_actor-sym r.actor a) case

pub states-few : (facts : List Fact) (rows : List StateRow) → IsRising (λ r s. IsActorBelow r.actor s.actor) rows → ((a : Actor) → row_flags a rows ≡ last_flags a facts) → length rows ≤ length facts
states-few facts rows rise counts =
    rows-few (λ r s. same_actor r.actor s.actor) (λ r. is_flagged r.actor) state-keyed rows facts
    (λ s. elim (states-once s.actor rows rise) [
      | inl none ↦ (let n = none in omega (arith, n))
      | inr one ↦ (let n = one.0 in let some = flags-counted s.actor facts one.1 (sym (counts s.actor) ∙ one.2) in omega (arith, n, some))
    ])

-- ---- notices of a history within its limits

-- a link leads from another node
abbrev LeadsTo : ℕ → Notice → Type 0
LeadsTo o (delta facts) = Unit {0}
LeadsTo o (window_of s facts) = s ≢ o
LeadsTo o (final_of s facts) = s ≢ o

record IsModest (o m : ℕ) (n : Notice) : Type 0 where
  few : length (facts_in n) ≤ 18 * m
  link : LeadsTo o n
  named : length (rising_actors (fact_names (facts_in n))) ≤ 200000

within : (m : ℕ) → nat_lt 200000 m ≡ false → m ≤ 200000
within m below = elim (cases_lt 200000 m) [ inl more ↦ absurd (true≢false (sym (lt-ltb 200000 m more) ∙ below)) | inr le ↦ le ]

apart-nodes : (x y : ℕ) → not (eqb x y) ≡ true → y ≢ x
apart-nodes x y t e = absurd (true≢false (sym t ∙ ap not ((Decides-eqb x y).1 (sym e))))

old-or-new : (v : Bool) (xs : List Notice) (x n : Notice) → IsAmong n (cond v (xs ++ x ∷ []) xs) → IsAmong n xs ⊎ ((v ≡ true) × (n ≡ x))
old-or-new true xs x n among = elim (IsAmong-append_cases n xs (x ∷ []) among) [
  | inl old ↦ inl old
  | inr new ↦ elim new [ inl e ↦ inr (refl, e) | inr none ↦ absurd none ]
]
old-or-new false xs x n among = inl among

later : (o : ℕ) (e : Event) (p : List Event) (n : Notice) → IsModest o (length p) n → IsModest o (length (e ∷ p)) n
later o e p n modest = record { few = (let few = modest.few in omega arith); link = modest.link; named = modest.named }

notices-modest : (cl : Cluster) (o : ℕ) (h : List Event) → IsLegal cl h → AreWithinRanges h → KeepsDeltaLimit cl h → (n : Notice) → IsAmong n (stream cl o h) → IsModest o (length h) n
notices-modest cl o [] legal ranges limits n among = absurd among
notices-modest cl o (Publish m ∷ p) legal ranges limits n among =
    elim (old-or-new (eqb m o) (stream cl o p) (delta (queue cl o p)) n among) [
      | inl old ↦ later o (Publish m) p n (notices-modest cl o p legal.1 ranges.1 limits.1 n old)
      | inr new ↦ (
          let same = (Decides-eqb m o).0 new.0 in
          let few = queue-few cl o p ranges.1 in
          let named = within (named_count (queue cl m p)) limits.0 in
          subst (IsModest o (length (Publish m ∷ p))) (sym new.1) (record { few = omega arith; link = tt; named = subst (λ x. named_count (queue cl x p) ≤ 200000) same named })
          )
    ]
notices-modest cl o (Window d s ∷ p) legal ranges limits n among =
    elim (old-or-new (eqb d o) (stream cl o p) (window_of s (window s d p)) n among) [
      | inl old ↦ later o (Window d s) p n (notices-modest cl o p legal.1 ranges.1 limits.1 n old)
      | inr new ↦ (
          let same = (Decides-eqb d o).0 new.0 in
          let few = window-few s d p ranges.1 in
          let kept = legal-kept cl (Window d s) p legal in
          subst (IsModest o (length (Window d s ∷ p))) (sym new.1) (record { few = omega arith; link = subst (λ x. s ≢ x) same (apart-nodes d s kept.1.1.0); named = within (named_count (window s d p)) limits.0 })
          )
    ]
notices-modest cl o (Remove d s ∷ p) legal ranges limits n among =
    elim (old-or-new (eqb d o) (stream cl o p) (final_of s (window s d p)) n among) [
      | inl old ↦ later o (Remove d s) p n (notices-modest cl o p legal.1 ranges.1 limits.1 n old)
      | inr new ↦ (
          let same = (Decides-eqb d o).0 new.0 in
          let few = window-few s d p ranges.1 in
          let kept = legal-kept cl (Remove d s) p legal in
          subst (IsModest o (length (Remove d s ∷ p))) (sym new.1) (record { few = omega arith; link = subst (λ x. s ≢ x) same (apart-nodes d s kept.1.1.0); named = within (named_count (window s d p)) limits.0 })
          )
    ]
notices-modest cl o (e ∷ p) legal ranges limits n among = later o e p n (notices-modest cl o p legal.1 ranges.1 limits.1 n among)

-- ---- bulletins

among-at : {X : Type 0} (xs : List X) (k : ℕ) (x : X) → slice_get xs k ≡ Some x → IsAmong x xs
among-at [] k x e = absurd (cc)
among-at (y ∷ ys) zero x e = inl (sym (same e))
  where
    same : Some y ≡ Some x → y ≡ x
    same q = cc
among-at (y ∷ ys) (suc k) x e = inr (among-at ys k x e)

-- rows that count few facts are few
rows-short : (facts : List Fact) (l : Ledger) → IsInOrder l → IsLedgerOf facts l → length facts < 2 ^ 32 → HasFewRows l
rows-short facts l order counts few =
    let stand = order.1 in
    record {
      states = (let rows = states-few facts l.states order.0.states counts.flags in omega arith);
      sent = (let rows = sent-few facts l.sent stand.sent counts.sent in omega arith);
      created = (let rows = pairs-few is_created created-keyed facts l.created stand.created counts.created in omega arith);
      released = (let rows = pairs-few is_released released-keyed facts l.released stand.released counts.released in omega arith);
    }

apart-ends : (o : ℕ) (b : Bulletin) (n : Notice) → Tells o b n → LeadsTo o n → IsOfTwoNodes b
apart-ends o (bulletins.Delta d) (delta facts) tells link = tt
apart-ends o (bulletins.Window w) (window_of s facts) tells link = λ e. link (sym tells.1 ∙ e ∙ tells.0)
apart-ends o (bulletins.Final w) (final_of s facts) tells link = λ e. link (sym tells.1 ∙ e ∙ tells.0)
apart-ends o b n tells link = absurd tells

pub told-fit : (cl : Cluster) (h : List Event) (o k : ℕ) (b : Bulletin) → IsWithinLimits cl h → IsOrdered b → TellsNumber cl h o k b → FitsWire b
told-fit cl h o k b limits order tells =
    let n : Notice = tells.0 in
    let modest = notices-modest cl o h limits.legal limits.ranges limits.names n (among-at (stream cl o h) k n tells.1) in
    let few = modest.few in
    let short = limits.events in
    let counts = tells-counts o b n tells.2 in
    let names = ledger-rising_names (facts_in n) (bulletin_ledger b) order.1 counts in
    record {
      ends = apart-ends o b n tells.2 modest.link;
      rows = rows-short (facts_in n) (bulletin_ledger b) order counts (omega arith);
      names = subst (λ xs. length xs ≤ 200000) (sym names) modest.named;
    }
