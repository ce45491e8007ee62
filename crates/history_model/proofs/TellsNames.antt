-- Who is named: what counts of an actor is not 0, or it has flags. So facts and rows that count alike name the same actors.
use Rattle.std.proofs.Common.{◌≡◌, ◌<◌, ◌+◌, ◌&&◌, ◌⊎◌, ◌↔◌, Bool, true, false, cond, List, [], ◌∷◌, ◌++◌, map, flat_map, refl, sym, ◌∙◌, ap, subst, inl, inr, arith}
use Rattle.std.proofs.lemmas.Bool.{and_from, and_parts, cond-true, false≢true}
use Rattle.std.specs.List.{AllByRecursion}
use Rattle.std.specs.Prelude.{Some, unwrap_or}
use Rattle.crgc_ids.specs.Actor.{Actor, same_actor}
use Rattle.crgc_ids.specs.Members.{IsAmong}
use Rattle.crgc_ids.specs.declared.rising.ActorCount.{ActorCount}
use Rattle.crgc_ids.specs.declared.rising.PairCount.{PairCount}
use Rattle.crgc_ids.proofs.MembersLaws.{IsAmong-append_cases, IsAmong-append_left, IsAmong-append_right, all-member}
use Rattle.history_model.specs.declared.records.StateRow.{StateRow}
use Rattle.history_model.specs.Tally.{tally}
use Rattle.history_model.specs.Facts.{Fact, Flags, received, sent_to, created, released, flagged, is_received, is_sent_to, is_created, is_released, names}
use Rattle.history_model.specs.Graph.{last_flags, named_by}
use Rattle.history_model.specs.Ledgers.{CountAlike, CountFromOne, Counts, Ledger, actor_total, fact_counts, ledger_counts, ledger_names, pair_names, pair_total, row_flags, state_flags}
use Rattle.history_model.proofs.Basics.{same_actor-equal, same_actor-refl}
use Rattle.history_model.proofs.FoldSumsKnown.{created-names, names-among}
use Rattle.history_model.proofs.Lists.{IsAmong-flat_map, IsAmong-from_flat_map, tally-some}
use Rattle.history_model.proofs.TellsRows.{total-some}
use Rattle.history_model.proofs.LinksSums.{sum_by-positive}
use Rattle.crgc_ids.proofs.KeyOrders.{actor_order, pair_order}
use Rattle.history_model.proofs.FoldSumsFlags.{last_flags-named}

-- some count of a is not 0, or a has flags
pub data IsNamed (c : Counts) (a : Actor) : Type 0 where
  takes : 0 < c.received a → IsNamed c a
  is_flushed : (g : Flags) → c.flags a ≡ Some g → IsNamed c a
  is_sent : 0 < c.sent a → IsNamed c a
  is_owner : (x : Actor) → 0 < c.created a x → IsNamed c a
  is_target : (x : Actor) → 0 < c.created x a → IsNamed c a
  gives_up : (x : Actor) → 0 < c.released a x → IsNamed c a
  is_given_up : (x : Actor) → 0 < c.released x a → IsNamed c a

pub named-alike : (c d : Counts) → CountAlike c d → (a : Actor) → IsNamed c a → IsNamed d a
named-alike c d alike a (takes l) = takes (omega (arith, l, alike.received a))
named-alike c d alike a (is_flushed g e) = is_flushed g (sym (alike.flags a) ∙ e)
named-alike c d alike a (is_sent l) = is_sent (omega (arith, l, alike.sent a))
named-alike c d alike a (is_owner x l) = is_owner x (omega (arith, l, alike.created a x))
named-alike c d alike a (is_target x l) = is_target x (omega (arith, l, alike.created x a))
named-alike c d alike a (gives_up x l) = gives_up x (omega (arith, l, alike.released a x))
named-alike c d alike a (is_given_up x l) = is_given_up x (omega (arith, l, alike.released x a))

-- ---- facts

pub tally-member : {X : Type 0} (test : X → Bool) (x : X) (xs : List X) → IsAmong x xs → test x ≡ true → 0 < tally test xs
tally-member test x [] m t = absurd m
tally-member test x (y ∷ ys) (inl e) t = subst (λ v. 0 < cond v (tally test ys + 1) (tally test ys)) (sym (ap test (sym e) ∙ t)) (omega arith)
tally-member test x (y ∷ ys) (inr m) t =
    let later = tally-member test x ys m t in
    elim (test y) as (λ v. 0 < cond v (tally test ys + 1) (tally test ys)) [ true ↦ omega arith | false ↦ later ]

last_flags-member : (a : Actor) (g : Flags) (facts : List Fact) → IsAmong (flagged a g) facts → (f : Flags) × (last_flags a facts ≡ Some f)
last_flags-member a g [] m = absurd m
last_flags-member a g (flagged b f ∷ rest) (inl e) =
    let same : same_actor b a ≡ true = subst (λ x. names a x ≡ true) e (same_actor-refl a) in
    (unwrap_or (last_flags a rest) f, cond-true (same_actor b a) (Some (unwrap_or (last_flags a rest) f)) (last_flags a rest) same)
last_flags-member a g (flagged b f ∷ rest) (inr m) =
    let later = last_flags-member a g rest m in
    elim (same_actor b a) as (λ v. (h : Flags) × (cond v (Some (unwrap_or (last_flags a rest) f)) (last_flags a rest) ≡ Some h)) [
      | true ↦ (unwrap_or (last_flags a rest) f, refl)
      | false ↦ later
    ]
last_flags-member a g (received b ∷ rest) (inl e) = absurd (cc)
last_flags-member a g (received b ∷ rest) (inr m) = last_flags-member a g rest m
last_flags-member a g (sent_to b ∷ rest) (inl e) = absurd (cc)
last_flags-member a g (sent_to b ∷ rest) (inr m) = last_flags-member a g rest m
last_flags-member a g (created b c ∷ rest) (inl e) = absurd (cc)
last_flags-member a g (created b c ∷ rest) (inr m) = last_flags-member a g rest m
last_flags-member a g (released b c ∷ rest) (inl e) = absurd (cc)
last_flags-member a g (released b c ∷ rest) (inr m) = last_flags-member a g rest m

-- an actor that one of the facts names is counted
fact-counted : (a : Actor) (facts : List Fact) (x : Fact) → IsAmong x facts → IsAmong a (named_by x) → IsNamed (fact_counts facts) a
fact-counted a facts (received b) m (inl e) = takes (tally-member (is_received a) (received b) facts m (subst (λ c. same_actor b c ≡ true) (sym e) (same_actor-refl b)))
fact-counted a facts (received b) m (inr h) = absurd h
fact-counted a facts (sent_to b) m (inl e) = is_sent (tally-member (is_sent_to a) (sent_to b) facts m (subst (λ c. same_actor b c ≡ true) (sym e) (same_actor-refl b)))
fact-counted a facts (sent_to b) m (inr h) = absurd h
fact-counted a facts (created b c) m (inl e) =
    is_owner c (tally-member (is_created a c) (created b c) facts m (and_from (same_actor b a) (same_actor c c) (subst (λ d. same_actor b d ≡ true) (sym e) (same_actor-refl b)) (same_actor-refl c)))
fact-counted a facts (created b c) m (inr (inl e)) =
    is_target b (tally-member (is_created b a) (created b c) facts m (and_from (same_actor b b) (same_actor c a) (same_actor-refl b) (subst (λ d. same_actor c d ≡ true) (sym e) (same_actor-refl c))))
fact-counted a facts (created b c) m (inr (inr h)) = absurd h
fact-counted a facts (released b c) m (inl e) =
    gives_up c (tally-member (is_released a c) (released b c) facts m (and_from (same_actor b a) (same_actor c c) (subst (λ d. same_actor b d ≡ true) (sym e) (same_actor-refl b)) (same_actor-refl c)))
fact-counted a facts (released b c) m (inr (inl e)) =
    is_given_up b (tally-member (is_released b a) (released b c) facts m (and_from (same_actor b b) (same_actor c a) (same_actor-refl b) (subst (λ d. same_actor c d ≡ true) (sym e) (same_actor-refl c))))
fact-counted a facts (released b c) m (inr (inr h)) = absurd h
fact-counted a facts (flagged b g) m (inl e) =
    (let found = last_flags-member b g facts m in is_flushed found.0 (subst (λ c. last_flags c facts ≡ Some found.0) (sym e) found.1))
fact-counted a facts (flagged b g) m (inr h) = absurd h

released-names : (b a : Actor) (x : Fact) → is_released b a x ≡ true → IsAmong b (named_by x) × IsAmong a (named_by x)
released-names b a (released c d) t =
    let both = and_parts (same_actor c b) (same_actor d a) t in
    (inl (sym (same_actor-equal c b both.0)), inr (inl (sym (same_actor-equal d a both.1))))
released-names b a _ t = absurd (false≢true t)

received-names : (a : Actor) (x : Fact) → is_received a x ≡ true → IsAmong a (named_by x)
received-names a (received b) t = inl (sym (same_actor-equal b a t))
received-names a _ t = absurd (false≢true t)

sent-names : (a : Actor) (x : Fact) → is_sent_to a x ≡ true → IsAmong a (named_by x)
sent-names a (sent_to b) t = inl (sym (same_actor-equal b a t))
sent-names a _ t = absurd (false≢true t)

-- what is counted of an actor, some fact says
module _ (a : Actor) (facts : List Fact) where
  counted-by : (test : Fact → Bool) → ((x : Fact) → test x ≡ true → IsAmong a (named_by x)) → 0 < tally test facts → IsAmong a (flat_map named_by facts)
  counted-by test tells some =
      let found = tally-some test facts some in
      IsAmong-flat_map named_by a found.0 facts found.1 (tells found.0 found.2)

  counted-fact : IsNamed (fact_counts facts) a → IsAmong a (flat_map named_by facts)
  counted-fact (takes l) = counted-by (is_received a) (received-names a) l
  counted-fact (is_flushed g e) =
      (let found = last_flags-named a facts g e in
      IsAmong-flat_map named_by a found.0 facts found.1 ((names-among a found.0).0 found.2))
  counted-fact (is_sent l) = counted-by (is_sent_to a) (sent-names a) l
  counted-fact (is_owner x l) = counted-by (is_created a x) (λ y t. (names-among a y).0 (created-names a x y t).0) l
  counted-fact (is_target x l) = counted-by (is_created x a) (λ y t. (names-among a y).0 (created-names x a y t).1) l
  counted-fact (gives_up x l) = counted-by (is_released a x) (λ y t. (released-names a x y t).0) l
  counted-fact (is_given_up x l) = counted-by (is_released x a) (λ y t. (released-names x a y t).1) l

  -- the facts name exactly those of whom they count something
  pub facts-named : IsAmong a (flat_map named_by facts) ↔ IsNamed (fact_counts facts) a
  facts-named = (
    λ h. (let found = IsAmong-from_flat_map named_by a facts h in fact-counted a facts found.0 found.1 found.2),
    counted-fact,
  )

-- ---- rows

row_flags-member : (r : StateRow) (rows : List StateRow) → IsAmong r rows → (g : Flags) × (row_flags r.actor rows ≡ Some g)
row_flags-member r [] m = absurd m
row_flags-member r (s ∷ rest) m =
    let f : Flags = state_flags s in
    let a = r.actor in
    let Has : Bool → Type 0 = λ v. same_actor a s.actor ≡ v → (g : Flags) × (cond v (Some (unwrap_or (row_flags a rest) f)) (row_flags a rest) ≡ Some g) in
    let has : Has (same_actor a s.actor) = elim (same_actor a s.actor) as Has [
      | true ↦ λ _. (unwrap_or (row_flags a rest) f, refl)
      | false ↦ λ other. elim m [
        | inl e ↦ absurd (false≢true (sym other ∙ subst (λ x. same_actor a x.actor ≡ true) e (same_actor-refl a)))
        | inr later ↦ row_flags-member r rest later
      ]
    ] in
    has refl

-- an actor with flags has a row
pub row_flags-some : (a : Actor) (rows : List StateRow) (g : Flags) → row_flags a rows ≡ Some g → (r : StateRow) × IsAmong r rows × (r.actor ≡ a)
row_flags-some a [] g e = absurd (cc)
row_flags-some a (s ∷ rest) g e =
    let f : Flags = state_flags s in
    let later : row_flags a rest ≡ Some g → (r : StateRow) × IsAmong r (s ∷ rest) × (r.actor ≡ a) =
    λ k. (let found = row_flags-some a rest g k in (found.0, inr found.1, found.2)) in
    let Found : Bool → Type 0 = λ v. same_actor a s.actor ≡ v → cond v (Some (unwrap_or (row_flags a rest) f)) (row_flags a rest) ≡ Some g
    → (r : StateRow) × IsAmong r (s ∷ rest) × (r.actor ≡ a) in
    let found : Found (same_actor a s.actor) = elim (same_actor a s.actor) as Found [
      | true ↦ λ t _. (s, inl refl, sym (same_actor-equal a s.actor t))
      | false ↦ λ _ k. later k
    ] in
    found refl e

among-key : {X : Type 0} (key : X → Actor) (x : X) (rows : List X) → IsAmong x rows → IsAmong (key x) (map key rows)
among-key key x [] m = absurd m
among-key key x (y ∷ ys) (inl e) = inl (ap key e)
among-key key x (y ∷ ys) (inr m) = inr (among-key key x ys m)

named-key : {X : Type 0} (key : X → Actor) (a : Actor) (rows : List X) → (x : X) × IsAmong x rows × (key x ≡ a) → IsAmong a (map key rows)
named-key key a rows found = subst (λ b. IsAmong b (map key rows)) found.2 (among-key key found.0 rows found.1)

key-among : {X : Type 0} (key : X → Actor) (a : Actor) (rows : List X) → IsAmong a (map key rows) → (x : X) × IsAmong x rows × (key x ≡ a)
key-among key a [] m = absurd m
key-among key a (y ∷ ys) (inl e) = (y, inl refl, sym e)
key-among key a (y ∷ ys) (inr m) = (let found = key-among key a ys m in (found.0, inr found.1, found.2))

-- a row that does not count 0 counts its actor, or its pair
actor-counted : (r : ActorCount) (rows : List ActorCount) → IsAmong r rows → AllByRecursion (λ x. 0 < x.count) rows → 0 < actor_total r.actor rows
actor-counted r rows m stand =
    sum_by-positive (λ x. cond (same_actor r.actor x.actor) x.count 0) r rows m
    (subst (λ n. 0 < n) (sym (cond-true (same_actor r.actor r.actor) r.count 0 (same_actor-refl r.actor))) (all-member (λ x. 0 < x.count) r rows stand m))

pair-counted : (r : PairCount) (rows : List PairCount) → IsAmong r rows → AllByRecursion (λ x. 0 < x.count) rows → 0 < pair_total r.owner r.target rows
pair-counted r rows m stand =
    sum_by-positive (λ x. cond (same_actor r.owner x.owner && same_actor r.target x.target) x.count 0) r rows m
    (subst (λ n. 0 < n)
    (sym (cond-true (same_actor r.owner r.owner && same_actor r.target r.target) r.count 0 (and_from (same_actor r.owner r.owner) (same_actor r.target r.target) (same_actor-refl r.owner) (same_actor-refl r.target))))
    (all-member (λ x. 0 < x.count) r rows stand m))

-- a pair that is counted has both its actors named
pair-some : (b a : Actor) (rows : List PairCount) → 0 < pair_total b a rows → IsAmong b (pair_names rows) × IsAmong a (pair_names rows)
pair-some b a rows some =
    let found = total-some _ _ (λ r. (r.owner, r.target)) pair_order (λ r. r.count) (b, a) rows some in
    let names : PairCount → List Actor = λ r. r.owner ∷ r.target ∷ [] in (
      IsAmong-flat_map names b found.0 rows found.1 (inl (sym (ap (λ p. p.0) found.2))),
      IsAmong-flat_map names a found.0 rows found.1 (inr (inl (sym (ap (λ p. p.1) found.2)))),
    )

pair-named : (a : Actor) (rows : List PairCount) → AllByRecursion (λ x. 0 < x.count) rows → IsAmong a (pair_names rows)
    → ((x : Actor) × (0 < pair_total a x rows)) ⊎ ((x : Actor) × (0 < pair_total x a rows))
pair-named a rows stand m =
    let found = IsAmong-from_flat_map (λ r. r.owner ∷ r.target ∷ []) a rows m in
    let r : PairCount = found.0 in
    let counts = pair-counted r rows found.1 stand in
    elim found.2 [
      | inl e ↦ inl (r.target, subst (λ b. 0 < pair_total b r.target rows) (sym e) counts)
      | inr other ↦ elim other [
        | inl e ↦ inr (r.owner, subst (λ b. 0 < pair_total r.owner b rows) (sym e) counts)
        | inr none ↦ absurd none
      ]
    ]

module _ (a : Actor) (l : Ledger) where
  abbrev states : List Actor
  states = map (λ r. r.actor) l.states

  abbrev sent_names : List Actor
  sent_names = map (λ r. r.actor) l.sent

  abbrev pairs : List Actor
  pairs = pair_names l.created ++ pair_names l.released

  in-states : IsAmong a states → IsAmong a (ledger_names l)
  in-states h = IsAmong-append_left a states (sent_names ++ pairs) h

  in-sent : IsAmong a sent_names → IsAmong a (ledger_names l)
  in-sent h = IsAmong-append_right a states (sent_names ++ pairs) (IsAmong-append_left a sent_names pairs h)

  in-pairs : IsAmong a pairs → IsAmong a (ledger_names l)
  in-pairs h = IsAmong-append_right a states (sent_names ++ pairs) (IsAmong-append_right a sent_names pairs h)

  in-created : IsAmong a (pair_names l.created) → IsAmong a (ledger_names l)
  in-created h = in-pairs (IsAmong-append_left a (pair_names l.created) (pair_names l.released) h)

  in-released : IsAmong a (pair_names l.released) → IsAmong a (ledger_names l)
  in-released h = in-pairs (IsAmong-append_right a (pair_names l.created) (pair_names l.released) h)

  row-counted : CountFromOne l → IsAmong a (ledger_names l) → IsNamed (ledger_counts l) a
  row-counted stand h =
      elim (IsAmong-append_cases a states (sent_names ++ pairs) h) [
        | inl k ↦ (
            let found = key-among (λ r. r.actor) a l.states k in
            let has = row_flags-member found.0 l.states found.1 in
            is_flushed has.0 (subst (λ b. row_flags b l.states ≡ Some has.0) found.2 has.1)
            )
        | inr k ↦ elim (IsAmong-append_cases a sent_names pairs k) [
          | inl n ↦ (
              let found = key-among (λ r. r.actor) a l.sent n in
              is_sent (subst (λ b. 0 < actor_total b l.sent) found.2 (actor-counted found.0 l.sent found.1 stand.sent))
              )
          | inr n ↦ elim (IsAmong-append_cases a (pair_names l.created) (pair_names l.released) n) [
            | inl p ↦ elim (pair-named a l.created stand.created p) [ inl q ↦ is_owner q.0 q.1 | inr q ↦ is_target q.0 q.1 ]
            | inr p ↦ elim (pair-named a l.released stand.released p) [ inl q ↦ gives_up q.0 q.1 | inr q ↦ is_given_up q.0 q.1 ]
          ]
        ]
      ]

  counted-row : IsNamed (ledger_counts l) a → IsAmong a (ledger_names l)
  counted-row (takes h) = in-states (named-key (λ r. r.actor) a l.states (total-some _ _ (λ r. r.actor) actor_order (λ r. r.received) a l.states h))
  counted-row (is_flushed g e) = in-states (named-key (λ r. r.actor) a l.states (row_flags-some a l.states g e))
  counted-row (is_sent h) = in-sent (named-key (λ r. r.actor) a l.sent (total-some _ _ (λ r. r.actor) actor_order (λ r. r.count) a l.sent h))
  counted-row (is_owner x h) = in-created (pair-some a x l.created h).0
  counted-row (is_target x h) = in-created (pair-some x a l.created h).1
  counted-row (gives_up x h) = in-released (pair-some a x l.released h).0
  counted-row (is_given_up x h) = in-released (pair-some x a l.released h).1

  -- rows of which none counts 0 name exactly those of whom they count something
  pub rows-named : CountFromOne l → IsAmong a (ledger_names l) ↔ IsNamed (ledger_counts l) a
  rows-named stand = (row-counted stand, counted-row)
