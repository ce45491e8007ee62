-- The actors that may take a message, one after another.
use Rattle.std.proofs.Common.{◌≡◌, ◌≤◌, ◌+◌, ℕ, zero, suc, true, List, [], ◌∷◌, ◌++◌, drop, map, flat_map, take, Option, Some, None, refl, sym, ◌∙◌, ap, subst, inl, inr, arith, if◌then◌else◌}
use Rattle.std.specs.Prelude.{slice_get}
use Rattle.std.specs.List.{range_with_len}
use Rattle.std.proofs.lemmas.Option.{same_Some}
use Rattle.crgc_ids.specs.Actor.{Actor, IsActorBelow}
use Rattle.crgc_ids.specs.Members.{IsAmong}
use Rattle.crgc_ids.specs.Nodes.{nodes_below}
use Rattle.crgc_ids.specs.Rising.{IsRising}
use Rattle.crgc_ids.proofs.MembersLaws.{IsAmong-append_cases, IsAmong-filter, IsAmong-from_filter, IsAmong-range, all-from_members, all-member}
use Rattle.crgc_ids.proofs.RisingLaws.{IsRising-filter}
use Rattle.history_model.specs.declared.events.Event.{Event}
use Rattle.history_model.specs.declared.events.Event.TheVariants.{Take}
use Rattle.history_model.specs.Cluster.{births}
use Rattle.history_model.specs.Legal.{IsLegal, has_nothing}
use Rattle.history_model.specs.Live.{actors_of, is_ready}
use Rattle.history_model.proofs.AccountsBirths.{born-on_node}
use Rattle.history_model.proofs.Basics.{legal-kept}
use Rattle.history_model.proofs.Lists.{IsAmong-flat_map}
use Rattle.history_model.proofs.LiveCounts.{actors_of-born, ready-takes}
use Rattle.ready_actors.specs.Ready.{IsAbove, IsFrom}
use Rattle.script_reader.specs.Valid.{Scripted}
use Rattle.traffic.specs.Readings.{IsNextReady}
use Rattle.run_model.specs.Doing.{cluster_of}
use Rattle.run_model.specs.Planned.{actors}
use Rattle.operation_model.specs.Answers.{ready}
use Rattle.operation_model.specs.declared.replies.Reply.TheVariants as replies

-- ---- actors rise

below-trans : (a b c : Actor) → IsActorBelow a b → IsActorBelow b c → IsActorBelow a c
below-trans a b c (inl x) (inl y) = inl (omega (arith, x, y))
below-trans a b c (inl x) (inr (same, y)) = inl (omega (arith, x, same))
below-trans a b c (inr (same, x)) (inl y) = inl (omega (arith, y, same))
below-trans a b c (inr (same, x)) (inr (same', y)) = inr (same ∙ same', omega (arith, x, y))

below-self : (a : Actor) → IsActorBelow a a → ⊥
below-self a (inl x) = omega (arith, x)
below-self a (inr (same, x)) = omega (arith, x)

IsRising-append : (xs ys : List Actor) → IsRising IsActorBelow xs → IsRising IsActorBelow ys → ((x y : Actor) → IsAmong x xs → IsAmong y ys → IsActorBelow x y) → IsRising IsActorBelow (xs ++ ys)
IsRising-append [] ys first rest across = rest
IsRising-append (x ∷ xs) ys first rest across = (
  all-from_members (IsActorBelow x) (xs ++ ys) (λ y among. elim (IsAmong-append_cases y xs ys among) [
    | inl here ↦ all-member (IsActorBelow x) y xs first.0 here
    | inr there ↦ across x y (inl refl) there
  ]),
  IsRising-append xs ys first.1 rest (λ z y here there. across z y (inr here) there),
)

module _ (h : List Event) where
  abbrev on : ℕ → ℕ → Actor
  on n k = record { node = n; serial = k }

  -- the actors of one node
  on-node : (n k len : ℕ) (a : Actor) → IsAmong a (map (on n) (range_with_len k len)) → (a.node ≡ n) × (k ≤ a.serial)
  on-node n k zero a among = absurd among
  on-node n k (suc len) a (inl same) = (ap (λ (b : Actor). b.node) same, (let e : a.serial ≡ k = ap (λ (b : Actor). b.serial) same in omega (arith, e)))
  on-node n k (suc len) a (inr later) = (let rest = on-node n (k + 1) len a later in let high = rest.1 in (rest.0, omega (arith, high)))

  node-rises : (n k len : ℕ) → IsRising IsActorBelow (map (on n) (range_with_len k len))
  node-rises n k zero = tt
  node-rises n k (suc len) = (
    all-from_members (IsActorBelow (on n k)) (map (on n) (range_with_len (k + 1) len))
        (λ a among. (let place = on-node n (k + 1) len a among in let high = place.1 in inr (sym place.0, omega (arith, high)))),
    node-rises n (k + 1) len,
  )

  -- those of several nodes
  from-node : (n len : ℕ) (a : Actor) → IsAmong a (flat_map (λ m. actors_of m h) (range_with_len n len)) → n ≤ a.node
  from-node n zero a among = absurd among
  from-node n (suc len) a among = elim (IsAmong-append_cases a (actors_of n h) (flat_map (λ m. actors_of m h) (range_with_len (n + 1) len)) among) [
    | inl here ↦ (let same = (on-node n 0 (births n h) a here).0 in omega (arith, same))
    | inr there ↦ (let rest = from-node (n + 1) len a there in omega (arith, rest))
  ]

  nodes-rise : (n len : ℕ) → IsRising IsActorBelow (flat_map (λ m. actors_of m h) (range_with_len n len))
  nodes-rise n zero = tt
  nodes-rise n (suc len) =
      IsRising-append (actors_of n h) (flat_map (λ m. actors_of m h) (range_with_len (n + 1) len)) (node-rises n 0 (births n h)) (nodes-rise (n + 1) len)
      (λ x y here there. (let same = (on-node n 0 (births n h) x here).0 in let rest = from-node (n + 1) len y there in inl (omega (arith, same, rest))))

-- ---- one after another

-- the list has, rising, all that may take a message and are above that one
pub record IsRest (h : List Event) (after : Option Actor) (rest : List Actor) : Type 0 where
  pub rising : IsRising IsActorBelow rest
  pub sound : (a : Actor) → IsAmong a rest → (is_ready a h ≡ true) × IsAbove after a
  pub complete : (a : Actor) → is_ready a h ≡ true → IsAbove after a → IsAmong a rest

module _ (s : Scripted) (h : List Event) (legal : IsLegal (cluster_of s) h) where
  pub all-ready : IsRest h None (ready s h)
  all-ready = record {
    rising = IsRising-filter IsActorBelow (λ a. is_ready a h) (actors s h) (nodes-rise h 0 s.nodes);
    sound = λ a among. ((IsAmong-from_filter (λ b. is_ready b h) a (actors s h) among).1, tt);
    complete = λ a may _.
        let cl = cluster_of s in
        let born = (legal-kept cl (Take a) h ((ready-takes cl h legal a).0 may, legal)).0 in
        let node = born-on_node cl h legal a born in
        IsAmong-filter (λ b. is_ready b h) a (actors s h)
        (IsAmong-flat_map (λ n. actors_of n h) a a.node (nodes_below s.nodes) (IsAmong-range a.node 0 s.nodes (omega arith) (omega (arith, node))) (actors_of-born h a born))
        may;
  }

-- the first one
abbrev pub first_of : List Actor → Option Actor
first_of [] = None
first_of (x ∷ xs) = Some x

module _ (h : List Event) (after : Option Actor) where
  pub next-first : (rest : List Actor) → IsRest h after rest → (v : Option Actor) → IsNextReady h after v → v ≡ first_of rest
  next-first [] is None next = refl
  next-first [] is (Some n) next = absurd (is.complete n next.0 next.1)
  next-first (x ∷ xs) is None next = (let there = is.sound x (inl refl) in absurd (next x there.0 there.1))
  next-first (x ∷ xs) is (Some n) next =
      let there = is.sound x (inl refl) in
      ap (λ a. Some a) (by_place (is.complete n next.0 next.1) (next.2 x there.0 there.1))
    where
      by_place : IsAmong n (x ∷ xs) → IsFrom n x → n ≡ x
      by_place (inl same) least = same
      by_place (inr later) (inl same) = same
      by_place (inr later) (inr below) = (let rises = is.rising in absurd (below-self n (below-trans n x n below (all-member (IsActorBelow x) n xs rises.0 later))))

  pub rest-after : (x : Actor) (xs : List Actor) → IsRest h after (x ∷ xs) → IsRest h (Some x) xs
  rest-after x xs is =
      let rises = is.rising in
      record {
        rising = rises.1;
        sound = λ a among. ((is.sound a (inr among)).0, all-member (IsActorBelow x) a xs rises.0 among);
        complete = λ a may above. elim (is.complete a may (still after a ((is.sound x (inl refl)).1) above)) [
          | inl same ↦ absurd (below-self x (subst (IsActorBelow x) same above))
          | inr later ↦ later
        ];
      }
    where
      still : (v : Option Actor) (a : Actor) → IsAbove v x → IsActorBelow x a → IsAbove v a
      still None a first above = tt
      still (Some b) a first above = below-trans b x a first above

-- ---- places in the list

pub first-drop : (xs : List Actor) (i : ℕ) → first_of (drop i xs) ≡ slice_get xs i
first-drop [] zero = refl
first-drop [] (suc i) = refl
first-drop (x ∷ xs) zero = refl
first-drop (x ∷ xs) (suc i) = first-drop xs i

-- what stands at a place, and what is left after it
drop-suc : (xs : List Actor) (i : ℕ) (x : Actor) → slice_get xs i ≡ Some x → drop i xs ≡ x ∷ drop (suc i) xs
drop-suc [] i x is = absurd (cc)
drop-suc (y ∷ xs) zero x is = ap (λ a. a ∷ xs) (same_Some y x is)
drop-suc (y ∷ xs) (suc i) x is = drop-suc xs i x is

one-more : (i : ℕ) → suc i ≡ i + 1
one-more i = omega arith

pub drop-place : (xs : List Actor) (i : ℕ) (x : Actor) → slice_get xs i ≡ Some x → drop i xs ≡ x ∷ drop (i + 1) xs
drop-place xs i x is = drop-suc xs i x is ∙ ap (λ n. x ∷ drop n xs) (one-more i)

-- past an end there is nothing
pub past-end : (xs : List Actor) (i j : ℕ) → i ≤ j → slice_get xs i ≡ None → slice_get xs j ≡ None
past-end [] i j le none = refl
past-end (x ∷ xs) zero j le none = absurd (cc)
past-end (x ∷ xs) (suc i) zero le none = absurd (omega (arith, le))
past-end (x ∷ xs) (suc i) (suc j) le none = past-end xs i j (omega (arith, le)) none

-- ---- a part of the list

pub rest-drops : (h : List Event) (rest : List Actor) (after : Option Actor) → IsRest h after rest → (i : ℕ) → (p : Option Actor) × IsRest h p (drop i rest)
rest-drops h rest after is zero = (after, is)
rest-drops h [] after is (suc i) = (after, is)
rest-drops h (x ∷ xs) after is (suc i) = rest-drops h xs (Some x) (rest-after h after x xs is) i

-- after each place the next actor stands at the next place
pub next-place : (h : List Event) (rest : List Actor) (after : Option Actor) → IsRest h after rest → (i : ℕ) (x : Actor) (v : Option Actor) → slice_get rest i ≡ Some x → IsNextReady h (Some x) v → v ≡ slice_get rest (i + 1)
next-place h rest after is i x v here next =
    let there = rest-drops h rest after is i in
    let later = rest-after h there.0 x (drop (i + 1) rest) (subst (IsRest h there.0) (drop-place rest i x here) there.1) in
    next-first h (Some x) (drop (i + 1) rest) later v next ∙ first-drop rest (i + 1)

pub take-end : (xs : List Actor) (i n : ℕ) → i ≤ n → slice_get xs i ≡ None → take n xs ≡ take i xs
take-end [] zero zero le none = refl
take-end [] zero (suc n) le none = refl
take-end [] (suc i) zero le none = refl
take-end [] (suc i) (suc n) le none = refl
take-end (x ∷ xs) zero n le none = absurd (cc)
take-end (x ∷ xs) (suc i) zero le none = absurd (omega (arith, le))
take-end (x ∷ xs) (suc i) (suc n) le none = ap (λ ys. x ∷ ys) (take-end xs i n (omega (arith, le)) none)

take-suc : (xs : List Actor) (i : ℕ) (x : Actor) → slice_get xs i ≡ Some x → take (suc i) xs ≡ take i xs ++ x ∷ []
take-suc [] i x is = absurd (cc)
take-suc (y ∷ xs) zero x is = ap (λ a. a ∷ []) (same_Some y x is)
take-suc (y ∷ xs) (suc i) x is = ap (λ ys. y ∷ ys) (take-suc xs i x is)

pub take-next : (xs : List Actor) (i : ℕ) (x : Actor) → slice_get xs i ≡ Some x → take (i + 1) xs ≡ take i xs ++ x ∷ []
take-next xs i x is = ap (λ n. take n xs) (sym (one-more i)) ∙ take-suc xs i x is

pub place-drop : (xs : List Actor) (k i : ℕ) → slice_get (drop k xs) i ≡ slice_get xs (k + i)
place-drop xs zero i = (let e : i ≡ 0 + i = omega arith in ap (slice_get xs) e)
place-drop [] (suc k) i = refl
place-drop (x ∷ xs) (suc k) i = (let e : suc (k + i) ≡ suc k + i = omega arith in place-drop xs k i ∙ ap (slice_get (x ∷ xs)) e)

-- ---- whether anybody is left

pub refill-some : (xs : List Actor) (k : ℕ) (a : Actor) → slice_get xs k ≡ Some a → None ≡ (if has_nothing (drop k xs) then Some replies.Nothing else None)
refill-some xs k a is = sym (ap (λ (ys : List Actor). if has_nothing ys then Some replies.Nothing else None) (drop-place xs k a is))

pub refill-none : (xs : List Actor) (k : ℕ) → slice_get xs k ≡ None → Some replies.Nothing ≡ (if has_nothing (drop k xs) then Some replies.Nothing else None)
refill-none [] zero is = refl
refill-none [] (suc k) is = refl
refill-none (x ∷ xs) zero is = absurd (cc)
refill-none (x ∷ xs) (suc k) is = refill-none xs k is
