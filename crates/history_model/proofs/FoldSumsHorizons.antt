-- Cuts: where the last flush before a position lies, and the flags there. Both are one recursion, `last_flush`, whose
-- laws the files on logs, flags and streams share.
use Rattle.std.proofs.Common.{◌≡◌, ◌<◌, ◌≤◌, ◌&&◌, ℕ, suc, Bool, true, false, cond, List, [], ◌∷◌, ◌++◌, length, refl, sym, ◌∙◌, ap, subst, inl, inr, arith}
use Rattle.std.proofs.lemmas.Bool.{and_right, false≢true, le-ltb, lt-ltb, ltb-true, and_parts, cases_Bool}
use Rattle.std.specs.Prelude.{◌==◌, nat_lt, Option, Some, None}
use Rattle.crgc_ids.specs.Actor.{Actor}
use Rattle.history_model.specs.declared.events.Event.{Event}
use Rattle.history_model.specs.declared.events.Event.TheVariants.{Flush, Publish}
use Rattle.history_model.specs.Cluster.{Cluster, same_actor}
use Rattle.history_model.specs.Facts.{Flags}
use Rattle.history_model.specs.Streams.{is_flush_of, flags_at, stream}
use Rattle.history_model.proofs.Basics.{same_actor-equal}
use Rattle.history_model.proofs.Sums.{publish_horizon, flush_horizon, horizon_flags}

-- ---- the last flush before a position

abbrev pub is_flush_on : ℕ → Event → Bool
is_flush_on o (Flush b) = b.node == o
is_flush_on o _ = false

-- a flush of one of o's actors is one on o
flush-on : (a : Actor) (o : ℕ) (e : Event) → is_flush_of a e ≡ true → (a.node == o) ≡ true → is_flush_on o e ≡ true
flush-on a o (Flush b) f t = subst (λ c. (c.node == o) ≡ true) (sym (same_actor-equal b a f)) t
flush-on a o e f t = absurd (false≢true f)

-- an event that is no flush on a's node is none of a
pub flush-elsewhere : (a : Actor) (o : ℕ) (e : Event) → (a.node == o) ≡ true → is_flush_on o e ≡ false → is_flush_of a e ≡ false
flush-elsewhere a o e t f =
    elim (cases_Bool (is_flush_of a e)) [ inl flush ↦ absurd (false≢true (sym f ∙ flush-on a o e flush t)) | inr none ↦ none ]

-- what `get` says of the history before the last flush of a before position t, or else `none`
abbrev pub last_flush : {X : Type 0} → X → (List Event → X) → Actor → ℕ → List Event → X
last_flush none get a t [] = none
last_flush none get a t (e ∷ p) =
    cond (is_flush_of a e && nat_lt (length p) t) (get p) (last_flush none get a t p)

module _ {X : Type 0} (none : X) (get : List Event → X) (a : Actor) where
  -- an event that is no flush of a changes nothing
  pub last_flush-other : (t : ℕ) (e : Event) (p : List Event) → is_flush_of a e ≡ false → last_flush none get a t (e ∷ p) ≡ last_flush none get a t p
  last_flush-other t e p f = ap (λ v. cond (v && nat_lt (length p) t) (get p) (last_flush none get a t p)) f

  -- nor does an event at the position or above it
  pub last_flush-later : (t : ℕ) (e : Event) (p : List Event) → t ≤ length p → last_flush none get a t (e ∷ p) ≡ last_flush none get a t p
  last_flush-later t e p l =
      ap (λ v. cond v (get p) (last_flush none get a t p)) (and_right (is_flush_of a e) (nat_lt (length p) t) (le-ltb (length p) t l))

  pub last_flush-here : (t : ℕ) (e : Event) (p : List Event) → is_flush_of a e ≡ true → length p < t → last_flush none get a t (e ∷ p) ≡ get p
  last_flush-here t e p f l =
      ap (λ v. cond (v && nat_lt (length p) t) (get p) (last_flush none get a t p)) f
      ∙ ap (λ v. cond v (get p) (last_flush none get a t p)) (lt-ltb (length p) t l)

  -- all positions past the end are one
  pub last_flush-end : (t : ℕ) (h : List Event) → length h ≤ t → last_flush none get a t h ≡ last_flush none get a (length h) h
  last_flush-end t [] l = refl
  last_flush-end t (e ∷ p) l =
      let low : length p < suc (length p) = omega arith in
      let tests : nat_lt (length p) t ≡ nat_lt (length p) (suc (length p)) =
      lt-ltb (length p) t (omega arith) ∙ sym (lt-ltb (length p) (suc (length p)) low) in
      let before : last_flush none get a t p ≡ last_flush none get a (suc (length p)) p =
      last_flush-end t p (omega arith) ∙ sym (last_flush-end (suc (length p)) p (omega arith)) in
      ap (λ v. cond (is_flush_of a e && v) (get p) (last_flush none get a t p)) tests
      ∙ ap (λ x. cond (is_flush_of a e && nat_lt (length p) (suc (length p))) (get p) x) before

  -- an event at the end that is no flush of a changes nothing
  pub last_flush-skip : (e : Event) (p : List Event) → is_flush_of a e ≡ false → last_flush none get a (suc (length p)) (e ∷ p) ≡ last_flush none get a (length p) p
  last_flush-skip e p f = last_flush-other (suc (length p)) e p f ∙ last_flush-end (suc (length p)) p (omega arith)

-- the horizon and the flags at it are such values
pub flush_horizon-last : (a : Actor) (t : ℕ) (h : List Event) → flush_horizon a t h ≡ last_flush 0 length a t h
flush_horizon-last a t [] = refl
flush_horizon-last a t (Flush b ∷ p) = ap (λ x. cond (same_actor b a && nat_lt (length p) t) (length p) x) (flush_horizon-last a t p)
flush_horizon-last a t (e ∷ p) = flush_horizon-last a t p

-- the flags of a, as far as it was flushed
abbrev pub some_flags : Actor → List Event → Option Flags
some_flags a p = Some (flags_at a p)

pub horizon_flags-last : (a : Actor) (t : ℕ) (h : List Event) → horizon_flags a t h ≡ last_flush None (some_flags a) a t h
horizon_flags-last a t [] = refl
horizon_flags-last a t (Flush b ∷ p) = ap (λ x. cond (same_actor b a && nat_lt (length p) t) (Some (flags_at a p)) x) (horizon_flags-last a t p)
horizon_flags-last a t (e ∷ p) = horizon_flags-last a t p

-- ---- the flush event at a horizon

-- a flush of a before position t, at position u and with the flags g
abbrev pub IsFlushAt : Actor → ℕ → List Event → ℕ → Flags → Type 0
IsFlushAt a t h u g =
    (q : List Event) × (p : List Event) × (h ≡ q ++ (Flush a ∷ p)) × (u ≡ length p) × (length p < t) × (g ≡ flags_at a p)

flush-here : (a : Actor) (t : ℕ) (b : Actor) (p : List Event) (g : Flags) → (horizon_flags a t p ≡ Some g → IsFlushAt a t p (flush_horizon a t p) g) → horizon_flags a t (Flush b ∷ p) ≡ Some g → IsFlushAt a t (Flush b ∷ p) (flush_horizon a t (Flush b ∷ p)) g
flush-here a t b p g before =
    let Here : Bool → Type 0 = λ v. (same_actor b a && nat_lt (length p) t) ≡ v → cond v (Some (flags_at a p)) (horizon_flags a t p) ≡ Some g → IsFlushAt a t (Flush b ∷ p) (cond v (length p) (flush_horizon a t p)) g in
    let here : Here (same_actor b a && nat_lt (length p) t) = elim (same_actor b a && nat_lt (length p) t) as Here [
      | true ↦ λ tests e. (
          let both = and_parts (same_actor b a) (nat_lt (length p) t) tests in
          ([], p, ap (λ c. Flush c ∷ p) (same_actor-equal b a both.0), refl, ltb-true (length p) t both.1, (cc))
          )
      | false ↦ λ _ e. (let found = before e in (Flush b ∷ found.0, found.1, ap (λ l. Flush b ∷ l) found.2, found.3, found.4, found.5))
    ] in
    here refl

-- the flags at a horizon are those of a flush event below it, whose position is the horizon
pub flags-at-horizon : (a : Actor) (t : ℕ) (h : List Event) (g : Flags) → horizon_flags a t h ≡ Some g → IsFlushAt a t h (flush_horizon a t h) g
flags-at-horizon a t [] g e = absurd (cc)
flags-at-horizon a t (Flush b ∷ p) g e = flush-here a t b p g (flags-at-horizon a t p g) e
flags-at-horizon a t (e ∷ p) g s =
    let found = flags-at-horizon a t p g s in
    (e ∷ found.0, found.1, ap (λ l. e ∷ l) found.2, found.3, found.4, found.5)

-- ---- horizons lie within the history

pub flush_horizon-within : (a : Actor) (t : ℕ) (h : List Event) → flush_horizon a t h ≤ length h
flush_horizon-within a t [] = omega arith
flush_horizon-within a t (Flush b ∷ p) =
    let before = flush_horizon-within a t p in
    elim (same_actor b a && nat_lt (length p) t) as (λ v. cond v (length p) (flush_horizon a t p) ≤ suc (length p)) [ true ↦ omega arith | false ↦ omega arith ]
flush_horizon-within a t (e ∷ p) = let before = flush_horizon-within a t p in omega arith

pub last_flush-within : (a : Actor) (t : ℕ) (h : List Event) → last_flush 0 length a t h ≤ length h
last_flush-within a t h = subst (λ c. c ≤ length h) (flush_horizon-last a t h) (flush_horizon-within a t h)

pub publish_horizon-within : (cl : Cluster) (o n : ℕ) (h : List Event) → publish_horizon cl o n h ≤ length h
publish_horizon-within cl o n [] = omega arith
publish_horizon-within cl o n (Publish m ∷ p) =
    let before = publish_horizon-within cl o n p in
    elim ((m == o) && nat_lt (length (stream cl o p)) n) as (λ v. cond v (length p) (publish_horizon cl o n p) ≤ suc (length p)) [ true ↦ omega arith | false ↦ omega arith ]
publish_horizon-within cl o n (e ∷ p) = let before = publish_horizon-within cl o n p in omega arith

-- a horizon lies below the position
pub flush_horizon-below : (a : Actor) (t : ℕ) (h : List Event) → flush_horizon a t h ≤ t
flush_horizon-below a t [] = omega arith
flush_horizon-below a t (Flush b ∷ p) =
    let Low : Bool → Type 0 = λ v. (same_actor b a && nat_lt (length p) t) ≡ v → cond v (length p) (flush_horizon a t p) ≤ t in
    let low : Low (same_actor b a && nat_lt (length p) t) = elim (same_actor b a && nat_lt (length p) t) as Low [
      | true ↦ λ e. (let less = ltb-true (length p) t (and_parts (same_actor b a) (nat_lt (length p) t) e).1 in omega arith)
      | false ↦ λ _. flush_horizon-below a t p
    ] in
    low refl
flush_horizon-below a t (e ∷ p) = flush_horizon-below a t p
