-- What the first bulletins of a stream tell, by induction over the history: a flush moves an entry into its node's
-- queue, a publish moves the queue into the stream. It is stated once, for any value of lists of facts.
use Rattle.std.proofs.Common.{◌≡◌, ◌<◌, ◌≤◌, ◌&&◌, ℕ, suc, Bool, true, false, cond, List, [], ◌∷◌, ◌++◌, length, take, refl, sym, ◌∙◌, ap, inl, inr, arith, length-append}
use Rattle.std.proofs.Math.Seq.{take-nil}
use Rattle.std.proofs.lemmas.Bool.{cases_lt, lt-ltb, ltb-false, ltb-true}
use Rattle.std.proofs.lemmas.List.{append-nil, take_all, take-append-le}
use Rattle.std.specs.Prelude.{◌==◌, nat_lt}
use Rattle.crgc_ids.specs.Actor.{Actor}
use Rattle.history_model.specs.declared.events.Event.{Event}
use Rattle.history_model.specs.declared.events.Event.TheVariants.{Flush, Publish, Window, Remove}
use Rattle.history_model.specs.Cluster.{Cluster}
use Rattle.history_model.specs.Facts.{Fact}
use Rattle.history_model.specs.Streams.{Notice, delta, window_of, final_of, entry, queue, stream, window}
use Rattle.history_model.specs.Graph.{delta_facts}
use Rattle.history_model.proofs.JoinedBulletins.{delta_facts-append}
use Rattle.history_model.proofs.Sums.{publish_horizon}
use Rattle.history_model.proofs.FoldSumsHorizons.{is_flush_on, publish_horizon-within}

-- `until t h` is what the entries of o's actors flushed before position t tell, as `value` tells it of a list of facts:
-- `later` flushes add nothing, a flush at the end adds its entry
pub record IsToldUntil (cl : Cluster) (o : ℕ) (X : Type 0) (join : X → X → X) (value : List Fact → X) (until : ℕ → List Event → X) : Type 0 where
  pub none : (x : X) → join x (value []) ≡ x
  pub append : (xs ys : List Fact) → value (xs ++ ys) ≡ join (value xs) (value ys)
  pub assoc : (x y z : X) → join (join x y) z ≡ join x (join y z)
  pub start : until 0 [] ≡ value []
  pub later : (t : ℕ) (e : Event) (p : List Event) → t ≤ length p → until t (e ∷ p) ≡ until t p
  pub flush : (b : Actor) (p : List Event) → (b.node == o) ≡ true → until (suc (length p)) (Flush b ∷ p) ≡ join (until (length p) p) (value (entry cl b p))
  pub other : (e : Event) (p : List Event) → is_flush_on o e ≡ false → until (suc (length p)) (e ∷ p) ≡ until (length p) p

-- ---- the first bulletins of a stream that grew by one

taken_more : (n : ℕ) (xs : List Notice) (y : Notice) → length xs < n → delta_facts (take n (xs ++ y ∷ [])) ≡ delta_facts (take n xs) ++ delta_facts (y ∷ [])
taken_more n xs y l =
    let longer = length-append xs (y ∷ []) in
    ap delta_facts (take_all n (xs ++ y ∷ []) (omega arith)) ∙ delta_facts-append xs (y ∷ [])
    ∙ ap (λ zs. delta_facts zs ++ delta_facts (y ∷ [])) (sym (take_all n xs (omega arith)))

taken_less : (n : ℕ) (xs : List Notice) (y : Notice) → n ≤ length xs → delta_facts (take n (xs ++ y ∷ [])) ≡ delta_facts (take n xs)
taken_less n xs y l = ap delta_facts (take-append-le n xs (y ∷ []) l)

-- a bulletin that is no Delta adds nothing
taken_link : (n : ℕ) (xs : List Notice) (y : Notice) → delta_facts (y ∷ []) ≡ [] → delta_facts (take n (xs ++ y ∷ [])) ≡ delta_facts (take n xs)
taken_link n xs y e =
    elim (cases_lt (length xs) n) [
      | inl more ↦ taken_more n xs y more ∙ ap (λ l. delta_facts (take n xs) ++ l) e ∙ append-nil (delta_facts (take n xs))
      | inr less ↦ taken_less n xs y less
    ]

grown : (b : Bool) (xs : List Notice) (y : Notice) → length xs ≤ length (cond b (xs ++ y ∷ []) xs)
grown true xs y = let longer = length-append xs (y ∷ []) in omega arith
grown false xs y = omega arith

stream-grows : (cl : Cluster) (o : ℕ) (e : Event) (p : List Event) → length (stream cl o p) ≤ length (stream cl o (e ∷ p))
stream-grows cl o (Publish m) p = grown (m == o) (stream cl o p) (delta (queue cl o p))
stream-grows cl o (Window d s) p = grown (d == o) (stream cl o p) (window_of s (window s d p))
stream-grows cl o (Remove d s) p = grown (d == o) (stream cl o p) (final_of s (window s d p))
stream-grows cl o e p = omega arith

-- ---- queues and streams

module _ (cl : Cluster) (o : ℕ) {X : Type 0} (join : X → X → X) (value : List Fact → X) (until : ℕ → List Event → X) (laws : IsToldUntil cl o X join value until) (n : ℕ) where
  abbrev horizon : List Event → ℕ
  horizon h = publish_horizon cl o n h

  -- past the last publish, an event that is no flush leaves things as they are
  queue-stays : (e : Event) (p : List Event) (x : X) → is_flush_on o e ≡ false → until (length p) p ≡ join (until (horizon p) p) x → until (suc (length p)) (e ∷ p) ≡ join (until (horizon p) (e ∷ p)) x
  queue-stays e p x f before =
      laws.other e p f ∙ before ∙ ap (λ y. join y x) (sym (laws.later (horizon p) e p (publish_horizon-within cl o n p)))

  queue-flush : (b : Actor) (p : List Event) → until (length p) p ≡ join (until (horizon p) p) (value (queue cl o p)) → until (suc (length p)) (Flush b ∷ p) ≡ join (until (horizon p) (Flush b ∷ p)) (value (queue cl o (Flush b ∷ p)))
  queue-flush b p before =
      let q : List Fact = queue cl o p in
      let Goal : Bool → Type 0 = λ v. (b.node == o) ≡ v → until (suc (length p)) (Flush b ∷ p) ≡ join (until (horizon p) (Flush b ∷ p)) (value (cond v (q ++ entry cl b p) q)) in
      let goal : Goal (b.node == o) = elim (b.node == o) as Goal [
        | true ↦ λ t.
            laws.flush b p t ∙ ap (λ y. join y (value (entry cl b p))) before
            ∙ laws.assoc (until (horizon p) p) (value q) (value (entry cl b p))
            ∙ ap (λ y. join (until (horizon p) p) y) (sym (laws.append q (entry cl b p)))
            ∙ ap (λ y. join y (value (q ++ entry cl b p))) (sym (laws.later (horizon p) (Flush b) p (publish_horizon-within cl o n p)))
        | false ↦ λ f. queue-stays (Flush b) p (value q) f before
      ] in
      goal refl

  queue-publish : (m : ℕ) (p : List Event) → length (stream cl o (Publish m ∷ p)) ≤ n → until (length p) p ≡ join (until (horizon p) p) (value (queue cl o p)) → until (suc (length p)) (Publish m ∷ p) ≡ join (until (horizon (Publish m ∷ p)) (Publish m ∷ p)) (value (queue cl o (Publish m ∷ p)))
  queue-publish m p l before =
      let s : List Notice = stream cl o p in
      let q : List Fact = queue cl o p in
      let at_end : until (suc (length p)) (Publish m ∷ p) ≡ until (length p) (Publish m ∷ p) =
      laws.other (Publish m) p refl ∙ sym (laws.later (length p) (Publish m) p (omega arith)) in
      (elim (m == o) as (λ v. length (cond v (s ++ delta q ∷ []) s) ≤ n → until (suc (length p)) (Publish m ∷ p) ≡ join (until (cond (v && nat_lt (length s) n) (length p) (horizon p)) (Publish m ∷ p)) (value (cond v [] q))) [
        | true ↦ λ more. (
            let longer = length-append s (delta q ∷ []) in
            at_end ∙ sym (laws.none (until (length p) (Publish m ∷ p)))
            ∙ ap (λ w. join (until (cond w (length p) (horizon p)) (Publish m ∷ p)) (value [])) (sym (lt-ltb (length s) n (omega arith)))
            )
        | false ↦ λ _. queue-stays (Publish m) p (value q) refl before
      ]) l

  -- where the whole stream is among the bulletins, what is flushed and not among them stands in the queue
  queue-value : (h : List Event) → length (stream cl o h) ≤ n → until (length h) h ≡ join (until (horizon h) h) (value (queue cl o h))
  queue-value [] l = sym (laws.none (until 0 []))
  queue-value (Flush b ∷ p) l = queue-flush b p (queue-value p l)
  queue-value (Publish m ∷ p) l =
      let shorter = stream-grows cl o (Publish m) p in
      queue-publish m p l (queue-value p (omega arith))
  queue-value (e ∷ p) l =
      let shorter = stream-grows cl o e p in
      queue-stays e p (value (queue cl o p)) refl (queue-value p (omega arith))

  abbrev told : List Notice → X
  told xs = value (delta_facts (take n xs))

  -- an event that publishes nothing leaves things as they are
  stream-stays : (e : Event) (p : List Event) → told (stream cl o p) ≡ until (horizon p) p → told (stream cl o p) ≡ until (horizon p) (e ∷ p)
  stream-stays e p before = before ∙ sym (laws.later (horizon p) e p (publish_horizon-within cl o n p))

  stream-link : (b : Bool) (y : Notice) (e : Event) (p : List Event) → delta_facts (y ∷ []) ≡ [] → told (stream cl o p) ≡ until (horizon p) p → told (cond b (stream cl o p ++ y ∷ []) (stream cl o p)) ≡ until (horizon p) (e ∷ p)
  stream-link true y e p none before = ap value (taken_link n (stream cl o p) y none) ∙ stream-stays e p before
  stream-link false y e p none before = stream-stays e p before

  stream-publish : (m : ℕ) (p : List Event) → told (stream cl o p) ≡ until (horizon p) p → told (stream cl o p ++ delta (queue cl o p) ∷ []) ≡ until (cond (nat_lt (length (stream cl o p)) n) (length p) (horizon p)) (Publish m ∷ p)
  stream-publish m p before =
      let s : List Notice = stream cl o p in
      let q : List Fact = queue cl o p in
      let whole : length s < n → told (s ++ delta q ∷ []) ≡ until (length p) (Publish m ∷ p) = λ l.
      ap value (taken_more n s (delta q) l) ∙ ap (λ y. value (delta_facts (take n s) ++ y)) (append-nil q)
      ∙ laws.append (delta_facts (take n s)) q ∙ ap (λ y. join y (value q)) before
      ∙ sym (queue-value p (omega arith)) ∙ sym (laws.later (length p) (Publish m) p (omega arith)) in
      let Goal : Bool → Type 0 = λ w. nat_lt (length s) n ≡ w → told (s ++ delta q ∷ []) ≡ until (cond w (length p) (horizon p)) (Publish m ∷ p) in
      let goal : Goal (nat_lt (length s) n) = elim (nat_lt (length s) n) as Goal [
        | true ↦ λ t. whole (ltb-true (length s) n t)
        | false ↦ λ f. ap value (taken_less n s (delta q) (ltb-false (length s) n f)) ∙ stream-stays (Publish m) p before
      ] in
      goal refl

  -- what the first n bulletins tell is what was flushed before the last publish among them
  pub stream-value : (h : List Event) → told (stream cl o h) ≡ until (horizon h) h
  stream-value [] = ap (λ l. value (delta_facts l)) (take-nil {A = Notice} n) ∙ sym laws.start
  stream-value (Publish m ∷ p) =
      let s : List Notice = stream cl o p in
      let before = stream-value p in
      elim (m == o) as (λ v. told (cond v (s ++ delta (queue cl o p) ∷ []) s) ≡ until (cond (v && nat_lt (length s) n) (length p) (horizon p)) (Publish m ∷ p)) [
        | true ↦ stream-publish m p before
        | false ↦ stream-stays (Publish m) p before
      ]
  stream-value (Window d s ∷ p) = stream-link (d == o) (window_of s (window s d p)) (Window d s) p refl (stream-value p)
  stream-value (Remove d s ∷ p) = stream-link (d == o) (final_of s (window s d p)) (Remove d s) p refl (stream-value p)
  stream-value (e ∷ p) = stream-stays e p (stream-value p)
