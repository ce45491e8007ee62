-- What the facts count that an actor noted, also with one fact more.
use Rattle.std.proofs.Common.{◌≡◌, ◌+◌, ◌&&◌, ℕ, zero, suc, Bool, true, false, cond, List, [], ◌∷◌, ◌++◌, map, refl, sym, ◌∙◌, ap, ap₂, arith, replicate, add-zero}
use Rattle.std.proofs.lemmas.List.Sums.{sum_by-cons, sum_by_push}
use Rattle.std.specs.List.{count_by}
use Rattle.std.specs.Prelude.{None}
use Rattle.crgc_ids.specs.Actor.{Actor, same_actor}
use Rattle.history_model.specs.Facts as facts
use Rattle.history_model.specs.Facts.{Fact, is_created, is_received, is_released, is_sent_to}
use Rattle.history_model.specs.Graph.{last_flags}
use Rattle.history_model.specs.Ledgers.{CountAlike, Counts, fact_counts}
use Rattle.history_model.specs.Tally.{tally}
use Rattle.history_model.proofs.Basics.{same_actor-sym}
use Rattle.history_model.proofs.FoldSumsFlags.{last_flags-append, newer}
use Rattle.history_model.proofs.Lists.{tally-append}
use Rattle.history_model.proofs.TellsCounts.{alike-back, alike-both, alike-same, alike-then, both, facts-both}
use Rattle.entry_records.specs.Log.{IsLogOf, MayNote, Log, log_with}
use Rattle.entry_records.proofs.KeepingLemmas.{either-same}
use Rattle.entry_records.specs.Unflushed.{Unflushed, actor_count, facts_noted, pair_count, with_fact}

-- ---- facts of one kind

module _ {X : Type 0} (f : X → Fact) where
  -- they count as often as what they are made of passes
  mapped-tally : (test : Fact → Bool) (p : X → Bool) → ((x : X) → test (f x) ≡ p x) → (xs : List X) → tally test (map f xs) ≡ count_by p xs
  mapped-tally test p same [] = refl
  mapped-tally test p same (x ∷ xs) =
      let later = mapped-tally test p same xs in
      let first = sum_by-cons (λ y. cond (p y) 1 0) x xs in
      let Case : Bool → Type 0 = λ v. cond v (tally test (map f xs) + 1) (tally test (map f xs)) ≡ cond v 1 0 + count_by p xs in
      let case : Case (p x) = elim (p x) as Case [ true ↦ omega arith | false ↦ omega arith ] in
      ap (λ v. cond v (tally test (map f xs) + 1) (tally test (map f xs))) (same x) ∙ case ∙ sym first

  mapped-none : (test : Fact → Bool) → ((x : X) → test (f x) ≡ false) → (xs : List X) → tally test (map f xs) ≡ 0
  mapped-none test none [] = refl
  mapped-none test none (x ∷ xs) = ap (λ v. cond v (tally test (map f xs) + 1) (tally test (map f xs))) (none x) ∙ mapped-none test none xs

  mapped-flags : (a : Actor) → ((x : X) (rest : List Fact) → last_flags a (f x ∷ rest) ≡ last_flags a rest) → (xs : List X) → last_flags a (map f xs) ≡ None
  mapped-flags a plain [] = refl
  mapped-flags a plain (x ∷ xs) = plain x (map f xs) ∙ mapped-flags a plain xs

-- a fact so many times counts so often, where it passes
tally-replicate : (test : Fact → Bool) (n : ℕ) (x : Fact) → tally test (replicate n x) ≡ cond (test x) n 0
tally-replicate test zero x = either-same (test x) 0
tally-replicate test (suc n) x =
    let before = tally-replicate test n x in
    let Step : Bool → Type 0 = λ v. tally test (replicate n x) ≡ cond v n 0 → cond v (tally test (replicate n x) + 1) (tally test (replicate n x)) ≡ cond v (suc n) 0 in
    let step : Step (test x) = elim (test x) as Step [ true ↦ λ e. omega (arith, e) | false ↦ λ e. e ] in
    step before

received-flags : (a b : Actor) (n : ℕ) → last_flags b (replicate n (facts.received a)) ≡ None
received-flags a b zero = refl
received-flags a b (suc n) = received-flags a b n

-- ---- all that was noted

-- what is noted counts so often
abbrev pub noted_counts : Actor → Unflushed → Counts
noted_counts a n = record {
  received = λ x. cond (same_actor x a) n.received 0;
  flags = λ x. None;
  sent = λ x. actor_count x n.sent;
  created = λ b x. pair_count b x n.created;
  released = λ b x. cond (same_actor b a) (actor_count x n.released) 0;
}

module _ (a : Actor) (n : Unflushed) where
  abbrev took : List Fact
  took = replicate n.received (facts.received a)

  abbrev sends : List Fact
  sends = map facts.sent_to n.sent

  abbrev makes : List Fact
  makes = map (λ p. facts.created p.0 p.1) n.created

  abbrev drops : List Fact
  drops = map (facts.released a) n.released

  whole : (test : Fact → Bool) → tally test (facts_noted a n) ≡ tally test took + (tally test sends + (tally test makes + tally test drops))
  whole test =
      let first = tally-append test took (sends ++ (makes ++ drops)) in
      let second = tally-append test sends (makes ++ drops) in
      let third = tally-append test makes drops in
      omega arith

  -- the actor's facts count so
  pub facts-counted : CountAlike (fact_counts (facts_noted a n)) (noted_counts a n)
  facts-counted = record {
    received = λ x. (
        let all = whole (is_received x) in
        let here = tally-replicate (is_received x) n.received (facts.received a) ∙ ap (λ v. cond v n.received 0) (same_actor-sym a x) in
        let none = mapped-none facts.sent_to (is_received x) (λ _. refl) n.sent in
        let neither = mapped-none (λ p. facts.created p.0 p.1) (is_received x) (λ _. refl) n.created in
        let nor = mapped-none (facts.released a) (is_received x) (λ _. refl) n.released in
        omega arith
        );
    flags = λ x. (
        last_flags-append x took (sends ++ (makes ++ drops))
        ∙ ap₂ newer (received-flags a x n.received) (last_flags-append x sends (makes ++ drops)
        ∙ ap₂ newer (mapped-flags facts.sent_to x (λ _ _. refl) n.sent) (last_flags-append x makes drops
        ∙ ap₂ newer (mapped-flags (λ p. facts.created p.0 p.1) x (λ _ _. refl) n.created) (mapped-flags (facts.released a) x (λ _ _. refl) n.released)))
        );
    sent = λ x. (
        let all = whole (is_sent_to x) in
        let none = tally-replicate (is_sent_to x) n.received (facts.received a) in
        let here = mapped-tally facts.sent_to (is_sent_to x) (same_actor x) (λ y. same_actor-sym y x) n.sent in
        let neither = mapped-none (λ p. facts.created p.0 p.1) (is_sent_to x) (λ _. refl) n.created in
        let nor = mapped-none (facts.released a) (is_sent_to x) (λ _. refl) n.released in
        omega arith
        );
    created = λ b x. (
        let all = whole (is_created b x) in
        let none = tally-replicate (is_created b x) n.received (facts.received a) in
        let neither = mapped-none facts.sent_to (is_created b x) (λ _. refl) n.sent in
        let here = mapped-tally (λ p. facts.created p.0 p.1) (is_created b x) (λ p. same_actor b p.0 && same_actor x p.1) (λ p. ap₂ (λ v w. v && w) (same_actor-sym p.0 b) (same_actor-sym p.1 x)) n.created in
        let nor = mapped-none (facts.released a) (is_created b x) (λ _. refl) n.released in
        omega arith
        );
    released = λ b x. (
        let all = whole (is_released b x) in
        let none = tally-replicate (is_released b x) n.received (facts.received a) in
        let neither = mapped-none facts.sent_to (is_released b x) (λ _. refl) n.sent in
        let nor = mapped-none (λ p. facts.created p.0 p.1) (is_released b x) (λ _. refl) n.created in
        let here = own-released b x in
        omega arith
        );
  }
    where
      nobody : (xs : List Actor) → count_by (λ y. false) xs ≡ 0
      nobody [] = refl
      nobody (y ∷ ys) = (let first = sum_by-cons (λ (z : Actor). 0) y ys in let later = nobody ys in omega arith)

      own-released : (b x : Actor) → tally (is_released b x) drops ≡ cond (same_actor b a) (actor_count x n.released) 0
      own-released b x =
          let here = mapped-tally (facts.released a) (is_released b x) (λ y. same_actor b a && same_actor x y) (λ y. ap₂ (λ v w. v && w) (same_actor-sym a b) (same_actor-sym y x)) n.released in
          let Own : Bool → Type 0 = λ v. count_by (λ y. v && same_actor x y) n.released ≡ cond v (actor_count x n.released) 0 in
          let own : Own (same_actor b a) = elim (same_actor b a) as Own [ true ↦ refl | false ↦ nobody n.released ] in
          here ∙ own

-- ---- one fact more

-- a list counts an item that comes last where it passes
count-push : {X : Type 0} (p q : X → Bool) (xs : List X) (x : X) → p x ≡ q x → count_by p (xs ++ x ∷ []) ≡ count_by p xs + cond (q x) 1 0
count-push p q xs x same = sum_by_push (λ y. cond (p y) 1 0) xs x ∙ ap (λ v. count_by p xs + cond v 1 0) same

counted-more : (a : Actor) (f : Fact) (n : Unflushed) → MayNote a f → CountAlike (noted_counts a (with_fact f n)) (both (noted_counts a n) (fact_counts (f ∷ [])))
counted-more a (facts.received b) n own = record {
  received = λ x. (
      let Case : Bool → Type 0 = λ v. cond v (n.received + 1) 0 ≡ cond v n.received 0 + cond v 1 0 in
      let case : Case (same_actor x a) = elim (same_actor x a) as Case [ true ↦ refl | false ↦ refl ] in
      case ∙ ap (λ v. cond (same_actor x a) n.received 0 + cond v 1 0) (same_actor-sym x a ∙ ap (λ c. same_actor c x) (sym own))
      );
  flags = λ x. refl;
  sent = λ x. sym (add-zero (actor_count x n.sent));
  created = λ b x. sym (add-zero (pair_count b x n.created));
  released = λ b x. sym (add-zero (cond (same_actor b a) (actor_count x n.released) 0));
}
counted-more a (facts.sent_to c) n own = record {
  received = λ x. sym (add-zero (cond (same_actor x a) n.received 0));
  flags = λ x. refl;
  sent = λ x. count-push (same_actor x) (λ y. same_actor y x) n.sent c (same_actor-sym x c);
  created = λ b x. sym (add-zero (pair_count b x n.created));
  released = λ b x. sym (add-zero (cond (same_actor b a) (actor_count x n.released) 0));
}
counted-more a (facts.created c d) n own = record {
  received = λ x. sym (add-zero (cond (same_actor x a) n.received 0));
  flags = λ x. refl;
  sent = λ x. sym (add-zero (actor_count x n.sent));
  created = λ b x. count-push (λ p. same_actor b p.0 && same_actor x p.1) (λ p. same_actor p.0 b && same_actor p.1 x) n.created (c, d) (ap₂ (λ v w. v && w) (same_actor-sym b c) (same_actor-sym x d));
  released = λ b x. sym (add-zero (cond (same_actor b a) (actor_count x n.released) 0));
}
counted-more a (facts.released c d) n own = record {
  received = λ x. sym (add-zero (cond (same_actor x a) n.received 0));
  flags = λ x. refl;
  sent = λ x. sym (add-zero (actor_count x n.sent));
  created = λ b x. sym (add-zero (pair_count b x n.created));
  released = λ b x. (
      let more = count-push (same_actor x) (λ y. same_actor y x) n.released d (same_actor-sym x d) in
      let Case : Bool → Type 0 = λ v. cond v (actor_count x (n.released ++ d ∷ [])) 0 ≡ cond v (actor_count x n.released) 0 + cond (v && same_actor d x) 1 0 in
      let case : Case (same_actor b a) = elim (same_actor b a) as Case [ true ↦ more | false ↦ refl ] in
      case ∙ ap (λ v. cond (same_actor b a) (actor_count x n.released) 0 + cond (v && same_actor d x) 1 0) (same_actor-sym b a ∙ ap (λ e. same_actor e b) (sym own))
      );
}
counted-more a (facts.flagged c g) n own = absurd own

-- a log counts what its facts count
pub counted : (l : Log) (known : List Fact) → IsLogOf known l → CountAlike (noted_counts l.actor l.noted) (fact_counts known)
counted l known is =
    let own = facts_noted l.actor l.noted in
    alike-then (noted_counts l.actor l.noted) (fact_counts own) (fact_counts known) (alike-back (fact_counts own) (noted_counts l.actor l.noted) (facts-counted l.actor l.noted)) is

-- a log that counts what facts say goes on to do so with one fact more
pub log-next_fact : (known : List Fact) (f : Fact) (l : Log) → IsLogOf known l → MayNote l.actor f → IsLogOf (known ++ f ∷ []) (log_with (f ∷ []) l)
log-next_fact known f l is own =
    let a = l.actor in
    let n = l.noted in
    let old = counted l known is in
    let more = alike-both (noted_counts a n) (fact_counts known) (fact_counts (f ∷ [])) (fact_counts (f ∷ [])) old (alike-same (fact_counts (f ∷ []))) in
    let new = fact_counts (facts_noted a (with_fact f n)) in
    let total = both (noted_counts a n) (fact_counts (f ∷ [])) in
    let told = both (fact_counts known) (fact_counts (f ∷ [])) in
    alike-then new (noted_counts a (with_fact f n)) (fact_counts (known ++ f ∷ [])) (facts-counted a (with_fact f n))
    (alike-then (noted_counts a (with_fact f n)) total (fact_counts (known ++ f ∷ [])) (counted-more a f n own)
    (alike-then total told (fact_counts (known ++ f ∷ [])) more (alike-back (fact_counts (known ++ f ∷ [])) told (facts-both known (f ∷ [])))))
