-- Whose turn is next: the lowest actor that may take a message.
use Rattle.std.proofs.Common.{◌≡◌, ◌<◌, ℕ, Bool, true, false, is_none, List, [], ◌∷◌, Some, None, ◌∙◌, ap, arith, inl, inr}
use Rattle.std.specs.List.{find, range_with_len}
use Rattle.std.proofs.lemmas.Bool.{false_from_ne_true, ltb-true}
use Rattle.crgc_ids.specs.Actor.{Actor}
use Rattle.history_model.specs.declared.events.Event.{Event}
use Rattle.history_model.specs.declared.events.Event.TheVariants.{Take}
use Rattle.history_model.specs.Cluster.{births}
use Rattle.history_model.specs.Legal.{IsLegal, refusal}
use Rattle.history_model.specs.Live.{actors_of, is_ready}
use Rattle.history_model.proofs.AccountsBirths.{born-on_node}
use Rattle.history_model.proofs.Basics.{legal-kept}
use Rattle.history_model.proofs.LiveCounts.{ready-takes}
use Rattle.ready_actors.specs.Ready.{IsFrom}
use Rattle.script_reader.specs.Valid.{Scripted}
use Rattle.traffic.specs.Readings.{IsNextReady}
use Rattle.run_model.specs.Doing.{cluster_of}
use Rattle.run_model.specs.Planned.{actors, is_possible}
use Rattle.run_model.proofs.Possible.{no-rule}
use Rattle.script_player.proofs.Searching.{first-in, map-joined, none-in, one-fails, one-passes, passes-none}

module _ (s : Scripted) (h : List Event) where
  abbrev may_take : Actor → Bool
  may_take a = is_possible s (Take a) h

  -- the lowest actor that passes a test is found first
  pub actor-first : (test : Actor → Bool) (a : Actor) → a.node < s.nodes → a.serial < births a.node h → test a ≡ true → ((b : Actor) → test b ≡ true → IsFrom a b) → find test (actors s h) ≡ Some a
  actor-first test a node serial passes lowest =
      first-in test (λ n. actors_of n h) s.nodes 0 a.node a (omega arith) (omega (arith, node))
      (λ n _ under. ap (find test) (map-joined (λ k. record { node = n; serial = k }) (range_with_len 0 (births n h)))
      ∙ none-in test (λ k. record { node = n; serial = k } ∷ []) (births n h) 0
      (λ k _ _. one-fails test (record { node = n; serial = k }) (fails n k (λ from. higher n k under from))))
      (ap (find test) (map-joined (λ k. record { node = a.node; serial = k }) (range_with_len 0 (births a.node h)))
      ∙ first-in test (λ k. record { node = a.node; serial = k } ∷ []) (births a.node h) 0 a.serial a (omega arith) (omega (arith, serial))
      (λ k _ under. one-fails test (record { node = a.node; serial = k }) (fails a.node k (λ from. later k under from)))
      (one-passes test a passes))
    where
      fails : (n k : ℕ) → (IsFrom a (record { node = n; serial = k }) → ⊥) → test (record { node = n; serial = k }) ≡ false
      fails n k never = false_from_ne_true (test (record { node = n; serial = k })) (λ passes. never (lowest (record { node = n; serial = k }) passes))

      higher : (n k : ℕ) → n < a.node → IsFrom a (record { node = n; serial = k }) → ⊥
      higher n k under (inl same) = (let nodes : a.node ≡ n = ap (λ (x : Actor). x.node) same in omega (arith, under, nodes))
      higher n k under (inr (inl below)) = omega (arith, under, below)
      higher n k under (inr (inr (nodes, below))) = omega (arith, under, nodes)

      later : (k : ℕ) → k < a.serial → IsFrom a (record { node = a.node; serial = k }) → ⊥
      later k under (inl same) = (let serials : a.serial ≡ k = ap (λ (x : Actor). x.serial) same in omega (arith, under, serials))
      later k under (inr (inl below)) = omega (arith, below)
      later k under (inr (inr (nodes, below))) = omega (arith, under, below)

  -- who is ready may take, and who may take is ready
  ready-legal : IsLegal (cluster_of s) h → (a : Actor) → is_ready a h ≡ true → refusal (cluster_of s) (Take a) h ≡ None
  ready-legal legal a ready = (ready-takes (cluster_of s) h legal a).0 ready

  pub first-ready : IsLegal (cluster_of s) h → (a : Actor) → IsNextReady h None (Some a) → (refusal (cluster_of s) (Take a) h ≡ None) × (find may_take (actors s h) ≡ Some a)
  first-ready legal a next =
      let cl = cluster_of s in
      let none = ready-legal legal a next.0 in
      let born = (legal-kept cl (Take a) h (none, legal)).0 in (
        none,
        actor-first may_take a (born-on_node cl h legal a born) (ltb-true a.serial (births a.node h) born) (ap is_none none)
            (λ b possible. next.2 b ((ready-takes cl h legal b).1 (no-rule (refusal cl (Take b) h) possible)) tt),
      )

  pub none-ready : IsLegal (cluster_of s) h → IsNextReady h None None → find may_take (actors s h) ≡ None
  none-ready legal none =
      passes-none may_take (actors s h)
      (λ b possible. none b ((ready-takes (cluster_of s) h legal b).1 (no-rule (refusal (cluster_of s) (Take b) h) possible)) tt)
