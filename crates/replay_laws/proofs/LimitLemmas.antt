-- How many events and births a history within its limits has, and which names.
use Rattle.std.proofs.Common.{◌≡◌, ◌<◌, ◌≤◌, ◌+◌, ◌==◌, ℕ, Bool, true, false, cond, nat_le, List, [], ◌∷◌, length, Option, Some, None, refl, subst, arith}
use Rattle.std.proofs.lemmas.Bool.{ltb-true}
use Rattle.std.proofs.lemmas.Bool.Decides.{nat_tests}
use Rattle.std.specs.Prelude.{IsTrue}
use Rattle.crgc_ids.specs.Actor.{Actor, IsActor}
use Rattle.crgc_ids.specs.declared.Which.{Which}
use Rattle.crgc_ids.specs.declared.Which.TheVariants.{Actors, Delta, Events}
use Rattle.history_model.specs.declared.events.Event.{Event}
use Rattle.history_model.specs.declared.events.Event.TheVariants.{Seed, Spawn}
use Rattle.history_model.specs.Cluster.{Cluster, births, is_born}
use Rattle.history_model.specs.Legal.{IsLegal}
use Rattle.history_model.proofs.AccountsBirths.{births-on_nodes}
use Rattle.journal_model.specs.Limits.{limit_passed, passes_actors, passes_delta}
use Rattle.run_model.specs.Schedule.{IsWithinLimits}
use Rattle.replay_laws.specs.Tellable.{IsClusterInRange}

-- no limit is passed
record PassesNone (cl : Cluster) (e : Event) (p : List Event) : Type 0 where
  actors : passes_actors e p ≡ false
  events : nat_le 1000000 (length p) ≡ false

passes-none : (cl : Cluster) (e : Event) (p : List Event) → limit_passed cl e p ≡ None → PassesNone cl e p
passes-none cl e p is = chosen (passes_actors e p) (passes_delta cl e p) (nat_le 1000000 (length p)) refl refl is
  where
    chosen : (a d n : Bool) → passes_actors e p ≡ a → nat_le 1000000 (length p) ≡ n → ◌≡◌ {A = Option Which} (cond a (Some Actors) (cond d (Some Delta) (cond n (Some Events) None))) None → PassesNone cl e p
    chosen true d n actors events none = absurd (cc)
    chosen false true n actors events none = absurd (cc)
    chosen false false true actors events none = absurd (cc)
    chosen false false false actors events none = record { actors = actors; events = events }

-- at most 1,000,000 events
pub events-few : (cl : Cluster) (h : List Event) → IsWithinLimits cl h → length h ≤ 1000000
events-few cl [] within = omega arith
events-few cl (e ∷ p) within =
    let none = passes-none cl e p within.0 in
    let few : length p < 1000000 = grind (arith, nat_tests, none.events) in
    omega arith

one-more : (m n : ℕ) (p : List Event) → nat_le 262144 (births m p) ≡ false → births n p ≤ 262144 → cond (m == n) (births n p + 1) (births n p) ≤ 262144
one-more m n p below few =
    elim (m == n) as (λ v. (m == n) ≡ v → cond v (births n p + 1) (births n p) ≤ 262144) [
      | true ↦ λ same. (
          let here : m ≡ n = grind (arith, nat_tests, same) in
          let less : births m p < 262144 = grind (arith, nat_tests, below) in
          let there = subst (λ k. births k p < 262144) here less in
          omega arith
          )
      | false ↦ λ _. few
    ] refl

-- at most 262,144 births on a node
pub births-few : (cl : Cluster) (h : List Event) → IsWithinLimits cl h → (n : ℕ) → births n h ≤ 262144
births-few cl [] within n = omega arith
births-few cl (Seed m ∷ p) within n = one-more m n p (passes-none cl (Seed m) p within.0).actors (births-few cl p within.1 n)
births-few cl (Spawn a ∷ p) within n = one-more a.node n p (passes-none cl (Spawn a) p within.0).actors (births-few cl p within.1 n)
births-few cl (e ∷ p) within n = births-few cl p within.1 n

-- who is born has a name within the limits
pub born-named : (cl : Cluster) (p : List Event) (a : Actor) → IsClusterInRange cl → IsLegal cl p → IsWithinLimits cl p → IsTrue (is_born a p) → IsActor a
born-named cl p a range legal within born =
    let below : a.serial < births a.node p = ltb-true a.serial (births a.node p) born in
    (omega (arith, births-on_nodes cl p legal a.node (omega (arith, below)), range.nodes), omega (arith, below, births-few cl p within a.node))
