-- What an actor noted since its last flush.
use Rattle.std.specs.Prelude.{◌+◌, ◌-◌, ◌==◌, ◌&&◌, ◌++◌, ℕ, Bool, List, [], ◌∷◌, count_by, length, map, replicate, take}
use Rattle.crgc_ids.specs.Actor.{Actor, same_actor}
use Rattle.crgc_ids.specs.declared.rising.ActorCount.{ActorCount}
use Rattle.crgc_ids.specs.declared.rising.PairCount.{PairCount}
use Rattle.history_model.specs.Facts as facts

-- how many messages it took; to whom it sent each of its messages; the pairs of an owner and a target for which it made a
-- reference; and to whom each reference led that it gave up: each kind in the order in which it was noted
pub record Unflushed : Type 0 where
  pub received : ℕ
  pub sent : List Actor
  pub created : List (Actor × Actor)
  pub released : List Actor

abbrev pub nothing_unflushed : Unflushed
nothing_unflushed = record { received = 0; sent = []; created = []; released = [] }

-- whether nothing is noted
abbrev pub is_nothing : Unflushed → Bool
is_nothing n = (n.received == 0) && ((length n.sent == 0) && ((length n.created == 0) && (length n.released == 0)))

-- what was noted with one fact more; flags are no part of it
abbrev pub with_fact : facts.Fact → Unflushed → Unflushed
with_fact (facts.received a) n = record n { received = n.received + 1 }
with_fact (facts.sent_to a) n = record n { sent = n.sent ++ a ∷ [] }
with_fact (facts.created b a) n = record n { created = n.created ++ (b, a) ∷ [] }
with_fact (facts.released b a) n = record n { released = n.released ++ a ∷ [] }
with_fact (facts.flagged a g) n = n

-- with these facts more, in their order
abbrev pub with_facts : List facts.Fact → Unflushed → Unflushed
with_facts [] n = n
with_facts (f ∷ fs) n = with_facts fs (with_fact f n)

-- what was noted without the last message that was sent, which carried so many references
abbrev pub without_last_sent : ℕ → Unflushed → Unflushed
without_last_sent refs n = record n {
  sent = take (length n.sent - 1) n.sent;
  created = take (length n.created - refs) n.created;
}

-- the facts that the actor noted, kind by kind
abbrev pub facts_noted : Actor → Unflushed → List facts.Fact
facts_noted a n =
    replicate n.received (facts.received a)
    ++ (map facts.sent_to n.sent ++ (map (λ p. facts.created p.0 p.1) n.created ++ map (facts.released a) n.released))

-- how often an actor comes in a list, and a pair
abbrev pub actor_count : Actor → List Actor → ℕ
actor_count a actors = count_by (same_actor a) actors

abbrev pub pair_count : Actor → Actor → List (Actor × Actor) → ℕ
pair_count owner target pairs = count_by (λ p. same_actor owner p.0 && same_actor target p.1) pairs

-- the actors that rows count, and the pairs
abbrev pub actors_in : List ActorCount → List Actor
actors_in rows = map (λ r. r.actor) rows

abbrev pub pairs_in : List PairCount → List (Actor × Actor)
pairs_in rows = map (λ r. (r.owner, r.target)) rows
