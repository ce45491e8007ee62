-- What a link admitted since its last window.
use Rattle.std.specs.Prelude.{◌&&◌, ◌++◌, ℕ, List, [], ◌∷◌, count_by, length, map}
use Rattle.std.specs.List.{flat_map}
use Rattle.crgc_ids.specs.Actor.{Actor, same_actor}
use Rattle.crgc_ids.specs.declared.rising.ActorCount.{ActorCount}
use Rattle.crgc_ids.specs.declared.rising.PairCount.{PairCount}
use Rattle.history_model.specs.Graph.{rising_actors}

-- the recipients of the messages, and the pairs of a recipient and a reference carried to it, each in the order of
-- admission; and for how many more references room is reserved, with a message to their recipient
pub record Pending : Type 0 where
  pub messages : List Actor
  pub carried : List (Actor × Actor)
  pub room : ℕ

-- how many messages to the actor there are
abbrev pub message_count : Actor → List Actor → ℕ
message_count a messages = count_by (same_actor a) messages

-- how many references to the target are carried to the owner
abbrev pub carried_count : Actor → Actor → List (Actor × Actor) → ℕ
carried_count owner target carried = count_by (λ p. same_actor owner p.0 && same_actor target p.1) carried

-- the actors that messages and carried references name
abbrev pub names_in : List Actor → List (Actor × Actor) → List Actor
names_in messages carried = messages ++ flat_map (λ p. p.0 ∷ p.1 ∷ []) carried

-- how many different actors they name
abbrev pub named_count : List Actor → List (Actor × Actor) → ℕ
named_count messages carried = length (rising_actors (names_in messages carried))

-- the recipients that rows count
abbrev pub recipients : List ActorCount → List Actor
recipients rows = map (λ r. r.actor) rows

-- the pairs that rows count
abbrev pub pairs : List PairCount → List (Actor × Actor)
pairs rows = map (λ r. (r.owner, r.target)) rows
