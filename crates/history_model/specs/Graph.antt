-- Balance, edges and the dead of a fold. `lost` tells the nodes that are taken as lost; what they told does not
-- count, and what others admitted from them counts in its place. `out` tells the actors that a sweep leaves out.
use Rattle.std.specs.Prelude.{ℕ, ◌+◌, ◌==◌, Bool, true, ◌&&◌, ◌||◌, not, if◌then◌else◌, nat_lt, List, [], ◌∷◌, ◌++◌, Option, Some, None, unwrap_or, flat_map}
use Rattle.std.specs.List.{list_any, list_all, filter}
use Rattle.crgc_ids.specs.Actor.{Actor, is_actor_below}
use Rattle.crgc_ids.specs.Greatest.{greatest}
use Rattle.crgc_ids.specs.Nodes.{nodes_below}
use Rattle.history_model.specs.Tally.{tally}
use Rattle.history_model.specs.Cluster.{Cluster, same_actor}
use Rattle.history_model.specs.Facts.{Flags, Fact, received, sent_to, created, released, flagged, is_received, is_sent_to, is_created, is_released}
use Rattle.history_model.specs.Streams.{Notice, delta, window_of, final_of}
use Rattle.history_model.specs.Folds.{Fold}

-- the facts of the deltas among the bulletins
abbrev pub delta_facts : List Notice → List Fact
delta_facts [] = []
delta_facts (delta facts ∷ rest) = facts ++ delta_facts rest
delta_facts (_ ∷ rest) = delta_facts rest

-- the facts of the windows and finals of links from lost nodes
abbrev pub link_facts : (ℕ → Bool) → List Notice → List Fact
link_facts lost [] = []
link_facts lost (window_of s facts ∷ rest) = if lost s then facts ++ link_facts lost rest else link_facts lost rest
link_facts lost (final_of s facts ∷ rest) = if lost s then facts ++ link_facts lost rest else link_facts lost rest
link_facts lost (_ ∷ rest) = link_facts lost rest

-- the facts of all bulletins
abbrev pub notice_facts : List Notice → List Fact
notice_facts [] = []
notice_facts (delta facts ∷ rest) = facts ++ notice_facts rest
notice_facts (window_of s facts ∷ rest) = facts ++ notice_facts rest
notice_facts (final_of s facts ∷ rest) = facts ++ notice_facts rest

-- what all deltas tell
abbrev pub all_told : Cluster → Fold → List Fact
all_told cl f = flat_map (λ o. delta_facts (f o)) (nodes_below cl.nodes)

-- what the deltas of nodes that are not lost tell
abbrev pub told_facts : Cluster → (ℕ → Bool) → Fold → List Fact
told_facts cl lost f = flat_map (λ o. if lost o then [] else delta_facts (f o)) (nodes_below cl.nodes)

-- what was admitted from lost nodes
abbrev pub admitted_facts : Cluster → (ℕ → Bool) → Fold → List Fact
admitted_facts cl lost f = flat_map (λ o. link_facts lost (f o)) (nodes_below cl.nodes)

abbrev pub received_count : Cluster → Fold → Actor → ℕ
received_count cl f a = tally (is_received a) (all_told cl f)

abbrev pub told_count : Cluster → (ℕ → Bool) → Fold → Actor → ℕ
told_count cl lost f a = tally (is_sent_to a) (told_facts cl lost f)

abbrev pub admitted_count : Cluster → (ℕ → Bool) → Fold → Actor → ℕ
admitted_count cl lost f a = tally (is_sent_to a) (admitted_facts cl lost f)

abbrev pub created_count : Cluster → (ℕ → Bool) → Fold → Actor → Actor → ℕ
created_count cl lost f b a = tally (is_created b a) (told_facts cl lost f)

abbrev pub carried_count : Cluster → (ℕ → Bool) → Fold → Actor → Actor → ℕ
carried_count cl lost f b a = tally (is_created b a) (admitted_facts cl lost f)

abbrev pub released_count : Cluster → Fold → Actor → Actor → ℕ
released_count cl f b a = tally (is_released b a) (all_told cl f)

-- the balance of a is 0: it received what was told or admitted for it
abbrev pub is_balanced : Cluster → (ℕ → Bool) → Fold → Actor → Bool
is_balanced cl lost f a = received_count cl f a == told_count cl lost f a + admitted_count cl lost f a

-- the edge from b to a is positive: more references were told or admitted than released
abbrev pub has_edge : Cluster → (ℕ → Bool) → Fold → Actor → Actor → Bool
has_edge cl lost f b a =
    nat_lt (released_count cl f b a) (created_count cl lost f b a + carried_count cl lost f b a)

-- the actors that a fact names
abbrev pub named_by : Fact → List Actor
named_by (received a) = a ∷ []
named_by (sent_to a) = a ∷ []
named_by (created b a) = b ∷ a ∷ []
named_by (released b a) = b ∷ a ∷ []
named_by (flagged a flags) = a ∷ []

-- puts an actor into a rising list, once
abbrev pub insert_actor : Actor → List Actor → List Actor
insert_actor a [] = a ∷ []
insert_actor a (b ∷ bs) =
    if same_actor a b then b ∷ bs else if is_actor_below a b then a ∷ b ∷ bs else b ∷ insert_actor a bs

abbrev pub rising_actors : List Actor → List Actor
rising_actors [] = []
rising_actors (a ∷ as_) = insert_actor a (rising_actors as_)

-- the actors that some row of the fold names, rising
abbrev pub known_actors : Cluster → Fold → List Actor
known_actors cl f = rising_actors (flat_map named_by (flat_map (λ o. notice_facts (f o)) (nodes_below cl.nodes)))

-- the last flags of a among the facts
abbrev pub last_flags : Actor → List Fact → Option Flags
last_flags a [] = None
last_flags a (flagged b flags ∷ rest) = if same_actor b a then Some (unwrap_or (last_flags a rest) flags) else last_flags a rest
last_flags a (_ ∷ rest) = last_flags a rest

-- a's own entry: its last flags in the deltas of its own node
abbrev pub own_flags : Fold → Actor → Option Flags
own_flags f a = last_flags a (delta_facts (f a.node))

abbrev pub may_act : Option Flags → Bool
may_act None = true
may_act (Some g) = g.busy || g.root

-- a pseudoroot: it has no own entry, or the own entry says busy or root, or its balance is not 0
abbrev pub is_pseudoroot : Cluster → (ℕ → Bool) → Fold → Actor → Bool
is_pseudoroot cl lost f a = may_act (own_flags f a) || not (is_balanced cl lost f a)

abbrev pub holds_actor : List Actor → Actor → Bool
holds_actor xs a = list_any (λ x. same_actor x a) xs

-- a may stay among the dead xs: no known actor outside them that is not left out has a positive edge to it
abbrev pub is_unreached : Cluster → (ℕ → Bool) → (Actor → Bool) → Fold → List Actor → Actor → Bool
is_unreached cl lost out f xs a =
    list_all (λ b. holds_actor xs b || (out b || not (has_edge cl lost f b a))) (known_actors cl f)

-- the known actors that are neither left out nor pseudoroots
abbrev pub candidates : Cluster → (ℕ → Bool) → (Actor → Bool) → Fold → List Actor
candidates cl lost out f = filter (λ a. not (out a) && not (is_pseudoroot cl lost f a)) (known_actors cl f)

-- the dead of a sweep that leaves actors out: the greatest set of known actors, none of them left out or a pseudoroot, to
-- which no actor outside the set that is not left out has a positive edge
abbrev pub dead_without : Cluster → (ℕ → Bool) → (Actor → Bool) → Fold → List Actor
dead_without cl lost out f = greatest (is_unreached cl lost out f) (candidates cl lost out f)

-- the dead: a sweep leaves out the actors of lost nodes
unfoldable pub dead : Cluster → (ℕ → Bool) → Fold → List Actor
dead cl lost f = dead_without cl lost (λ a. lost a.node) f
