-- How shadows and edges stand to each other, and how both grow.
use Rattle.std.specs.Prelude.{◌≡◌, ◌<◌, ◌≤◌, ◌++◌, ℕ, true, List, length, map, slice_index_or}
use Rattle.std.specs.List.{AllByRecursion, position_or_len}
use Rattle.crgc_ids.specs.Actor.{Actor}
use Rattle.crgc_ids.specs.declared.rising.ActorCount.{ActorCount}
use Rattle.crgc_ids.specs.declared.rising.PairCount.{PairCount}
use Rattle.history_model.specs.declared.records.StateRow.{StateRow}
use Rattle.history_model.specs.Ledgers.{pair_names}
use Rattle.edge_table.specs.Table.{Edges, edge_at, same_pair}
use Rattle.edge_table.specs.declared.table.Edge.{Edge}
use Rattle.shadow_table.specs.Shadows.{Shadows, is_named, place_in, shadow_at}
use Rattle.shadow_table.specs.declared.table.Shadow.{Shadow}
use Rattle.shadow_rows.specs.Pairs.{edge_between, has_pair}

abbrev pub no_actor : Actor
no_actor = record { node = 0; serial = 0 }

-- the pair of the edge with this number
abbrev pub pair_at : List (Actor × Actor) → ℕ → Actor × Actor
pair_at pairs k = slice_index_or pairs k (no_actor, no_actor)

-- the actors of each edge are named, and its ends are their places
pub record AreTabled (names : List Actor) (edges : Edges) : Type 0 where
  pub room : length names ≤ edges.places
  pub owner_named : (k : ℕ) → k < length edges.pairs → is_named names (pair_at edges.pairs k).0 ≡ true
  pub target_named : (k : ℕ) → k < length edges.pairs → is_named names (pair_at edges.pairs k).1 ≡ true
  pub owner : (k : ℕ) → k < length edges.pairs → (edge_at edges k).owner ≡ place_in names (pair_at edges.pairs k).0
  pub target : (k : ℕ) → k < length edges.pairs → (edge_at edges k).target ≡ place_in names (pair_at edges.pairs k).1

-- a table that begins with another, and has blank shadows of more actors
pub record ExtendsShadows (old new : Shadows) : Type 0 where
  pub more : List Actor
  pub more_shadows : List Shadow
  pub names : new.names ≡ old.names ++ more
  pub shadows : new.shadows ≡ old.shadows ++ more_shadows
  pub same : (a : Actor) → shadow_at new a ≡ shadow_at old a

-- edges that begin with others, and have more of which each has count 0
pub record ExtendsEdges (old new : Edges) : Type 0 where
  pub more : List (Actor × Actor)
  pub more_edges : List Edge
  pub pairs : new.pairs ≡ old.pairs ++ more
  pub edges : new.edges ≡ old.edges ++ more_edges
  pub count : (b a : Actor) → (edge_between new b a).count ≡ (edge_between old b a).count

-- each row's pair is there
abbrev pub ArePairs : List (Actor × Actor) → List PairCount → Type 0
ArePairs pairs rows = AllByRecursion (λ r. has_pair pairs r.owner r.target ≡ true) rows

-- each row's pair is there, and these are the numbers of their edges, in the order of the rows
pub record AreNumbered (t : Edges) (rows : List PairCount) (numbers : List ℕ) : Type 0 where
  pub there : ArePairs t.pairs rows
  pub are : numbers ≡ map (λ r. position_or_len (same_pair (r.owner, r.target)) t.pairs) rows
  pub within : AllByRecursion (λ n. n < length t.edges) numbers

-- the actors that rows name, each as often as they do
abbrev pub row_names : List StateRow → List ActorCount → List PairCount → List PairCount → List Actor
row_names states sent created released =
    map (λ r. r.actor) states ++ (map (λ r. r.actor) sent ++ (pair_names created ++ pair_names released))

-- each count of the rows is below 2^32, as its type is
pub record AreCounts (states : List StateRow) (sent : List ActorCount) (created released : List PairCount) : Type 0 where
  pub of_states : AllByRecursion (λ r. r.received < 4294967296) states
  pub of_sent : AllByRecursion (λ r. r.count < 4294967296) sent
  pub of_created : AllByRecursion (λ r. r.count < 4294967296) created
  pub of_released : AllByRecursion (λ r. r.count < 4294967296) released
