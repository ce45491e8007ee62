-- When readers see the same in two graphs, whatever the order in which each named its actors.
use Rattle.std.specs.Prelude.{◌≡◌, ℤ, true}
use Rattle.crgc_ids.specs.Actor.{Actor}
use Rattle.shadow_graph.specs.Graph.{Graph, lost_in}
use Rattle.shadow_rows.specs.Pairs.{has_pair}
use Rattle.shadow_graph.specs.Seen.{is_known, seen_edge, seen_shadow}
use Rattle.shadow_table.specs.Shadows.{is_named}

-- the references to the target that the owner was given, less those that it released, as readers see them
abbrev pub edge_value : Graph → Actor → Actor → ℤ
edge_value g owner target = (seen_edge g owner target).count

-- readers see the same of the actor
pub record AgreeOn (g h : Graph) (a : Actor) : Type 0 where
  pub known : is_known g a ≡ is_known h a
  pub shadow : seen_shadow g a ≡ seen_shadow h a

-- and of the owner's references to the target
pub record AgreeAlong (g h : Graph) (owner target : Actor) : Type 0 where
  pub value : edge_value g owner target ≡ edge_value h owner target

-- readers see the same in both graphs
pub record AreSame (g h : Graph) : Type 0 where
  pub actors : (a : Actor) → AgreeOn g h a
  pub edges : (b a : Actor) → AgreeAlong g h b a
  pub lost : lost_in g ≡ lost_in h

-- what rows named in the first graph, readers see alike in the second
pub record IsReadIn (g h : Graph) : Type 0 where
  pub actors : (a : Actor) → is_named g.shadows.names a ≡ true → AgreeOn g h a
  pub edges : (b a : Actor) → has_pair g.edges.pairs b a ≡ true → AgreeAlong g h b a
