-- What readers see of a graph, and how an actor is dropped.
use Rattle.std.specs.Prelude.{◌≡◌, ◌&&◌, not, if◌then◌else◌, Bool}
use Rattle.crgc_ids.specs.Actor.{Actor}
use Rattle.edge_table.specs.Table.{no_edge}
use Rattle.edge_table.specs.declared.table.Edge.{Edge}
use Rattle.shadow_table.specs.Shadows.{ChangesShadow, as_dropped, blank, is_named, shadow_at}
use Rattle.shadow_table.specs.declared.table.Shadow.{Shadow}
use Rattle.shadow_graph.specs.Graph.{Graph}
use Rattle.shadow_rows.specs.Pairs.{edge_between}

-- whether the actor was dropped
abbrev pub is_dropped : Graph → Actor → Bool
is_dropped g a = (shadow_at g.shadows a).dropped

-- whether it is known: it was named, and not dropped
abbrev pub is_known : Graph → Actor → Bool
is_known g a = is_named g.shadows.names a && not (is_dropped g a)

-- what readers see of the actor: nothing where it was dropped
abbrev pub seen_shadow : Graph → Actor → Shadow
seen_shadow g a = if is_dropped g a then blank else shadow_at g.shadows a

-- what they see of the references of the owner to the target: nothing where the target was dropped
abbrev pub seen_edge : Graph → Actor → Actor → Edge
seen_edge g owner target = if is_dropped g target then no_edge else edge_between g.edges owner target

-- the actor is dropped, and all else stays: the edges that lead from it too
pub record Drops (actor : Actor) (old new : Graph) : Type 0 where
  pub shadows : ChangesShadow old.shadows new.shadows actor as_dropped
  pub edges : new.edges ≡ old.edges
  pub log : new.log ≡ old.log
  pub finals : new.finals ≡ old.finals
  pub cut : new.cut ≡ old.cut
