-- How the shadow graph stands for a fold.
use Rattle.std.specs.Prelude.{◌≡◌, ◌<◌, ◌↔◌, ℕ, length, slice_index}
use Rattle.crgc_ids.specs.Actor.{Actor}
use Rattle.crgc_ids.specs.Members.{IsAmong}
use Rattle.history_model.specs.Cluster.{Cluster}
use Rattle.history_model.specs.Folds.{Fold, is_lost}
use Rattle.history_model.specs.Graph.{known_actors}
use Rattle.membership.specs.Noted.{links_of}
use Rattle.shadow_graph.specs.Graph.{Graph}
use Rattle.history_model.specs.MoreFolded as folds
use Rattle.shadow_rows.specs.Folded.{CountsFold, LogsFold}

-- the graph stands for the fold; its log does where a node can be lost, in a cluster of more than one
pub record IsGraphOf (cl : Cluster) (f : Fold) (g : Graph) : Type 0 where
  pub nodes : g.finals.nodes ≡ cl.nodes
  pub cut : (o : ℕ) → o < cl.nodes → slice_index g.cut o ≡ length (f o)
  pub known : (a : Actor) → IsAmong a g.shadows.names ↔ IsAmong a (known_actors cl f)
  pub counts : CountsFold cl (is_lost cl f) f g.shadows g.edges
  pub log : 1 < cl.nodes → LogsFold cl f g.log
  pub links : folds.AreLinksOf cl f (links_of g.finals)
