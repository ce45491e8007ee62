-- What the program promises of the history that it reports.
use Rattle.std.specs.Prelude.{ℕ, ◌≡◌, ◌∷◌, ◌++◌, List, IsTrue}
use Rattle.crgc_ids.specs.Actor.{Actor}
use Rattle.crgc_ids.specs.Members.{IsAmong}
use Rattle.history_model.specs.declared.events.Event.{Event}
use Rattle.history_model.specs.declared.events.Event.TheVariants.{Sweep}
use Rattle.history_model.specs.Cluster.{Cluster}
use Rattle.history_model.specs.Legal.{IsLegal, is_parent}
use Rattle.history_model.specs.Sweeps.{is_stopped, stopped_by}
use Rattle.history_model.specs.Quiescent.{IsQuiescent, IsQuietPoint}
use Rattle.history_model.specs.Uses.{IsUnused}

-- at each moment p of the history h: where m sweeps, whom the sweep stops is quiescent at p itself; every actor that is
-- stopped then is quiescent, then and in every longer legal history q ++ p, and nobody uses it any more; in version 2 its
-- children are stopped too; and where p is a quiet point of m and m sweeps, no quiescent actor of m is left unstopped
pub record IsRightlyCollected (cl : Cluster) (h : List Event) : Type 0 where
  pub sweeps_are_right : (later p : List Event) (m : ℕ) → h ≡ later ++ Sweep m ∷ p
      → (a : Actor) → IsAmong a (stopped_by cl m p) → IsQuiescent cl p a
  pub stops_are_right : (later p : List Event) → h ≡ later ++ p → (a : Actor) → IsTrue (is_stopped cl a p)
      → (q : List Event) → IsLegal cl (q ++ p) → IsQuiescent cl (q ++ p) a
  pub stopped_are_unused : (later p : List Event) → h ≡ later ++ p → (a : Actor) → IsTrue (is_stopped cl a p) → IsUnused cl p a
  pub children_are_stopped : cl.version ≡ 2 → (later p : List Event) → h ≡ later ++ p → (a b : Actor) → IsTrue (is_stopped cl a p)
      → IsTrue (is_parent a b p) → IsTrue (is_stopped cl b p)
  pub none_is_left : (later p : List Event) (m : ℕ) → h ≡ later ++ Sweep m ∷ p → IsQuietPoint cl m p
      → (a : Actor) → a.node ≡ m → IsQuiescent cl p a → IsTrue (is_stopped cl a (Sweep m ∷ p))
