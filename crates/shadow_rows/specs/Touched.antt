-- Of whom rows tell something, and what they leave as it was.
use Rattle.std.specs.Prelude.{◌≡◌, ◌++◌, ◌||◌, Bool, List}
use Rattle.std.specs.List.{list_any}
use Rattle.crgc_ids.specs.Actor.{Actor, same_actor}
use Rattle.history_model.specs.Ledgers.{Ledger}
use Rattle.edge_table.specs.Table.{Edges}
use Rattle.shadow_table.specs.Shadows.{Shadows, shadow_at}
use Rattle.shadow_rows.specs.Pairs.{edge_between}

-- actors are named after those that were, and these keep their places
abbrev pub NamesMore : List Actor → List Actor → Type 0
NamesMore old new = (more : List Actor) × (new ≡ old ++ more)

-- whether a row tells something of the actor itself, or of references to it
abbrev pub is_touched : Ledger → Actor → Bool
is_touched l a =
    list_any (λ r. same_actor a r.actor) l.states
    || (list_any (λ r. same_actor a r.actor) l.sent
    || (list_any (λ r. same_actor a r.target) l.created || list_any (λ r. same_actor a r.target) l.released))

-- what is known of the actor stays, and so do all references to it
pub record LeavesActor (old new : Shadows) (was now : Edges) (a : Actor) : Type 0 where
  pub shadow : shadow_at new a ≡ shadow_at old a
  pub count : (b : Actor) → (edge_between now b a).count ≡ (edge_between was b a).count
