-- The names of a bulletin in an order in which most of them rise: each section's owners apart from its targets.
use Rattle.std.specs.Prelude.{List, [], ◌∷◌, ◌++◌}
use Rattle.std.specs.List.{flat_map}
use Rattle.crgc_ids.specs.Actor.{Actor}
use Rattle.crgc_ids.specs.declared.rising.PairCount.{PairCount}
use Rattle.history_model.specs.declared.records.Delta.{Delta}
use Rattle.history_model.specs.declared.records.Window.{Window}
use Rattle.wire_grammar.specs.Named.{count_names, state_names}

abbrev pub owner_names : List PairCount → List Actor
owner_names rows = flat_map (λ r. r.owner ∷ []) rows

abbrev pub target_names : List PairCount → List Actor
target_names rows = flat_map (λ r. r.target ∷ []) rows

abbrev pub pushed_pairs : List PairCount → List Actor
pushed_pairs rows = owner_names rows ++ target_names rows

abbrev pub pushed_delta : Delta → List Actor
pushed_delta d = state_names d.states ++ (count_names d.sent ++ (pushed_pairs d.created ++ pushed_pairs d.released))

abbrev pub pushed_window : Window → List Actor
pushed_window w = count_names w.messages ++ pushed_pairs w.carried
