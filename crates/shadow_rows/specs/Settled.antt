-- What corrections speak of.
use Rattle.std.specs.Prelude.{◌≡◌, true, List, Option, Some, None}
use Rattle.crgc_ids.specs.Actor.{Actor}
use Rattle.shadow_table.specs.Shadows.{is_named}
use Rattle.shadow_rows.specs.Pairs.{has_pair}

-- what a correction counts is there: the actor is named or, with an owner, the pair is there
abbrev pub IsCovered : List Actor → List (Actor × Actor) → Option Actor → Actor → Type 0
IsCovered names pairs None target = is_named names target ≡ true
IsCovered names pairs (Some owner) target = has_pair pairs owner target ≡ true
