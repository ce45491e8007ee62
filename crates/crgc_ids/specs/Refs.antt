-- What a message carries, as it is kept: nothing, one actor, or a block of several.
use Rattle.std.specs.Prelude.{List, []}
use Rattle.crgc_ids.specs.Actor.{Actor}
use Rattle.crgc_ids.specs.declared.refs.Kept.{Kept}
use Rattle.crgc_ids.specs.declared.refs.Kept.TheVariants.{Nothing, One, Several}

abbrev pub actors_in : Kept → List Actor
actors_in Nothing = []
actors_in (One actor) = actor
actors_in (Several actors) = actors.value.items
