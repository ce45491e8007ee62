-- What an insertion into a set of actors says of its names.
use Rattle.std.proofs.Common.{◌≡◌, ◌||◌, Bool, true, false, cond, refl, ◌∙◌, ap}
use Rattle.crgc_ids.specs.Actor.{Actor, same_actor}
use Rattle.history_model.proofs.Basics.{same_actor-sym}

cond_or : (b c : Bool) → cond b true c ≡ (b || c)
cond_or true c = refl
cond_or false c = refl

-- an actor that was put in is there, and each other one as before
pub put_in : (put a : Actor) (old new : Bool) → new ≡ cond (same_actor put a) true old → new ≡ (same_actor a put || old)
put_in put a old new is = is ∙ cond_or (same_actor put a) old ∙ ap (λ b. b || old) (same_actor-sym put a)
