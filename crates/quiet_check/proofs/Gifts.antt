-- How many references a birth by spawn gives.
use Rattle.std.proofs.Common.{◌≡◌, ◌+◌, ◌&&◌, Bool, true, false, cond, List, [], ◌∷◌, refl, arith}
use Rattle.std.specs.Prelude.{◌==◌}
use Rattle.crgc_ids.specs.Actor.{Actor}
use Rattle.history_model.specs.declared.events.Event.{Event}
use Rattle.history_model.specs.declared.events.Event.TheVariants.{Spawn}
use Rattle.history_model.specs.Cluster.{Cluster, same_actor, newborn}
use Rattle.history_model.specs.Facts.{created, note_by, notes}
use Rattle.history_model.specs.Held.{is_note_of}
use Rattle.history_model.specs.Tally.{tally}
use Rattle.history_model.proofs.Lists.{tally-one}

tally_last : {X : Type 0} (test : X → Bool) (s : Bool) (x : X) → tally test (cond s (x ∷ []) []) ≡ cond (s && test x) 1 0
tally_last test true x = let first = tally-one test x [] in omega arith
tally_last test false x = refl

tally_three : {X : Type 0} (test : X → Bool) (x y z : X) (s : Bool) → tally test (x ∷ y ∷ cond s (z ∷ []) []) ≡ (cond (test x) 1 0 + cond (test y) 1 0) + cond (s && test z) 1 0
tally_three test x y z s =
    let first = tally-one test x (y ∷ cond s (z ∷ []) []) in
    let second = tally-one test y (cond s (z ∷ []) []) in
    let third = tally_last test s z in
    omega arith

-- the child's reference to itself, the parent's to the child, and in version 2 the child's to the parent
pub gifts_of_spawn : (cl : Cluster) (x b a : Actor) (p : List Event) →
    tally (is_note_of b a) (notes cl (Spawn x) p)
    ≡ (cond (same_actor (newborn x.node p) b && same_actor (newborn x.node p) a) 1 0
    + cond (same_actor x b && same_actor (newborn x.node p) a) 1 0)
    + cond ((cl.version == 2) && (same_actor (newborn x.node p) b && same_actor x a)) 1 0
gifts_of_spawn cl x b a p =
    let child = newborn x.node p in
    tally_three (is_note_of b a) (note_by child (created child child)) (note_by child (created x child)) (note_by x (created child x)) (cl.version == 2)
