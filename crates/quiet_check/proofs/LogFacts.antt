-- Whether an event notes anything in an actor's log.
use Rattle.std.proofs.Common.{◌≡◌, ◌&&◌, ◌||◌, Bool, true, false, not, cond, List, [], ◌∷◌, ◌++◌, map, refl}
use Rattle.std.specs.Prelude.{◌==◌}
use Rattle.crgc_ids.specs.Actor.{Actor}
use Rattle.history_model.specs.declared.events.Event.{Event}
use Rattle.history_model.specs.declared.events.Event.TheVariants.{Send, Spawn}
use Rattle.history_model.specs.Cluster.{Cluster, same_actor, newborn}
use Rattle.history_model.specs.Facts.{Fact, created, note_by, notes, sent_to}
use Rattle.history_model.specs.Streams.{facts_by, is_blank}

-- what another actor noted is not in the log
noted_by_another : (a b : Actor) (fs : List Fact) → same_actor b a ≡ false → facts_by a (map (note_by b) fs) ≡ []
noted_by_another a b [] other = refl
noted_by_another a b (f ∷ fs) other = rw other (noted_by_another a b fs other)

-- a send is noted by the sender
pub noted_at_send : (cl : Cluster) (a f t : Actor) (refs : List Actor) (p : List Event) → same_actor f a ≡ not (is_blank (facts_by a (notes cl (Send f t refs) p)))
noted_at_send cl a f t refs p =
    let rest = facts_by a (map (note_by f) (map (created t) refs)) in
    let Noted : Bool → Type 0 = λ v. same_actor f a ≡ v → v ≡ not (is_blank (cond v (sent_to t ∷ rest) rest)) in
    let noted : Noted (same_actor f a) = elim (same_actor f a) as Noted [
      | true ↦ λ _. refl
      | false ↦ λ other. rw (noted_by_another a f (map (created t) refs) other) refl
    ] in
    noted refl

-- a spawn is noted by the child, and in version 2 by the parent
pub noted_at_spawn : (cl : Cluster) (a x : Actor) (p : List Event) → (same_actor (newborn x.node p) a || ((cl.version == 2) && same_actor x a)) ≡ not (is_blank (facts_by a (notes cl (Spawn x) p)))
noted_at_spawn cl a x p =
    let child = newborn x.node p in
    elim (same_actor child a) as (λ u. (u || ((cl.version == 2) && same_actor x a)) ≡ not (is_blank (cond u (created child child ∷ cond u (created x child ∷ facts_by a (cond (cl.version == 2) (note_by x (created child x) ∷ []) [])) (facts_by a (cond (cl.version == 2) (note_by x (created child x) ∷ []) []))) (cond u (created x child ∷ facts_by a (cond (cl.version == 2) (note_by x (created child x) ∷ []) [])) (facts_by a (cond (cl.version == 2) (note_by x (created child x) ∷ []) [])))))) [
      | true ↦ refl
      | false ↦ elim (cl.version == 2) as (λ v. (v && same_actor x a) ≡ not (is_blank (facts_by a (cond v (note_by x (created child x) ∷ []) [])))) [
        | true ↦ elim (same_actor x a) as (λ w. w ≡ not (is_blank (cond w (created child x ∷ []) []))) [ true ↦ refl | false ↦ refl ]
        | false ↦ refl
      ]
    ]

-- longer lists are blank where both parts are
pub logged_more : (xs ys : List Fact) → not (is_blank (xs ++ ys)) ≡ (not (is_blank ys) || not (is_blank xs))
logged_more [] [] = refl
logged_more [] (y ∷ ys) = refl
logged_more (x ∷ xs) [] = refl
logged_more (x ∷ xs) (y ∷ ys) = refl
