-- Quiescence and quiet points on worked moments: what is quiescent and what is not, and where nothing is left to tell.
use Rattle.std.proofs.Common.{◌≡◌, ◌<◌, true, List, [], ◌∷◌, refl, sym, ◌∙◌, inl, inr, arith, IsTrue}
use Rattle.std.proofs.lemmas.Bool.{false≢true, ltb-true}
use Rattle.crgc_ids.specs.Actor.{Actor}
use Rattle.crgc_ids.specs.Greatest.{greatest}
use Rattle.crgc_ids.specs.LostNodes.{lost_nodes}
use Rattle.history_model.specs.declared.events.Event.{Event}
use Rattle.history_model.specs.declared.events.Event.TheVariants.{Seed, Wake, Spawn, Remove, Sweep}
use Rattle.history_model.specs.Cluster.{Cluster}
use Rattle.history_model.specs.Messages.{Message, copies}
use Rattle.history_model.specs.Held.{held}
use Rattle.history_model.specs.State.{is_root, is_up}
use Rattle.history_model.specs.Graph.{dead}
use Rattle.history_model.specs.Sweeps.{is_stopped}
use Rattle.history_model.specs.Quiescent.{IsLive, IsQuiescent, IsQuietPoint}
use Rattle.history_model.specs.Rows.{actor, cluster, crash_before_admission, crash_before_admission_removed, dropped_child, message_lost, message_on_link, message_taken, message_told, one_final_missing, onto}
use Rattle.history_model.proofs.ExamplesTests.{quiet_point-test, quiet_set-test}

-- whom a root on a node that is up holds is not quiescent
root-keeps : (cl : Cluster) (h : List Event) (b a : Actor) → IsTrue (is_up b.node h) → IsTrue (is_root b h) → 0 < held cl b a h → ¬ IsQuiescent cl h a
root-keeps cl h b a up root some quiescent =
    let set = quiescent.2 in
    false≢true (sym (set.no_root b (set.holders b a quiescent.1 up some)) ∙ root)

-- nor is whom a live message goes to
mail-keeps : (cl : Cluster) (h : List Event) (m : Message) → IsLive h m → ¬ IsQuiescent cl h m.to
mail-keeps cl h m live quiescent = quiescent.2.no_mail m live quiescent.1

-- ---- a dropped child

-- a child, and its parent, which holds it
abbrev held_child : List Event
held_child = onto [] (Seed 0 ∷ Wake (actor 0 0) ∷ Spawn (actor 0 0) ∷ [])

-- The child of a root is not quiescent.
held_child-needed : ¬ IsQuiescent (cluster 1 1) held_child (actor 0 1)
held_child-needed =
    root-keeps (cluster 1 1) held_child (actor 0 0) (actor 0 1) refl refl
    (ltb-true 0 (held (cluster 1 1) (actor 0 0) (actor 0 1) held_child) refl)

-- Once the root dropped it, it is, and the root is not.
dropped_child-quiescent : IsQuiescent (cluster 1 1) dropped_child (actor 0 1)
dropped_child-quiescent = (actor 0 1 ∷ [], inl refl, quiet_set-test (cluster 1 1) dropped_child (actor 0 1 ∷ []) refl refl)

dropped_child-root : ¬ IsQuiescent (cluster 1 1) dropped_child (actor 0 0)
dropped_child-root = λ quiescent. false≢true (sym (quiescent.2.no_root (actor 0 0) quiescent.1))

-- All of it is told: a sweep may stop the child, and the moment is a quiet point.
dropped_child-quiet : IsQuietPoint (cluster 1 1) 0 dropped_child
dropped_child-quiet = quiet_point-test (cluster 1 1) 0 dropped_child refl refl

-- ---- a message on the link

-- what 0.0 sent to 1.1: number 0 on the link from 0 to 1
abbrev poke : Message
poke = record { from = actor 0 0; to = actor 1 1; refs = [] }

-- Nobody holds 1.1 any more, but the message on the link may still wake it: it is not quiescent.
message_on_link-needed : ¬ IsQuiescent (cluster 2 1) (Sweep 1 ∷ message_on_link) (actor 1 1)
message_on_link-needed =
    let h : List Event = Sweep 1 ∷ message_on_link in
    mail-keeps (cluster 2 1) h poke (refl, inr (0, refl, refl, refl, ltb-true 0 (copies 0 1 0 h) refl, λ e. absurd (omega (arith, e))))

-- Once it is taken and 1.1 is idle again, 1.1 is quiescent.
message_taken-quiescent : IsQuiescent (cluster 2 1) message_taken (actor 1 1)
message_taken-quiescent = (actor 1 1 ∷ [], inl refl, quiet_set-test (cluster 2 1) message_taken (actor 1 1 ∷ []) refl refl)

-- That is not yet told, so the moment is no quiet point of node 1, and the sweep there stops nobody.
message_taken-untold : ¬ IsQuietPoint (cluster 2 1) 1 (Sweep 1 ∷ message_taken)
message_taken-untold = λ quiet. false≢true (sym (quiet.flushed (actor 1 1) refl refl))

-- When it is told, the moment is a quiet point, and the next sweep leaves 1.1 stopped.
message_told-quiet : IsQuietPoint (cluster 2 1) 1 message_told
message_told-quiet = quiet_point-test (cluster 2 1) 1 message_told refl refl

message_told-stopped : is_stopped (cluster 2 1) (actor 1 1) (Sweep 1 ∷ message_told) ≡ true
unfolding dead greatest lost_nodes
message_told-stopped = refl

-- Where the message was lost, 1.1 is quiescent, and no sweep finds it: the message is neither admitted nor on the link, so
-- the moment is no quiet point, though all else is told.
message_lost-quiescent : IsQuiescent (cluster 2 1) message_lost (actor 1 1)
message_lost-quiescent = (actor 1 1 ∷ [], inl refl, quiet_set-test (cluster 2 1) message_lost (actor 1 1 ∷ []) refl refl)

message_lost-undelivered : ¬ IsQuietPoint (cluster 2 1) 1 message_lost
message_lost-undelivered = λ quiet.
    elim (quiet.delivered 0 1 0 (λ e. absurd (omega (arith, e))) refl refl (omega arith)) [
      | inl admitted ↦ false≢true admitted
      | inr some ↦ absurd (omega (arith, some))
    ]

-- ---- lost nodes

-- A message of a crashed node may still be admitted while its link is open: 1.1 is not quiescent.
crash_before_admission-needed : ¬ IsQuiescent (cluster 2 1) crash_before_admission (actor 1 1)
crash_before_admission-needed =
    mail-keeps (cluster 2 1) crash_before_admission poke
    (refl, inr (0, refl, refl, refl, ltb-true 0 (copies 0 1 0 crash_before_admission) refl, λ e. absurd (omega (arith, e))))

-- The removal closes the link: now it is. When the Final is folded the moment is a quiet point, with node 0 lost.
crash_before_admission-quiescent : IsQuiescent (cluster 2 1) (Remove 1 0 ∷ Sweep 1 ∷ crash_before_admission) (actor 1 1)
crash_before_admission-quiescent =
    (actor 1 1 ∷ [], inl refl, quiet_set-test (cluster 2 1) (Remove 1 0 ∷ Sweep 1 ∷ crash_before_admission) (actor 1 1 ∷ []) refl refl)

crash_before_admission_removed-quiet : IsQuietPoint (cluster 2 1) 1 crash_before_admission_removed
crash_before_admission_removed-quiet = quiet_point-test (cluster 2 1) 1 crash_before_admission_removed refl refl

-- An actor of a crashed node that holds 1.1 keeps it from nothing.
one_final_missing-held : held (cluster 3 1) (actor 0 0) (actor 1 1) one_final_missing ≡ 1
one_final_missing-held = refl

one_final_missing-quiescent : IsQuiescent (cluster 3 1) one_final_missing (actor 1 1)
one_final_missing-quiescent = (actor 1 1 ∷ [], inl refl, quiet_set-test (cluster 3 1) one_final_missing (actor 1 1 ∷ []) refl refl)
