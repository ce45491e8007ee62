-- Stopped actors: whom a sweep stopped is quiescent ever after, and after a sweep at a quiet point the stopped actors
-- of the node are exactly its quiescent ones.
use Rattle.std.proofs.Common.{◌≡◌, ◌≤◌, ◌↔◌, ◌==◌, ℕ, true, List, [], ◌∷◌, take, drop, sym, ◌∙◌, ap, subst, inl, inr, arith, append-nil, ◌&&◌, not}
use Rattle.std.proofs.lemmas.Bool.{and_from, false≢true, or_left, and_parts, or_cases}
use Rattle.crgc_ids.specs.Actor.{Actor}
use Rattle.crgc_ids.specs.Members.{IsAmong}
use Rattle.crgc_ids.proofs.MembersLaws.{IsAmong-from_filter}
use Rattle.history_model.specs.declared.events.Event.{Event}
use Rattle.history_model.specs.declared.events.Event.TheVariants.{Sweep}
use Rattle.history_model.specs.Cluster.{Cluster}
use Rattle.history_model.specs.Folds.{cut_at, folded, is_lost}
use Rattle.history_model.specs.Graph.{holds_actor}
use Rattle.history_model.specs.Sweeps.{dead_at, is_swept, is_stopped, stopped_by}
use Rattle.history_model.specs.Messages.{Message, mail, takes}
use Rattle.history_model.specs.Held.{carried, held}
use Rattle.history_model.specs.Legal.{IsLegal}
use Rattle.history_model.specs.Quiescent.{IsLive, IsQuietPoint, IsQuietSet, IsQuiescent}
use Rattle.history_model.specs.Uses.{IsUnused}
use Rattle.history_model.proofs.Basics.{eqb-refl}
use Rattle.history_model.proofs.Completeness.{completeness}
use Rattle.history_model.proofs.FoldSumsKnown.{holds-among}
use Rattle.history_model.proofs.LinksSettled.{settled}
use Rattle.history_model.proofs.Soundness.{soundness}
use Rattle.history_model.proofs.Stability.{quiescent-stays}
use Rattle.history_model.proofs.Uses.{quiescent-unused}

-- the dead of what is folded at a node are a quiet set
pub dead_at-quiet : (cl : Cluster) (m : ℕ) (h : List Event) → IsLegal cl h → IsQuietSet cl h (dead_at cl m h)
dead_at-quiet cl m h legal =
    soundness cl h (cut_at cl m h) (is_lost cl (folded cl m h)) legal (settled cl h legal (cut_at cl m h))

-- whom a sweep finds is quiescent
swept-quiescent : (cl : Cluster) (m : ℕ) (h : List Event) (a : Actor) → IsLegal cl h → is_swept cl m h a ≡ true → IsQuiescent cl h a
swept-quiescent cl m h a legal swept =
    let found = (and_parts (a.node == m) (holds_actor (dead_at cl m h) a) swept).1 in
    (dead_at cl m h, (holds-among (dead_at cl m h) a).0 found, dead_at-quiet cl m h legal)

-- whom a sweep stops is quiescent at the moment of the sweep
pub stopping-quiescent : (cl : Cluster) (m : ℕ) (h : List Event) (a : Actor) → IsLegal cl h → IsAmong a (stopped_by cl m h) → IsQuiescent cl h a
stopping-quiescent cl m h a legal stopped =
    let found = IsAmong-from_filter (λ b. (b.node == m) && not (is_stopped cl b h)) a (dead_at cl m h) stopped in
    (dead_at cl m h, found.0, dead_at-quiet cl m h legal)

-- whom a sweep stopped is quiescent ever after
pub stopped-quiescent : (cl : Cluster) (h : List Event) (a : Actor) → IsLegal cl h → is_stopped cl a h ≡ true → IsQuiescent cl h a
stopped-quiescent cl [] a legal stopped = absurd (false≢true stopped)
stopped-quiescent cl (Sweep m ∷ p) a legal stopped =
    quiescent-stays cl (Sweep m ∷ []) p a legal (elim (or_cases (is_swept cl m p a) (is_stopped cl a p) stopped) [
      | inl now ↦ swept-quiescent cl m p a legal.1 now
      | inr before ↦ stopped-quiescent cl p a legal.1 before
    ])
stopped-quiescent cl (e ∷ p) a legal stopped = quiescent-stays cl (e ∷ []) p a legal (stopped-quiescent cl p a legal.1 stopped)

-- and nobody uses it any more
pub stopped-unused : (cl : Cluster) (h : List Event) (a : Actor) → IsLegal cl h → is_stopped cl a h ≡ true → IsUnused cl h a
stopped-unused cl h a legal stopped = quiescent-unused cl h a (stopped-quiescent cl h a legal stopped)

-- a sweep makes nobody quiescent
sweep-quiescent : (cl : Cluster) (m : ℕ) (h : List Event) (a : Actor) → IsQuiescent cl (Sweep m ∷ h) a → IsQuiescent cl h a
sweep-quiescent cl m h a quiescent =
    let set = quiescent.2 in
    let mail_stays : (b : Actor) → mail b (Sweep m ∷ h) ≡ mail b h = λ b. append-nil (mail b h) in
    let live_then : (x : Message) → IsLive h x → IsLive (Sweep m ∷ h) x = λ x live. (
      live.0,
      elim live.1 [
        | inl waits ↦ inl (subst (λ ms. IsAmong x (drop (takes x.to h) ms)) (sym (mail_stays x.to)) waits)
        | inr on ↦ inr on
      ],
    ) in
    let held_then : (b c : Actor) → held cl b c h ≤ held cl b c (Sweep m ∷ h) = λ b c.
    let same = ap (λ ms. carried c (take (takes b h) ms)) (mail_stays b) in
    omega (arith, same) in (
      quiescent.0,
      quiescent.1,
      record {
        born = set.born;
        idle = set.idle;
        no_root = set.no_root;
        no_mail = λ x live. set.no_mail x (live_then x live);
        not_carried = λ x live. set.not_carried x (live_then x live);
        holders = λ b c member up some. set.holders b c member up (omega (arith, some, held_then b c));
      },
    )

-- after a sweep at a quiet point exactly the quiescent actors of the node are stopped
pub quiet-stopped : (cl : Cluster) (m : ℕ) (h : List Event) (a : Actor) → IsLegal cl (Sweep m ∷ h) → IsQuietPoint cl m h → a.node ≡ m
    → (is_stopped cl a (Sweep m ∷ h) ≡ true) ↔ IsQuiescent cl (Sweep m ∷ h) a
quiet-stopped cl m h a legal quiet on = (
  stopped-quiescent cl (Sweep m ∷ h) a legal,
  λ quiescent.
      let dead = completeness cl m h a legal.1 quiet on (sweep-quiescent cl m h a quiescent) in
      let own : a.node == m ≡ true = ap (λ n. n == m) on ∙ eqb-refl m in
      or_left (is_swept cl m h a) (is_stopped cl a h) (and_from (a.node == m) (holds_actor (dead_at cl m h) a) own ((holds-among (dead_at cl m h) a).1 dead)),
)
