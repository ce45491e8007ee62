-- Soundness: the dead of a fold of a legal history are a quiet set, for every choice of folded bulletins and every
-- settled set of lost nodes.
use Rattle.std.proofs.Common.{◌≡◌, ◌<◌, ◌≤◌, ◌+◌, ◌⊎◌, ℕ, Bool, false, List, [], ◌∷◌, ◌++◌, length, drop, sum_by, IsTrue, sym, ◌∙◌, ap, subst, inl, inr, arith, append_assoc, length-append}
use Rattle.std.proofs.Math.Seq.{drop-append_seam}
use Rattle.std.proofs.lemmas.Bool.{cases_lt, lt-ltb}
use Rattle.std.specs.Prelude.{Some}
use Rattle.crgc_ids.specs.Actor.{Actor}
use Rattle.crgc_ids.specs.Members.{IsAmong}
use Rattle.history_model.specs.declared.events.Event.{Event}
use Rattle.history_model.specs.declared.events.Event.TheVariants.{Flush}
use Rattle.history_model.specs.Cluster.{Cluster, is_born}
use Rattle.history_model.specs.Messages.{Message, mail}
use Rattle.history_model.specs.Facts.{Flags}
use Rattle.history_model.specs.Folds.{fold_to}
use Rattle.history_model.specs.Graph.{created_count, carried_count, released_count, dead}
use Rattle.history_model.specs.Legal.{IsLegal}
use Rattle.history_model.specs.Quiescent.{IsQuietSet}
use Rattle.history_model.specs.Settled.{AreSettled}
use Rattle.history_model.proofs.Basics.{legal-before, legal-kept}
use Rattle.history_model.proofs.Sums.{told_sum, publish_horizon, horizon_flags, told_horizon}
use Rattle.history_model.proofs.AccountsBirths.{born-grows, born-on_node}
use Rattle.history_model.proofs.AccountsNotes.{carries_from}
use Rattle.history_model.proofs.FoldSumsCounts.{received-told, released-told, sent-told, created-told}
use Rattle.history_model.proofs.FoldSumsHorizons.{flags-at-horizon, flush_horizon-within}
use Rattle.history_model.proofs.FoldSumsDead.{dead-member, dead-closed}
use Rattle.history_model.proofs.FoldSumsStreams.{own-flags}
use Rattle.history_model.proofs.LinksMail.{admitted-mail, carried-mail}
use Rattle.history_model.proofs.LinksSums.{tally-sum_by}
use Rattle.history_model.proofs.SoundnessTold.{IsToldSet, is_creation, is_receipt, is_release, is_sending, counts_lost}
use Rattle.history_model.proofs.SoundnessQuiet.{told-quiet}
use Rattle.history_model.proofs.States.{IsAtRest}

-- tails of one list that are equally long are equal
equal-tails : {A : Type 0} (q p r s : List A) → q ++ p ≡ r ++ s → length p ≡ length s → p ≡ s
equal-tails q p r s same long =
    let counts : length q ≡ length r = omega (arith, length-append q p, length-append r s, ap length same, long) in
    sym (drop-append_seam q p) ∙ ap (drop (length q)) same ∙ ap (λ n. drop n (r ++ s)) counts ∙ drop-append_seam r s

-- what a dead actor told ends with a flush, at which it was at rest
dead-flush : (cl : Cluster) (h : List Event) (c : ℕ → ℕ) (lost : ℕ → Bool) → IsLegal cl h → (a : Actor) → IsAmong a (dead cl lost (fold_to cl c h)) → (q : List Event) × (p : List Event) × (h ≡ (q ++ (Flush a ∷ [])) ++ p) × (told_horizon cl c h a ≡ length p) × IsAtRest a p
dead-flush cl h c lost legal a member =
    let flags = (dead-member cl lost (fold_to cl c h) a member).flags in
    let horizon = publish_horizon cl a.node (c a.node) h in
    let flags_there : horizon_flags a horizon h ≡ Some flags.0 = sym (own-flags cl h a (c a.node)) ∙ flags.1 in
    let flush = flags-at-horizon a horizon h flags.0 flags_there in
    let q = flush.0 in
    let p = flush.1 in
    let born = (legal-kept cl (Flush a) p (legal-before cl q (Flush a ∷ p) (subst (IsLegal cl) flush.2 legal))).0 in
    let idle = sym (ap (λ (g : Flags). g.busy) flush.5) ∙ flags.2 in
    let no_root = sym (ap (λ (g : Flags). g.root) flush.5) ∙ flags.3 in
    (q, p, flush.2 ∙ sym (append_assoc q (Flush a ∷ []) p), flush.3, (born, idle, no_root))

dead-at_horizon : (cl : Cluster) (h : List Event) (c : ℕ → ℕ) (lost : ℕ → Bool) → IsLegal cl h → (a : Actor) → IsAmong a (dead cl lost (fold_to cl c h)) → (q p : List Event) → h ≡ q ++ p → length p ≡ told_horizon cl c h a → IsAtRest a p
dead-at_horizon cl h c lost legal a member q p same long =
    let flush = dead-flush cl h c lost legal a member in
    let tail = equal-tails q p (flush.0 ++ (Flush a ∷ [])) flush.1 (sym same ∙ flush.2) (long ∙ flush.3) in
    subst (IsAtRest a) (sym tail) flush.4

-- a dead actor is on a node of the cluster
pub dead-on_node : (cl : Cluster) (h : List Event) (c : ℕ → ℕ) (lost : ℕ → Bool) → IsLegal cl h → (a : Actor) → IsAmong a (dead cl lost (fold_to cl c h)) → a.node < cl.nodes
dead-on_node cl h c lost legal a member =
    let flush = dead-flush cl h c lost legal a member in
    let later = born-grows a (flush.0 ++ (Flush a ∷ [])) flush.1 flush.4.0 in
    born-on_node cl h legal a (subst (λ k. IsTrue (is_born a k)) (sym flush.2) later)

-- it received what was told or admitted for it
dead-balanced : (cl : Cluster) (h : List Event) (c : ℕ → ℕ) (lost : ℕ → Bool) → IsLegal cl h → AreSettled cl c lost h → (a : Actor) → IsAmong a (dead cl lost (fold_to cl c h)) → told_sum cl (told_horizon cl c h) (is_receipt a) h ≡ told_sum cl (told_horizon cl c h) (is_sending lost a) h + sum_by (counts_lost lost) (mail a h)
dead-balanced cl h c lost legal settled a member =
    let about = dead-member cl lost (fold_to cl c h) a member in
    let admitted = admitted-mail cl h c lost legal settled a (dead-on_node cl h c lost legal a member) about.not_lost in
    let lost_mail = tally-sum_by (λ (m : Message). lost m.from.node) (mail a h) in
    omega (arith, about.balanced, received-told cl h c a legal, sent-told cl h c lost a legal, admitted, lost_mail)

-- whoever has a positive edge to it is dead, and whoever has none released what was told or admitted
dead-holders : (cl : Cluster) (h : List Event) (c : ℕ → ℕ) (lost : ℕ → Bool) → IsLegal cl h → AreSettled cl c lost h → (b a : Actor) → IsAmong a (dead cl lost (fold_to cl c h)) → b.node < cl.nodes → lost b.node ≡ false → IsAmong b (dead cl lost (fold_to cl c h)) ⊎ (told_sum cl (told_horizon cl c h) (is_creation lost b a) h + sum_by (carries_from lost a) (mail b h) ≤ told_sum cl (told_horizon cl c h) (is_release b a) h)
dead-holders cl h c lost legal settled b a member node kept =
    let f = fold_to cl c h in
    let released = released_count cl f b a in
    let given = created_count cl lost f b a + carried_count cl lost f b a in
    let carried = carried-mail cl h c lost legal settled b a node kept in
    elim (cases_lt released given) [
      | inl edge ↦ inl (dead-closed cl lost f b a member (lt-ltb released given edge) kept)
      | inr none ↦ inr (omega (arith, none, created-told cl h c lost b a legal, carried, released-told cl h c b a legal))
    ]

-- so the dead are a set as the core of soundness needs it
pub dead-told_set : (cl : Cluster) (h : List Event) (c : ℕ → ℕ) (lost : ℕ → Bool) → IsLegal cl h → AreSettled cl c lost h → IsToldSet cl h lost (told_horizon cl c h) (dead cl lost (fold_to cl c h))
dead-told_set cl h c lost legal settled = record {
  placed = λ a member. (dead-member cl lost (fold_to cl c h) a member).not_lost;
  at_horizon = dead-at_horizon cl h c lost legal;
  within = λ b. flush_horizon-within b (publish_horizon cl b.node (c b.node) h) h;
  balanced = dead-balanced cl h c lost legal settled;
  holders = dead-holders cl h c lost legal settled;
}

-- the dead are a quiet set: nobody outside can use any of them, and none of them acts of itself
pub soundness : (cl : Cluster) (h : List Event) (c : ℕ → ℕ) (lost : ℕ → Bool) → IsLegal cl h → AreSettled cl c lost h → IsQuietSet cl h (dead cl lost (fold_to cl c h))
soundness cl h c lost legal settled =
    told-quiet cl c lost (told_horizon cl c h) (dead cl lost (fold_to cl c h)) h legal settled (dead-told_set cl h c lost legal settled)
