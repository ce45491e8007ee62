-- The dead stay dead. Who is dead where some of each stream is folded is dead where more is folded, and more nodes may be
-- lost: no member of the dead acts past its horizon, and nobody outside comes to hold one, so all that is told later of
-- them is what the earlier fold told already. `CompactedSweeps` draws from it who may be gone.
use Rattle.std.proofs.Common.{◌≡◌, ◌<◌, ◌≤◌, ◌+◌, ◌&&◌, ◌||◌, ℕ, Bool, true, false, not, cond, List, [], ◌∷◌, ◌++◌, length, filter, sum_by, refl, sym, ◌∙◌, ap, ap₂, subst, inl, inr, arith, append_assoc}
use Rattle.std.proofs.lemmas.Bool.{and_parts, cases_lt, eq-eqb, eqb-true, false_from_ne_true, false≢true, ltb-true, not-true, or_cases}
use Rattle.std.proofs.lemmas.List.Sums.{sum_by-le-sum_by}
use Rattle.std.specs.Prelude.{◌==◌, Some}
use Rattle.crgc_ids.specs.Actor.{Actor}
use Rattle.crgc_ids.specs.Members.{IsAmong}
use Rattle.crgc_ids.proofs.MembersLaws.{IsAmong-filter, IsAmong-from_filter}
use Rattle.history_model.specs.declared.events.Event.{Event}
use Rattle.history_model.specs.declared.events.Event.TheVariants.{Flush, Send, Sweep}
use Rattle.history_model.specs.Tally.{tally}
use Rattle.history_model.specs.Cluster.{Cluster, same_actor}
use Rattle.history_model.specs.Compaction.{IsFoldOf, IsWithin}
use Rattle.history_model.specs.Facts.{Flags, is_created, is_sent_to}
use Rattle.history_model.specs.Folds.{Fold, cut_at, fold_to, folded, is_lost}
use Rattle.history_model.specs.Graph.{carried_count, created_count, dead, has_edge, holds_actor, is_balanced, may_act, own_flags, received_count, released_count, told_count, admitted_count}
use Rattle.history_model.specs.Legal.{IsLegal}
use Rattle.history_model.specs.Messages.{Message, is_to, mail, sent}
use Rattle.history_model.specs.Settled.{AreSettled}
use Rattle.history_model.specs.Streams.{stream}
use Rattle.history_model.specs.Sweeps.{dead_at, dead_of, is_stopped, is_swept}
use Rattle.history_model.proofs.AccountsBirths.{born-on_node, noted-born}
use Rattle.history_model.proofs.AccountsMail.{admitted_in, mail-and_open, mail-sent}
use Rattle.history_model.proofs.AccountsNotes.{received-noted}
use Rattle.history_model.proofs.AccountsOpen.{Admitted, open_sum, weigh}
use Rattle.history_model.proofs.AccountsTaken.{takes-mail}
use Rattle.history_model.proofs.CompactionGrowth.{flags-stay, fold-cuts, fold_to-fold, fold_to-within, folded-within, known-stays, told_horizon-rises, untold-shrinks, within-cuts, within-trans}
use Rattle.history_model.proofs.FoldSumsCounts.{created-told, received-told, released-told, sent-told}
use Rattle.history_model.proofs.FoldSumsDead.{dead-greatest, dead-member}
use Rattle.history_model.proofs.FoldSumsHorizons.{flags-at-horizon}
use Rattle.history_model.proofs.FoldSumsKnown.{created-names, holds-among}
use Rattle.history_model.proofs.FoldSumsNotes.{told-noted}
use Rattle.history_model.proofs.FoldSumsStreams.{own-flags}
use Rattle.history_model.proofs.LinksLost.{lost-grows, lost_at-grows}
use Rattle.history_model.proofs.LinksMail.{admitted-mail, carried-mail, carried-outside}
use Rattle.history_model.proofs.LinksSettled.{settled}
use Rattle.history_model.proofs.LinksSums.{tally-sum_by}
use Rattle.history_model.proofs.Soundness.{dead-on_node, dead-told_set}
use Rattle.history_model.proofs.SoundnessBounds.{carried-split, carries_other, counts_other, creations-given, mail-split, sendings-sent}
use Rattle.history_model.proofs.SoundnessStep.{told-always}
use Rattle.history_model.proofs.SoundnessTold.{AreTold, IsToldSet, is_creation, is_receipt, is_release, is_sending}
use Rattle.history_model.proofs.Sums.{all_sent, publish_horizon, told_horizon, told_sum}

-- ---- what was sent and not admitted

open-part_less : (local admitted : Bool) (m n : ℕ) → m ≤ n → cond local 0 (cond admitted 0 m) ≤ cond local 0 (cond admitted 0 n)
open-part_less true admitted m n less = omega arith
open-part_less false true m n less = omega arith
open-part_less false false m n less = less

-- what weighs less is open with less
open-less : (adm : Admitted) (b : Actor) (v w : Message → ℕ) → ((m : Message) → v m ≤ w m) → (h : List Event)
    → open_sum adm b v h ≤ open_sum adm b w h
open-less adm b v w less [] = omega arith
open-less adm b v w less (Send f t refs ∷ p) =
    let one : Message = record { from = f; to = t; refs = refs } in
    let lighter = sum_by-le-sum_by v w (filter (is_to b) (one ∷ [])) less in
    let admitted = adm f.node t.node (length (sent f.node t.node p)) in
    let here = open-part_less (f.node == t.node) admitted (weigh b v (one ∷ [])) (weigh b w (one ∷ [])) lighter in
    omega (arith, open-less adm b v w less p, here)
open-less adm b v w less (_ ∷ p) = open-less adm b v w less p

-- what was sent to b and not admitted weighs no more by v than by w
sent-gap : (cl : Cluster) (h : List Event) → IsLegal cl h → (b : Actor) (v w : Message → ℕ) → ((m : Message) → v m ≤ w m)
    → sum_by v (filter (is_to b) (all_sent h)) + sum_by w (mail b h) ≤ sum_by w (filter (is_to b) (all_sent h)) + sum_by v (mail b h)
sent-gap cl h legal b v w less =
    omega (arith, mail-and_open cl h legal b v, mail-and_open cl h legal b w, open-less (admitted_in h) b v w less h)

-- ---- more is folded, and more nodes are lost

-- what counts from nodes outside counts no more where more nodes are lost
fewer-outside : (lost more : Bool) (n : ℕ) → (lost ≡ true → more ≡ true) → cond (not more) n 0 ≤ cond (not lost) n 0
fewer-outside true true n grows = omega arith
fewer-outside true false n grows = absurd (false≢true (grows refl))
fewer-outside false true n grows = omega arith
fewer-outside false false n grows = omega arith

outside-before : (lost more test : Bool) → (lost ≡ true → more ≡ true) → (not more && test) ≡ true → (not lost && test) ≡ true
outside-before true true test grows passed = passed
outside-before true false test grows passed = absurd (false≢true (grows refl))
outside-before false true test grows passed = absurd (false≢true passed)
outside-before false false test grows passed = passed

module _ (cl : Cluster) (h : List Event) (c d : ℕ → ℕ) (lost more : ℕ → Bool) (legal : IsLegal cl h)
    (longer : (o : ℕ) → c o ≤ d o) (grows : (n : ℕ) → lost n ≡ true → more n ≡ true)
    (first : AreSettled cl c lost h) (second : AreSettled cl d more h) where
  abbrev before : Fold
  before = fold_to cl c h

  abbrev after : Fold
  after = fold_to cl d h

  abbrev members : List Actor
  members = dead cl lost before

  abbrev was_told : Actor → ℕ
  was_told = told_horizon cl c h

  abbrev is_told : Actor → ℕ
  is_told = told_horizon cl d h

  set : IsToldSet cl h lost was_told members
  set = dead-told_set cl h c lost legal first

  told : (q p : List Event) → h ≡ q ++ p → AreTold cl lost was_told members p
  told q p same =
      told-always cl lost was_told members p q (subst (IsLegal cl) same legal) (subst (λ k. IsToldSet cl k lost was_told members) same set)

  -- its own entry says neither busy nor root: at the later flush the member was at rest
  later-flags : (a : Actor) → IsAmong a members → may_act (own_flags after a) ≡ false
  later-flags a member =
      let flags = (dead-member cl lost before a member).flags in
      let stays = flags-stay cl h c d longer a flags.0 (sym (own-flags cl h a (c a.node)) ∙ flags.1) in
      let flush = flags-at-horizon a (publish_horizon cl a.node (d a.node) h) h stays.0 stays.1 in
      let p = flush.1 in
      let rises = told_horizon-rises cl h c d longer a in
      let same : h ≡ (flush.0 ++ (Flush a ∷ [])) ++ p = flush.2 ∙ sym (append_assoc flush.0 (Flush a ∷ []) p) in
      let rest = (told (flush.0 ++ (Flush a ∷ [])) p same).rest a member (omega (arith, rises, flush.3)) in
      let own : own_flags after a ≡ Some stays.0 = own-flags cl h a (d a.node) ∙ stays.1 in
      let busy : stays.0.busy ≡ false = ap (λ (g : Flags). g.busy) flush.5 ∙ rest.1 in
      let root : stays.0.root ≡ false = ap (λ (g : Flags). g.root) flush.5 ∙ rest.2 in
      ap may_act own ∙ ap₂ ◌||◌ busy root

  -- a member took all its mail, and that is told; and all that was sent to it from outside came
  later-mail : (a : Actor) → IsAmong a members
      → (told_sum cl is_told (is_receipt a) h ≡ length (mail a h))
      × (sum_by (counts_other lost) (filter (is_to a) (all_sent h)) ≤ sum_by (counts_other lost) (mail a h))
  later-mail a member =
      let balance = set.balanced a member in
      let sendings = (told [] h refl).sendings a member in
      let sent_all = sendings-sent cl h lost a in
      let mail_all = mail-split lost (mail a h) in
      let came = mail-sent cl h legal a (counts_other lost) in
      let receipts = untold-shrinks cl was_told is_told (is_receipt a) (is_receipt a) (told_horizon-rises cl h c d longer) (λ x t. t) h in
      let most = told-noted cl is_told (is_receipt a) h in
      let taken = received-noted cl h a in
      let in_mail = takes-mail cl h legal a in (
        omega (arith, balance, sendings, sent_all, mail_all, came, receipts, most, taken, in_mail),
        omega (arith, balance, sendings, sent_all, mail_all, receipts, most, taken, in_mail),
      )

  -- so what was sent to it from outside is told, and is its mail from outside, also where more nodes are lost
  later-sent : (a : Actor) → IsAmong a members → told_sum cl is_told (is_sending more a) h ≡ sum_by (counts_other more) (mail a h)
  later-sent a member =
      let sendings = (told [] h refl).sendings a member in
      let shrinks = untold-shrinks cl was_told is_told (is_sending more a) (is_sending lost a) (told_horizon-rises cl h c d longer)
      (λ x. outside-before (lost x.by.node) (more x.by.node) (is_sent_to a x.fact) (grows x.by.node)) h in
      let most = told-noted cl is_told (is_sending more a) h in
      let sent_all = sendings-sent cl h more a in
      let came = mail-sent cl h legal a (counts_other more) in
      let gap = sent-gap cl h legal a (counts_other more) (counts_other lost)
      (λ m. fewer-outside (lost m.from.node) (more m.from.node) 1 (grows m.from.node)) in
      omega (arith, (later-mail a member).1, sendings, shrinks, most, sent_all, came, gap)

  later-balanced : (a : Actor) → IsAmong a members → more a.node ≡ false → is_balanced cl more after a ≡ true
  later-balanced a member kept =
      let admitted = admitted-mail cl h d more legal second a (dead-on_node cl h c lost legal a member) kept in
      let lost_mail = tally-sum_by (λ (m : Message). more m.from.node) (mail a h) in
      eq-eqb (received_count cl after a) (told_count cl more after a + admitted_count cl more after a)
      (omega (
        arith,
        (later-mail a member).0,
        later-sent a member,
        mail-split more (mail a h),
        admitted,
        lost_mail,
        received-told cl h d a legal,
        sent-told cl h d more a legal,
      ))

  -- who has a positive edge is on a node of the cluster
  owner-node : (b a : Actor) → has_edge cl more after b a ≡ true → b.node < cl.nodes
  owner-node b a edge =
      let positive = ltb-true (released_count cl after b a) (created_count cl more after b a + carried_count cl more after b a) edge in
      elim (cases_lt b.node cl.nodes) [
        | inl inside ↦ inside
        | inr outside ↦ (
            let none = carried-outside cl h d more legal b a outside in
            let noted = told-noted cl is_told (is_creation more b a) h in
            let found = noted-born cl h legal (is_creation more b a) (omega (arith, positive, none, noted, created-told cl h d more b a legal)) in
            let created = (and_parts (not (more found.0.by.node)) (is_created b a found.0.fact) found.1).1 in
            born-on_node cl h legal b (found.2.1 b (created-names b a found.0.fact created).0))
      ]

  -- and is a member: no further reference to a member is told
  later-owners : (b a : Actor) → IsAmong a members → more a.node ≡ false → has_edge cl more after b a ≡ true
      → more b.node ≡ false → IsAmong b members
  later-owners b a member kept edge out =
      let node = owner-node b a edge in
      let was_out = false_from_ne_true (lost b.node) (λ before. false≢true (sym out ∙ grows b.node before)) in
      let positive = ltb-true (released_count cl after b a) (created_count cl more after b a + carried_count cl more after b a) edge in
      let creations = (told [] h refl).creations b a member in
      let given_before = creations-given cl h lost b a (set.placed a member) in
      let given_after = creations-given cl h more b a kept in
      let created_most = told-noted cl is_told (is_creation more b a) h in
      let releases = untold-shrinks cl was_told is_told (is_release b a) (is_release b a) (told_horizon-rises cl h c d longer) (λ x t. t) h in
      let gap = sent-gap cl h legal b (carries_other more a) (carries_other lost a)
      (λ m. fewer-outside (lost m.from.node) (more m.from.node) (tally (same_actor a) m.refs) (grows m.from.node)) in
      let carried = carried-mail cl h d more legal second b a node out in
      elim (set.holders b a member node was_out) [
        | inl is_member ↦ is_member
        | inr released ↦ absurd (omega (
          arith,
          positive,
          creations,
          given_before,
          given_after,
          created_most,
          releases,
          gap,
          carried,
          released,
          carried-split lost a (mail b h),
          carried-split more a (mail b h),
          created-told cl h d more b a legal,
          released-told cl h d b a legal,
        ))
      ]

  -- so the members whose nodes are not lost since are dead
  pub dead-stays_settled : (a : Actor) → IsAmong a members → more a.node ≡ false → IsAmong a (dead cl more after)
  dead-stays_settled a member kept =
      let is_kept : Actor → Bool = λ b. not (more b.node) in
      dead-greatest cl more after (filter is_kept members)
      (λ b among.
      let both = IsAmong-from_filter is_kept b members among in
      let out = not-true (more b.node) both.1 in
      let known = known-stays cl before after (fold_to-within cl c d [] h longer) b (dead-member cl lost before b both.0).known in
      (known, out, ap₂ (λ v w. v || not w) (later-flags b both.0) (later-balanced b both.0 out)))
      (λ b e among edge out.
      let both = IsAmong-from_filter is_kept e members among in
      IsAmong-filter is_kept b members (later-owners b e both.0 (not-true (more e.node) both.1) edge out) (ap not out))
      a (IsAmong-filter is_kept a members member (ap not kept))

-- ---- folds

-- a node that is lost in a fold is lost in a fold around
lost-stays : (cl : Cluster) (h : List Event) (g f : Fold) → IsFoldOf cl h f → IsWithin g f
    → (n : ℕ) → is_lost cl g n ≡ true → is_lost cl f n ≡ true
lost-stays cl h g f fold within n =
    subst (λ k. is_lost cl k n ≡ true → is_lost cl f n ≡ true) (fold-cuts cl h g (within-trans g f (λ o. stream cl o h) within fold))
    (subst (λ k. is_lost cl (fold_to cl (λ o. length (g o)) h) n ≡ true → is_lost cl k n ≡ true) (fold-cuts cl h f fold)
    (lost-grows cl [] h (λ o. length (g o)) (λ o. length (f o)) (within-cuts g f within) n))

-- so one that is not lost there was not lost before
pub kept-before : (cl : Cluster) (h : List Event) (g f : Fold) → IsFoldOf cl h f → IsWithin g f
    → (n : ℕ) → is_lost cl f n ≡ false → is_lost cl g n ≡ false
kept-before cl h g f fold within n kept =
    false_from_ne_true (is_lost cl g n) (λ lost. false≢true (sym kept ∙ lost-stays cl h g f fold within n lost))

-- the dead of a fold are dead in each fold around it, unless their nodes are lost there
pub dead-stays : (cl : Cluster) (h : List Event) (g f : Fold) → IsLegal cl h → IsFoldOf cl h f → IsWithin g f
    → (a : Actor) → IsAmong a (dead_of cl g) → is_lost cl f a.node ≡ false → IsAmong a (dead_of cl f)
dead-stays cl h g f legal fold within a member kept =
    let c : ℕ → ℕ = λ o. length (g o) in
    let d : ℕ → ℕ = λ o. length (f o) in
    let longer = within-cuts g f within in
    let before = fold-cuts cl h g (within-trans g f (λ o. stream cl o h) within fold) in
    let after = fold-cuts cl h f fold in
    let Dead : Fold → Type 0 = λ k. IsAmong a (dead_of cl k) in
    subst Dead after
    (dead-stays_settled cl h c d (is_lost cl (fold_to cl c h)) (is_lost cl (fold_to cl d h)) legal longer (lost-grows cl [] h c d longer)
    (settled cl h legal c) (settled cl h legal d) a
    (subst Dead (sym before) member) (subst (λ k. is_lost cl k a.node ≡ false) (sym after) kept))

-- ---- moments

-- what is dead at a node is dead there ever after
pub dead_at-stays : (cl : Cluster) (m : ℕ) (q h : List Event) (a : Actor) → IsLegal cl (q ++ h)
    → IsAmong a (dead_at cl m h) → is_lost cl (folded cl m (q ++ h)) a.node ≡ false → IsAmong a (dead_at cl m (q ++ h))
dead_at-stays cl m q h a legal =
    dead-stays cl (q ++ h) (folded cl m h) (folded cl m (q ++ h)) legal
    (fold_to-fold cl (cut_at cl m (q ++ h)) (q ++ h)) (folded-within cl m q h) a

-- so after one more event, where it was dead before
dead_at-next : (cl : Cluster) (m : ℕ) (e : Event) (p : List Event) (a : Actor)
    → IsLegal cl (e ∷ p) → is_lost cl (folded cl m (e ∷ p)) a.node ≡ false
    → (is_lost cl (folded cl m p) a.node ≡ false → IsAmong a (dead_at cl m p)) → IsAmong a (dead_at cl m (e ∷ p))
dead_at-next cl m e p a legal kept before =
    let kept_before = false_from_ne_true (is_lost cl (folded cl m p) a.node)
    (λ lost. false≢true (sym kept ∙ lost_at-grows cl m (e ∷ []) p a.node lost)) in
    dead_at-stays cl m (e ∷ []) p a legal (before kept_before) kept

-- whoever was stopped is dead at its node
pub stopped-dead : (cl : Cluster) (h : List Event) (a : Actor) → IsLegal cl h → is_stopped cl a h ≡ true
    → is_lost cl (folded cl a.node h) a.node ≡ false → IsAmong a (dead_at cl a.node h)
stopped-dead cl [] a legal stopped kept = absurd (false≢true stopped)
stopped-dead cl (Sweep m ∷ p) a legal stopped kept =
    dead_at-next cl a.node (Sweep m) p a legal kept (λ kept_before. elim (or_cases (is_swept cl m p a) (is_stopped cl a p) stopped) [
      | inl now ↦ (
          let found = and_parts (a.node == m) (holds_actor (dead_at cl m p) a) now in
          subst (λ n. IsAmong a (dead_at cl n p)) (sym (eqb-true a.node m found.0)) ((holds-among (dead_at cl m p) a).0 found.1))
      | inr earlier ↦ stopped-dead cl p a legal.1 earlier kept_before
    ])
stopped-dead cl (e ∷ p) a legal stopped kept = dead_at-next cl a.node e p a legal kept (stopped-dead cl p a legal.1 stopped)
