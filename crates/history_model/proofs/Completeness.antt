-- At a quiet point of m, every quiescent actor of m is dead in what is folded at m: the members of a quiet set on nodes
-- that are up are no pseudoroots, and who has a positive edge to one holds it.
use Rattle.std.proofs.Common.{◌≡◌, ◌<◌, ◌+◌, ◌&&◌, ℕ, Bool, true, false, not, List, sym, ◌∙◌, ap, subst, inl, inr, arith, IsTrue, filter, sum_by, Some}
use Rattle.std.proofs.lemmas.Bool.{cases_lt, or_from, and_parts, not-true, not-false}
use Rattle.std.proofs.lemmas.Bool.Decides.{Decides-eqb, Decides-ltb}
use Rattle.crgc_ids.specs.Actor.{Actor}
use Rattle.crgc_ids.specs.Members.{IsAmong}
use Rattle.crgc_ids.proofs.MembersLaws.{IsAmong-filter, IsAmong-from_filter}
use Rattle.history_model.specs.declared.events.Event.{Event}
use Rattle.history_model.specs.Cluster.{Cluster}
use Rattle.history_model.specs.Messages.{Message, is_to, mail, takes}
use Rattle.history_model.specs.Facts.{Note, is_sent_to, is_created}
use Rattle.history_model.specs.Held.{gifts, gave}
use Rattle.history_model.specs.State.{is_up}
use Rattle.history_model.specs.Folds.{cut_at, folded, is_lost}
use Rattle.history_model.specs.Graph.{delta_facts, received_count, told_count, created_count, carried_count, admitted_count, released_count, is_balanced, has_edge, own_flags, may_act}
use Rattle.history_model.specs.Sweeps.{dead_at}
use Rattle.history_model.specs.Legal.{IsLegal}
use Rattle.history_model.specs.Quiescent.{IsQuietPoint, IsQuietSet, IsQuiescent}
use Rattle.history_model.proofs.Sums.{all_sent, noted_sum, told_horizon, told_sum}
use Rattle.history_model.proofs.AccountsBirths.{born-on_node, noted-born, sent-born}
use Rattle.history_model.proofs.AccountsNotes.{received-noted, released-noted}
use Rattle.history_model.proofs.FoldSumsCounts.{created-told, received-told, released-told, sent-told}
use Rattle.history_model.proofs.FoldSumsDead.{IsCandidate, dead-greatest}
use Rattle.history_model.proofs.FoldSumsKnown.{created-names, delta-notice, known-named}
use Rattle.history_model.proofs.FoldSumsNotes.{noter-received, noter-released, told-noted}
use Rattle.history_model.proofs.FoldSumsStreams.{own-flags}
use Rattle.history_model.proofs.LinksLost.{quiet-lost}
use Rattle.history_model.proofs.LinksMail.{admitted-mail, carried-mail, carried-outside}
use Rattle.history_model.proofs.LinksSettled.{settled}
use Rattle.history_model.proofs.LinksSums.{tally-sum_by}
use Rattle.history_model.proofs.SoundnessBounds.{carries_other, counts_other, creations-given, sendings-sent}
use Rattle.history_model.proofs.SoundnessTold.{is_receipt, is_release}
use Rattle.history_model.proofs.CompletenessMail.{quiet-carried, quiet-takes}
use Rattle.history_model.proofs.CompletenessTold.{flags-told, quiet-told}
use Rattle.history_model.proofs.FoldSumsFlags.{last_flags-named}

-- the nodes that are lost at m
abbrev pub lost_at : Cluster → ℕ → List Event → ℕ → Bool
lost_at cl m h = is_lost cl (folded cl m h)

-- ---- counts at a quiet point

module _ (cl : Cluster) (m : ℕ) (h : List Event) (legal : IsLegal cl h) (here : m < cl.nodes) (quiet : IsQuietPoint cl m h) where
  -- a node of the cluster that is not lost is up
  not_lost-up : (n : ℕ) → n < cl.nodes → lost_at cl m h n ≡ false → IsTrue (is_up n h)
  not_lost-up n below out = not-false (is_up n h) (sym (quiet-lost cl m h legal here quiet n below) ∙ out)

  up-not_lost : (n : ℕ) → n < cl.nodes → IsTrue (is_up n h) → lost_at cl m h n ≡ false
  up-not_lost n below up = quiet-lost cl m h legal here quiet n below ∙ ap not up

  sender-up : (x : Message) → IsAmong x (all_sent h) → lost_at cl m h x.from.node ≡ false → IsTrue (is_up x.from.node h)
  sender-up x among = not_lost-up x.from.node (born-on_node cl h legal x.from (sent-born cl h legal x among).0)

  -- what actors on nodes that are not lost noted is told
  outside-told : (t : Note → Bool)
      → told_sum cl (told_horizon cl (cut_at cl m h) h) (λ x. not (lost_at cl m h x.by.node) && t x) h ≡ noted_sum cl (λ x. not (lost_at cl m h x.by.node) && t x) h
  outside-told t =
      quiet-told cl m h legal quiet (λ x. not (lost_at cl m h x.by.node) && t x)
      (λ e p x among pass born. not_lost-up x.by.node (born-on_node cl h legal x.by born) (not-true (lost_at cl m h x.by.node) (and_parts (not (lost_at cl m h x.by.node)) (t x) pass).0))

  received-all : (a : Actor) → IsTrue (is_up a.node h) → received_count cl (folded cl m h) a ≡ takes a h
  received-all a up =
      received-told cl h (cut_at cl m h) a legal
      ∙ quiet-told cl m h legal quiet (is_receipt a) (λ e p x among pass _. subst (λ (b : Actor). IsTrue (is_up b.node h)) (sym (noter-received cl e p a x among pass)) up)
      ∙ received-noted cl h a

  released-all : (b a : Actor) → IsTrue (is_up b.node h) → released_count cl (folded cl m h) b a ≡ gave b a h
  released-all b a up =
      released-told cl h (cut_at cl m h) b a legal
      ∙ quiet-told cl m h legal quiet (is_release b a) (λ e p x among pass _. subst (λ (c : Actor). IsTrue (is_up c.node h)) (sym (noter-released cl e p b a x among pass)) up)
      ∙ released-noted cl h b a

  sent-all : (a : Actor) → told_count cl (lost_at cl m h) (folded cl m h) a ≡ sum_by (counts_other (lost_at cl m h)) (filter (is_to a) (all_sent h))
  sent-all a =
      sent-told cl h (cut_at cl m h) (lost_at cl m h) a legal
      ∙ outside-told (λ x. is_sent_to a x.fact)
      ∙ sendings-sent cl h (lost_at cl m h) a

  created-all : (b a : Actor) → lost_at cl m h a.node ≡ false
      → created_count cl (lost_at cl m h) (folded cl m h) b a ≡ gifts cl b a h + sum_by (carries_other (lost_at cl m h) a) (filter (is_to b) (all_sent h))
  created-all b a out =
      created-told cl h (cut_at cl m h) (lost_at cl m h) b a legal
      ∙ outside-told (λ x. is_created b a x.fact)
      ∙ creations-given cl h (lost_at cl m h) b a out

  -- ---- the members of a quiet set on nodes that are up

  -- the owner of a positive edge is on a node of the cluster
  edge-inside : (b a : Actor) → has_edge cl (lost_at cl m h) (folded cl m h) b a ≡ true → b.node < cl.nodes
  edge-inside b a edge =
      let f = folded cl m h in
      let lost = lost_at cl m h in
      let more = (Decides-ltb (released_count cl f b a) (created_count cl lost f b a + carried_count cl lost f b a)).0 edge in
      elim (cases_lt b.node cl.nodes) [
        | inl below ↦ below
        | inr outside ↦ (
            let none = carried-outside cl h (cut_at cl m h) lost legal b a outside in
            let test : Note → Bool = λ x. not (lost x.by.node) && is_created b a x.fact in
            let counted = created-told cl h (cut_at cl m h) lost b a legal in
            let noted = told-noted cl (told_horizon cl (cut_at cl m h) h) test h in
            let found = noted-born cl h legal test (omega (arith, more, none, counted, noted)) in
            let created_b = (and_parts (not (lost found.0.by.node)) (is_created b a found.0.fact) found.1).1 in
            born-on_node cl h legal b (found.2.1 b (created-names b a found.0.fact created_b).0))
      ]

  -- a member on a node that is up took all that was told or admitted for it
  member-balanced : (q : List Actor) → IsQuietSet cl h q → (a : Actor) → IsAmong a q → IsTrue (is_up a.node h)
      → received_count cl (folded cl m h) a ≡ told_count cl (lost_at cl m h) (folded cl m h) a + admitted_count cl (lost_at cl m h) (folded cl m h) a
  member-balanced q set a member up =
      let below = born-on_node cl h legal a (set.born a member) in
      let lost = lost_at cl m h in
      let received = received-all a up in
      let sent = sent-all a in
      let admitted = admitted-mail cl h (cut_at cl m h) lost legal (settled cl h legal (cut_at cl m h)) a below (up-not_lost a.node below up) in
      let lost_mail = tally-sum_by (λ (x : Message). lost x.from.node) (mail a h) in
      let took = quiet-takes cl m h legal quiet lost sender-up a up (λ x live to. set.no_mail x live (subst (λ b. IsAmong b q) (sym to) member)) in
      omega (arith, received, sent, admitted, lost_mail, took)

  -- who has a positive edge to such a member is one too, unless its node is lost
  member-owner : (q : List Actor) → IsQuietSet cl h q → (b a : Actor) → IsAmong a q → IsTrue (is_up a.node h)
      → has_edge cl (lost_at cl m h) (folded cl m h) b a ≡ true → lost_at cl m h b.node ≡ false → IsAmong b q × IsTrue (is_up b.node h)
  member-owner q set b a member up edge out =
      let below = edge-inside b a edge in
      let lost = lost_at cl m h in
      let f = folded cl m h in
      let b_up = not_lost-up b.node below out in
      let more = (Decides-ltb (released_count cl f b a) (created_count cl lost f b a + carried_count cl lost f b a)).0 edge in
      let released = released-all b a b_up in
      let created = created-all b a (up-not_lost a.node (born-on_node cl h legal a (set.born a member)) up) in
      let carried_b = carried-mail cl h (cut_at cl m h) lost legal (settled cl h legal (cut_at cl m h)) b a below out in
      let took = quiet-carried cl m h legal quiet lost sender-up b a b_up (λ x live. set.not_carried x live a member) in
      (set.holders b a member b_up (omega (arith, more, released, created, carried_b, took)), b_up)

  -- a member on a node that is up is known, and no pseudoroot
  member-candidate : (q : List Actor) → IsQuietSet cl h q → (a : Actor) → IsAmong a q → IsTrue (is_up a.node h)
      → IsCandidate cl (lost_at cl m h) (folded cl m h) a
  member-candidate q set a member up =
      let f = folded cl m h in
      let lost = lost_at cl m h in
      let below = born-on_node cl h legal a (set.born a member) in
      let flags = flags-told cl m h legal quiet a (set.born a member) up in
      let own : own_flags f a ≡ Some flags.0 = own-flags cl h a (cut_at cl m h a.node) ∙ flags.1 in
      let named = last_flags-named a (delta_facts (f a.node)) flags.0 own in
      let known = (known-named cl f a).1 (a.node, below, named.0, delta-notice named.0 (f a.node) named.1, named.2) in
      let passive : may_act (own_flags f a) ≡ false = ap may_act own ∙ or_from flags.0.busy flags.0.root (flags.2 ∙ set.idle a member) (flags.3 ∙ set.no_root a member) in
      let balanced = (Decides-eqb (received_count cl f a) (told_count cl lost f a + admitted_count cl lost f a)).1 (member-balanced q set a member up) in
      (known, up-not_lost a.node below up, or_from (may_act (own_flags f a)) (not (is_balanced cl lost f a)) passive (ap not balanced))

  -- the quiescent actors of nodes that are up are dead in what is folded at m
  pub completeness-up : (a : Actor) → IsTrue (is_up a.node h) → IsQuiescent cl h a → IsAmong a (dead_at cl m h)
  completeness-up a up quiescent =
      let q = quiescent.0 in
      let set = quiescent.2 in
      let is_here : Actor → Bool = λ b. is_up b.node h in
      dead-greatest cl (lost_at cl m h) (folded cl m h) (filter is_here q)
      (λ b among. (let kept = IsAmong-from_filter is_here b q among in member-candidate q set b kept.0 kept.1))
      (λ b c among edge out. (
      let kept = IsAmong-from_filter is_here c q among in
      let owner = member-owner q set b c kept.0 kept.1 edge out in
      IsAmong-filter is_here b q owner.0 owner.1))
      a (IsAmong-filter is_here a q quiescent.1 up)

-- and so are those of m
pub completeness : (cl : Cluster) (m : ℕ) (h : List Event) (a : Actor) → IsLegal cl h → IsQuietPoint cl m h → a.node ≡ m → IsQuiescent cl h a → IsAmong a (dead_at cl m h)
completeness cl m h a legal quiet on quiescent =
    let here = subst (λ n. n < cl.nodes) on (born-on_node cl h legal a (quiescent.2.born a quiescent.1)) in
    completeness-up cl m h legal here quiet a (subst (λ n. IsTrue (is_up n h)) (sym on) quiet.up) quiescent
