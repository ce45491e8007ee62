-- At the end of the history the members are a quiet set: they are at rest, no live message goes to them or carries a
-- reference to one, and nobody else holds one. `Soundness` applies this to the dead of a fold.
use Rattle.std.proofs.Common.{◌≡◌, ◌<◌, ◌≤◌, ◌+◌, ℕ, Bool, true, false, not, cond, List, [], sum_by, filter, IsTrue, refl, sym, ◌∙◌, ap, subst, inl, inr, arith}
use Rattle.std.proofs.lemmas.Bool.{false≢true, cases_Bool}
use Rattle.std.proofs.lemmas.List.{drop_all}
use Rattle.std.proofs.lemmas.List.Sums.{sum_by-take-drop}
use Rattle.crgc_ids.specs.Actor.{Actor}
use Rattle.crgc_ids.specs.Members.{IsAmong}
use Rattle.history_model.specs.declared.events.Event.{Event}
use Rattle.history_model.specs.Tally.{tally}
use Rattle.history_model.specs.Cluster.{Cluster, same_actor, is_born}
use Rattle.history_model.specs.Messages.{Message, is_to, mail, message_at, takes, taken, waiting}
use Rattle.history_model.specs.Facts.{is_created}
use Rattle.history_model.specs.Held.{carried, gifts, got, gave, held}
use Rattle.history_model.specs.State.{is_up}
use Rattle.history_model.specs.Legal.{IsLegal}
use Rattle.history_model.specs.Quiescent.{IsLive, IsOnLink, IsQuietSet}
use Rattle.history_model.specs.Settled.{AreSettled}
use Rattle.history_model.proofs.Sums.{all_sent}
use Rattle.history_model.proofs.AccountsBirths.{born-on_node, mail-born, message_at-among, noted-born, sent-among, sent-born, waiting-among}
use Rattle.history_model.proofs.AccountsMail.{mail-open, mail-sent}
use Rattle.history_model.proofs.AccountsNotes.{carries_from, created-noted}
use Rattle.history_model.proofs.AccountsTaken.{takes-mail, gave-got}
use Rattle.history_model.proofs.LinksSums.{sum_by-member}
use Rattle.history_model.proofs.SoundnessSums.{carried-sum, tally-member}
use Rattle.history_model.proofs.SoundnessTold.{IsToldSet, AreTold, received-below, released-below}
use Rattle.history_model.proofs.FoldSumsKnown.{created-names}
use Rattle.history_model.proofs.SoundnessBounds.{carries_other, counts_other, carried-split, creations-given, mail-split, no_hold, no_take, sendings-sent, taken-carried}
use Rattle.history_model.proofs.SoundnessStep.{told-always}

-- ---- births

-- the recipient of a live message is born
pub live-born : (cl : Cluster) (h : List Event) → IsLegal cl h → (m : Message) → IsLive h m → IsTrue (is_born m.to h)
live-born cl h legal m live =
    elim live.1 [
      | inl waits ↦ (mail-born cl h legal m.to m (waiting-among m.to h m waits)).1
      | inr on ↦ (
          let there : IsAmong m (message_at m.from.node m.to.node on.0 h) = subst (IsAmong m) (sym on.1) (inl refl) in
          let sent = sent-among m.from.node m.to.node h m (message_at-among m.from.node m.to.node on.0 h m there) in
          (sent-born cl h legal m sent.0).1)
    ]

-- who got a reference is born
pub got-born : (cl : Cluster) (h : List Event) → IsLegal cl h → (b a : Actor) → 0 < got cl b a h → IsTrue (is_born b h)
got-born cl h legal b a some =
    let weight : Message → ℕ = λ m. tally (same_actor a) m.refs in
    let noted = created-noted cl h (λ _. true) b a refl in
    let in_mail : carried a (taken b h) ≤ sum_by weight (mail b h) = omega (arith, taken-carried b a h, carried-sum a (mail b h)) in
    let found = noted-born cl h legal (λ x. is_created b a x.fact) (omega (arith, some, noted, in_mail, mail-sent cl h legal b weight)) in
    found.2.1 b (created-names b a found.0.fact found.1).0

-- a node that is up is not lost
up-kept : (cl : Cluster) (c : ℕ → ℕ) (lost : ℕ → Bool) (h : List Event) → AreSettled cl c lost h → (n : ℕ) → IsTrue (is_up n h) → lost n ≡ false
up-kept cl c lost h settled n up =
    elim (cases_Bool (lost n)) [ inl gone ↦ absurd (false≢true (sym (settled.crashed n gone) ∙ up)) | inr kept ↦ kept ]

-- ---- messages to members

-- no message waits for a member
none-waits : (cl : Cluster) (lost : ℕ → Bool) (u : Actor → ℕ) (members : List Actor) (h : List Event) → IsLegal cl h → IsToldSet cl h lost u members → AreTold cl lost u members h → (a : Actor) → IsAmong a members → (m : Message) → ¬ IsAmong m (waiting a h)
none-waits cl lost u members h legal set told a member m waits =
    let all = no_take cl lost u members [] h legal set told a member (set.within a) in
    subst (IsAmong m) (drop_all (takes a h) (mail a h) all) waits

-- none is under way to one: what is told was sent, so it would be told, and never taken
none-comes : (cl : Cluster) (lost : ℕ → Bool) (u : Actor → ℕ) (members : List Actor) (h : List Event) → IsLegal cl h → IsToldSet cl h lost u members → AreTold cl lost u members h → (m : Message) → IsAmong m.to members → lost m.from.node ≡ false → ¬ IsOnLink h m
none-comes cl lost u members h legal set told m member kept on =
    let a = m.to in
    let took = received-below cl u a [] h (set.within a) in
    let balance = set.balanced a member in
    let sent_told = told.sendings a member in
    let sent_all = sendings-sent cl h lost a in
    let under_way = mail-open cl h legal m on (counts_other lost) in
    let counts : counts_other lost m ≡ 1 = ap (λ v. cond (not v) 1 0) kept in
    omega (arith, took, balance, sent_told, sent_all, under_way, counts, mail-split lost (mail a h), takes-mail cl h legal a)

no_mail : (cl : Cluster) (c : ℕ → ℕ) (lost : ℕ → Bool) (u : Actor → ℕ) (members : List Actor) (h : List Event) → IsLegal cl h → AreSettled cl c lost h → IsToldSet cl h lost u members → AreTold cl lost u members h → (m : Message) → IsLive h m → ¬ IsAmong m.to members
no_mail cl c lost u members h legal settled set told m live member =
    elim live.1 [
      | inl waits ↦ none-waits cl lost u members h legal set told m.to member m waits
      | inr on ↦ elim (cases_Bool (lost m.from.node)) [
        | inl gone ↦ false≢true (sym (set.placed m.to member) ∙ settled.closed m live.0 on gone)
        | inr kept ↦ none-comes cl lost u members h legal set told m member kept on
      ]
    ]

-- ---- references to members

-- b gave up all references to a that were made for it: by births and ties, sent from other nodes than the lost ones, or
-- admitted from these
abbrev HasReleased : Cluster → (ℕ → Bool) → List Event → Actor → Actor → Type 0
HasReleased cl lost h b a =
    gifts cl b a h + sum_by (carries_other lost a) (filter (is_to b) (all_sent h)) + sum_by (carries_from lost a) (mail b h) ≤ gave b a h

-- whoever is no member gave up all references to a member
given-released : (cl : Cluster) (lost : ℕ → Bool) (u : Actor → ℕ) (members : List Actor) (h : List Event) → IsToldSet cl h lost u members → AreTold cl lost u members h → (b a : Actor) → IsAmong a members → ¬ IsAmong b members → b.node < cl.nodes → lost b.node ≡ false → HasReleased cl lost h b a
given-released cl lost u members h set told b a member outside node kept =
    let gave_all = released-below cl u b a [] h (set.within b) in
    let given_told = told.creations b a member in
    let given_all = creations-given cl h lost b a (set.placed a member) in
    elim (set.holders b a member node kept) [
      | inl is_member ↦ absurd (outside is_member)
      | inr released ↦ omega (arith, gave_all, given_told, given_all, released)
    ]

-- no message waits that carries a reference to a member
none-kept : (cl : Cluster) (lost : ℕ → Bool) (h : List Event) → IsLegal cl h → (b a : Actor) → HasReleased cl lost h b a → (m : Message) → IsAmong m (waiting b h) → ¬ IsAmong a m.refs
none-kept cl lost h legal b a released m waits carries =
    let weight : Message → ℕ = λ m. tally (same_actor a) m.refs in
    let parts = sum_by-take-drop weight (mail b h) (takes b h) in
    let here = sum_by-member weight m (waiting b h) waits in
    let others = mail-sent cl h legal b (carries_other lost a) in
    omega (arith, released, gave-got cl h legal b a, others, carried-split lost a (mail b h), carried-sum a (mail b h), carried-sum a (taken b h), parts, here, tally-member a m.refs carries)

-- none is under way from a node that is not lost
none-brings : (cl : Cluster) (lost : ℕ → Bool) (h : List Event) → IsLegal cl h → (a : Actor) (m : Message) → HasReleased cl lost h m.to a → lost m.from.node ≡ false → IsOnLink h m → ¬ IsAmong a m.refs
none-brings cl lost h legal a m released kept on carries =
    let b = m.to in
    let under_way = mail-open cl h legal m on (carries_other lost a) in
    let brings : carries_other lost a m ≡ tally (same_actor a) m.refs = ap (λ v. cond (not v) (tally (same_actor a) m.refs) 0) kept in
    omega (arith, released, gave-got cl h legal b a, under_way, brings, taken-carried b a h, carried-split lost a (mail b h), tally-member a m.refs carries)

not_carried : (cl : Cluster) (c : ℕ → ℕ) (lost : ℕ → Bool) (u : Actor → ℕ) (members : List Actor) (h : List Event) → IsLegal cl h → AreSettled cl c lost h → IsToldSet cl h lost u members → AreTold cl lost u members h → (m : Message) → IsLive h m → (a : Actor) → IsAmong a members → ¬ IsAmong a m.refs
not_carried cl c lost u members h legal settled set told m live a member carries =
    let kept = up-kept cl c lost h settled m.to.node live.0 in
    let node = born-on_node cl h legal m.to (live-born cl h legal m live) in
    let outside = no_mail cl c lost u members h legal settled set told m live in
    let released = given-released cl lost u members h set told m.to a member outside node kept in
    elim live.1 [
      | inl waits ↦ none-kept cl lost h legal m.to a released m waits carries
      | inr on ↦ elim (cases_Bool (lost m.from.node)) [
        | inl gone ↦ false≢true (sym kept ∙ settled.closed m live.0 on gone)
        | inr from_kept ↦ none-brings cl lost h legal a m released from_kept on carries
      ]
    ]

-- nobody else on a node that is up holds a reference to a member
holders : (cl : Cluster) (c : ℕ → ℕ) (lost : ℕ → Bool) (u : Actor → ℕ) (members : List Actor) (h : List Event) → IsLegal cl h → AreSettled cl c lost h → IsToldSet cl h lost u members → AreTold cl lost u members h → (b a : Actor) → IsAmong a members → IsTrue (is_up b.node h) → 0 < held cl b a h → IsAmong b members
holders cl c lost u members h legal settled set told b a member up holds =
    let born = got-born cl h legal b a (omega (arith, holds)) in
    elim (no_hold cl lost u members [] h legal set told b a member (born-on_node cl h legal b born) (up-kept cl c lost h settled b.node up) (set.within b)) [
      | inl is_member ↦ is_member
      | inr gave_all ↦ absurd (omega (arith, holds, gave_all))
    ]

-- the members are a quiet set
pub told-quiet : (cl : Cluster) (c : ℕ → ℕ) (lost : ℕ → Bool) (u : Actor → ℕ) (members : List Actor) (h : List Event) → IsLegal cl h → AreSettled cl c lost h → IsToldSet cl h lost u members → IsQuietSet cl h members
told-quiet cl c lost u members h legal settled set =
    let told = told-always cl lost u members h [] legal set in
    record {
      born = λ a member. (told.rest a member (set.within a)).0;
      idle = λ a member. (told.rest a member (set.within a)).1;
      no_root = λ a member. (told.rest a member (set.within a)).2;
      no_mail = no_mail cl c lost u members h legal settled set told;
      not_carried = not_carried cl c lost u members h legal settled set told;
      holders = holders cl c lost u members h legal settled set told;
    }
