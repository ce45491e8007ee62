-- A quiet set stays quiet: in every longer legal history nobody outside it can use its members, and none of them acts.
-- So whom a sweep stopped is quiescent ever after (`Stopped`).
use Rattle.std.proofs.Common.{◌≡◌, List, [], ◌∷◌, ◌++◌, refl, sym, subst, inl, inr, arith}
use Rattle.crgc_ids.specs.Actor.{Actor}
use Rattle.crgc_ids.specs.Members.{IsAmong}
use Rattle.history_model.specs.declared.events.Event.{Event}
use Rattle.history_model.specs.declared.events.Event.TheVariants.{Send, Flush}
use Rattle.history_model.specs.Cluster.{Cluster}
use Rattle.history_model.specs.Messages.{Message}
use Rattle.history_model.specs.Legal.{IsLegal}
use Rattle.history_model.specs.Quiescent.{IsLive, IsQuietSet, IsQuiescent}
use Rattle.history_model.specs.Uses.{sent_by}
use Rattle.history_model.proofs.AccountsGrowth.{up-before}
use Rattle.history_model.proofs.StabilityHeld.{held-next}
use Rattle.history_model.proofs.StabilityMessages.{live-next}
use Rattle.history_model.proofs.States.{IsAtRest, stays-at_rest, waiting-live}
use Rattle.history_model.proofs.UsesActors.{only-flush}

-- nobody sends to a member or sends a reference to one
pub sent-outside : (cl : Cluster) (e : Event) (p : List Event) (q : List Actor) → IsLegal cl (e ∷ p) → IsQuietSet cl p q → (m : Message) → IsAmong m (sent_by e)
    → (a : Actor) → IsAmong a (m.to ∷ m.refs) → ¬ IsAmong a q
sent-outside cl (Send f t refs) p q legal quiet m (inl new) a named member =
    let there : IsAmong a (t ∷ refs) = subst (λ (x : Message). IsAmong a (x.to ∷ x.refs)) new named in
    not_flush (only-flush cl p q quiet (Send f t refs) legal a (inr there) member)
  where
    not_flush : Send f t refs ≡ Flush a → ⊥
    not_flush e = cc
sent-outside cl (Send f t refs) p q legal quiet m (inr none) a named member = absurd none
sent-outside cl _ p q legal quiet m new a named member = absurd new

-- what is live after the next event neither goes to nor carries a member
live-outside : (cl : Cluster) (e : Event) (p : List Event) (q : List Actor) → IsLegal cl (e ∷ p) → IsQuietSet cl p q → (m : Message)
    → IsLive (e ∷ p) m → (a : Actor) → IsAmong a (m.to ∷ m.refs) → ¬ IsAmong a q
live-outside cl e p q legal quiet m live a named member =
    elim (live-next cl e p legal m live) [
      | inr new ↦ sent-outside cl e p q legal quiet m new a named member
      | inl before ↦ elim named [
        | inl to ↦ quiet.no_mail m before (subst (λ x. IsAmong x q) to member)
        | inr carried ↦ quiet.not_carried m before a member carried
      ]
    ]

-- a member stays at rest, since no message waits for it
member-rests : (cl : Cluster) (e : Event) (p : List Event) (q : List Actor) → IsLegal cl (e ∷ p) → IsQuietSet cl p q → (a : Actor) → IsAmong a q → IsAtRest a (e ∷ p)
member-rests cl e p q legal quiet a member =
    stays-at_rest cl e p legal a (quiet.born a member, quiet.idle a member, quiet.no_root a member) (λ up m waits.
    let live = waiting-live p a up m waits in
    quiet.no_mail m live.0 (subst (λ b. IsAmong b q) (sym live.1) member))

-- a quiet set stays quiet after the next legal event
pub stability-step : (cl : Cluster) (e : Event) (p : List Event) (q : List Actor) → IsLegal cl (e ∷ p) → IsQuietSet cl p q → IsQuietSet cl (e ∷ p) q
stability-step cl e p q legal quiet = record {
  born = λ a member. (member-rests cl e p q legal quiet a member).0;
  idle = λ a member. (member-rests cl e p q legal quiet a member).1;
  no_root = λ a member. (member-rests cl e p q legal quiet a member).2;
  no_mail = λ m live member. live-outside cl e p q legal quiet m live m.to (inl refl) member;
  not_carried = λ m live a member carried. live-outside cl e p q legal quiet m live a (inr carried) member;
  holders = λ b a member up some.
      let same = held-next cl e p q legal quiet b a member in
      quiet.holders b a member (up-before b.node (e ∷ []) p up) (omega (arith, some, same));
}

-- and after every legal continuation
pub stability : (cl : Cluster) (q h : List Event) (xs : List Actor) → IsLegal cl (q ++ h) → IsQuietSet cl h xs → IsQuietSet cl (q ++ h) xs
stability cl [] h xs legal quiet = quiet
stability cl (e ∷ q) h xs legal quiet = stability-step cl e (q ++ h) xs legal (stability cl q h xs legal.1 quiet)

-- a quiescent actor stays quiescent
pub quiescent-stays : (cl : Cluster) (q h : List Event) (a : Actor) → IsLegal cl (q ++ h) → IsQuiescent cl h a → IsQuiescent cl (q ++ h) a
quiescent-stays cl q h a legal quiescent = (quiescent.0, quiescent.1, stability cl q h quiescent.0 legal quiescent.2)
