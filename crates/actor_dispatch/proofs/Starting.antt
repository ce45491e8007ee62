-- How turns begin.
use Rattle.std.proofs.Common.{◌≡◌, ℕ, ◌∷◌, Some, refl, sym, ◌∙◌, ap, subst, inl, inr}
use Rattle.std.proofs.lemmas.Bool.{true≢false}
use Rattle.crgc_ids.specs.Actor.{same_actor}
use Rattle.crgc_ids.specs.Members.{IsAmong}
use Rattle.turn_lock.specs.History.{entry}
use Rattle.history_model.proofs.Basics.{same_actor-refl}
use Rattle.operation_model.specs.declared.operations.Op.{Op}
use Rattle.operation_model.specs.declared.operations.Op.TheVariants as ops
use Rattle.operation_model.specs.declared.replies.Reply.{Reply}
use Rattle.operation_model.specs.declared.replies.Reply.TheVariants as replies
use Rattle.operation_model.specs.Deeds.{Begun, turn_reply}
use Rattle.operation_model.specs.Fits.{Fits}
use Rattle.operation_model.specs.Openings.{Opening}
use Rattle.operation_model.specs.Turns.{Calls, fresh, open_turn}
use Rattle.actor_dispatch.specs.declared.beginning.Beginning.{Beginning}
use Rattle.actor_dispatch.specs.declared.beginning.Tried.TheVariants as tries
use Rattle.actor_dispatch.specs.Begun.{BeginsTurn, begun_of, tried_by}
use Rattle.actor_dispatch.specs.Turning.{LeavesNone, Loses, turns_left}
use Rattle.actor_dispatch.proofs.Leaving.{reply-part}

pub begins-fits : (o : Opening) (h : Calls) (op : Op) (p : ℕ) → BeginsTurn op → Fits o h op p
begins-fits o h ops.Wake p begins = tt
begins-fits o h (ops.Take a) p begins = tt
begins-fits o h op p begins = absurd begins

-- a reply that tells of a turn
pub begun-reply : (r : Reply) (b : Beginning) → tries.Begun b ≡ tried_by r → r ≡ turn_reply (begun_of b)
begun-reply (replies.Turn a n list locals refs root) b is =
    ap (λ (x : Beginning). turn_reply (begun_of x)) (let same : record { actor = a; behaviour = n; list = list; locals = locals; refs = refs; root = root } ≡ b = cc in same)
begun-reply r b is = absurd (cc)

-- the turn is open from then on, and it is one more that is left
pub begins-open : (p : ℕ) (op : Op) (b : Begun) (own : Calls) → BeginsTurn op → (open_turn (entry p op (turn_reply b) ∷ own) ≡ Some (fresh b)) × (turns_left (entry p op (turn_reply b) ∷ own) ≡ b.actor ∷ turns_left own)
begins-open p ops.Wake b own begins = (refl, refl)
begins-open p (ops.Take a) b own begins = (refl, refl)
begins-open p op b own begins = absurd begins

-- once it is lost or has ended none is left
pub begun-leaves : (p : ℕ) (op : Op) (b : Begun) (own new : Calls) → BeginsTurn op → Loses b.actor (entry p op (turn_reply b) ∷ own) new → LeavesNone own new
begun-leaves p op b own new begins loses = λ a is.
    let kept = loses a is in
    elim (subst (IsAmong a) (begins-open p op b own begins).1 kept.0) [
      | inl same ↦ absurd (true≢false (sym (same_actor-refl b.actor) ∙ ap (same_actor b.actor) (sym same) ∙ kept.1))
      | inr later ↦ later
    ]

-- no other reply begins one
pub tried-leaves : (p : ℕ) (op : Op) (r : Reply) (own : Calls) → BeginsTurn op → ((b : Beginning) → tries.Begun b ≡ tried_by r → ⊥) → LeavesNone own (entry p op r ∷ own)
tried-leaves p ops.Wake (replies.Turn a n list locals refs root) own begins none = absurd (none _ refl)
tried-leaves p (ops.Take x) (replies.Turn a n list locals refs root) own begins none = absurd (none _ refl)
tried-leaves p ops.Wake r own begins none = reply-part r (turns_left own)
tried-leaves p (ops.Take x) r own begins none = reply-part r (turns_left own)
tried-leaves p op r own begins none = absurd begins
