-- A new collector goes with a pass that has claimed its node and done no more.
use Rattle.std.proofs.Common.{◌≡◌, ◌==◌, ◌||◌, ℕ, true, false, [], ◌∷◌, None, refl, subst, sym}
use Rattle.crgc_ids.specs.Actor.{Actor}
use Rattle.history_model.specs.Cluster.{Cluster}
use Rattle.history_model.proofs.Basics.{eqb-refl}
use Rattle.turn_lock.specs.History.{entry}
use Rattle.operation_model.specs.declared.operations.Op.TheVariants as ops
use Rattle.operation_model.specs.declared.replies.Reply.TheVariants as replies
use Rattle.operation_model.specs.Hands.{given, has_claimed, own_stopped}
use Rattle.operation_model.specs.Turns.{Calls}
use Rattle.collector.specs.Collected.{Collected, IsNew as IsNewCollector}
use Rattle.collected_calls.specs.Collecting.{IsCollectorOf}

claims : (m : ℕ) → ((m == m) || false) ≡ true
claims m = rw (eqb-refl m) refl

module _
    (start : (cl : Cluster) (own : Calls) (m : ℕ) (c : Collected) → IsNewCollector m cl.nodes c → has_claimed m own ≡ true
    → ((o k : ℕ) → given m o k own ≡ None) → ((a : Actor) → a.node ≡ m → own_stopped own a ≡ false) → IsCollectorOf cl own c)
  where
    pub begun : (cl : Cluster) (own : Calls) (pass m nodes : ℕ) (c : Collected) → own ≡ entry pass (ops.Claim m) replies.Done ∷ [] → cl.nodes ≡ nodes
        → IsNewCollector m nodes c → IsCollectorOf cl own c
    begun cl own pass m nodes c is same new =
        subst (λ calls. IsCollectorOf cl calls c) (sym is)
        (start cl (entry pass (ops.Claim m) replies.Done ∷ []) m c (subst (λ n. IsNewCollector m n c) (sym same) new) (claims m) (λ o k. refl) (λ a at. refl))
