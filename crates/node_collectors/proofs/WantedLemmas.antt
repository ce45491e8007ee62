-- The first number that a node's collector misses is the first that was not handed to the node.
use Rattle.std.proofs.Common.{◌≡◌, ◌<◌, ◌≤◌, ◌||◌, ℕ, Bool, false, List, Option, None, nat_lt, sym, ◌∙◌, ap, inl, inr, arith}
use Rattle.std.specs.Option.{is_some}
use Rattle.std.proofs.lemmas.Bool.{cases_lt, lt-ltb, or_left, or_right}
use Rattle.std.proofs.lemmas.Bool.Decides.{nat_tests}
use Rattle.history_model.specs.declared.events.Event.{Event}
use Rattle.history_model.specs.Cluster.{Cluster}
use Rattle.gossip_core.specs.Gossip.{IsFirstMissing, kept_at}
use Rattle.collector.specs.Collected.{Collected, IsCollectorAt, cut_of}
use Rattle.node_collectors.specs.Wanted.{IsFirstUnhanded}

none-false : {X : Type 0} (o : Option X) → o ≡ None → is_some o ≡ false
none-false o none = ap is_some none

or-none : (x y : Bool) → x ≡ false → y ≡ false → (x || y) ≡ false
or-none x y first second = ap (λ b. b || y) first ∙ second

pub first-unhanded : (cl : Cluster) (h : List Event) (m o number : ℕ) (c : Collected) → IsCollectorAt cl h m c → o < cl.nodes → IsFirstMissing c.order o number → IsFirstUnhanded m o h number
first-unhanded cl h m o number c at inside first =
    let from : cut_of c o ≤ number = first.from in
    let unfolded : nat_lt number (cut_of c o) ≡ false = grind (arith, nat_tests, from) in
    record {
      missing = sym (at.handed o number inside) ∙ or-none (nat_lt number (cut_of c o)) (is_some (kept_at c.order o number)) unfolded (none-false (kept_at c.order o number) first.missing);
      handed = λ k under. sym (at.handed o k inside)
          ∙ elim (cases_lt k (cut_of c o)) [
            | inl folded ↦ or_left (nat_lt k (cut_of c o)) (is_some (kept_at c.order o k)) (lt-ltb k (cut_of c o) folded)
            | inr beyond ↦ or_right (nat_lt k (cut_of c o)) (is_some (kept_at c.order o k)) (first.kept k beyond under)
          ];
    }
