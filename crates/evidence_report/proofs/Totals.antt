-- Sums over the nodes of a cluster: of stops, and of births.
use Rattle.std.proofs.Common.{◌≡◌, ◌≢◌, ◌≤◌, ◌<◌, ◌+◌, ◌==◌, ℕ, cond, List, [], ◌∷◌, length, sum_by, refl, sym, ◌∙◌, ap, inl, inr, arith}
use Rattle.std.proofs.lemmas.Bool.{cases_lt, ltb-true, ne_eqb}
use Rattle.std.proofs.lemmas.List.Sums.{sum_by-le-sum_by}
use Rattle.crgc_ids.specs.Nodes.{nodes_below}
use Rattle.crgc_ids.proofs.MembersLaws.{IsAmong-from_range}
use Rattle.history_model.specs.declared.events.Event.{Event}
use Rattle.history_model.specs.declared.events.Event.TheVariants.{Seed, Spawn, Sweep}
use Rattle.history_model.specs.Cluster.{Cluster, births}
use Rattle.history_model.specs.Legal.{IsLegal}
use Rattle.history_model.specs.Sweeps.{stopped_by}
use Rattle.history_model.proofs.Basics.{eqb-refl, legal-kept}
use Rattle.history_model.proofs.LinksSums.{nodes-point, sum_by-none, sum_by-same}
use Rattle.journal_model.specs.Report.{stopped_on, stopped_total}
use Rattle.evidence_report.proofs.Stopping.{stopped-born}

-- a number that counts at one node counts nothing at others
counts-here : (m z : ℕ) → cond (m == m) z 0 ≡ z
counts-here m z = rw (eqb-refl m) refl

counts-elsewhere : (m x z : ℕ) → x ≢ m → cond (m == x) z 0 ≡ 0
counts-elsewhere m x z differ = rw (ne_eqb m x (λ e. differ (sym e))) refl

-- the stops are those of the nodes
pub stopped-summed : (cl : Cluster) (h : List Event) → IsLegal cl h → stopped_total cl h ≡ sum_by (λ n. stopped_on cl n h) (nodes_below cl.nodes)
stopped-summed cl [] legal = sym (sum_by-none (λ n. stopped_on cl n []) (nodes_below cl.nodes) (λ n among. refl))
stopped-summed cl (Sweep m ∷ p) legal =
    let z = length (stopped_by cl m p) in
    let below : m < cl.nodes = ltb-true m cl.nodes (legal-kept cl (Sweep m) p legal).0 in
    ap (λ k. k + z) (stopped-summed cl p legal.1)
    ∙ sym (nodes-point (λ n. stopped_on cl n (Sweep m ∷ p)) (λ n. stopped_on cl n p) m z cl.nodes below
    (λ x differ. omega (arith, counts-elsewhere m x z differ)) (ap (λ k. stopped_on cl m p + k) (counts-here m z)))
stopped-summed cl (_ ∷ p) legal = stopped-summed cl p legal.1

-- no more are stopped than born
pub stopped-within : (cl : Cluster) (h : List Event) → IsLegal cl h → stopped_total cl h ≤ sum_by (λ n. births n h) (nodes_below cl.nodes)
stopped-within cl h legal =
    omega (arith, stopped-summed cl h legal, sum_by-le-sum_by (λ n. stopped_on cl n h) (λ n. births n h) (nodes_below cl.nodes) (λ n. stopped-born cl h n legal))

-- one more at one number is at most one more in a sum
one-more : (f g : ℕ → ℕ) (m k : ℕ) → ((x : ℕ) → x ≢ m → f x ≡ g x) → f m ≡ g m + 1 → sum_by f (nodes_below k) ≤ sum_by g (nodes_below k) + 1
one-more f g m k other here =
    elim (cases_lt m k) [
      | inl below ↦ omega (arith, nodes-point f g m 1 k below other here)
      | inr above ↦ (
          let same = sum_by-same f g (nodes_below k) (λ x among. other x (λ e. omega (arith, e, above, (IsAmong-from_range x 0 k among).1))) in
          omega (arith, same))
    ]

-- a birth on one node
one-birth : (m n k : ℕ) → n ≢ m → cond (m == n) (k + 1) k ≡ k
one-birth m n k differ = rw (ne_eqb m n (λ e. differ (sym e))) refl

-- no more are born than there are events
pub births-within : (h : List Event) (k : ℕ) → sum_by (λ n. births n h) (nodes_below k) ≤ length h
births-within [] k = omega (arith, sum_by-none (λ n. births n []) (nodes_below k) (λ n among. refl))
births-within (Seed m ∷ p) k =
    let more = one-more (λ n. births n (Seed m ∷ p)) (λ n. births n p) m k (λ n differ. one-birth m n (births n p) differ) (rw (eqb-refl m) refl) in
    omega (arith, more, births-within p k)
births-within (Spawn a ∷ p) k =
    let more = one-more (λ n. births n (Spawn a ∷ p)) (λ n. births n p) a.node k (λ n differ. one-birth a.node n (births n p) differ) (rw (eqb-refl a.node) refl) in
    omega (arith, more, births-within p k)
births-within (_ ∷ p) k = omega (arith, births-within p k)

-- and no more are stopped, on the first nodes
pub stops-within : (cl : Cluster) (h : List Event) (k : ℕ) → IsLegal cl h → sum_by (λ n. stopped_on cl n h) (nodes_below k) ≤ length h
stops-within cl h k legal =
    omega (arith, sum_by-le-sum_by (λ n. stopped_on cl n h) (λ n. births n h) (nodes_below k) (λ n. stopped-born cl h n legal), births-within h k)
