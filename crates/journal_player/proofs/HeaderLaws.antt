-- A header line is that of the cluster whose numbers are read from it.
use Rattle.std.proofs.Common.{◌≡◌, ◌≤◌, ℕ, List, MatchOption, Some, None, Option, refl, subst}
use Rattle.history_model.specs.Cluster.{Cluster}
use Rattle.journal_model.specs.Journals.{header_of}
use Rattle.journal_model.specs.Lines.{header_line}
use Rattle.event_lines.proofs.ClusterHeaders.{header_of-cluster, header_of-header}

abbrev of : ℕ → ℕ → Cluster
of nodes version = record { nodes = nodes; version = version }

-- no cluster has the header that none in range has
not-found : (line : List ℕ) → ((nodes version : ℕ) → 1 ≤ nodes → nodes ≤ 16 → 1 ≤ version → version ≤ 2 → header_line (of nodes version) ≡ line → ⊥) → (o : Option Cluster) → header_of line ≡ o → o ≡ None
not-found line none None is = refl
not-found line none (Some cl) is =
    let found = header_of-cluster line cl is in
    absurd (none cl.nodes cl.version found.0 found.1 found.2 found.3 found.4)

-- the numbers that were read are those of the cluster whose header the line is
pub header-read : (line : List ℕ) (r : Option (ℕ × ℕ)) → MatchOption r ((nodes version : ℕ) → 1 ≤ nodes → nodes ≤ 16 → 1 ≤ version → version ≤ 2 → header_line (record { nodes = nodes; version = version }) ≡ line → ⊥)
    (λ p. (1 ≤ p.0) × (p.0 ≤ 16) × (1 ≤ p.1) × (p.1 ≤ 2) × (header_line (record { nodes = p.0; version = p.1 }) ≡ line))
    → MatchOption r (header_of line ≡ None) (λ p. header_of line ≡ Some (record { nodes = p.0; version = p.1 }))
header-read line None none = not-found line none (header_of line) refl
header-read line (Some p) read =
    subst (λ l. header_of l ≡ Some (of p.0 p.1)) read.4 (header_of-header (of p.0 p.1) read.0 read.1 read.2 read.3)
