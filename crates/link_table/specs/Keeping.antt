-- How a link keeps what is on it.
use Rattle.std.specs.Prelude.{◌≡◌, ◌<◌, ◌≤◌, ℕ, false, true, not, [], None, Some}
use Rattle.ingress_gateway.specs.Gate.{is_admitted}
use Rattle.link_table.specs.declared.piles.Pile.{Pile}
use Rattle.link_table.specs.LinkState.{LinkState}
use Rattle.link_table.specs.Piled.{has_message, kept_count, pile_at}

-- only what was sent has a pile or was admitted; a pile has a copy, and its message until the number is admitted; a link that
-- is not open keeps nothing, and the gate of an open one is open
pub record IsKept (l : LinkState) : Type 0 where
  pub unsent : (k : ℕ) → l.sent ≤ k → (pile_at l.piles k ≡ None) × (is_admitted l.gate k ≡ false)
  pub piles : (k : ℕ) (p : Pile) → pile_at l.piles k ≡ Some p → (0 < p.copies) × (has_message p.message ≡ not (is_admitted l.gate k))
  pub count : kept_count l.piles ≤ l.sent
  pub shut : l.is_open ≡ false → l.piles ≡ []
  pub opened : l.is_open ≡ true → l.gate.is_closed ≡ false
