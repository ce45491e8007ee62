-- What contracts see of the receiving end of a link.
use Rattle.std.specs.Prelude.{◌≡◌, ℕ, Bool, List, [], length}
use Rattle.crgc_ids.specs.Actor.{Actor}
use Rattle.history_model.specs.Graph.{rising_actors}
use Rattle.history_model.specs.declared.records.Window.{Window}
use Rattle.row_sums.specs.Totals.{actor_total, pair_total}
use Rattle.ingress_gateway.specs.Pending.{carried_count, message_count, named_count, names_in, pairs, recipients}
use Rattle.ingress_gateway.specs.Numbered.{Numbered, has_number}

-- the two nodes of the link, whether it is closed, which numbers were admitted, and what was admitted since the last
-- window: the recipients of the messages, and the pairs of a recipient and a reference carried to it
pub record Gate : Type 0 where
  pub at : ℕ
  pub from : ℕ
  pub is_closed : Bool
  pub numbers : Numbered
  pub messages : List Actor
  pub carried : List (Actor × Actor)

abbrev pub is_admitted : Gate → ℕ → Bool
is_admitted g k = has_number g.numbers k

-- the gate after what was admitted went into a window
abbrev pub emptied : Gate → Gate
emptied g = record g { messages = []; carried = [] }

-- the actors that the rows of a window name
abbrev pub window_names : Window → List Actor
window_names w = names_in (recipients w.messages) (pairs w.carried)

-- the window of the link that counts what was admitted: its rows rise, so there is one. It names as many different actors
pub record IsWindowOf (g : Gate) (w : Window) : Type 0 where
  pub nodes : (w.at ≡ g.at) × (w.from ≡ g.from)
  pub messages : (a : Actor) → actor_total a w.messages ≡ message_count a g.messages
  pub carried : (b a : Actor) → pair_total b a w.carried ≡ carried_count b a g.carried
  pub named : length (rising_actors (window_names w)) ≡ named_count g.messages g.carried
