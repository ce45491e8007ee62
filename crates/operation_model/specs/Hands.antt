-- What a pass that has claimed a node was given for its collector, and the verdict that follows from it.
use Rattle.std.specs.Prelude.{ℕ, ◌≡◌, ◌==◌, ◌&&◌, ◌||◌, Bool, false, if◌then◌else◌, List, [], ◌∷◌, length, slice_get, Option, Some, None}
use Rattle.std.specs.List.{list_any}
use Rattle.crgc_ids.specs.Actor.{Actor, same_actor}
use Rattle.history_model.specs.declared.events.Event.{Event}
use Rattle.history_model.specs.declared.records.Bulletin.{Bulletin}
use Rattle.history_model.specs.declared.records.Stop.{Stop}
use Rattle.history_model.specs.declared.records.Verdict.{Verdict}
use Rattle.history_model.specs.Cluster.{Cluster}
use Rattle.history_model.specs.Compaction.{IsCompactedVerdict, IsFoldOf, nobody}
use Rattle.history_model.specs.Folds.{Fold}
use Rattle.history_model.specs.Legal.{IsLegal}
use Rattle.history_model.specs.Streams.{Notice}
use Rattle.history_model.specs.Tells.{Tells}
use Rattle.wire_grammar.specs.Spellable.{IsSpellable}
use Rattle.wire_grammar.specs.Spelling.{spelled}
use Rattle.operation_model.specs.Deeds.{Deed, claimed, handed, swept, deed_of}
use Rattle.operation_model.specs.Turns.{Calls}

-- the pass has claimed the node
abbrev pub is_claim_of : ℕ → Deed → Bool
is_claim_of n (claimed m) = m == n
is_claim_of n d = false

abbrev pub has_claimed : ℕ → Calls → Bool
has_claimed n calls = list_any (λ e. is_claim_of n (deed_of e.op e.reply)) calls

-- the bytes that the pass was given for node n as bulletin k of the origin; None where it was given none
abbrev pub given_by : ℕ → ℕ → ℕ → Deed → Option (List ℕ) → Option (List ℕ)
given_by n o k (handed m x j bytes) before = if (m == n) && ((x == o) && (j == k)) then Some bytes else before
given_by n o k d before = before

abbrev pub given : ℕ → ℕ → ℕ → Calls → Option (List ℕ)
given n o k [] = None
given n o k (e ∷ earlier) = given_by n o k (deed_of e.op e.reply) (given n o k earlier)

-- whether it was given any for node n since its last sweep of n, and since its claim of n
abbrev pub given_since_by : ℕ → Deed → Bool → Bool
given_since_by n (handed m o k bytes) before = (m == n) || before
given_since_by n (swept v) before = if v.node == n then false else before
given_since_by n (claimed m) before = if m == n then false else before
given_since_by n d before = before

abbrev pub given_since : ℕ → Calls → Bool
given_since n [] = false
given_since n (e ∷ earlier) = given_since_by n (deed_of e.op e.reply) (given_since n earlier)

-- the bytes spell the origin's bulletin that tells the notice
abbrev pub Spells : ℕ → List ℕ → Notice → Type 0
Spells o bytes m = (b : Bulletin) × IsSpellable b × (bytes ≡ spelled b) × Tells o b m

-- the fold is what the pass was given for node n, as far as it can be folded: of each origin the longest run of numbers from 0
pub record IsGivenFold (n : ℕ) (calls : Calls) (f : Fold) : Type 0 where
  pub told : (o k : ℕ) (m : Notice) → slice_get (f o) k ≡ Some m
      → (bytes : List ℕ) × (given n o k calls ≡ Some bytes) × Spells o bytes m
  pub ends : (o : ℕ) → given n o (length (f o)) calls ≡ None

-- whether a sweep of the pass has stopped the actor
abbrev pub is_stop_of : Actor → Stop → Bool
is_stop_of a x = same_actor x.actor a

abbrev pub stops_actor : Actor → Deed → Bool
stops_actor a (swept v) = (v.node == a.node) && list_any (is_stop_of a) v.stops
stops_actor a d = false

abbrev pub own_stopped : Calls → Actor → Bool
own_stopped calls a = list_any (λ e. stops_actor a (deed_of e.op e.reply)) calls

-- the verdict is the sweep of what the pass was given for its node, less whom the pass has stopped there: that of each fold of a
-- legal history which is what it was given
abbrev pub IsOwnVerdict : Cluster → Calls → Verdict → Type 0
IsOwnVerdict cl calls v =
    (h : List Event) (f : Fold) → IsLegal cl h → IsFoldOf cl h f → IsGivenFold v.node calls f
    → IsCompactedVerdict cl v.node nobody (own_stopped calls) f v
