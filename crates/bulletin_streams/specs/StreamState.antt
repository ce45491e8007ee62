-- What contracts see of the queues and streams of the nodes, and how the calls change them.
use Rattle.std.specs.Prelude.{◌≡◌, ◌≢◌, ◌++◌, ℕ, List, [], ◌∷◌, get_or}
use Rattle.history_model.specs.declared.records.Bulletin.{Bulletin}
use Rattle.history_model.specs.declared.records.Bulletin.TheVariants as bulletins
use Rattle.history_model.specs.declared.records.Delta.{Delta}
use Rattle.history_model.specs.declared.records.Entry.{Entry}
use Rattle.history_model.specs.Tells.{IsDeltaOf}

-- what one node keeps: the entries that wait for its next publish, and its bulletins, each in their order; and for how many
-- more of each there is room
pub record StreamState : Type 0 where
  pub entries : List Entry
  pub bulletins : List Bulletin
  pub entry_room : ℕ
  pub bulletin_room : ℕ

-- what stands at no place
abbrev pub blank : StreamState
blank = record { entries = []; bulletins = []; entry_room = 0; bulletin_room = 0 }

-- what node n keeps
abbrev pub stream_at : List StreamState → ℕ → StreamState
stream_at streams n = get_or streams n blank

-- the node keeps the same entries and bulletins
abbrev pub IsAlike : StreamState → StreamState → Type 0
IsAlike old new = (new.entries ≡ old.entries) × (new.bulletins ≡ old.bulletins)

-- each node does
abbrev pub AreAlike : List StreamState → List StreamState → Type 0
AreAlike old new = (n : ℕ) → IsAlike (stream_at old n) (stream_at new n)

-- the entry came last into the queue
pub record Queues (old new : StreamState) (e : Entry) : Type 0 where
  pub entries : new.entries ≡ old.entries ++ e ∷ []
  pub bulletins : new.bulletins ≡ old.bulletins

-- the last entry left the queue
pub record TakesBack (old new : StreamState) : Type 0 where
  pub entries : (es : List Entry) (e : Entry) → old.entries ≡ es ++ e ∷ [] → new.entries ≡ es
  pub bulletins : new.bulletins ≡ old.bulletins

-- the bulletin came last into the stream
pub record Appends (old new : StreamState) (b : Bulletin) : Type 0 where
  pub entries : new.entries ≡ old.entries
  pub bulletins : new.bulletins ≡ old.bulletins ++ b ∷ []

-- the queue was emptied, and the sum of its entries came last into the stream as a Delta of node n
pub record Publishes (n : ℕ) (old new : StreamState) : Type 0 where
  pub entries : new.entries ≡ []
  pub bulletins : (d : Delta) × IsDeltaOf n old.entries d × (new.bulletins ≡ old.bulletins ++ bulletins.Delta d ∷ [])

-- what node n keeps changed so, and the others keep what they kept
pub record ChangesAt (old new : List StreamState) (n : ℕ) (Change : StreamState → StreamState → Type 0) : Type 0 where
  pub changed : Change (stream_at old n) (stream_at new n)
  pub others : (m : ℕ) → m ≢ n → stream_at new m ≡ stream_at old m
