-- How a collector changes as it takes a bulletin: it is kept, and what is ready is folded.
use Rattle.std.specs.Prelude.{◌≡◌, ◌+◌, ◌<◌, ◌≤◌, ◌||◌, ℕ, true, false, Some, List, slice_get, sum}
use Rattle.crgc_ids.specs.Actor.{Actor}
use Rattle.history_model.specs.declared.records.Bulletin.{Bulletin}
use Rattle.history_model.specs.Cluster.{Cluster}
use Rattle.history_model.specs.Folds.{Fold}
use Rattle.history_model.specs.Streams.{Notice}
use Rattle.history_model.specs.Tells.{Tells}
use Rattle.gossip_core.specs.Gossip.{KeepsFirst, same_key}
use Rattle.shadow_graph.specs.Seen.{is_dropped}
use Rattle.shadow_table.specs.Shadows.{is_named}
use Rattle.wire_grammar.specs.Spellable.{IsSpellable}
use Rattle.wire_grammar.specs.Spelling.{spelled}
use Rattle.collector.specs.declared.collector.Taken.{Taken}
use Rattle.collector.specs.declared.collector.Taken.TheVariants as answers
use Rattle.collector.specs.declared.read.TakeFault.{TakeFault}
use Rattle.collector.specs.declared.read.TakeFault.TheVariants as faults
use Rattle.collector.specs.Collected.{Collected, IsFedBy, IsSettled, cut_of, has_number, node_count}

-- whose collector it is, how many nodes there are and whom it stopped and dropped stay; cuts only rise, and who was named stays so
pub record GoesOn (old new : Collected) : Type 0 where
  pub node : new.node ≡ old.node
  pub nodes : node_count new ≡ node_count old
  pub stopped : new.stopped ≡ old.stopped
  pub dropped : (a : Actor) → is_dropped new.graph a ≡ is_dropped old.graph a
  pub named : (a : Actor) → is_named old.graph.shadows.names a ≡ true → is_named new.graph.shadows.names a ≡ true
  pub rises : (o : ℕ) → cut_of old o ≤ cut_of new o

-- bulletins that waited are folded: those that are folded or wait are the same, and their streams too
pub record Folds (old new : Collected) : Type 0 where
  pub goes_on : GoesOn old new
  pub numbers : (o k : ℕ) → has_number new o k ≡ has_number old o k
  pub fed : (cl : Cluster) (streams : Fold) → IsFedBy cl streams old → IsFedBy cl streams new

-- the bulletin waits, unless one of its number waits or is folded
pub record Keeps (old new : Collected) (origin number : ℕ) (b : Bulletin) : Type 0 where
  pub node : new.node ≡ old.node
  pub stopped : new.stopped ≡ old.stopped
  pub graph : new.graph ≡ old.graph
  pub order : KeepsFirst old.order new.order origin number b

-- the bulletin is taken: it waits, unless one of its number waits or is folded, and then bulletins that wait may be folded
abbrev pub Admits : Collected → Collected → ℕ → ℕ → Bulletin → Type 0
Admits old new origin number b = (mid : Collected) × Keeps old mid origin number b × Folds mid new

-- the bytes spell a bulletin that tells the notice
abbrev pub SpellsNotice : ℕ → List ℕ → Notice → Type 0
SpellsNotice origin bytes n = (b : Bulletin) × IsSpellable b × (bytes ≡ spelled b) × Tells origin b n

-- the bytes are what the streams have under the number
abbrev pub IsOfStreams : Fold → ℕ → ℕ → List ℕ → Type 0
IsOfStreams streams origin number bytes = (n : Notice) × (slice_get (streams origin) number ≡ Some n) × SpellsNotice origin bytes n

-- the bytes are taken under the origin's number: where the collector was fed by some streams, and these have them there, unless
-- one of that number was taken before, it is fed by them still
pub record Takes (origin number : ℕ) (bytes : List ℕ) (old new : Collected) : Type 0 where
  pub goes_on : GoesOn old new
  pub had : (o k : ℕ) → has_number old o k ≡ true → has_number new o k ≡ true
  pub has : (o k : ℕ) → has_number new o k ≡ true → (has_number old o k || same_key (origin, number) (o, k)) ≡ true
  pub fed : (cl : Cluster) (streams : Fold) → (has_number old origin number ≡ false → IsOfStreams streams origin number bytes)
      → IsFedBy cl streams old → IsFedBy cl streams new

-- the bulletin of that number is there, and whatever can be folded is
pub record IsTaken (origin number : ℕ) (new : Collected) : Type 0 where
  pub there : has_number new origin number ≡ true
  pub settled : IsSettled new

-- the answer tells how many bulletins were folded; where none were, whether the number is above or below its origin's cut
abbrev pub IsAnswer : ℕ → ℕ → Collected → Collected → Taken → Type 0
IsAnswer origin number old new (answers.Folded n) = (0 < n) × (sum new.order.cut ≡ sum old.order.cut + n)
IsAnswer origin number old new answers.Waiting = (sum new.order.cut ≡ sum old.order.cut) × (cut_of new origin < number)
IsAnswer origin number old new answers.Old = (sum new.order.cut ≡ sum old.order.cut) × (number < cut_of new origin)

-- a refusal leaves all as before; want of memory need not
abbrev pub LeavesAsWas : TakeFault → Collected → Collected → Type 0
LeavesAsWas faults.NoMemory old new = Unit {0}
LeavesAsWas e old new = new ≡ old
