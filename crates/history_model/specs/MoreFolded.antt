-- One bulletin more: what a fold, its counts and its lost nodes become when it is folded.
use Rattle.std.specs.Prelude.{◌≡◌, ◌+◌, ◌==◌, ◌||◌, ◌⊎◌, ◌↔◌, if◌then◌else◌, ℕ, Bool, false, List, [], ◌∷◌, ◌++◌, Some, length, slice_get}
use Rattle.std.specs.Option.{option_or}
use Rattle.crgc_ids.specs.Actor.{Actor}
use Rattle.crgc_ids.specs.Members.{IsAmong, IsPart}
use Rattle.history_model.specs.declared.records.Bulletin.{Bulletin}
use Rattle.history_model.specs.declared.records.Bulletin.TheVariants as bulletins
use Rattle.history_model.specs.declared.events.Event.{Event}
use Rattle.history_model.specs.Cluster.{Cluster}
use Rattle.history_model.specs.Tally.{tally}
use Rattle.history_model.specs.Facts.{Fact, is_created, is_received, is_released, is_sent_to}
use Rattle.history_model.specs.Streams.{Notice, delta, window_of, final_of, stream}
use Rattle.history_model.specs.Folds.{Fold, final_links, fold_to, links_into}
use Rattle.history_model.specs.Graph.{admitted_count, carried_count, created_count, received_count, released_count, told_count}
use Rattle.history_model.specs.Graph.{admitted_facts, delta_facts, known_actors, last_flags, own_flags}
use Rattle.history_model.specs.Compaction.{IsFoldOf}
use Rattle.history_model.specs.Ledgers.{Ledger, delta_ledger, ledger_names, no_rows, window_ledger}
use Rattle.history_model.specs.Tells.{bulletin_ledger, fact_names, facts_in}

-- the fold with one bulletin more of node o
abbrev pub with_notice : ℕ → Notice → Fold → Fold
with_notice o n f = λ k. if k == o then f k ++ n ∷ [] else f k

-- the cut with one bulletin more of node o
abbrev pub raised : ℕ → (ℕ → ℕ) → ℕ → ℕ
raised o c = λ k. if k == o then c k + 1 else c k

-- what the bulletin tells of its own node's actors: the facts of a Delta
abbrev pub own_part : Notice → List Fact
own_part (delta facts) = facts
own_part _ = []

-- what it tells of a link from a lost node: the facts of a window or Final
abbrev pub link_part : (ℕ → Bool) → Notice → List Fact
link_part lost (window_of s facts) = if lost s then facts else []
link_part lost (final_of s facts) = if lost s then facts else []
link_part lost _ = []

-- the same parts of a bulletin's rows
abbrev pub own_rows : Bulletin → Ledger
own_rows (bulletins.Delta d) = delta_ledger d
own_rows _ = no_rows

abbrev pub link_rows : (ℕ → Bool) → Bulletin → Ledger
link_rows lost (bulletins.Window w) = if lost w.from then window_ledger w else no_rows
link_rows lost (bulletins.Final w) = if lost w.from then window_ledger w else no_rows
link_rows lost _ = no_rows

-- what node s told
abbrev pub told_by : ℕ → Fold → List Fact
told_by s f = delta_facts (f s)

-- what others admitted from node s
abbrev pub admitted_from : Cluster → ℕ → Fold → List Fact
admitted_from cl s f = admitted_facts cl (λ k. k == s) f

-- the counts of the fold with the bulletin are those before, and what it tells: as a Delta unless its node is lost, or as a
-- window or Final of a link from a lost node
pub record CountsNotice (cl : Cluster) (lost : ℕ → Bool) (o : ℕ) (n : Notice) (f : Fold) : Type 0 where
  pub received : (a : Actor) → received_count cl (with_notice o n f) a ≡ received_count cl f a + tally (is_received a) (own_part n)
  pub released : (b a : Actor) → released_count cl (with_notice o n f) b a ≡ released_count cl f b a + tally (is_released b a) (own_part n)
  pub told : (a : Actor)
      → told_count cl lost (with_notice o n f) a ≡ told_count cl lost f a + (if lost o then 0 else tally (is_sent_to a) (own_part n))
  pub created : (b a : Actor)
      → created_count cl lost (with_notice o n f) b a ≡ created_count cl lost f b a + (if lost o then 0 else tally (is_created b a) (own_part n))
  pub admitted : (a : Actor)
      → admitted_count cl lost (with_notice o n f) a ≡ admitted_count cl lost f a + tally (is_sent_to a) (link_part lost n)
  pub carried : (b a : Actor)
      → carried_count cl lost (with_notice o n f) b a ≡ carried_count cl lost f b a + tally (is_created b a) (link_part lost n)

-- known actors, own flags and folded Finals are those before and those that the bulletin tells; the later flags stand
pub record KnowsNotice (cl : Cluster) (o : ℕ) (n : Notice) (f : Fold) : Type 0 where
  pub known : (a : Actor)
      → IsAmong a (known_actors cl (with_notice o n f)) ↔ (IsAmong a (known_actors cl f) ⊎ IsAmong a (fact_names (facts_in n)))
  pub flags : (a : Actor)
      → own_flags (with_notice o n f) a ≡ (if a.node == o then option_or (last_flags a (own_part n)) (own_flags f a) else own_flags f a)
  pub finals : (s d : ℕ)
      → IsAmong (s, d) (final_links cl (with_notice o n f)) ↔ (IsAmong (s, d) (final_links cl f) ⊎ IsAmong (s, d) (links_into o (n ∷ [])))

-- with a bulletin that tells the notice, the known actors are those before and those that its rows name
abbrev pub KnowsRows : Cluster → ℕ → Bulletin → Notice → Fold → Type 0
KnowsRows cl o b n f =
    (a : Actor) → IsAmong a (known_actors cl (with_notice o n f)) ↔ (IsAmong a (known_actors cl f) ⊎ IsAmong a (ledger_names (bulletin_ledger b)))

-- the notice is the first one of node o's stream that is not folded
abbrev pub IsNext : Cluster → List Event → ℕ → Notice → Fold → Type 0
IsNext cl h o n f = slice_get (stream cl o h) (length (f o)) ≡ Some n

-- with the notice at o, what is folded is of the history's streams
abbrev pub IsFoldWith : Cluster → List Event → ℕ → Notice → Fold → Type 0
IsFoldWith cl h o n f = IsFoldOf cl h (with_notice o n f)

-- where the cut at o rises, it is the one more that is folded
abbrev pub FoldsNext : Cluster → List Event → (ℕ → ℕ) → ℕ → Notice → Type 0
FoldsNext cl h c o n = fold_to cl (raised o c) h ≡ with_notice o n (fold_to cl c h)

-- the lost nodes are those before, and node s, which was none of them
pub record IsLostToo (s : ℕ) (lost more : ℕ → Bool) : Type 0 where
  pub outside : lost s ≡ false
  pub grown : (k : ℕ) → more k ≡ ((k == s) || lost k)

-- the links are those whose Final is folded, in whatever order
abbrev pub AreLinksOf : Cluster → Fold → List (ℕ × ℕ) → Type 0
AreLinksOf cl f links = IsPart links (final_links cl f) × IsPart (final_links cl f) links

-- what node s told counted with the first lost nodes, and with the second what others admitted from it counts in its place
pub record MovesCounts (cl : Cluster) (s : ℕ) (lost more : ℕ → Bool) (f : Fold) : Type 0 where
  pub told : (a : Actor) → told_count cl lost f a ≡ told_count cl more f a + tally (is_sent_to a) (told_by s f)
  pub created : (b a : Actor) → created_count cl lost f b a ≡ created_count cl more f b a + tally (is_created b a) (told_by s f)
  pub admitted : (a : Actor) → admitted_count cl more f a ≡ admitted_count cl lost f a + tally (is_sent_to a) (admitted_from cl s f)
  pub carried : (b a : Actor) → carried_count cl more f b a ≡ carried_count cl lost f b a + tally (is_created b a) (admitted_from cl s f)
