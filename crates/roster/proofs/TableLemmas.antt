-- What a change of one node's actors is in the table.
use Rattle.std.proofs.Common.{◌≡◌, ◌≢◌, ◌+◌, ◌<◌, ◌==◌, ◌&&◌, ℕ, true, false, cond, List, Option, get_or, length, set, length-set, refl, sym, ◌∙◌, ap, subst, inl, inr, arith}
use Rattle.std.proofs.lemmas.Bool.{and_from, and_parts, cases_eq, cases_lt, cond-false, cond-true, eq-eqb, ne_eqb}
use Rattle.std.proofs.lemmas.List.{get_or_default, get_or_past, get_or-set_other, get_or-set_same}
use Rattle.crgc_ids.specs.Actor.{Actor}
use Rattle.crgc_ids.proofs.ActorLaws.{same_parts}
use Rattle.actor_states.specs.State.{Begets, IsAlike, IsChild, IsSeed, State}
use Rattle.node_actors.specs.Node.{AreAlike, Bears, ChangesIn, IsNextDue, NodeState, Spawns, blank_node, is_due_in, next_actor, state_in}
use Rattle.roster.specs.Keeping.{AreNumbered}
use Rattle.roster.specs.Table.{Changes, Crashes, IsAsBefore, IsBirth, IsNextFlush, KeepsTable, Seeds, SpawnsFrom, Table, births_in, next_on, node_in, state_at, up_in}
use Rattle.roster.proofs.HeldSteps.{weigh}

-- the node of an actor that was born is one of the table
pub here-below : (r : Table) (a : Actor) → a.serial < births_in r a.node → a.node < length r.nodes
here-below r a born =
    elim (cases_lt a.node (length r.nodes)) [
      | inl below ↦ below
      | inr past ↦ (let none = ap (λ (n : NodeState). length n.actors) (get_or_past r.nodes a.node (blank_node a.node) past) in absurd (omega arith))
    ]

-- what stands at a place of the table is the node there
pub node-found : (version : ℕ) (nodes : List NodeState) (r : Table) (i n : ℕ) (found : NodeState) → record { version = version; nodes = nodes } ≡ r → i ≡ n → n < length r.nodes → found ≡ get_or nodes i found → found ≡ node_in r n
node-found version nodes r i n found view e below here =
    let long = ap (λ (t : Table). length t.nodes) view in
    let within : i < length nodes = omega arith in
    here ∙ get_or_default nodes i found (blank_node n) within ∙ ap (λ k. get_or nodes k (blank_node n)) e ∙ ap (λ t. node_in t n) view

-- ---- one node changed

-- a child was born on node n to the parent
abbrev IsSpawnAt : Table → Table → ℕ → Actor → Type 0
IsSpawnAt r after n parent =
    IsBirth r after n × IsChild (state_at after (next_on r n)) (next_on r n) parent (r.version == 2)
    × Begets (state_at r parent) (state_at after parent) (next_on r n) parent (r.version == 2)
    × ((b : Actor) → b ≢ next_on r n → b ≢ parent → state_at after b ≡ state_at r b)

module _ (version : ℕ) (nodes : List NodeState) (r : Table) (i n : ℕ) (old new : NodeState) (view : record { version = version; nodes = nodes } ≡ r) (e : i ≡ n) (below : n < length r.nodes) (here : old ≡ get_or nodes i old) where
  -- the table with this node at its place
  abbrev after : Table
  after = record { version = version; nodes = set nodes i new }

  found : old ≡ node_in r n
  found = node-found version nodes r i n old view e below here

  within : i < length nodes
  within = (let long = ap (λ (t : Table). length t.nodes) view in omega (arith, below))

  put : node_in after n ≡ new
  put = ap (λ k. get_or (set nodes i new) k (blank_node n)) (sym e) ∙ get_or-set_same nodes i new (blank_node n) within

  kept_elsewhere : (m : ℕ) → m ≢ n → node_in after m ≡ node_in r m
  kept_elsewhere m other = get_or-set_other nodes i m new (blank_node m) (λ same. other (same ∙ e)) ∙ ap (λ t. node_in t m) view

  same_count : length (set nodes i new) ≡ length r.nodes
  same_count = length-set nodes i new ∙ ap (λ (t : Table). length t.nodes) view

  -- what is equal at the node is equal at all
  everywhere : {X : Type 0} (of : NodeState → X) → of new ≡ of old → (m : ℕ) → of (node_in after m) ≡ of (node_in r m)
  everywhere of same m = elim (cases_eq m n) [
    | inl at ↦ subst (λ k. of (node_in after k) ≡ of (node_in r k)) (sym at) (ap of put ∙ same ∙ ap of found)
    | inr other ↦ ap of (kept_elsewhere m other)
  ]

  kept-table : new.up ≡ old.up → length new.actors ≡ length old.actors → KeepsTable r after
  kept-table up count = record {
    version = ap (λ (t : Table). t.version) view;
    count = same_count;
    up = everywhere (λ m. m.up) up;
    births = everywhere (λ m. length m.actors) count;
  }

  -- the states of the node's actors, and of the others
  state-here : (b : Actor) → b.node ≡ n → (state_at after b ≡ state_in new b.serial) × (state_at r b ≡ state_in old b.serial)
  state-here b at = (ap (λ k. state_in (node_in after k) b.serial) at ∙ ap (λ m. state_in m b.serial) put, ap (λ k. state_in (node_in r k) b.serial) at ∙ ap (λ m. state_in m b.serial) (sym found))

  state-there : (b : Actor) → b.node ≢ n → state_at after b ≡ state_at r b
  state-there b other = ap (λ m. state_in m b.serial) (kept_elsewhere b.node other)

  -- what is so of all actors of the node is so of all
  lift-others : (a : Actor) → a.node ≡ n → ((s : ℕ) → s ≢ a.serial → state_in new s ≡ state_in old s) → (b : Actor) → b ≢ a → state_at after b ≡ state_at r b
  lift-others a at others b apart = elim (cases_eq b.node n) [
    | inl same ↦ (let both = state-here b same in both.0 ∙ others b.serial (λ s. apart (same_parts b a (same ∙ sym at) s)) ∙ sym both.1)
    | inr other ↦ state-there b other
  ]

  pub lift-changes : (a : Actor) (Change : State → State → Type 0) → a.node ≡ n → ChangesIn old new a.serial Change → Changes r after a Change
  lift-changes a Change at changes =
      let both = state-here a at in
      record {
        kept = kept-table changes.node.1 changes.node.2;
        changed = subst (λ s. Change s (state_at after a)) (sym both.1) (subst (Change (state_in old a.serial)) (sym both.0) changes.changed);
        others = lift-others a at changes.others;
      }

  pub lift-alike : AreAlike old new → IsAsBefore r after
  lift-alike alike = (
    kept-table alike.0.1 alike.0.2,
    λ b. elim (cases_eq b.node n) [
      | inl same ↦ (let both = state-here b same in subst (λ s. IsAlike s (state_at after b)) (sym both.1) (subst (IsAlike (state_in old b.serial)) (sym both.0) (alike.1 b.serial)))
      | inr other ↦ subst (IsAlike (state_at r b)) (sym (state-there b other)) (refl, λ t. refl)
    ],
  )

  -- one actor more on the node
  lift-birth : new.up ≡ old.up → length new.actors ≡ length old.actors + 1 → IsBirth r after n
  lift-birth up count = record {
    version = ap (λ (t : Table). t.version) view;
    count = same_count;
    up = everywhere (λ m. m.up) up;
    births = λ m. elim (cases_eq m n) [
      | inl at ↦ subst (λ k. births_in after k ≡ births_in r k + weigh (n == k)) (sym at)
          (ap (λ (x : NodeState). length x.actors) put ∙ count ∙ ap (λ (x : NodeState). length x.actors + 1) found ∙ sym (ap (λ v. births_in r n + weigh v) (eq-eqb n n refl)))
      | inr other ↦ (
          let none = ap weigh (ne_eqb n m (λ same. other (sym same))) in
          let same = ap (λ (x : NodeState). length x.actors) (kept_elsewhere m other) in
          omega arith
          )
    ];
  }

  next-same : old.number ≡ n → next_actor old ≡ next_on r n
  next-same number = same_parts (next_actor old) (next_on r n) number (ap (λ (x : NodeState). length x.actors) found)

  pub lift-seeds : old.number ≡ n → Bears old new (λ s. IsSeed s (next_actor old)) → Seeds r after n
  lift-seeds number bears =
      let next = next-same number in
      let both = state-here (next_actor old) number in
      record {
        birth = lift-birth bears.node.1 bears.count;
        newborn = subst (λ a. IsSeed (state_at after a) a) next (subst (λ s. IsSeed s (next_actor old)) (sym both.0) bears.newborn);
        others = subst (λ a. (b : Actor) → b ≢ a → state_at after b ≡ state_at r b) next (lift-others (next_actor old) number bears.others);
      }

  pub lift-crash : new ≡ record old { up = false } → Crashes r after n
  lift-crash down = record {
    version = ap (λ (t : Table). t.version) view;
    count = same_count;
    up = λ m. elim (cases_eq m n) [
      | inl at ↦ subst (λ k. up_in after k ≡ cond (n == k) false (up_in r k)) (sym at)
          (ap (λ (x : NodeState). x.up) (put ∙ down) ∙ sym (cond-true (n == n) false (up_in r n) (eq-eqb n n refl)))
      | inr other ↦ ap (λ (x : NodeState). x.up) (kept_elsewhere m other) ∙ sym (cond-false (n == m) false (up_in r m) (ne_eqb n m (λ same. other (sym same))))
    ];
    births = everywhere (λ m. length m.actors) (ap (λ (x : NodeState). length x.actors) down);
    states = λ b. elim (cases_eq b.node n) [
      | inl same ↦ (let both = state-here b same in both.0 ∙ ap (λ m. state_in m b.serial) down ∙ sym both.1)
      | inr other ↦ state-there b other
    ];
  }

  -- a child on the node
  pub lift-child : (parent : Actor) → old.number ≡ n → parent.node ≡ n → Spawns old new parent (r.version == 2) → IsSpawnAt r after n parent
  lift-child parent number at spawns =
      let next = next-same number in
      let child = state-here (next_actor old) number in
      let own = state-here parent at in
      let v = r.version == 2 in (
        lift-birth spawns.node.1 spawns.count,
        subst (λ a. IsChild (state_at after a) a parent v) next (subst (λ s. IsChild s (next_actor old) parent v) (sym child.0) spawns.child),
        subst (λ a. Begets (state_at r parent) (state_at after parent) a parent v) next
            (subst (λ s. Begets s (state_at after parent) (next_actor old) parent v) (sym own.1) (subst (λ s. Begets (state_in old parent.serial) s (next_actor old) parent v) (sym own.0) spawns.parent_state)),
        λ b no_child no_parent. elim (cases_eq b.node n) [
          | inl same ↦ (
              let both = state-here b same in
              both.0 ∙ spawns.others b.serial (λ s. no_child (same_parts b (next_actor old) (same ∙ sym number) s ∙ next)) (λ s. no_parent (same_parts b parent (same ∙ sym at) s)) ∙ sym both.1
              )
          | inr other ↦ state-there b other
        ],
      )

pub lift-spawns : (version : ℕ) (nodes : List NodeState) (r : Table) (i : ℕ) (parent : Actor) (old new : NodeState) → record { version = version; nodes = nodes } ≡ r → i ≡ parent.node → parent.node < length r.nodes → old ≡ get_or nodes i old
    → old.number ≡ parent.node
    → Spawns old new parent (r.version == 2)
    → SpawnsFrom r (record { version = version; nodes = set nodes i new }) parent
lift-spawns version nodes r i parent old new view e below here number spawns =
    let lifted = lift-child version nodes r i parent.node old new view e below here parent number refl spawns in
    record { birth = lifted.0; child = lifted.1; parent_state = lifted.2; others = lifted.3 }

-- ---- numbers

-- what stands at a place has its number
pub number-found : (nodes : List NodeState) (i n : ℕ) (old : NodeState) → AreNumbered nodes → i ≡ n → i < length nodes → old ≡ get_or nodes i old → old.number ≡ n
number-found nodes i n old kept e within here = ap (λ (m : NodeState). m.number) (here ∙ get_or_default nodes i old (blank_node i) within) ∙ kept.numbers i ∙ e

-- and another state of the node keeps it
pub numbered-set : (nodes : List NodeState) (i : ℕ) (old new : NodeState) → AreNumbered nodes → i < length nodes → old ≡ get_or nodes i old → new.number ≡ old.number → AreNumbered (set nodes i new)
numbered-set nodes i old new kept within here same = record {
  few = (let few = kept.few in let long = length-set nodes i new in omega arith);
  numbers = λ n. elim (cases_eq n i) [
    | inl at ↦ subst (λ k. (get_or (set nodes i new) k (blank_node k)).number ≡ k) (sym at)
        (ap (λ (m : NodeState). m.number) (get_or-set_same nodes i new (blank_node i) within) ∙ same ∙ number-found nodes i i old kept refl within here)
    | inr other ↦ ap (λ (m : NodeState). m.number) (get_or-set_other nodes i n new (blank_node n) other) ∙ kept.numbers n
  ];
}

-- ---- flushes

-- the next one of the node may be flushed, where the node is up
pub next-flush : (r : Table) (n : ℕ) (row : NodeState) (least : Option Actor) (first : Actor) → row ≡ node_in r n → (node_in r n).number ≡ n → row.up ≡ true → IsNextDue row least first → IsNextFlush r n least first
next-flush r n row least first found number up next =
    let numbered : row.number ≡ n = ap (λ (m : NodeState). m.number) found ∙ number in
    let at = next.here ∙ numbered in
    let may : (up_in r n && is_due_in (node_in r n) first) ≡ true =
    subst (λ m. (m.up && is_due_in m first) ≡ true) found (and_from row.up (is_due_in row first) up next.due) in
    record {
      here = at;
      may = subst (λ k. (up_in r k && is_due_in (node_in r k) first) ≡ true) (sym at) may;
      above = next.above;
      lowest = λ a on may_too over. (
          let due = (and_parts (up_in r n) (is_due_in (node_in r n) a) (subst (λ k. (up_in r k && is_due_in (node_in r k) a) ≡ true) on may_too)).1 in
          next.lowest a (on ∙ sym numbered) (subst (λ m. is_due_in m a ≡ true) (sym found) due) over
          );
    }
