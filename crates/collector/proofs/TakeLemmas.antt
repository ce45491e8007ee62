-- What bytes that are taken make of a collector.
use Rattle.std.proofs.Common.{◌≡◌, ◌≢◌, ◌+◌, ◌*◌, ◌<◌, ◌≤◌, ◌||◌, ℕ, zero, suc, true, false, cond, List, [], ◌∷◌, Ok, Err, None, length, slice_index, replicate, take, sum, refl, sym, ap, subst, ◌∙◌, arith}
use Rattle.std.proofs.lemmas.Bool.{false≢true}
use Rattle.std.proofs.lemmas.List.Sums.{sum_by-cons}
use Rattle.std.specs.Map.{lookup}
use Rattle.std.specs.Option.{is_some}
use Rattle.history_model.specs.declared.records.Bulletin.{Bulletin}
use Rattle.history_model.specs.Cluster.{Cluster}
use Rattle.history_model.specs.Tells.{Tells}
use Rattle.gossip_core.specs.Gossip.{Gossip, kept_at, same_key}
use Rattle.shadow_graph.specs.Graph.{Graph}
use Rattle.shadow_graph.specs.Stands.{IsGraphOf}
use Rattle.shadow_table.specs.Shadows.{no_shadows}
use Rattle.wire_grammar.specs.Reading.{reading}
use Rattle.wire_grammar.specs.Spellable.{IsSpellable}
use Rattle.wire_grammar.specs.Spelling.{spelled}
use Rattle.graph_wire.specs.declared.fault.ReadFault.{ReadFault}
use Rattle.graph_wire.specs.declared.fault.ReadFault.TheVariants as reads
use Rattle.graph_wire.specs.Gives.{Fails}
use Rattle.collector.specs.declared.read.TakeFault.TheVariants as faults
use Rattle.collector.specs.Collected.{Collected, IsNew, cut_of, folded_of, has_number}
use Rattle.collector.specs.Kept.{IsKept}
use Rattle.collector.specs.Refusals.{IsRefusal, fault_of, is_foreign, judged, read_as}
use Rattle.collector.specs.Taking.{Admits, Folds, IsTaken, Takes}
use Rattle.collector.proofs.FoldLemmas.{folds-more, folds-none, goes_on-more}
use Rattle.collector.proofs.KeepLemmas.{keeps-fed, keeps-going_on, kept-numbers, kept-there}
use Rattle.collector.proofs.NumberLemmas.{is-below, is-from, or-left}

-- ---- reading

module _ (nodes origin : ℕ) (bytes : List ℕ) (x : Bulletin × ℕ) (read : reading bytes ≡ Ok x) where
  pub read_trailing : x.1 < length bytes → read_as nodes origin bytes ≡ Err (faults.Trailing x.1)
  unfolding read_as
  read_trailing less =
      ap (judged nodes origin (length bytes)) read
      ∙ ap (λ t. cond t (Err (faults.Trailing x.1)) (cond (is_foreign nodes origin x.0) (Err faults.Foreign) (Ok x.0))) (is-below x.1 (length bytes) less)

  pub read_foreign : length bytes ≤ x.1 → is_foreign nodes origin x.0 ≡ true → read_as nodes origin bytes ≡ Err faults.Foreign
  unfolding read_as
  read_foreign all foreign =
      ap (judged nodes origin (length bytes)) read
      ∙ (λ i. cond (is-from x.1 (length bytes) all i) (Err (faults.Trailing x.1)) (cond (foreign i) (Err faults.Foreign) (Ok x.0)))

  pub read_accepted : length bytes ≤ x.1 → is_foreign nodes origin x.0 ≡ false → read_as nodes origin bytes ≡ Ok x.0
  unfolding read_as
  read_accepted all own =
      ap (judged nodes origin (length bytes)) read
      ∙ (λ i. cond (is-from x.1 (length bytes) all i) (Err (faults.Trailing x.1)) (cond (own i) (Err faults.Foreign) (Ok x.0)))

-- where reading fails, the bytes are refused for it
pub read_fault : (nodes origin : ℕ) (bytes : List ℕ) (e : ReadFault) → Fails e (reading bytes) → IsRefusal (fault_of e) (read_as nodes origin bytes)
unfolding read_as
read_fault nodes origin bytes (reads.Wire f) fails = ap (judged nodes origin (length bytes)) fails
read_fault nodes origin bytes reads.NoMemory fails = tt

-- ---- a collector that is new

pub no-count : (o : ℕ) → slice_index (replicate 16 0) o ≡ 0
no-count o = none 16 o
  where
    none : (n o : ℕ) → slice_index (replicate n 0) o ≡ 0
    none zero o = refl
    none (suc n) zero = refl
    none (suc n) (suc o) = none n o

pub new-is : (node nodes : ℕ) (order : Gossip) (graph : Graph) → order.nodes ≡ nodes → order.cut ≡ replicate 16 0 → order.kept ≡ []
    → graph.shadows ≡ no_shadows → ((cl : Cluster) → cl.nodes ≡ nodes → IsGraphOf cl (λ o. []) graph)
    → IsNew node nodes (record { node = node; order = order; graph = graph; stopped = [] })
new-is node nodes order graph of_nodes cut kept shadows stands =
    let c : Collected = record { node = node; order = order; graph = graph; stopped = [] } in
    let none : (o : ℕ) → cut_of c o ≡ 0 = λ o. ap (λ xs. slice_index xs o) cut ∙ no-count o in
    record {
      node = refl;
      order = λ i. record { nodes = of_nodes i; cut = cut i; kept = kept i };
      stopped = refl;
      shadows = shadows;
      fed = λ cl streams here. record {
        nodes = of_nodes ∙ sym here;
        graph = (
            let each : (λ o. []) ≡ folded_of c streams = (λ i o. take (sym (none o) i) (streams o)) in
            subst (λ f. IsGraphOf cl f graph) each (stands cl here)
            );
        long = λ o. (let is = none o in omega arith);
        beyond = λ o far. none o;
        waiting = λ o k b some. absurd (false≢true (ap is_some (sym (ap (lookup (same_key (o, k))) kept) ∙ some)));
      };
    }

-- ---- taking

-- nothing is taken
pub takes-none : (o k : ℕ) (bytes : List ℕ) (c : Collected) → Takes o k bytes c c
takes-none o k bytes c = record {
  goes_on = (folds-none c).goes_on;
  had = λ x y is. is;
  has = λ x y is. or-left (has_number c x y) (same_key (o, k) (x, y)) is;
  fed = λ cl streams given fed. fed;
}

-- a bulletin is taken, and some that waited are folded
pub takes-one : (o k : ℕ) (bytes : List ℕ) (b : Bulletin) (old mid new : Collected)
    → ((c : Bulletin) → IsSpellable c → bytes ≡ spelled c → c ≡ b) → Admits old mid o k b → Folds mid new → Takes o k bytes old new
takes-one o k bytes b old mid new only (waiting, keeps, first) rest =
    let folds = folds-more waiting mid new first rest in
    let numbers : (x y : ℕ) → has_number new x y ≡ (has_number old x y || same_key (o, k) (x, y)) = λ x y.
    folds.numbers x y ∙ kept-numbers old waiting o k b keeps x y in
    record {
      goes_on = goes_on-more old waiting new (keeps-going_on old waiting o k b keeps) folds.goes_on;
      had = λ x y is. numbers x y ∙ or-left (has_number old x y) (same_key (o, k) (x, y)) is;
      has = λ x y is. sym (numbers x y) ∙ is;
      fed = λ cl streams given fed. folds.fed cl streams (
          keeps-fed old waiting o k b keeps cl streams
          (λ fresh. (let is = given fresh in (is.0, is.1, subst (λ d. Tells o d is.0) (only is.2.0 is.2.1 is.2.2) is.2.3)))
          fed
          );
    }

-- its number is there then
pub takes-there : (o k : ℕ) (b : Bulletin) (old mid new : Collected) → Admits old mid o k b → Folds mid new → has_number new o k ≡ true
takes-there o k b old mid new (waiting, keeps, first) rest =
    rest.numbers o k ∙ first.numbers o k ∙ kept-there old waiting o k b keeps

-- a number that is there, of a bulletin that is not folded, waits above the cut
pub waits-above : (c : Collected) (o k : ℕ) → IsTaken o k c → cut_of c o ≤ k → cut_of c o < k
waits-above c o k taken from =
    let apart : cut_of c o ≢ k = (λ same.
    let none : kept_at c.order o k ≡ None = ap (kept_at c.order o) (sym same) ∙ taken.settled o in
    false≢true (sym (λ i. is-from k (cut_of c o) from i || is_some (none i)) ∙ taken.there)) in
    omega arith

-- so many counts, none above so much, have no larger sum
sum-small : (m n : ℕ) (xs : List ℕ) → length xs ≡ n → ((k : ℕ) → slice_index xs k ≤ m) → sum xs ≤ n * m
sum-small m n [] len small = (let none : sum [] ≡ 0 = refl in omega arith)
sum-small m zero (x ∷ xs) len small = absurd (omega arith)
sum-small m (suc n) (x ∷ xs) len small =
    let rest : sum xs ≤ n * m = sum-small m n xs (omega arith) (λ k. small (suc k)) in
    let here : x ≤ m = small 0 in
    let is : sum (x ∷ xs) ≡ x + sum xs = sum_by-cons (λ y. y) x xs in
    omega arith

-- no more can be folded than so many
pub kept-sum : (c : Collected) → IsKept c → sum c.order.cut ≤ 16000000
kept-sum c kept = sum-small 1000000 16 c.order.cut kept.long kept.counts
