-- Names that are sorted, each kept once, and rows that count alike: how many different actors there are.
use Rattle.std.proofs.Common.{◌≡◌, ◌||◌, ◌+◌, ◌≤◌, suc, Bool, true, false, cond, List, [], ◌∷◌, ◌++◌, length, map, length-append, refl, sym, ◌∙◌, ap, arith}
use Rattle.std.proofs.lemmas.List.{length-map}
use Rattle.std.proofs.lemmas.List.Folds.{list_any-append}
use Rattle.std.proofs.lemmas.List.Sorted.{list_any-IsPermutation}
use Rattle.std.specs.Bool.{⊤}
use Rattle.std.specs.List.{dedup, dedup_from, list_any}
use Rattle.std.specs.List.Retain.{DedupsAll, DedupsFrom}
use Rattle.std.specs.List.Sorted.{IsPermutation, IsSorted}
use Rattle.crgc_ids.specs.Actor.{Actor, IsActorBelow, actor_cmp, is_actor_below, same_actor}
use Rattle.crgc_ids.specs.declared.rising.PairCount.{PairCount}
use Rattle.crgc_ids.proofs.ActorLaws.{IsActorBelow-apart, IsActorBelow-trans, same_actor-decides}
use Rattle.crgc_ids.proofs.KeyOrders.{actor_order}
use Rattle.crgc_ids.proofs.RisingLaws.{rising-same}
use Rattle.history_model.specs.Graph.{insert_actor, rising_actors}
use Rattle.history_model.specs.Ledgers.{CountAlike, CountFromOne, Ledger, ledger_counts, ledger_names, pair_names}
use Rattle.history_model.proofs.Basics.{same_actor-sym}
use Rattle.history_model.proofs.RisingActors.{among-decides, rising-among, rising_actors-rise, rising_actors-same}
use Rattle.history_model.proofs.TellsCounts.{alike-back}
use Rattle.history_model.proofs.TellsNames.{named-alike, rows-named}
use Rattle.row_sums.proofs.FoldLemmas.{Folds, IsReading, is_fold}
use Rattle.row_sums.proofs.RowLemmas.{actors-sorted}

-- ---- sorted names, each kept once

abbrev is_named : Actor → List Actor → Bool
is_named a names = list_any (same_actor a) names

-- a name that is that of the last one goes
abbrev Step : Unit {0} → Actor → Actor → Bool → Unit {0} → Actor → Actor → Type 0
Step s x k b t x' k' = (b ≡ same_actor x k) × (x' ≡ x) × (k' ≡ k)

kept-from : (k : Actor) (xs : List Actor) → DedupsFrom Step tt k xs (dedup_from same_actor k xs)
kept-from k [] = refl
kept-from k (x ∷ xs) =
    let Case : Bool → Type 0 = λ v. same_actor x k ≡ v → DedupsFrom Step tt k (x ∷ xs) (cond v (dedup_from same_actor k xs) (k ∷ dedup_from same_actor x xs)) in
    let case : Case (same_actor x k) = elim (same_actor x k) as Case [
      | true ↦ λ e. (true, tt, x, k, (sym e, refl, refl), kept-from k xs)
      | false ↦ λ e. (false, tt, x, k, (sym e, refl, refl), (dedup_from same_actor x xs, kept-from x xs, refl))
    ] in
    case refl

kept : (xs : List Actor) → DedupsAll Step tt xs (dedup same_actor xs)
kept [] = refl
kept (x ∷ xs) = kept-from x xs

folds : (s : Unit {0}) (x k : Actor) (b : Bool) (t : Unit {0}) (x' k' : Actor) → Step s x k b t x' k' → Folds same_actor (λ a. a) is_named (λ _. ⊤) x k b x' k'
folds s x k b t x' k' step = record {
  tells = step.0 ∙ same_actor-sym x k;
  passes = step.1;
  stays = step.2;
  leaves = λ _. step.2;
  fits = λ _ _ _. tt;
  reads = λ e xs _ a. (
      let one : k ≡ x = sym ((same_actor-decides x k).0 (sym step.0 ∙ e)) in
      ap (λ y. is_named a (y ∷ xs)) step.2 ∙ twice (same_actor a k) (is_named a xs) ∙ ap (λ y. is_named a (k ∷ y ∷ xs)) one
      );
}
  where
    twice : (v w : Bool) → (v || w) ≡ (v || (v || w))
    twice true w = refl
    twice false w = refl

-- so many different actors there are
pub count-different : (names sorted left : List Actor) → IsPermutation names sorted → IsSorted actor_cmp sorted → left ≡ dedup same_actor sorted → length left ≡ length (rising_actors names)
count-different names sorted left moved up is =
    let ys = dedup same_actor sorted in
    let reading : IsReading is_named (λ _. ⊤) = record { first = λ a x xs zs same. ap (λ v. same_actor a x || v) same; rest = λ _ _ _. tt } in
    let fold = is_fold IsActorBelow same_actor (λ a. a) actor_order is_named (λ _. ⊤) reading Step folds _ actors-sorted sorted ys tt tt up (kept sorted) in
    let same : (a : Actor) → is_named a ys ≡ is_named a names = λ a. fold.reads a ∙ sym (list_any-IsPermutation (same_actor a) names sorted moved) in
    let all = rising-same IsActorBelow IsActorBelow-apart IsActorBelow-trans ys (rising_actors names) fold.rise (rising_actors-rise names)
    (λ a h. (rising-among a names).1 ((among-decides names a).0 (sym (same a) ∙ (among-decides ys a).1 h)))
    (λ a h. (among-decides ys a).0 (same a ∙ (among-decides names a).1 ((rising-among a names).0 h))) in
    ap length (is ∙ all)

-- ---- owners apart from targets

-- the owners of the pairs, and then their targets
abbrev ends_apart : List PairCount → List Actor
ends_apart rows = map (λ r. r.owner) rows ++ map (λ r. r.target) rows

-- the rows' names, the owners of each section apart from its targets
abbrev pub names_apart : Ledger → List Actor
names_apart l = map (λ r. r.actor) l.states ++ (map (λ r. r.actor) l.sent ++ (ends_apart l.created ++ ends_apart l.released))

swapped : (v w o t : Bool) → ((v || o) || (w || t)) ≡ (v || (w || (o || t)))
swapped true w o t = refl
swapped false true true t = refl
swapped false false true t = refl
swapped false w false t = refl

-- they name the same actors
pairs-named : (a : Actor) (rows : List PairCount) → (is_named a (map (λ r. r.owner) rows) || is_named a (map (λ r. r.target) rows)) ≡ is_named a (pair_names rows)
pairs-named a [] = refl
pairs-named a (r ∷ rows) =
    swapped (same_actor a r.owner) (same_actor a r.target) (is_named a (map (λ r. r.owner) rows)) (is_named a (map (λ r. r.target) rows))
    ∙ ap (λ v. same_actor a r.owner || (same_actor a r.target || v)) (pairs-named a rows)

names-named : (a : Actor) (l : Ledger) → is_named a (names_apart l) ≡ is_named a (ledger_names l)
names-named a l =
    let created = pairs-named a l.created in
    let released = pairs-named a l.released in
    simp (list_any-append, created, released)

pub names_apart-same : (l : Ledger) → rising_actors (names_apart l) ≡ rising_actors (ledger_names l)
names_apart-same l =
    rising_actors-same (names_apart l) (ledger_names l)
    (λ a h. (among-decides (ledger_names l) a).0 (sym (names-named a l) ∙ (among-decides (names_apart l) a).1 h))
    (λ a h. (among-decides (names_apart l) a).0 (names-named a l ∙ (among-decides (ledger_names l) a).1 h))

-- ---- how many names there are

-- a name more is one more at most
inserted-length : (a : Actor) (bs : List Actor) → length (insert_actor a bs) ≤ suc (length bs)
inserted-length a [] = omega arith
inserted-length a (b ∷ bs) =
    let later = inserted-length a bs in
    let Fits : List Actor → Type 0 = λ l. length l ≤ suc (suc (length bs)) in
    let apart : Fits (cond (is_actor_below a b) (a ∷ b ∷ bs) (b ∷ insert_actor a bs)) = elim (is_actor_below a b) as (λ v. Fits (cond v (a ∷ b ∷ bs) (b ∷ insert_actor a bs))) [ true ↦ omega arith | false ↦ omega arith ] in
    elim (same_actor a b) as (λ v. Fits (cond v (b ∷ bs) (cond (is_actor_below a b) (a ∷ b ∷ bs) (b ∷ insert_actor a bs)))) [ true ↦ omega arith | false ↦ apart ]

-- there are no more different actors than names
pub different-bound : (names : List Actor) → length (rising_actors names) ≤ length names
different-bound [] = omega arith
different-bound (a ∷ names) =
    let later = different-bound names in
    let here = inserted-length a (rising_actors names) in
    omega arith

-- a pair has two names
pub pairs-length : (rows : List PairCount) → length (pair_names rows) ≡ length rows + length rows
pairs-length [] = refl
pairs-length (r ∷ rows) = let later = pairs-length rows in omega arith

-- so many names the rows of a ledger have
pub names-length : (l : Ledger) → length (ledger_names l) ≡ (length l.states + length l.sent) + ((length l.created + length l.released) + (length l.created + length l.released))
names-length l =
    simp (length-append, length-map)
    (let created = pairs-length l.created in let released = pairs-length l.released in omega arith)

-- ---- rows that count alike

-- they name the same actors, where none counts 0
pub rows-name_same : (l m : Ledger) → CountFromOne l → CountFromOne m → CountAlike (ledger_counts l) (ledger_counts m) → rising_actors (ledger_names l) ≡ rising_actors (ledger_names m)
rows-name_same l m stand stand' alike =
    rising_actors-same (ledger_names l) (ledger_names m)
    (λ a h. (rows-named a m stand').1 (named-alike (ledger_counts l) (ledger_counts m) alike a ((rows-named a l stand).0 h)))
    (λ a h. (rows-named a l stand).1 (named-alike (ledger_counts m) (ledger_counts l) (alike-back (ledger_counts l) (ledger_counts m) alike) a ((rows-named a m stand').0 h)))
