-- What stays so of a table of edges.
use Rattle.std.proofs.Common.{◌≡◌, ◌≢◌, ◌+◌, ◌-◌, ◌<◌, ◌^◌, ℕ, zero, suc, Bool, true, false, cond, List, [], ◌∷◌, ◌++◌, Option, Some, None, length, get_or, set, map, take, refl, sym, ◌∙◌, ap, subst, arith}
use Rattle.std.proofs.ByRecursion.{All-push}
use Rattle.std.proofs.Math.Seq.{map-set_same}
use Rattle.std.proofs.lemmas.Bool.{false≢true}
use Rattle.std.proofs.lemmas.List.{length-append, length-set, length-take}
use Rattle.std.specs.List.{AllByRecursion, IsDistinct}
use Rattle.std.specs.Option.{IsSome, option_to_list}
use Rattle.crgc_ids.specs.Actor.{Actor}
use Rattle.crgc_ids.proofs.MembersLaws.{all-implied}
use Rattle.edge_table.specs.Ends.{HaveSameLists, PlaceEnds, no_ends, numbers_of}
use Rattle.edge_table.specs.Table.{IsTable, ends_from, ends_of, ends_to, same_pair}
use Rattle.edge_table.specs.declared.table.Edge.{Edge}
use Rattle.edge_table.proofs.EndsLemmas.{ends-same}
use Rattle.edge_table.proofs.PlaceLemmas.{edge-popped, edge-pushed, numbers-none, place-added, place-removed, side-stays}

abbrev pub owner_of : Edge → ℕ
owner_of e = e.owner

abbrev pub target_of : Edge → ℕ
target_of e = e.target

abbrev pub from_of : PlaceEnds → List (ℕ × ℕ)
from_of e = e.from

abbrev pub to_of : PlaceEnds → List (ℕ × ℕ)
to_of e = e.to

-- both ends of an edge are places
abbrev IsInside : ℕ → Edge → Type 0
IsInside n e = (e.owner < n) × (e.target < n)

-- no place and no edge
pub table-none : (pairs : List (Actor × Actor)) (edges : List Edge) (places : List PlaceEnds) → pairs ≡ [] → edges ≡ [] → places ≡ [] → IsTable pairs edges places
unfolding IsDistinct
table-none pairs edges places no_pair no_edge no_place =
    let none : IsTable [] [] [] = record { long = refl; few_edges = omega arith; few_places = omega arith; distinct = tt; ends = tt; from = λ p. refl; to = λ p. refl } in
    subst (λ ps. IsTable ps edges places) (sym no_pair) (subst (λ es. IsTable [] es places) (sym no_edge) (subst (IsTable [] []) (sym no_place) none))

-- a place without edges is added
pub table-place_added : (pairs : List (Actor × Actor)) (edges : List Edge) (places more : List PlaceEnds) (new : PlaceEnds) → IsTable pairs edges places → new.from ≡ [] → new.to ≡ [] → length places + 1 < 2 ^ 32 → more ≡ places ++ new ∷ [] → IsTable pairs edges more
table-place_added pairs edges places more new table no_from no_to few is =
    let long : length more ≡ length places + 1 = ap length is ∙ length-append places (new ∷ []) in
    record {
      long = table.long;
      few_edges = table.few_edges;
      few_places = omega arith;
      distinct = table.distinct;
      ends = all-implied (IsInside (length places)) (IsInside (length more)) (λ e h. (omega arith, omega arith)) edges table.ends;
      from = λ p. ap (λ ps. from_of (get_or ps p no_ends)) is ∙ place-added from_of refl places new p no_from ∙ table.from p;
      to = λ p. ap (λ ps. to_of (get_or ps p no_ends)) is ∙ place-added to_of refl places new p no_to ∙ table.to p;
    }

-- the last place, which has no edges, is taken away
pub table-place_removed : (pairs : List (Actor × Actor)) (edges : List Edge) (places fewer : List PlaceEnds) (last : PlaceEnds) → IsTable pairs edges places → places ≡ fewer ++ last ∷ [] → numbers_of (length places - 1) 0 (map owner_of edges) ≡ [] → numbers_of (length places - 1) 0 (map target_of edges) ≡ [] → IsTable pairs edges fewer
table-place_removed pairs edges places fewer last table is no_owner no_target =
    let long : length places ≡ length fewer + 1 = ap length is ∙ length-append fewer (last ∷ []) in
    let at : length places - 1 ≡ length fewer = omega arith in
    let owners : numbers_of (length fewer) 0 (map owner_of edges) ≡ [] = ap (λ n. numbers_of n 0 (map owner_of edges)) (sym at) ∙ no_owner in
    let targets : numbers_of (length fewer) 0 (map target_of edges) ≡ [] = ap (λ n. numbers_of n 0 (map target_of edges)) (sym at) ∙ no_target in
    record {
      long = table.long;
      few_edges = table.few_edges;
      few_places = (let few = table.few_places in omega arith);
      distinct = table.distinct;
      ends = inside edges table.ends (numbers-none (length fewer) 0 (map owner_of edges) owners) (numbers-none (length fewer) 0 (map target_of edges) targets) long;
      from = λ p. place-removed from_of refl (ends_from edges) fewer last p (λ q. ap (λ ps. from_of (get_or ps q no_ends)) (sym is) ∙ table.from q) (ap (ends_of target_of edges) owners);
      to = λ p. place-removed to_of refl (ends_to edges) fewer last p (λ q. ap (λ ps. to_of (get_or ps q no_ends)) (sym is) ∙ table.to q) (ap (ends_of owner_of edges) targets);
    }
  where
    inside : (edges : List Edge) → AllByRecursion (IsInside (length places)) edges → AllByRecursion (λ x. x ≢ length fewer) (map owner_of edges) → AllByRecursion (λ x. x ≢ length fewer) (map target_of edges) → length places ≡ length fewer + 1 → AllByRecursion (IsInside (length fewer)) edges
    inside [] all owners targets long = tt
    inside (e ∷ edges) all owners targets long =
        let here = all.0 in
        let no_owner = owners.0 in
        let no_target = targets.0 in
        ((omega arith, omega arith), inside edges all.1 owners.1 targets.1 long)

-- an edge keeps its ends
pub table-edge_changed : (pairs : List (Actor × Actor)) (edges : List Edge) (places : List PlaceEnds) (i : ℕ) (old new : Edge) → IsTable pairs edges places → i < length edges → old ≡ get_or edges i old → new.owner ≡ old.owner → new.target ≡ old.target → IsTable pairs (set edges i new) places
table-edge_changed pairs edges places i old new table inside read same_owner same_target =
    record {
      long = length-set edges i new ∙ table.long;
      few_edges = subst (λ n. n < 2 ^ 32) (sym (length-set edges i new)) table.few_edges;
      few_places = table.few_places;
      distinct = table.distinct;
      ends = kept edges i table.ends inside read;
      from = λ p. table.from p ∙ sym (ends-same owner_of target_of refl edges (set edges i new) refl (map-set_same owner_of edges i new old (same_owner ∙ ap owner_of read)) (map-set_same target_of edges i new old (same_target ∙ ap target_of read)) p);
      to = λ p. table.to p ∙ sym (ends-same target_of owner_of refl edges (set edges i new) refl (map-set_same target_of edges i new old (same_target ∙ ap target_of read)) (map-set_same owner_of edges i new old (same_owner ∙ ap owner_of read)) p);
    }
  where
    kept : (edges : List Edge) (i : ℕ) → AllByRecursion (IsInside (length places)) edges → i < length edges → old ≡ get_or edges i old → AllByRecursion (IsInside (length places)) (set edges i new)
    kept [] i all inside read = absurd (omega arith)
    kept (e ∷ edges) zero all inside read =
        let here = subst (IsInside (length places)) (sym read) all.0 in
        ((subst (λ n. n < length places) (sym same_owner) here.0, subst (λ n. n < length places) (sym same_target) here.1), all.1)
    kept (e ∷ edges) (suc i) all inside read = (all.0, kept edges i all.1 (omega arith) read)

-- an edge is added, and listed at both ends
pub table-edge_added : (pairs more : List (Actor × Actor)) (edges : List Edge) (places room : List PlaceEnds) (e : Edge) (n : ℕ) (v w v' w' : PlaceEnds) → IsTable pairs edges places → HaveSameLists places room → IsInside (length places) e → n ≡ length edges → length edges + 1 < 2 ^ 32 → IsDistinct same_pair more → length more ≡ length pairs + 1 → w ≡ get_or room e.owner w → v.from ≡ w.from ++ (e.target, n) ∷ [] → v.to ≡ w.to → w' ≡ get_or (set room e.owner v) e.target w' → v'.to ≡ w'.to ++ (e.owner, n) ∷ [] → v'.from ≡ w'.from → IsTable more (edges ++ e ∷ []) (set (set room e.owner v) e.target v')
table-edge_added pairs more edges places room e n v w v' w' table same inside last few distinct one read pushed_from same_to read' pushed_to same_from =
    let middle = set room e.owner v in
    let long_room = same.long in
    let long_middle = length-set room e.owner v in
    let long_new = length-set middle e.target v' in
    let owner_inside : e.owner < length room = (let h = inside.0 in omega arith) in
    let target_inside : e.target < length room = (let h = inside.1 in omega arith) in
    let target_middle : e.target < length middle = omega arith in
    let long_edges = length-append edges (e ∷ []) in
    record {
      long = (let long = table.long in omega arith);
      few_edges = omega arith;
      few_places = (let few_places = table.few_places in omega arith);
      distinct = distinct;
      ends = All-push (IsInside (length (set middle e.target v'))) edges e
          (all-implied (IsInside (length places)) (IsInside (length (set middle e.target v'))) (λ x h. (omega arith, omega arith)) edges table.ends) (omega arith, omega arith);
      from = λ p.
          side-stays from_of middle e.target v' w' p target_middle read' same_from
          ∙ edge-pushed from_of owner_of target_of refl room edges e e.owner n v w (λ q. same.from q ∙ table.from q) owner_inside refl last read pushed_from p;
      to = edge-pushed to_of target_of owner_of refl middle edges e e.target n v' w'
          (λ q. side-stays to_of room e.owner v w q owner_inside read same_to ∙ same.to q ∙ table.to q) target_middle refl last read' pushed_to;
    }

-- the last edge is taken away, at both ends too
pub table-edge_removed : (pairs fewer : List (Actor × Actor)) (edges all : List Edge) (places : List PlaceEnds) (e : Edge) (v w v' w' : PlaceEnds) → IsTable pairs all places → all ≡ edges ++ e ∷ [] → IsDistinct same_pair fewer → length fewer + 1 ≡ length pairs → w ≡ get_or places e.owner w → v.from ≡ take (length w.from - 1) w.from → v.to ≡ w.to → w' ≡ get_or (set places e.owner v) e.target w' → v'.to ≡ take (length w'.to - 1) w'.to → v'.from ≡ w'.from → IsTable fewer edges (set (set places e.owner v) e.target v')
table-edge_removed pairs fewer edges all places e v w v' w' table is distinct one read popped_from same_to read' popped_to same_from =
    let middle = set places e.owner v in
    let long_middle = length-set places e.owner v in
    let long_new = length-set middle e.target v' in
    let long_all : length all ≡ length edges + 1 = ap length is ∙ length-append edges (e ∷ []) in
    let ends : AllByRecursion (IsInside (length places)) (edges ++ e ∷ []) = subst (AllByRecursion (IsInside (length places))) is table.ends in
    let parts = split (IsInside (length places)) edges e ends in
    let here = parts.1 in
    let target_middle : e.target < length middle = (let h = here.1 in omega arith) in
    record {
      long = (let long = table.long in omega arith);
      few_edges = (let few = table.few_edges in omega arith);
      few_places = (let few_places = table.few_places in omega arith);
      distinct = distinct;
      ends = all-implied (IsInside (length places)) (IsInside (length (set middle e.target v'))) (λ x h. (omega arith, omega arith)) edges parts.0;
      from = λ p.
          side-stays from_of middle e.target v' w' p target_middle read' same_from
          ∙ edge-popped from_of owner_of target_of refl places edges e e.owner v w (λ q. table.from q ∙ ap (λ es. ends_from es q) is) here.0 refl read popped_from p;
      to = edge-popped to_of target_of owner_of refl middle edges e e.target v' w'
          (λ q. side-stays to_of places e.owner v w q here.0 read same_to ∙ table.to q ∙ ap (λ es. ends_to es q) is) target_middle refl read' popped_to;
    }
  where
    split : {X : Type 0} (P : X → Type 0) (xs : List X) (x : X) → AllByRecursion P (xs ++ x ∷ []) → AllByRecursion P xs × P x
    split P [] x h = (tt, h.0)
    split P (y ∷ xs) x h = (let later = split P xs x h.1 in ((h.0, later.0), later.1))

-- ---- as the calls of vectors and sets say it

pub table-place_pushed : (pairs : List (Actor × Actor)) (edges : List Edge) (places more : List PlaceEnds) (new : PlaceEnds) (ok : Bool) → IsTable pairs edges places → new.from ≡ [] → new.to ≡ [] → length places + 1 < 2 ^ 32 → more ≡ cond ok (places ++ new ∷ []) places → IsTable pairs edges more
table-place_pushed pairs edges places more new true table no_from no_to few is = table-place_added pairs edges places more new table no_from no_to few is
table-place_pushed pairs edges places more new false table no_from no_to few is = subst (IsTable pairs edges) (sym is) table

pub table-place_popped : (pairs : List (Actor × Actor)) (edges : List Edge) (places fewer : List PlaceEnds) (last : Option PlaceEnds) → IsTable pairs edges places → IsSome last → places ≡ fewer ++ option_to_list last → numbers_of (length places - 1) 0 (map owner_of edges) ≡ [] → numbers_of (length places - 1) 0 (map target_of edges) ≡ [] → IsTable pairs edges fewer
table-place_popped pairs edges places fewer None table some is no_owner no_target = absurd (false≢true some)
table-place_popped pairs edges places fewer (Some last) table some is no_owner no_target = table-place_removed pairs edges places fewer last table is no_owner no_target

-- a list of pairs from which the last was taken has one less
pub one_less : (pairs fewer : List (Actor × Actor)) (edges : List Edge) (places : List PlaceEnds) → IsTable pairs edges places → 0 < length edges → fewer ≡ take (length pairs - 1) pairs → length fewer + 1 ≡ length pairs
one_less pairs fewer edges places table some is =
    let long = table.long in
    let first = ap length is ∙ length-take (length pairs - 1) pairs in
    omega arith
