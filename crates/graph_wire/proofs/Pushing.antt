-- The order in which the names of a bulletin are taken changes neither their table nor what is true of all of them.
use Rattle.std.proofs.Common.{◌≡◌, List, [], ◌∷◌, ◌++◌, Result, Ok, Err, inl, inr}
use Rattle.std.specs.Prelude.{OnOk}
use Rattle.std.specs.List.{AllByRecursion}
use Rattle.crgc_ids.specs.Actor.{Actor, IsActor}
use Rattle.crgc_ids.specs.Members.{IsPart}
use Rattle.crgc_ids.specs.declared.rising.PairCount.{PairCount}
use Rattle.crgc_ids.proofs.MembersLaws.{all-member, IsAmong-append_cases, IsAmong-append_left, IsAmong-append_right, all-from_members}
use Rattle.history_model.proofs.Lists.{IsAmong-flat_map, IsAmong-from_flat_map}
use Rattle.history_model.specs.declared.records.Delta.{Delta}
use Rattle.history_model.specs.declared.records.Window.{Window}
use Rattle.wire_grammar.specs.Named.{count_names, delta_names, pair_names, state_names, table_of, window_names}
use Rattle.wire_grammar.proofs.Tables.{table-same, table_of-has, table_of-only, table_of-rises}
use Rattle.graph_wire.specs.Pushed.{owner_names, pushed_delta, pushed_pairs, pushed_window, target_names}

-- the same members
abbrev pub SameMembers : List Actor → List Actor → Type 0
SameMembers xs ys = IsPart xs ys × IsPart ys xs

part-both : (xs ys us vs : List Actor) → IsPart xs ys → IsPart us vs → IsPart (xs ++ us) (ys ++ vs)
part-both xs ys us vs h k x m =
    elim (IsAmong-append_cases x xs us m) [ inl l ↦ IsAmong-append_left x ys vs (h x l) | inr r ↦ IsAmong-append_right x ys vs (k x r) ]

members-both : (xs ys us vs : List Actor) → SameMembers xs ys → SameMembers us vs → SameMembers (xs ++ us) (ys ++ vs)
members-both xs ys us vs h k = (part-both xs ys us vs h.0 k.0, part-both ys xs vs us h.1 k.1)

members-itself : (xs : List Actor) → SameMembers xs xs
members-itself xs = (λ x m. m, λ x m. m)

members-pairs : (rows : List PairCount) → SameMembers (pushed_pairs rows) (pair_names rows)
members-pairs rows =
    let owner : PairCount → List Actor = λ r. r.owner ∷ [] in
    let target : PairCount → List Actor = λ r. r.target ∷ [] in
    let ends : PairCount → List Actor = λ r. r.owner ∷ r.target ∷ [] in (
      λ x m. elim (IsAmong-append_cases x (owner_names rows) (target_names rows) m) [
        | inl l ↦ (let row = IsAmong-from_flat_map owner x rows l in
            elim row.2 [ inl e ↦ IsAmong-flat_map ends x row.0 rows row.1 (inl e) | inr n ↦ absurd n ])
        | inr l ↦ (let row = IsAmong-from_flat_map target x rows l in
            elim row.2 [ inl e ↦ IsAmong-flat_map ends x row.0 rows row.1 (inr (inl e)) | inr n ↦ absurd n ])
      ],
      λ x m.
          let row = IsAmong-from_flat_map ends x rows m in
          elim row.2 [
            | inl e ↦ IsAmong-append_left x (owner_names rows) (target_names rows) (IsAmong-flat_map owner x row.0 rows row.1 (inl e))
            | inr later ↦ elim later [
              | inl e ↦ IsAmong-append_right x (owner_names rows) (target_names rows) (IsAmong-flat_map target x row.0 rows row.1 (inl e))
              | inr n ↦ absurd n
            ]
          ],
    )

pub members-delta : (d : Delta) → SameMembers (pushed_delta d) (delta_names d)
members-delta d =
    members-both (state_names d.states) (state_names d.states) (count_names d.sent ++ (pushed_pairs d.created ++ pushed_pairs d.released)) (count_names d.sent ++ (pair_names d.created ++ pair_names d.released))
    (members-itself (state_names d.states))
    (members-both (count_names d.sent) (count_names d.sent) (pushed_pairs d.created ++ pushed_pairs d.released) (pair_names d.created ++ pair_names d.released)
    (members-itself (count_names d.sent))
    (members-both (pushed_pairs d.created) (pair_names d.created) (pushed_pairs d.released) (pair_names d.released) (members-pairs d.created) (members-pairs d.released)))

pub members-window : (w : Window) → SameMembers (pushed_window w) (window_names w)
members-window w = members-both (count_names w.messages) (count_names w.messages) (pushed_pairs w.carried) (pair_names w.carried) (members-itself (count_names w.messages)) (members-pairs w.carried)

pub members-table : (xs ys : List Actor) → SameMembers xs ys → table_of xs ≡ table_of ys
members-table xs ys h =
    table-same (table_of xs) (table_of ys) (table_of-rises xs) (table_of-rises ys)
    (λ x m. table_of-has x ys (h.0 x (table_of-only x xs m)))
    (λ x m. table_of-has x xs (h.1 x (table_of-only x ys m)))

pub members-actors : (xs ys : List Actor) → SameMembers xs ys → AllByRecursion IsActor xs → AllByRecursion IsActor ys
members-actors xs ys h all = all-from_members IsActor ys (λ x m. all-member IsActor x xs all (h.1 x m))

pub on_ok : {A E : Type 0} (P : Type 0) (r : Result A E) → P → OnOk r P
on_ok P (Ok x) p = p
on_ok P (Err e) p = tt
