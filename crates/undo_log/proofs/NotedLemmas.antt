-- The rows that note counts, and what they add to the totals.
use Rattle.std.proofs.Common.{◌≡◌, ◌+◌, ◌<◌, ◌^◌, ◌&&◌, ℕ, Bool, true, false, cond, List, [], ◌∷◌, ◌++◌, Option, Some, None, Result, Ok, Err, OnErr, OnOk, map, refl, sym, ◌∙◌, subst, arith}
use Rattle.std.proofs.ByRecursion.{All-append}
use Rattle.std.proofs.lemmas.List.Sums.{sum_by-append, sum_by-cons}
use Rattle.std.specs.List.{AllByRecursion, sum_by}
use Rattle.crgc_ids.specs.Actor.{Actor, same_actor}
use Rattle.crgc_ids.specs.declared.rising.ActorCount.{ActorCount}
use Rattle.crgc_ids.specs.declared.rising.PairCount.{PairCount}
use Rattle.undo_log.specs.Keys.{same_owner}
use Rattle.undo_log.specs.Noted.{NotesMore, SideRows, message_rows, noted_count, other_total, pair_rows, row_on, rows_noted, side_total}
use Rattle.undo_log.specs.Totals.{HaveRoom, admitted_total, told_total}
use Rattle.undo_log.specs.declared.corrections.Correction.{Correction}
use Rattle.undo_log.specs.declared.corrections.Side.{Side}
use Rattle.undo_log.specs.declared.corrections.Side.TheVariants.{Admitted, Told}

sum-rows : {X : Type 0} (f : Correction → ℕ) (row : X → Correction) (g : X → ℕ) → ((x : X) → f (row x) ≡ g x) → (xs : List X) → sum_by f (map row xs) ≡ sum_by g xs
sum-rows f row g same [] = refl
sum-rows f row g same (x ∷ xs) =
    let left = sum_by-cons f (row x) (map row xs) in
    let right = sum_by-cons g x xs in
    let here = same x in
    let later = sum-rows f row g same xs in
    omega arith

no_sum : {X : Type 0} (f : Correction → ℕ) (row : X → Correction) → ((x : X) → f (row x) ≡ 0) → (xs : List X) → sum_by f (map row xs) ≡ 0
no_sum f row none [] = refl
no_sum f row none (x ∷ xs) =
    let left = sum_by-cons f (row x) (map row xs) in
    let here = none x in
    let later = no_sum f row none xs in
    omega arith

nothing : (b : Bool) → cond {A = ℕ} b 0 0 ≡ 0
nothing true = refl
nothing false = refl

-- how often the rows count something, where those of pairs do not count it, and where those of messages do not
module _ (f : Correction → ℕ) (side : Side) (messages : List ActorCount) (pairs : List PairCount) where
  of_messages : (g : ActorCount → ℕ) → ((r : ActorCount) → f (row_on side None r.actor r.count) ≡ g r) → ((r : PairCount) → f (row_on side (Some r.owner) r.target r.count) ≡ 0) → sum_by f (message_rows side messages ++ pair_rows side pairs) ≡ sum_by g messages
  of_messages g here none =
      let parts = sum_by-append f (message_rows side messages) (pair_rows side pairs) in
      let first = sum-rows f (λ (r : ActorCount). row_on side None r.actor r.count) g here messages in
      let rest = no_sum f (λ (r : PairCount). row_on side (Some r.owner) r.target r.count) none pairs in
      omega arith

  of_pairs : (g : PairCount → ℕ) → ((r : ActorCount) → f (row_on side None r.actor r.count) ≡ 0) → ((r : PairCount) → f (row_on side (Some r.owner) r.target r.count) ≡ g r) → sum_by f (message_rows side messages ++ pair_rows side pairs) ≡ sum_by g pairs
  of_pairs g none here =
      let parts = sum_by-append f (message_rows side messages) (pair_rows side pairs) in
      let first = no_sum f (λ (r : ActorCount). row_on side None r.actor r.count) none messages in
      let rest = sum-rows f (λ (r : PairCount). row_on side (Some r.owner) r.target r.count) g here pairs in
      omega arith

-- what a row counts of something, on each side
abbrev told_in : Option Actor → Actor → Correction → ℕ
told_in owner target r = cond (same_owner owner r.owner && same_actor target r.target) r.told 0

abbrev admitted_in : Option Actor → Actor → Correction → ℕ
admitted_in owner target r = cond (same_owner owner r.owner && same_actor target r.target) r.admitted 0

-- the rows that note counts count as much on their side
noted-side : (side : Side) (owner : Option Actor) (target : Actor) (messages : List ActorCount) (pairs : List PairCount) → side_total side owner target (message_rows side messages ++ pair_rows side pairs) ≡ noted_count owner target messages pairs
noted-side Told None target messages pairs = of_messages (told_in None target) Told messages pairs (λ r. cond (same_actor target r.actor) r.count 0) (λ _. refl) (λ _. refl)
noted-side Told (Some owner) target messages pairs = of_pairs (told_in (Some owner) target) Told messages pairs (λ r. cond (same_actor owner r.owner && same_actor target r.target) r.count 0) (λ _. refl) (λ _. refl)
noted-side Admitted None target messages pairs = of_messages (admitted_in None target) Admitted messages pairs (λ r. cond (same_actor target r.actor) r.count 0) (λ _. refl) (λ _. refl)
noted-side Admitted (Some owner) target messages pairs = of_pairs (admitted_in (Some owner) target) Admitted messages pairs (λ r. cond (same_actor owner r.owner && same_actor target r.target) r.count 0) (λ _. refl) (λ _. refl)

-- and nothing on the other one
noted-other : (side : Side) (owner : Option Actor) (target : Actor) (messages : List ActorCount) (pairs : List PairCount) → other_total side owner target (message_rows side messages ++ pair_rows side pairs) ≡ 0
noted-other Told owner target messages pairs =
    let f = admitted_in owner target in
    let parts = sum_by-append f (message_rows Told messages) (pair_rows Told pairs) in
    let first = no_sum f (λ (r : ActorCount). row_on Told None r.actor r.count) (λ r. nothing (same_owner owner None && same_actor target r.actor)) messages in
    let rest = no_sum f (λ (r : PairCount). row_on Told (Some r.owner) r.target r.count) (λ r. nothing (same_owner owner (Some r.owner) && same_actor target r.target)) pairs in
    omega arith
noted-other Admitted owner target messages pairs =
    let f = told_in owner target in
    let parts = sum_by-append f (message_rows Admitted messages) (pair_rows Admitted pairs) in
    let first = no_sum f (λ (r : ActorCount). row_on Admitted None r.actor r.count) (λ r. nothing (same_owner owner None && same_actor target r.actor)) messages in
    let rest = no_sum f (λ (r : PairCount). row_on Admitted (Some r.owner) r.target r.count) (λ r. nothing (same_owner owner (Some r.owner) && same_actor target r.target)) pairs in
    omega arith

side-append : (side : Side) (owner : Option Actor) (target : Actor) (xs ys : List Correction) → side_total side owner target (xs ++ ys) ≡ side_total side owner target xs + side_total side owner target ys
side-append Told owner target xs ys = sum_by-append (told_in owner target) xs ys
side-append Admitted owner target xs ys = sum_by-append (admitted_in owner target) xs ys

other-append : (side : Side) (owner : Option Actor) (target : Actor) (xs ys : List Correction) → other_total side owner target (xs ++ ys) ≡ other_total side owner target xs + other_total side owner target ys
other-append Told owner target xs ys = sum_by-append (admitted_in owner target) xs ys
other-append Admitted owner target xs ys = sum_by-append (told_in owner target) xs ys

-- what is counted on a side is what that side's rows count
pub told-noted : (owner : Option Actor) (target : Actor) (told admitted : SideRows) → told_total owner target (rows_noted told admitted) ≡ noted_count owner target told.messages told.pairs
told-noted owner target told admitted =
    let parts = side-append Told owner target (message_rows Told told.messages ++ pair_rows Told told.pairs) (message_rows Admitted admitted.messages ++ pair_rows Admitted admitted.pairs) in
    let here = noted-side Told owner target told.messages told.pairs in
    let there = noted-other Admitted owner target admitted.messages admitted.pairs in
    omega arith

pub admitted-noted : (owner : Option Actor) (target : Actor) (told admitted : SideRows) → admitted_total owner target (rows_noted told admitted) ≡ noted_count owner target admitted.messages admitted.pairs
admitted-noted owner target told admitted =
    let parts = side-append Admitted owner target (message_rows Told told.messages ++ pair_rows Told told.pairs) (message_rows Admitted admitted.messages ++ pair_rows Admitted admitted.pairs) in
    let here = noted-side Admitted owner target admitted.messages admitted.pairs in
    let there = noted-other Told owner target told.messages told.pairs in
    omega arith

-- rows that count so much more on one side, and as much as before on the other, note the counts
abbrev CountsMore : SideRows → SideRows → List ActorCount → List PairCount → Type 0
CountsMore old new messages pairs = (owner : Option Actor) (target : Actor) → noted_count owner target new.messages new.pairs
    ≡ noted_count owner target old.messages old.pairs + noted_count owner target messages pairs

pub told-more : (told told' admitted : SideRows) (messages : List ActorCount) (pairs : List PairCount) → CountsMore told told' messages pairs → NotesMore (rows_noted told admitted) (rows_noted told' admitted) Told messages pairs
told-more told told' admitted messages pairs more = record {
  noted = λ owner target. (
      let old = told-noted owner target told admitted in
      let new = told-noted owner target told' admitted in
      let here = more owner target in
      omega arith
      );
  others = λ owner target. admitted-noted owner target told' admitted ∙ sym (admitted-noted owner target told admitted);
}

pub admitted-more : (told admitted admitted' : SideRows) (messages : List ActorCount) (pairs : List PairCount) → CountsMore admitted admitted' messages pairs → NotesMore (rows_noted told admitted) (rows_noted told admitted') Admitted messages pairs
admitted-more told admitted admitted' messages pairs more = record {
  noted = λ owner target. (
      let old = admitted-noted owner target told admitted in
      let new = admitted-noted owner target told admitted' in
      let here = more owner target in
      omega arith
      );
  others = λ owner target. told-noted owner target told admitted' ∙ sym (told-noted owner target told admitted);
}

-- where the sums have room, so do the rows
pub room-more : (old new : List Correction) (side : Side) (messages : List ActorCount) (pairs : List PairCount) → HaveRoom old → ((owner : Option Actor) (target : Actor) → side_total side owner target old + noted_count owner target messages pairs < 2 ^ 63) → NotesMore old new side messages pairs → HaveRoom new
room-more old new Told messages pairs room fits notes = record {
  told = λ owner target. subst (λ n. n < 2 ^ 63) (sym (notes.noted owner target)) (fits owner target);
  admitted = λ owner target. subst (λ n. n < 2 ^ 63) (sym (notes.others owner target)) (room.admitted owner target);
}
room-more old new Admitted messages pairs room fits notes = record {
  told = λ owner target. subst (λ n. n < 2 ^ 63) (sym (notes.others owner target)) (room.told owner target);
  admitted = λ owner target. subst (λ n. n < 2 ^ 63) (sym (notes.noted owner target)) (fits owner target);
}

-- rows of counts that stand do
pub rows-stand : (side : Side) (messages : List ActorCount) (pairs : List PairCount) → AllByRecursion (λ r. 0 < r.count) messages → AllByRecursion (λ r. 0 < r.count) pairs → AllByRecursion (λ r. 0 < r.told + r.admitted) (message_rows side messages ++ pair_rows side pairs)
rows-stand side messages pairs some_messages some_pairs =
    All-append (λ (r : Correction). 0 < r.told + r.admitted) (message_rows side messages) (pair_rows side pairs) (all_messages messages some_messages) (all_pairs pairs some_pairs)
  where
    counts : (side : Side) (owner : Option Actor) (target : Actor) (count : ℕ) → 0 < count → 0 < (row_on side owner target count).told + (row_on side owner target count).admitted
    counts Told owner target count some = omega arith
    counts Admitted owner target count some = omega arith

    all_messages : (rows : List ActorCount) → AllByRecursion (λ r. 0 < r.count) rows → AllByRecursion (λ r. 0 < r.told + r.admitted) (message_rows side rows)
    all_messages [] some = tt
    all_messages (r ∷ rows) some = (counts side None r.actor r.count some.0, all_messages rows some.1)

    all_pairs : (rows : List PairCount) → AllByRecursion (λ r. 0 < r.count) rows → AllByRecursion (λ r. 0 < r.told + r.admitted) (pair_rows side rows)
    all_pairs [] some = tt
    all_pairs (r ∷ rows) some = (counts side (Some r.owner) r.target r.count some.0, all_pairs rows some.1)

-- a call that notes the counts on one side, or leaves it as it was, keeps the room
pub told-room : {T E : Type 0} (r : Result T E) (told told' admitted : SideRows) (messages : List ActorCount) (pairs : List PairCount) → HaveRoom (rows_noted told admitted) → ((owner : Option Actor) (target : Actor) → told_total owner target (rows_noted told admitted) + noted_count owner target messages pairs < 2 ^ 63) → OnOk r (CountsMore told told' messages pairs) → OnErr r (told' ≡ told) → HaveRoom (rows_noted told' admitted)
told-room (Ok x) told told' admitted messages pairs room fits more same =
    room-more (rows_noted told admitted) (rows_noted told' admitted) Told messages pairs room fits (told-more told told' admitted messages pairs more)
told-room (Err e) told told' admitted messages pairs room fits more same = subst (λ rows. HaveRoom (rows_noted rows admitted)) (sym same) room

pub admitted-room : {T E : Type 0} (r : Result T E) (told admitted admitted' : SideRows) (messages : List ActorCount) (pairs : List PairCount) → HaveRoom (rows_noted told admitted) → ((owner : Option Actor) (target : Actor) → admitted_total owner target (rows_noted told admitted) + noted_count owner target messages pairs < 2 ^ 63) → OnOk r (CountsMore admitted admitted' messages pairs) → OnErr r (admitted' ≡ admitted) → HaveRoom (rows_noted told admitted')
admitted-room (Ok x) told admitted admitted' messages pairs room fits more same =
    room-more (rows_noted told admitted) (rows_noted told admitted') Admitted messages pairs room fits (admitted-more told admitted admitted' messages pairs more)
admitted-room (Err e) told admitted admitted' messages pairs room fits more same = subst (λ rows. HaveRoom (rows_noted told rows)) (sym same) room

-- and where it notes them, so do the rows
pub told-notes : {T E : Type 0} (r : Result T E) (told told' admitted : SideRows) (messages : List ActorCount) (pairs : List PairCount) → OnOk r (CountsMore told told' messages pairs) → OnOk r (NotesMore (rows_noted told admitted) (rows_noted told' admitted) Told messages pairs)
told-notes (Ok x) told told' admitted messages pairs more = told-more told told' admitted messages pairs more
told-notes (Err e) told told' admitted messages pairs more = tt

pub admitted-notes : {T E : Type 0} (r : Result T E) (told admitted admitted' : SideRows) (messages : List ActorCount) (pairs : List PairCount) → OnOk r (CountsMore admitted admitted' messages pairs) → OnOk r (NotesMore (rows_noted told admitted) (rows_noted told admitted') Admitted messages pairs)
admitted-notes (Ok x) told admitted admitted' messages pairs more = admitted-more told admitted admitted' messages pairs more
admitted-notes (Err e) told admitted admitted' messages pairs more = tt
