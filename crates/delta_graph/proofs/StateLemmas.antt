-- States that are sorted and added up.
use Rattle.std.proofs.Common.{◌≡◌, ◌+◌, ◌<◌, ◌^◌, ◌&&◌, ℕ, Bool, true, false, cond, not, min, List, [], ◌∷◌, Ordering, refl, sym, ◌∙◌, ap, subst, inl, inr, arith}
use Rattle.std.proofs.lemmas.List.Sums.{sum_by-cons}
use Rattle.std.specs.List.{filter}
use Rattle.std.specs.Ordering.{is_lt}
use Rattle.std.specs.Prelude.{Option, Some, unwrap_or}
use Rattle.crgc_ids.specs.Actor.{Actor, IsActorBelow, actor_cmp, same_actor}
use Rattle.crgc_ids.proofs.ActorLaws.{IsActorBelow-apart, actor_cases, same_actor-apart, same_actor-decides}
use Rattle.crgc_ids.proofs.ActorOrder.{actor_cmp-above, actor_cmp-below, actor_cmp-same}
use Rattle.history_model.specs.declared.records.StateRow.{StateRow}
use Rattle.history_model.specs.Facts.{Flags}
use Rattle.history_model.specs.Ledgers.{received_total, row_flags, state_flags}
use Rattle.row_sums.proofs.FoldLemmas.{Folds, IsReading}
use Rattle.row_sums.proofs.RowLemmas.{takes_in}
use Rattle.row_sums.proofs.SumLemmas.{taken-total}

-- ---- the order of actors

-- actors of which neither is below the other are one
ties-same : (a b : Actor) → (not (is_lt (actor_cmp a b)) && not (is_lt (actor_cmp b a))) ≡ same_actor a b
ties-same a b =
    let Tie : Ordering → Ordering → Bool = λ o p. not (is_lt o) && not (is_lt p) in
    elim (actor_cases a b) [
      | inl below ↦ ap (λ o. Tie o (actor_cmp b a)) (actor_cmp-below a b below) ∙ sym (same_actor-apart a b (λ e. IsActorBelow-apart a (subst (IsActorBelow a) (sym e) below)))
      | inr other ↦ elim other [
        | inl same ↦ ap (λ o. Tie o (actor_cmp b a)) (actor_cmp-same a b same) ∙ ap (λ o. not (is_lt o)) (actor_cmp-same b a (sym same)) ∙ sym ((same_actor-decides a b).1 same)
        | inr above ↦ ap (λ o. Tie o (actor_cmp b a)) (actor_cmp-above a b above) ∙ ap (λ o. not (is_lt o)) (actor_cmp-below b a above) ∙ sym (same_actor-apart a b (λ e. IsActorBelow-apart b (subst (IsActorBelow b) e above)))
      ]
    ]

-- ---- flags

-- an actor's flags are those of its own rows
flags-filter : (a : Actor) (p : StateRow → Bool) → ((r : StateRow) → p r ≡ same_actor a r.actor) → (rows : List StateRow) → row_flags a (filter p rows) ≡ row_flags a rows
flags-filter a p own [] = refl
flags-filter a p own (r ∷ rows) =
    let later = flags-filter a p own rows in
    let Case : Bool → Type 0 = λ v. same_actor a r.actor ≡ v → row_flags a (cond v (r ∷ filter p rows) (filter p rows)) ≡ cond v (Some (unwrap_or (row_flags a rows) (state_flags r))) (row_flags a rows) in
    let case : Case (same_actor a r.actor) = elim (same_actor a r.actor) as Case [
      | true ↦ λ t. ap (λ v. cond v (Some (unwrap_or (row_flags a (filter p rows)) (state_flags r))) (row_flags a (filter p rows))) t ∙ ap (λ o. Some (unwrap_or o (state_flags r))) later
      | false ↦ λ _. later
    ] in
    ap (λ v. row_flags a (cond v (r ∷ filter p rows) (filter p rows))) (own r) ∙ case refl

-- a stable sort by actor leaves each actor's flags
pub flags-sorted : (a : Actor) (rows sorted : List StateRow) → ((x : StateRow) → filter (λ y. not (is_lt (actor_cmp x.actor y.actor)) && not (is_lt (actor_cmp y.actor x.actor))) sorted ≡ filter (λ y. not (is_lt (actor_cmp x.actor y.actor)) && not (is_lt (actor_cmp y.actor x.actor))) rows) → row_flags a sorted ≡ row_flags a rows
flags-sorted a rows sorted stable =
    let x : StateRow = record { actor = a; received = 0; busy = false; root = false } in
    let own : StateRow → Bool = λ y. not (is_lt (actor_cmp a y.actor)) && not (is_lt (actor_cmp y.actor a)) in
    sym (flags-filter a own (λ r. ties-same a r.actor) sorted) ∙ ap (row_flags a) (stable x) ∙ flags-filter a own (λ r. ties-same a r.actor) rows

-- ---- states that take in the next one

-- what is read of an actor's states: the messages that they count, and the last flags
abbrev pub read : Actor → List StateRow → ℕ × Option Flags
read a rows = (received_total a rows, row_flags a rows)

abbrev pub Fit : List StateRow → Type 0
Fit rows = (a : Actor) → received_total a rows < 2 ^ 32

abbrev counted : Actor → StateRow → ℕ
counted a r = cond (same_actor a r.actor) r.received 0

pub reads : IsReading read Fit
reads = record {
  first = λ a r xs ys same. (λ i. (
    (sum_by-cons (counted a) r xs ∙ ap (λ p. counted a r + p.0) same ∙ sym (sum_by-cons (counted a) r ys)) i,
    cond (same_actor a r.actor) (Some (unwrap_or (same i).1 (state_flags r))) (same i).1,
  ));
  rest = λ r rows fit a. (let whole = fit a in let split = sum_by-cons (counted a) r rows in omega arith);
}

abbrev merged : StateRow → StateRow → StateRow
merged last next = record last { received = min (last.received + next.received) 4294967295; busy = next.busy; root = next.root }

-- it has the flags of the last one
merged-flags : (next last : StateRow) (a : Actor) (rows : List StateRow) → last.actor ≡ next.actor → row_flags a (merged last next ∷ rows) ≡ row_flags a (last ∷ next ∷ rows)
merged-flags next last a rows one =
    let found = row_flags a rows in
    let own : Bool → Option Flags = λ v. cond v (Some (unwrap_or found (state_flags next))) found in
    let Case : Bool → Type 0 = λ v. own v ≡ cond v (Some (unwrap_or (own v) (state_flags last))) (own v) in
    let case : Case (same_actor a last.actor) = elim (same_actor a last.actor) as Case [ true ↦ refl | false ↦ refl ] in
    subst (λ b. own (same_actor a last.actor) ≡ cond (same_actor a last.actor) (Some (unwrap_or (own (same_actor a b)) (state_flags last))) (own (same_actor a b))) one case

-- a state takes in the next one of its actor
pub folds : (next last : StateRow) (b : Bool) (next' last' : StateRow) → b ≡ same_actor last.actor next.actor → next' ≡ next → last' ≡ cond b (merged last next) last → Folds same_actor (λ r. r.actor) read Fit next last b next' last'
folds next last b next' last' tells passes is =
    let key : StateRow → Actor = λ r. r.actor in
    let count : StateRow → ℕ = λ r. r.received in
    let took = takes_in same_actor key count (2 ^ 32) 4294967295 (omega arith) next last b next' last' (merged last next) refl refl tells passes is in
    let received = λ (e : b ≡ true) (rows : List StateRow) (fit : Fit (last ∷ next ∷ rows)) (a : Actor). taken-total same_actor key count (2 ^ 32) same_actor-decides a next last b next' last' rows took e fit in
    record {
      tells = took.tells;
      passes = took.passes;
      stays = took.stays;
      leaves = took.leaves;
      fits = λ e rows fit a. (let here = fit a in let same_total = received e rows fit a in omega arith);
      reads = λ e rows fit a. (
          let one : last.actor ≡ next.actor = (same_actor-decides last.actor next.actor).0 (sym tells ∙ e) in
          let flags = ap (λ r. row_flags a (r ∷ rows)) (is ∙ ap (λ v. cond v (merged last next) last) e) ∙ merged-flags next last a rows one in
          λ i. (received e rows fit a i, flags i)
          );
    }
