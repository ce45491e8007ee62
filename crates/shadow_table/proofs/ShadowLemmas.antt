-- Tables of shadows.
use Rattle.std.proofs.Common.{◌≡◌, ◌+◌, ◌<◌, ℕ, Bool, true, false, cond, eqb, List, [], ◌∷◌, ◌++◌, Option, Some, length, get_or, set, take, refl, sym, ◌∙◌, ap, arith}
use Rattle.std.proofs.lemmas.List.{get_or_default, take_more}
use Rattle.std.specs.Option.{option_or}
use Rattle.std.specs.Prelude.{unwrap_or}
use Rattle.crgc_ids.specs.Actor.{Actor, same_actor}
use Rattle.crgc_ids.proofs.ActorLaws.{same_actor-decides}
use Rattle.history_model.specs.declared.records.StateRow.{StateRow}
use Rattle.history_model.specs.Facts.{Flags}
use Rattle.history_model.specs.Ledgers.{received_total, row_flags, state_flags}
use Rattle.shadow_table.specs.Shadows.{ChangesShadow, blank, flag_pair, place_in, with_state, with_states}
use Rattle.shadow_table.specs.declared.table.Shadow.{Shadow}
use Rattle.shadow_table.proofs.KeyedLemmas.{found-changed}
use Rattle.shadow_table.proofs.RowLemmas.{total-more}

-- the shadow at an actor's place is changed
pub shadow-changed : (names : List Actor) (shadows : List Shadow) (actor : Actor) (place : ℕ) (was now : Shadow) (change : Shadow → Shadow) → length shadows ≡ length names → place ≡ place_in names actor → place < length names → was ≡ get_or shadows place was → now ≡ change was → ChangesShadow (record { names = names; shadows = shadows }) (record { names = names; shadows = set shadows place now }) actor change
shadow-changed names shadows actor place was now change long is inside read changed = record {
  names = refl;
  shadows = λ a. (
      let old : Shadow = get_or shadows (place_in names a) blank in
      let Case : Bool → Type 0 = λ t. same_actor a actor ≡ t → cond t now old ≡ cond t (change old) old in
      let case : Case (same_actor a actor) = elim (same_actor a actor) as Case [
        | true ↦ λ t. changed ∙ ap change (
            read ∙ get_or_default shadows place was blank (omega arith)
            ∙ ap (λ i. get_or shadows i blank) (is ∙ ap (place_in names) (sym ((same_actor-decides a actor).0 t)))
            )
        | false ↦ λ _. refl
      ] in
      found-changed same_actor same_actor-decides blank names shadows actor place now inside is (omega arith) a ∙ case refl
      );
}

-- ---- states

row_flags-push : (a : Actor) (rows : List StateRow) (r : StateRow) → row_flags a (rows ++ r ∷ []) ≡ cond (same_actor a r.actor) (Some (state_flags r)) (row_flags a rows)
row_flags-push a [] r = refl
row_flags-push a (x ∷ rows) r =
    let later = row_flags-push a rows r in
    let found = row_flags a rows in
    let Case : Bool → Bool → Type 0 = λ b v. cond v (Some (unwrap_or (cond b (Some (state_flags r)) found) (state_flags x))) (cond b (Some (state_flags r)) found) ≡ cond b (Some (state_flags r)) (cond v (Some (unwrap_or found (state_flags x))) found) in
    let case : (b v : Bool) → Case b v = λ b v. elim b as (λ b. Case b v) [
      | true ↦ elim v as (λ v. Case true v) [ true ↦ refl | false ↦ refl ]
      | false ↦ refl
    ] in
    ap (λ o. cond (same_actor a x.actor) (Some (unwrap_or o (state_flags x))) o) later ∙ case (same_actor a r.actor) (same_actor a x.actor)

-- one state row more
pub states-more : (node : ℕ) (a : Actor) (rows : List StateRow) (i : ℕ) (r : StateRow) (first now next : Shadow) → i < length rows → r ≡ get_or rows i r → now ≡ with_states node a (take i rows) first → next ≡ cond (same_actor a r.actor) (with_state node r now) now → next ≡ with_states node a (take (i + 1) rows) first
states-more node a rows i r first now next inside is before after =
    let flags : row_flags a (take (i + 1) rows) ≡ cond (same_actor a r.actor) (Some (state_flags r)) (row_flags a (take i rows)) = ap (row_flags a) (take_more rows i r inside ∙ ap (λ x. take i rows ++ x ∷ []) (sym is)) ∙ row_flags-push a (take i rows) r in
    let sum : received_total a (take (i + 1) rows) ≡ received_total a (take i rows) + cond (same_actor a r.actor) r.received 0 = total-more same_actor (λ (x : StateRow). x.actor) (λ (x : StateRow). x.received) a rows i r inside is in
    let n = received_total a (take i rows) in
    let o = row_flags a (take i rows) in
    let made : ℕ → Option Flags → Shadow = λ n o. record first { received = first.received + n; flags = cond (eqb a.node node) (option_or (flag_pair o) first.flags) first.flags } in
    let Case : Bool → Type 0 = λ b. same_actor a r.actor ≡ b → cond b (with_state node r (made n o)) (made n o) ≡ made (n + cond b r.received 0) (cond b (Some (state_flags r)) o) in
    let case : Case (same_actor a r.actor) = elim (same_actor a r.actor) as Case [
      | true ↦ λ t. (
          let one : r.actor ≡ a = sym ((same_actor-decides a r.actor).0 t) in
          let counted : (first.received + n) + r.received ≡ first.received + (n + r.received) = omega arith in
          let own : (v : Bool) → cond v (Some (r.busy, r.root)) (cond v (option_or (flag_pair o) first.flags) first.flags) ≡ cond v (Some (r.busy, r.root)) first.flags = λ v. elim v as (λ v. cond v (Some (r.busy, r.root)) (cond v (option_or (flag_pair o) first.flags) first.flags) ≡ cond v (Some (r.busy, r.root)) first.flags) [ true ↦ refl | false ↦ refl ] in
          ap (λ b. record (made n o) { received = (first.received + n) + r.received; flags = cond (eqb b.node node) (Some (r.busy, r.root)) (made n o).flags }) one
          ∙ (λ i. record first { received = counted i; flags = own (eqb a.node node) i })
          )
      | false ↦ λ _. (let none : n ≡ n + 0 = omega arith in ap (λ m. made m o) none)
    ] in
    after ∙ ap (λ s. cond (same_actor a r.actor) (with_state node r s) s) before ∙ case refl ∙ (λ i. made (sym sum i) (sym flags i))
