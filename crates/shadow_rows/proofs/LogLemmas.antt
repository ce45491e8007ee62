-- What the log takes in, and what is cut back.
use Rattle.std.proofs.Common.{◌≡◌, ◌+◌, ◌<◌, ◌==◌, ◌++◌, ℕ, Bool, true, false, cond, List, [], ◌∷◌, Option, Some, None, length, take, refl, sym, ◌∙◌, ap, subst, inl, inr, arith, sum_by}
use Rattle.std.proofs.Math.Seq.{take-append_seam}
use Rattle.std.proofs.lemmas.Bool.{cases_eq, eq-eqb, ne_eqb}
use Rattle.std.proofs.lemmas.List.Sums.{sum_by-cons}
use Rattle.std.specs.List.{AllByRecursion}
use Rattle.crgc_ids.specs.Actor.{Actor, same_actor}
use Rattle.crgc_ids.specs.declared.rising.ActorCount.{ActorCount}
use Rattle.crgc_ids.specs.declared.rising.PairCount.{PairCount}
use Rattle.crgc_ids.proofs.ActorLaws.{same_actor-decides}
use Rattle.history_model.specs.declared.records.Bulletin.TheVariants as bulletins
use Rattle.history_model.specs.declared.records.Delta.{Delta}
use Rattle.history_model.specs.declared.records.Window.{Window}
use Rattle.history_model.specs.Ledgers.{no_rows, window_ledger}
use Rattle.edge_table.specs.Table.{Edges, same_pair}
use Rattle.shadow_table.specs.Shadows.{Shadows, first_of, is_named}
use Rattle.shadow_table.proofs.NameLemmas.{named-kept}
use Rattle.undo_log.specs.Noted.{noted_count}
use Rattle.undo_log.specs.Told.{Notes, admitted_from, told_by}
use Rattle.undo_log.specs.Totals.{admitted_total, told_total}
use Rattle.undo_log.specs.declared.corrections.Correction.{Correction}
use Rattle.undo_log.specs.declared.corrections.Side.{Side}
use Rattle.undo_log.specs.declared.corrections.Side.TheVariants as sides
use Rattle.shadow_rows.specs.Rows.{AddsLog, IsLogCovered}
use Rattle.shadow_rows.specs.Pairs.{has_pair}
use Rattle.shadow_rows.specs.Settled.{IsCovered}
use Rattle.shadow_rows.specs.Tabled.{ArePairs, ExtendsEdges, ExtendsShadows}
use Rattle.shadow_rows.proofs.GrowLemmas.{pair-kept}
use Rattle.shadow_rows.proofs.PairLemmas.{same_pair-decides}

-- ---- what is noted

-- a Delta's sends and pairs are noted of its node
pub notes-delta : (d : Delta) (log log' : List (List Correction)) → Notes log log' d.node sides.Told d.sent d.created → AddsLog d.node (bulletins.Delta d) log log'
notes-delta d log log' notes = record {
  told = λ n owner target. elim (cases_eq n d.node) [
    | inl same ↦ (
        let count = noted_count owner target d.sent d.created in
        let here = notes.here.noted owner target in
        let at : told_by log' n owner target ≡ told_by log n owner target + count = ap (λ k. told_by log' k owner target) same ∙ here ∙ ap (λ k. told_by log k owner target + count) (sym same) in
        at ∙ ap (λ v. told_by log n owner target + cond v count 0) (sym (eq-eqb n d.node same))
        )
    | inr apart ↦ (
        let count = noted_count owner target d.sent d.created in
        let zero_more : told_by log n owner target ≡ told_by log n owner target + 0 = omega arith in
        ap (told_total owner target) (notes.others n apart) ∙ zero_more ∙ ap (λ v. told_by log n owner target + cond v count 0) (sym (ne_eqb n d.node apart))
        )
  ];
  admitted = λ n owner target. (
      let zero_more : admitted_from log n owner target ≡ admitted_from log n owner target + 0 = omega arith in
      elim (cases_eq n d.node) [
        | inl same ↦ ap (λ k. admitted_from log' k owner target) same ∙ notes.here.others owner target ∙ ap (λ k. admitted_from log k owner target) (sym same) ∙ zero_more ∙ none (admitted_from log n owner target) owner target
        | inr apart ↦ ap (admitted_total owner target) (notes.others n apart) ∙ zero_more ∙ none (admitted_from log n owner target) owner target
      ]
      );
}
  where
    none : (x : ℕ) (owner : Option Actor) (target : Actor) → x + 0 ≡ x + noted_count owner target [] []
    none x None target = refl
    none x (Some owner) target = refl

-- a window's messages and pairs are noted of the node from which they were admitted
module _ (w : Window) (log log' : List (List Correction)) (notes : Notes log log' w.from sides.Admitted w.messages w.carried) where
  none : (x : ℕ) (v : Bool) (owner : Option Actor) (target : Actor) → x ≡ x + cond v (noted_count owner target [] []) 0
  none x true None target = omega arith
  none x true (Some owner) target = omega arith
  none x false owner target = omega arith

  window-told : (n : ℕ) (owner : Option Actor) (target : Actor) → told_by log' n owner target ≡ told_by log n owner target + cond (n == w.at) (noted_count owner target [] []) 0
  window-told n owner target =
      elim (cases_eq n w.from) [
        | inl same ↦ ap (λ k. told_by log' k owner target) same ∙ notes.here.others owner target ∙ ap (λ k. told_by log k owner target) (sym same) ∙ none (told_by log n owner target) (n == w.at) owner target
        | inr apart ↦ ap (told_total owner target) (notes.others n apart) ∙ none (told_by log n owner target) (n == w.at) owner target
      ]

  window-admitted : (n : ℕ) (owner : Option Actor) (target : Actor) → admitted_from log' n owner target ≡ admitted_from log n owner target + noted_count owner target (cond (w.from == n) (window_ledger w) no_rows).sent (cond (w.from == n) (window_ledger w) no_rows).created
  window-admitted n owner target =
      let was = admitted_from log n owner target in
      let At : Bool → ℕ = λ v. was + noted_count owner target (cond v (window_ledger w) no_rows).sent (cond v (window_ledger w) no_rows).created in
      elim (cases_eq n w.from) [
        | inl same ↦ ap (λ k. admitted_from log' k owner target) same ∙ notes.here.noted owner target ∙ ap (λ k. admitted_from log k owner target + noted_count owner target w.messages w.carried) (sym same) ∙ ap At (sym (eq-eqb w.from n (sym same)))
        | inr apart ↦ ap (admitted_total owner target) (notes.others n apart) ∙ none was true owner target ∙ ap At (sym (ne_eqb w.from n (λ e. apart (sym e))))
      ]

  pub notes-window : AddsLog w.at (bulletins.Window w) log log'
  notes-window = record { told = window-told; admitted = window-admitted }

  pub notes-final : AddsLog w.at (bulletins.Final w) log log'
  notes-final = record { told = window-told; admitted = window-admitted }

-- ---- what the log counts is there

-- where rows count something, some row of it is there
total-there : {X : Type 0} (p : X → Bool) (count : X → ℕ) (Q : X → Type 0) (G : Type 0) → ((r : X) → p r ≡ true → Q r → G) → (rows : List X) → AllByRecursion Q rows → 0 < sum_by (λ r. cond (p r) (count r) 0) rows → G
total-there p count Q G there [] all some = absurd (omega arith)
total-there p count Q G there (r ∷ rows) all some =
    let split = sum_by-cons (λ x. cond (p x) (count x) 0) r rows in
    let Case : Bool → Type 0 = λ v. p r ≡ v → 0 < cond v (count r) 0 + sum_by (λ x. cond (p x) (count x) 0) rows → G in
    let case : Case (p r) = elim (p r) as Case [
      | true ↦ λ e _. there r e all.0
      | false ↦ λ _ later. total-there p count Q G there rows all.1 (omega arith)
    ] in
    case refl (omega (arith, split, some))

noted-there : (names : List Actor) (pairs : List (Actor × Actor)) (messages : List ActorCount) (rows : List PairCount) → AllByRecursion (λ r. is_named names r.actor ≡ true) messages → ArePairs pairs rows → (owner : Option Actor) (target : Actor) → 0 < noted_count owner target messages rows → IsCovered names pairs owner target
noted-there names pairs messages rows named there None target some =
    total-there (λ (r : ActorCount). same_actor target r.actor) (λ r. r.count) (λ r. is_named names r.actor ≡ true) (is_named names target ≡ true)
    (λ r e q. ap (is_named names) ((same_actor-decides target r.actor).0 e) ∙ q) messages named some
noted-there names pairs messages rows named there (Some owner) target some =
    total-there (λ (r : PairCount). same_pair (owner, target) (r.owner, r.target)) (λ r. r.count) (λ r. has_pair pairs r.owner r.target ≡ true) (has_pair pairs owner target ≡ true)
    (λ r e q. ap (λ (p : Actor × Actor). has_pair pairs p.0 p.1) ((same_pair-decides (owner, target) (r.owner, r.target)).0 e) ∙ q) rows there some

covered-kept : (names more names' : List Actor) (pairs added pairs' : List (Actor × Actor)) → names' ≡ names ++ more → pairs' ≡ pairs ++ added → (owner : Option Actor) (target : Actor) → IsCovered names pairs owner target → IsCovered names' pairs' owner target
covered-kept names more names' pairs added pairs' is is' None target h = named-kept names more names' target is h
covered-kept names more names' pairs added pairs' is is' (Some owner) target h = pair-kept pairs pairs' added owner target is' h

covered-added : (s t : Shadows) (e f : Edges) (log log' : List (List Correction)) (node : ℕ) (side : Side) (messages : List ActorCount) (rows : List PairCount) (more : List Actor) (added : List (Actor × Actor)) → t.names ≡ s.names ++ more → f.pairs ≡ e.pairs ++ added → AllByRecursion (λ r. is_named t.names r.actor ≡ true) messages → ArePairs f.pairs rows → Notes log log' node side messages rows → IsLogCovered s e log → IsLogCovered t f log'
covered-added s t e f log log' node side messages rows more added is is' named there notes covered n owner target some =
    elim (cases_eq n node) [
      | inl same ↦ (
          let sums = both side notes owner target in
          let at : told_by log' node owner target + admitted_from log' node owner target ≡ told_by log' n owner target + admitted_from log' n owner target = ap (λ k. told_by log' k owner target + admitted_from log' k owner target) (sym same) in
          elim (cases_eq (told_by log node owner target + admitted_from log node owner target) 0) [
            | inl nothing ↦ noted-there t.names f.pairs messages rows named there owner target (omega (arith, sums, at, nothing, some))
            | inr something ↦ covered-kept s.names more t.names e.pairs added f.pairs is is' owner target (covered node owner target (omega (arith, something)))
          ]
          )
      | inr apart ↦ (
          let told = ap (told_total owner target) (notes.others n apart) in
          let admitted = ap (admitted_total owner target) (notes.others n apart) in
          covered-kept s.names more t.names e.pairs added f.pairs is is' owner target (covered n owner target (omega (arith, told, admitted, some)))
          )
    ]
  where
    both : (side : Side) → Notes log log' node side messages rows → (owner : Option Actor) (target : Actor) → told_by log' node owner target + admitted_from log' node owner target ≡ (told_by log node owner target + admitted_from log node owner target) + noted_count owner target messages rows
    both sides.Told notes owner target = (let here = notes.here.noted owner target in let other = notes.here.others owner target in omega (arith, here, other))
    both sides.Admitted notes owner target = (let here = notes.here.noted owner target in let other = notes.here.others owner target in omega (arith, here, other))

-- whether the bulletin is logged or not, what the log counts is there
pub covered-logged : (logs : Bool) (s t : Shadows) (e f : Edges) (log log' : List (List Correction)) (node : ℕ) (side : Side) (messages : List ActorCount) (rows : List PairCount) (more : List Actor) (added : List (Actor × Actor)) → t.names ≡ s.names ++ more → f.pairs ≡ e.pairs ++ added → AllByRecursion (λ r. is_named t.names r.actor ≡ true) messages → ArePairs f.pairs rows → (logs ≡ true → Notes log log' node side messages rows) → (logs ≡ false → log' ≡ log) → IsLogCovered s e log → IsLogCovered t f log'
covered-logged true s t e f log log' node side messages rows more added is is' named there notes same covered =
    covered-added s t e f log log' node side messages rows more added is is' named there (notes refl) covered
covered-logged false s t e f log log' node side messages rows more added is is' named there notes same covered = λ n owner target some.
    let before = subst (λ l. 0 < told_by l n owner target + admitted_from l n owner target) (same refl) some in
    covered-kept s.names more t.names e.pairs added f.pairs is is' owner target (covered n owner target before)

-- ---- what is cut back

pub shadows-cut : (t u : Shadows) (places : ℕ) → ExtendsShadows t u → places ≡ length t.names → length t.shadows ≡ length t.names → first_of places u ≡ t
shadows-cut t u places extends is long = λ i. record {
  names = (ap (take places) extends.names ∙ ap (λ n. take n (t.names ++ extends.more)) is ∙ take-append_seam t.names extends.more) i;
  shadows = (ap (take places) extends.shadows ∙ ap (λ n. take n (t.shadows ++ extends.more_shadows)) (is ∙ sym long) ∙ take-append_seam t.shadows extends.more_shadows) i;
}

pub pairs-cut : (t u : Edges) (count : ℕ) → ExtendsEdges t u → count ≡ length t.edges → length t.edges ≡ length t.pairs → take count u.pairs ≡ t.pairs
pairs-cut t u count extends is long = ap (take count) extends.pairs ∙ ap (λ n. take n (t.pairs ++ extends.more)) (is ∙ long) ∙ take-append_seam t.pairs extends.more

pub edges-cut : (t u : Edges) (count : ℕ) → ExtendsEdges t u → count ≡ length t.edges → take count u.edges ≡ t.edges
edges-cut t u count extends is = ap (take count) extends.edges ∙ ap (λ n. take n (t.edges ++ extends.more_edges)) is ∙ take-append_seam t.edges extends.more_edges
