-- The known actors are those that were named, without the dropped.
use Rattle.std.proofs.Common.{◌≡◌, ◌+◌, ◌-◌, ◌&&◌, ◌≤◌, ◌<◌, ℕ, zero, suc, Bool, true, false, not, get_or, length, take, refl, ap, subst, ◌∙◌, arith, count_by}
use Rattle.std.proofs.lemmas.List.{take_all}
use Rattle.std.proofs.lemmas.List.Sums.{count_by_more_no, count_by_more_yes}
use Rattle.std.specs.List.{IsDistinct}
use Rattle.crgc_ids.specs.Actor.{same_actor}
use Rattle.crgc_ids.proofs.ActorLaws.{same_actor-decides}
use Rattle.shadow_rows.specs.Tabled.{no_actor}
use Rattle.shadow_table.specs.Shadows.{blank, dropped_count, is_named}
use Rattle.shadow_table.specs.declared.table.Shadow.{Shadow}
use Rattle.shadow_graph.specs.Graph.{Graph}
use Rattle.shadow_graph.specs.Seen.{is_dropped, is_known}
use Rattle.shadow_graph.proofs.PlacedLemmas.{key-there, shadow-there}

module _ (g : Graph) (distinct : IsDistinct same_actor g.shadows.names) (long : length g.shadows.shadows ≡ length g.shadows.names) where
  -- at each place the actor is known, or was dropped
  known-first : (n : ℕ) → n ≤ length g.shadows.names → count_by (is_known g) (take n g.shadows.names) + dropped_count (take n g.shadows.shadows) ≡ n
  known-first zero within = refl
  known-first (suc n) within =
      let before = known-first n (omega arith) in
      let inside : n < length g.shadows.names = omega arith in
      let shadow : n < length g.shadows.shadows = omega arith in
      let a = get_or g.shadows.names n no_actor in
      let s = get_or g.shadows.shadows n blank in
      let named : is_named g.shadows.names a ≡ true = key-there same_actor same_actor-decides g.shadows.names no_actor n inside in
      let is : is_dropped g a ≡ s.dropped = ap (λ (x : Shadow). x.dropped) (shadow-there g.shadows n distinct inside) in
      let known : is_known g a ≡ not s.dropped = λ i. named i && not (is i) in
      let Case : Bool → Type 0 = λ b. s.dropped ≡ b → count_by (is_known g) (take (n + 1) g.shadows.names) + dropped_count (take (n + 1) g.shadows.shadows) ≡ n + 1 in
      let case : Case s.dropped = elim s.dropped as Case [
        | true ↦ λ d. (
            let actors = count_by_more_no (is_known g) g.shadows.names n no_actor inside (known ∙ ap not d) in
            let shadows = count_by_more_yes (λ (x : Shadow). x.dropped) g.shadows.shadows n blank shadow d in
            omega (arith, actors, shadows, before)
            )
        | false ↦ λ d. (
            let actors = count_by_more_yes (is_known g) g.shadows.names n no_actor inside (known ∙ ap not d) in
            let shadows = count_by_more_no (λ (x : Shadow). x.dropped) g.shadows.shadows n blank shadow d in
            omega (arith, actors, shadows, before)
            )
      ] in
      let one : n + 1 ≡ suc n = omega arith in
      subst (λ k. count_by (is_known g) (take k g.shadows.names) + dropped_count (take k g.shadows.shadows) ≡ k) one (case refl)

  pub known-rest : length g.shadows.names - dropped_count g.shadows.shadows ≡ count_by (is_known g) g.shadows.names
  known-rest =
      let all = known-first (length g.shadows.names) (omega arith) in
      let actors = ap (count_by (is_known g)) (take_all (length g.shadows.names) g.shadows.names (omega arith)) in
      let shadows = ap dropped_count (take_all (length g.shadows.names) g.shadows.shadows (omega arith)) in
      omega (arith, all, actors, shadows)
