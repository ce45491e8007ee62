-- What readers see, and what a graph stands for once an actor is dropped.
use Rattle.std.proofs.Common.{◌≡◌, ◌+◌, ◌≤◌, ◌||◌, ℕ, zero, suc, Bool, true, false, cond, not, List, [], ◌∷◌, length, get_or, refl, sym, ◌∙◌, ap, subst, arith}
use Rattle.std.proofs.lemmas.Bool.{false≢true}
use Rattle.std.specs.List.{list_any, position_or_len}
use Rattle.crgc_ids.specs.Actor.{Actor, same_actor}
use Rattle.crgc_ids.specs.Members.{IsAmong}
use Rattle.history_model.specs.Cluster.{Cluster}
use Rattle.history_model.specs.Folds.{Fold}
use Rattle.history_model.specs.Graph.{known_actors}
use Rattle.edge_table.specs.Table.{Edges}
use Rattle.membership.specs.Noted.{Noted}
use Rattle.shadow_table.specs.Shadows.{ChangesShadow, Shadows, as_dropped, blank, is_named, place_in, shadow_at}
use Rattle.shadow_table.specs.declared.table.Shadow.{Shadow}
use Rattle.std.specs.Prelude.{◌↔◌}
use Rattle.undo_log.specs.declared.corrections.Correction.{Correction}
use Rattle.shadow_graph.specs.Stands.{IsGraphOf}

-- ---- an actor that was not named

pub none-passes : {X : Type 0} (test : X → Bool) (xs : List X) → list_any test xs ≡ false → position_or_len test xs ≡ length xs
none-passes test [] none = refl
none-passes test (x ∷ xs) none =
    let Case : Bool → Type 0 = λ b. (b || list_any test xs) ≡ false → cond (not b) (1 + position_or_len test xs) 0 ≡ suc (length xs) in
    let case : Case (test x) = elim (test x) as Case [
      | true ↦ λ t. absurd (false≢true (sym t))
      | false ↦ λ f. (let later = none-passes test xs f in omega (arith, later))
    ] in
    case none

pub past-end : {X : Type 0} (xs : List X) (n : ℕ) (d : X) → length xs ≤ n → get_or xs n d ≡ d
past-end [] n d past = refl
past-end (x ∷ xs) zero d past = absurd (omega arith)
past-end (x ∷ xs) (suc n) d past = past-end xs n d (omega arith)

pub unnamed-blank : (t : Shadows) (a : Actor) → length t.shadows ≡ length t.names → is_named t.names a ≡ false → shadow_at t a ≡ blank
unnamed-blank t a long none =
    let last : place_in t.names a ≡ length t.names = none-passes (same_actor a) t.names none in
    past-end t.shadows (place_in t.names a) blank (omega (arith, long, last))

-- ---- an actor is dropped

drop-keeps : {X : Type 0} (read : Shadow → X) → ((s : Shadow) → read (as_dropped s) ≡ read s) → (v : Bool) (s : Shadow) → read (cond v (as_dropped s) s) ≡ read s
drop-keeps read same true s = same s
drop-keeps read same false s = refl

-- what a drop does not change of a shadow is as before
kept-at : {X : Type 0} (read : Shadow → X) → ((s : Shadow) → read (as_dropped s) ≡ read s) → (s t : Shadows) (actor : Actor) → ChangesShadow s t actor as_dropped → (a : Actor) → read (shadow_at t a) ≡ read (shadow_at s a)
kept-at read same s t actor drops a = ap read (drops.shadows a) ∙ drop-keeps read same (same_actor a actor) (shadow_at s a)

pub dropped-stands : (cl : Cluster) (f : Fold) (s t : Shadows) (e : Edges) (m n : ℕ) (log : List (List Correction)) (finals : Noted) (cut : List ℕ) (actor : Actor) → ChangesShadow s t actor as_dropped → IsGraphOf cl f (record { shadows = s; edges = record e { places = m }; log = log; finals = finals; cut = cut }) → IsGraphOf cl f (record { shadows = t; edges = record e { places = n }; log = log; finals = finals; cut = cut })
dropped-stands cl f s t e m n log finals cut actor drops stands = record {
  nodes = stands.nodes;
  cut = stands.cut;
  known = subst (λ ns. (a : Actor) → IsAmong a ns ↔ IsAmong a (known_actors cl f)) (sym drops.names) stands.known;
  counts = record {
    received = λ a. kept-at (λ x. x.received) (λ x. refl) s t actor drops a ∙ stands.counts.received a;
    told = λ a. kept-at (λ x. x.told) (λ x. refl) s t actor drops a ∙ stands.counts.told a;
    admitted = λ a. kept-at (λ x. x.admitted) (λ x. refl) s t actor drops a ∙ stands.counts.admitted a;
    flags = λ a. kept-at (λ x. x.flags) (λ x. refl) s t actor drops a ∙ stands.counts.flags a;
    count = stands.counts.count;
  };
  log = stands.log;
  links = stands.links;
}
