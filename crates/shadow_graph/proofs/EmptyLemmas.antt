-- The graph with nothing folded.
use Rattle.std.proofs.Common.{◌≡◌, ◌≤◌, ◌++◌, ℕ, Bool, true, false, cond, List, [], ◌∷◌, Option, Some, None, get_or, replicate, refl, rules, sym, ◌∙◌, ap, subst, arith, ◌<◌, ◌+◌}
use Rattle.std.proofs.lemmas.Int.{ints}
use Rattle.std.proofs.lemmas.List.{get_or-replicate}
use Rattle.std.proofs.lemmas.List.Concat.{flat_map-cons}
use Rattle.std.specs.List.{AllByRecursion, flat_map, position_or_len}
use Rattle.crgc_ids.specs.Actor.{Actor}
use Rattle.crgc_ids.specs.Members.{IsAmong}
use Rattle.history_model.specs.Cluster.{Cluster}
use Rattle.history_model.specs.Facts.{Fact, is_created, is_received, is_released, is_sent_to}
use Rattle.history_model.specs.Folds.{final_links, is_lost, links_into}
use Rattle.history_model.specs.Graph.{delta_facts, known_actors, named_by, notice_facts, rising_actors}
use Rattle.history_model.specs.Tally.{tally}
use Rattle.crgc_ids.specs.LostNodes.{lost_nodes}
use Rattle.crgc_ids.specs.Nodes.{nodes_below}
use Rattle.edge_table.specs.Table.{Edges, no_edge, same_pair}
use Rattle.edge_table.specs.declared.table.Edge.{Edge}
use Rattle.membership.specs.Noted.{Noted, links_of}
use Rattle.shadow_table.specs.Shadows.{Shadows, no_shadows, shadow_at}
use Rattle.std.specs.Prelude.{slice_index_or}
use Rattle.undo_log.specs.Told.{admitted_from, rows_of, told_by}
use Rattle.undo_log.specs.declared.corrections.Correction.{Correction}
use Rattle.undo_log.specs.Totals.{admitted_total, told_total}
use Rattle.shadow_graph.specs.Graph.{Graph}
use Rattle.shadow_rows.specs.Pairs.{edge_between}
use Rattle.shadow_graph.specs.Kept.{IsKept}
use Rattle.shadow_graph.specs.Stands.{IsGraphOf}

flat_map-none : {X Y : Type 0} (f : X → List Y) → ((x : X) → f x ≡ []) → (xs : List X) → flat_map f xs ≡ []
flat_map-none f none [] = refl
flat_map-none f none (x ∷ xs) = flat_map-cons f x xs ∙ (λ i. none x i ++ flat_map-none f none xs i)

either-none : (v : Bool) → cond v [] (delta_facts []) ≡ []
either-none true = refl
either-none false = refl

tally-none : (test : Fact → Bool) (f : ℕ → List Fact) → ((o : ℕ) → f o ≡ []) → (xs : List ℕ) → tally test (flat_map f xs) ≡ 0
tally-none test f none xs = ap (tally test) (flat_map-none f none xs)

pub nothing-folded : (cl : Cluster) (g : Graph) → g.finals.nodes ≤ 16 → g.finals.nodes ≡ cl.nodes → links_of g.finals ≡ [] → g.cut ≡ replicate 16 0 → g.shadows ≡ no_shadows → g.edges.pairs ≡ [] → g.edges.edges ≡ [] → ((n : ℕ) → rows_of g.log n ≡ []) → IsGraphOf cl (λ o. []) g
nothing-folded cl g few nodes links cut shadows pairs edges log =
    let all = nodes_below cl.nodes in
    let lost = is_lost cl (λ o. []) in
    let told : (test : Fact → Bool) → tally test (flat_map (λ o. cond (lost o) [] (delta_facts [])) all) ≡ 0 = λ test. tally-none test (λ o. cond (lost o) [] (delta_facts [])) (λ o. either-none (lost o)) all in
    let none : (test : Fact → Bool) → tally test (flat_map (λ (o : ℕ). delta_facts []) all) ≡ 0 = λ test. tally-none test (λ o. delta_facts []) (λ o. refl) all in
    let edge : (b a : Actor) → edge_between g.edges b a ≡ no_edge = λ b a. λ i. slice_index_or (edges i) (position_or_len (same_pair (b, a)) (pairs i)) no_edge in
    let known : known_actors cl (λ o. []) ≡ [] = ap (λ ns. rising_actors (flat_map named_by ns)) (flat_map-none (λ (o : ℕ). notice_facts []) (λ o. refl) all) in
    let finals : final_links cl (λ o. []) ≡ [] = flat_map-none (λ (d : ℕ). links_into d []) (λ d. refl) all in
    record {
      nodes = nodes;
      cut = λ o below. ap (λ c. get_or c o 0) cut ∙ get_or-replicate 16 o 0 0 (omega (arith, below, nodes, few));
      known = λ a. (
        λ m. absurd (subst (λ (s : Shadows). IsAmong a s.names) shadows m),
        λ m. absurd (subst (IsAmong a) known m),
      );
      counts = record {
        received = λ a. ap (λ (s : Shadows). (shadow_at s a).received) shadows ∙ sym (none (is_received a));
        told = λ a. ap (λ (s : Shadows). (shadow_at s a).told) shadows ∙ sym (told (is_sent_to a));
        admitted = λ a. ap (λ (s : Shadows). (shadow_at s a).admitted) shadows ∙ sym (none (is_sent_to a));
        flags = λ a. ap (λ (s : Shadows). (shadow_at s a).flags) shadows;
        count = λ b a. (
            let here = ap (λ (e : Edge). e.count) (edge b a) in
            let made = told (is_created b a) in
            let brought = none (is_created b a) in
            let released = none (is_released b a) in
            omega (arith, ints, here, made, brought, released)
            );
      };
      log = λ more. record {
        told = λ n below a. ap (told_total None a) (log n);
        created = λ n below b a. ap (told_total (Some b) a) (log n);
        admitted = λ n below a. ap (admitted_total None a) (log n) ∙ sym (none (is_sent_to a));
        carried = λ n below b a. ap (admitted_total (Some b) a) (log n) ∙ sym (none (is_created b a));
      };
      links = (
        λ l m. absurd (subst (IsAmong l) links m),
        λ l m. absurd (subst (IsAmong l) finals m),
      );
    }

-- what is kept where nothing is folded
pub nothing-kept : (s : Shadows) (e : Edges) (log : List (List Correction)) (finals : Noted) (lost cut : List ℕ) → s ≡ no_shadows → e ≡ record { pairs = []; edges = []; places = 0 } → ((n : ℕ) → rows_of log n ≡ []) → finals.nodes ≤ 16 → lost ≡ lost_nodes finals.nodes (links_of finals) → cut ≡ replicate 16 0 → IsKept s e log finals lost cut
nothing-kept s e log finals lost cut shadows edges noted few by_finals is =
    let all : AllByRecursion (λ k. k ≤ 1000000) (replicate 16 0) = search rules in
    let none : IsKept no_shadows (record { pairs = []; edges = []; places = 0 }) log finals lost (replicate 16 0) = record {
      tabled = record { room = omega arith; owner_named = λ k inside. absurd (omega arith); target_named = λ k inside. absurd (omega arith); owner = λ k inside. absurd (omega arith); target = λ k inside. absurd (omega arith) };
      covered = λ n owner target some. absurd (nothing n owner target some);
      within = record {
        received = λ a. omega arith;
        told = λ a. omega arith;
        admitted = λ a. omega arith;
        count = λ b a. (omega (arith, ints), omega (arith, ints));
        log_told = λ n owner target. (let no = told n owner target in omega (arith, no));
        log_admitted = λ n owner target. (let no = admitted n owner target in omega (arith, no));
      };
      by_finals = by_finals;
      counts = all;
      long = refl;
      few = few;
    } in
    subst (λ (xs : List ℕ). IsKept s e log finals lost xs) (sym is) (subst (λ (f : Edges). IsKept s f log finals lost (replicate 16 0)) (sym edges) (subst (λ (t : Shadows). IsKept t (record { pairs = []; edges = []; places = 0 }) log finals lost (replicate 16 0)) (sym shadows) none))
  where
    told : (n : ℕ) (owner : Option Actor) (target : Actor) → told_by log n owner target ≡ 0
    told n owner target = ap (told_total owner target) (noted n)

    admitted : (n : ℕ) (owner : Option Actor) (target : Actor) → admitted_from log n owner target ≡ 0
    admitted n owner target = ap (admitted_total owner target) (noted n)

    nothing : (n : ℕ) (owner : Option Actor) (target : Actor) → 0 < told_by log n owner target + admitted_from log n owner target → ⊥
    nothing n owner target some = (let no = told n owner target in let none = admitted n owner target in omega (arith, no, none, some))
