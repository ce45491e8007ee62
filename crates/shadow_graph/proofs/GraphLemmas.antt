-- The graph stands for the fold with one bulletin more.
use Rattle.std.proofs.Common.{◌≡◌, ◌≢◌, ◌+◌, ◌<◌, ◌≤◌, ◌||◌, ◌++◌, ◌⊎◌, ◌↔◌, ℕ, Bool, true, false, cond, List, [], ◌∷◌, length, get_or, set, refl, sym, ◌∙◌, ap, subst, inl, inr, arith, get_or-set_other, get_or-set_same}
use Rattle.std.proofs.lemmas.Bool.{cases_eq, lt-ltb, ne_eqb, eq-eqb}
use Rattle.std.proofs.lemmas.List.{length-append}
use Rattle.std.specs.List.{list_any}
use Rattle.crgc_ids.specs.Actor.{Actor, same_actor}
use Rattle.crgc_ids.specs.LostNodes.{lost_nodes}
use Rattle.crgc_ids.specs.Members.{IsAmong, IsPart}
use Rattle.crgc_ids.specs.Nodes.{has_node}
use Rattle.crgc_ids.proofs.LostNodesLaws.{lost_nodes-grow, lost_nodes-lost}
use Rattle.crgc_ids.proofs.NodesLaws.{has_node-from_true}
use Rattle.history_model.specs.declared.records.Bulletin.{Bulletin}
use Rattle.history_model.specs.Cluster.{Cluster}
use Rattle.history_model.specs.Folds.{Fold, links_into, lost_of}
use Rattle.history_model.specs.Graph.{known_actors}
use Rattle.history_model.specs.Ledgers.{ledger_names}
use Rattle.history_model.specs.MoreFolded.{AreLinksOf, with_notice}
use Rattle.history_model.specs.Streams.{Notice}
use Rattle.history_model.specs.Tells.{IsOrdered, Tells, bulletin_ledger}
use Rattle.history_model.proofs.OneMoreBulletin.{known-rows, knows-notice, lost-links}
use Rattle.history_model.proofs.RisingActors.{among-decides}
use Rattle.membership.specs.Noted.{links_of}
use Rattle.shadow_table.specs.Shadows.{is_named}
use Rattle.shadow_rows.specs.Rows.{NamesRows}
use Rattle.shadow_graph.specs.Graph.{Graph, is_logging, lost_in}
use Rattle.shadow_rows.specs.Losing.{LosesNodes}
use Rattle.shadow_rows.specs.Folded.{CountsFold, LogsFold}
use Rattle.shadow_graph.specs.Stands.{IsGraphOf}
use Rattle.shadow_graph.specs.Taken.{TakesIn}
use Rattle.shadow_rows.proofs.StandsLemmas.{counts-added, logs-added}

-- the lost nodes of the graph are those of the fold
pub lost-same : (cl : Cluster) (f : Fold) (g : Graph) → IsGraphOf cl f g → lost_in g ≡ lost_of cl f
lost-same cl f g stands = ap (λ n. lost_nodes n (links_of g.finals)) stands.nodes ∙ lost-links cl f (links_of g.finals) stands.links

-- the known actors are those before, and those that the rows name
known-more : (cl : Cluster) (f : Fold) (o : ℕ) (b : Bulletin) (n : Notice) (old new : List Actor) → o < cl.nodes → Tells o b n → IsOrdered b → NamesRows old new (ledger_names (bulletin_ledger b)) → ((a : Actor) → IsAmong a old ↔ IsAmong a (known_actors cl f)) → (a : Actor) → IsAmong a new ↔ IsAmong a (known_actors cl (with_notice o n f))
known-more cl f o b n old new inside tells order named known a =
    let rows = known-rows cl o b n f inside order tells a in
    let names = ledger_names (bulletin_ledger b) in (
      λ m. rows.1 (elim (or-true (is_named old a) (list_any (same_actor a) names) (sym (named a) ∙ (among-decides new a).1 m)) [
        | inl t ↦ inl ((known a).0 ((among-decides old a).0 t))
        | inr t ↦ inr ((among-decides names a).0 t)
      ]),
      λ m. (among-decides new a).0 (named a ∙ elim (rows.0 m) [
        | inl k ↦ ap (λ v. v || list_any (same_actor a) names) ((among-decides old a).1 ((known a).1 k))
        | inr k ↦ ap (λ v. is_named old a || v) ((among-decides names a).1 k) ∙ any-true (is_named old a)
      ]),
    )
  where
    or-true : (v w : Bool) → (v || w) ≡ true → (v ≡ true) ⊎ (w ≡ true)
    or-true true w t = inl refl
    or-true false w t = inr t

    any-true : (v : Bool) → (v || true) ≡ true
    any-true true = refl
    any-true false = refl

-- the cut counts the bulletin
cut-more : (cl : Cluster) (f : Fold) (o : ℕ) (n : Notice) (cut : List ℕ) → o < length cut → ((k : ℕ) → k < cl.nodes → get_or cut k 0 ≡ length (f k)) → (k : ℕ) → k < cl.nodes → get_or (set cut o (get_or cut o 0 + 1)) k 0 ≡ length (with_notice o n f k)
cut-more cl f o n cut inside counts k below =
    elim (cases_eq k o) [
      | inl same ↦ (
          let here : get_or (set cut o (get_or cut o 0 + 1)) k 0 ≡ get_or cut o 0 + 1 = ap (λ i. get_or (set cut o (get_or cut o 0 + 1)) i 0) same ∙ get_or-set_same cut o (get_or cut o 0 + 1) 0 inside in
          let more : length (f k ++ n ∷ []) ≡ length (f k) + 1 = length-append (f k) (n ∷ []) in
          here ∙ ap (λ i. get_or cut i 0 + 1) (sym same) ∙ ap (λ x. x + 1) (counts k below) ∙ sym more ∙ ap (λ v. length (cond v (f k ++ n ∷ []) (f k))) (sym (eq-eqb k o same))
          )
      | inr apart ↦ get_or-set_other cut o k (get_or cut o 0 + 1) 0 apart ∙ counts k below ∙ ap (λ v. length (cond v (f k ++ n ∷ []) (f k))) (sym (ne_eqb k o apart))
    ]

-- in a cluster of more than one node the log has the bulletin
log-more : (cl : Cluster) (f : Fold) (o : ℕ) (b : Bulletin) (n : Notice) (g h : Graph) → o < cl.nodes → Tells o b n → TakesIn o b g h → IsGraphOf cl f g → 1 < cl.nodes → LogsFold cl (with_notice o n f) h.log
log-more cl f o b n g h inside tells takes stands more =
    let logging : is_logging g ≡ true = lt-ltb 1 g.finals.nodes (subst (λ k. 1 < k) (sym stands.nodes) more) in
    logs-added cl f o b n g.log h.log inside tells (stands.log more) (takes.log.noted logging)

-- a link leads from one node to another, so there are two
two-nodes : (n s o : ℕ) → o < n → s < n → s ≢ o → 1 < n
two-nodes n s o at from differ =
    elim (cases_eq n 1) [ inl one ↦ absurd (differ (omega (arith, at, from, one))) | inr more ↦ omega (arith, at, more) ]

-- a bulletin that is no Final
pub graph-more : (cl : Cluster) (f : Fold) (o : ℕ) (b : Bulletin) (n : Notice) (g h : Graph) → o < cl.nodes → o < length g.cut → Tells o b n → IsOrdered b → links_into o (n ∷ []) ≡ [] → TakesIn o b g h → h.finals ≡ g.finals → IsGraphOf cl f g → IsGraphOf cl (with_notice o n f) h
graph-more cl f o b n g h inside within tells order none takes same stands =
    let lost = lost_in g in
    let was : CountsFold cl (has_node lost) f g.shadows g.edges = subst (λ xs. CountsFold cl (has_node xs) f g.shadows g.edges) (sym (lost-same cl f g stands)) stands.counts in
    let now = counts-added cl (has_node lost) f o b n g.shadows h.shadows g.edges h.edges inside tells was takes.rows in
    let finals = λ (s d : ℕ). (knows-notice cl o n f inside).finals s d in
    let links : AreLinksOf cl (with_notice o n f) (links_of g.finals) = (
      λ l m. (finals l.0 l.1).1 (inl (stands.links.0 l m)),
      λ l m. elim ((finals l.0 l.1).0 m) [
        | inl old ↦ stands.links.1 l old
        | inr new ↦ absurd (subst (IsAmong l) none new)
      ],
    ) in
    let lost_is : lost ≡ lost_of cl (with_notice o n f) = ap (λ k. lost_nodes k (links_of g.finals)) stands.nodes ∙ lost-links cl (with_notice o n f) (links_of g.finals) links in
    record {
      nodes = ap (λ x. x.nodes) same ∙ stands.nodes;
      cut = λ k below. ap (λ c. get_or c k 0) takes.cut ∙ cut-more cl f o n g.cut within stands.cut k below;
      known = known-more cl f o b n g.shadows.names h.shadows.names inside tells order takes.names stands.known;
      counts = subst (λ xs. CountsFold cl (has_node xs) (with_notice o n f) h.shadows h.edges) lost_is now;
      log = log-more cl f o b n g h inside tells takes stands;
      links = subst (λ x. AreLinksOf cl (with_notice o n f) (links_of x)) (sym same) links;
    }

-- a Final, whose link is noted, and after which the newly lost nodes are settled
pub graph-final : (cl : Cluster) (f : Fold) (o s : ℕ) (b : Bulletin) (n : Notice) (g m h : Graph) → cl.nodes ≤ 16 → o < cl.nodes → s < cl.nodes → s ≢ o → o < length g.cut → Tells o b n → IsOrdered b → links_into o (n ∷ []) ≡ (s, o) ∷ [] → TakesIn o b g m → m.finals ≡ g.finals → h.finals.nodes ≡ g.finals.nodes → ((l : ℕ × ℕ) → IsAmong l (links_of h.finals) ↔ ((l ≡ (s, o)) ⊎ IsAmong l (links_of g.finals))) → h.cut ≡ m.cut → h.log ≡ m.log → h.shadows.names ≡ m.shadows.names → LosesNodes m.log (lost_in g) (lost_in h) m.shadows h.shadows m.edges h.edges → IsGraphOf cl f g → IsGraphOf cl (with_notice o n f) h
graph-final cl f o s b n g m h few inside from differ within tells order one takes same same_nodes noted same_cut same_log same_names loses stands =
    let next = with_notice o n f in
    let lost = lost_in g in
    let was : CountsFold cl (has_node lost) f g.shadows g.edges = subst (λ xs. CountsFold cl (has_node xs) f g.shadows g.edges) (sym (lost-same cl f g stands)) stands.counts in
    let now = counts-added cl (has_node lost) f o b n g.shadows m.shadows g.edges m.edges inside tells was takes.rows in
    let logs = log-more cl f o b n g m inside tells takes stands in
    let finals = λ (x d : ℕ). (knows-notice cl o n f inside).finals x d in
    let links : AreLinksOf cl next (links_of h.finals) = (
      λ l k. (finals l.0 l.1).1 (elim ((noted l).0 k) [
        | inl e ↦ inr (subst (λ (x : ℕ × ℕ). IsAmong x (links_into o (n ∷ []))) (sym e) (subst (IsAmong (s, o)) (sym one) (inl refl)))
        | inr old ↦ inl (stands.links.0 l old)
      ]),
      λ l k. (noted l).1 (elim ((finals l.0 l.1).0 k) [
        | inl old ↦ inr (stands.links.1 l old)
        | inr new ↦ elim (subst (IsAmong l) one new) [ inl e ↦ inl e | inr no_more ↦ absurd no_more ]
      ]),
    ) in
    let nodes = same_nodes ∙ stands.nodes in
    let lost_is : lost_in h ≡ lost_of cl next = ap (λ k. lost_nodes k (links_of h.finals)) nodes ∙ lost-links cl next (links_of h.finals) links in
    let part : IsPart lost (lost_in h) = subst (λ k. IsPart lost (lost_nodes k (links_of h.finals))) (sym same_nodes) (lost_nodes-grow g.finals.nodes (links_of g.finals) (links_of h.finals) (λ l k. (noted l).1 (inr k))) in
    let below : (k : ℕ) → has_node (lost_in h) k ≡ true → k < cl.nodes = λ k t. subst (λ c. k < c) nodes ((lost_nodes-lost h.finals.nodes (links_of h.finals) k (has_node-from_true (lost_in h) k t)).0) in
    let settled = loses cl next few part below (logs (two-nodes cl.nodes s o inside from differ)) now in
    record {
      nodes = nodes;
      cut = λ k under. ap (λ c. get_or c k 0) (same_cut ∙ takes.cut) ∙ cut-more cl f o n g.cut within stands.cut k under;
      known = subst (λ ns. (a : Actor) → IsAmong a ns ↔ IsAmong a (known_actors cl next)) (sym same_names) (known-more cl f o b n g.shadows.names m.shadows.names inside tells order takes.names stands.known);
      counts = subst (λ xs. CountsFold cl (has_node xs) next h.shadows h.edges) lost_is settled;
      log = λ more. subst (LogsFold cl next) (sym same_log) (logs more);
      links = links;
    }
