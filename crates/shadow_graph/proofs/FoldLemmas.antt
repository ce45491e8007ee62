-- What the graph keeps as nodes are lost, and what it stands for once a bulletin is folded.
use Rattle.std.proofs.Common.{◌≡◌, ◌≢◌, ◌+◌, ◌<◌, ◌≤◌, ◌&&◌, ◌⊎◌, ◌↔◌, ℕ, Bool, true, false, cond, not, List, [], ◌∷◌, Result, Ok, Err, OnOk, length, take, refl, sym, ◌∙◌, ap, subst, arith, count_by}
use Rattle.std.proofs.lemmas.Bool.{false≢true}
use Rattle.std.proofs.lemmas.Int.{ints}
use Rattle.std.proofs.lemmas.List.{take_all}
use Rattle.std.proofs.lemmas.List.Sums.{sum_by-cons}
use Rattle.std.specs.List.{sum_by}
use Rattle.crgc_ids.specs.Actor.{Actor}
use Rattle.crgc_ids.specs.LostNodes.{lost_nodes}
use Rattle.crgc_ids.specs.Members.{IsAmong, IsPart}
use Rattle.crgc_ids.specs.Nodes.{has_node, nodes_below}
use Rattle.crgc_ids.proofs.NodesLaws.{has_node-from_true, has_node-member}
use Rattle.history_model.specs.declared.records.Bulletin.{Bulletin}
use Rattle.history_model.specs.declared.records.Bulletin.TheVariants as bulletins
use Rattle.history_model.specs.declared.records.Delta.{Delta}
use Rattle.history_model.specs.declared.records.Window.{Window}
use Rattle.history_model.specs.Folds.{links_into}
use Rattle.history_model.specs.Ledgers.{ledger_names}
use Rattle.history_model.specs.MoreFolded.{link_rows, own_rows}
use Rattle.history_model.specs.Streams.{Notice, delta, window_of, final_of}
use Rattle.history_model.specs.Tells.{IsOrdered, Tells, bulletin_ledger, origin_of}
use Rattle.edge_table.specs.Table.{Edges}
use Rattle.membership.specs.Noted.{Noted, links_of}
use Rattle.shadow_table.specs.Shadows.{Shadows}
use Rattle.shadow_table.specs.declared.table.Shadow.{Shadow}
use Rattle.undo_log.specs.declared.corrections.Correction.{Correction}
use Rattle.shadow_rows.specs.Rows.{IsLogCovered, NamesRows}
use Rattle.shadow_rows.specs.Touched.{LeavesActor, is_touched}
use Rattle.shadow_graph.specs.Graph.{Graph, lost_in}
use Rattle.shadow_graph.specs.Kept.{AreWithin, IsKept, lost_count}
use Rattle.shadow_rows.specs.Losing.{Corrects, LosesNodes, gain_before, is_newly_lost}
use Rattle.shadow_rows.specs.Pairs.{KeepsEnds}
use Rattle.shadow_rows.specs.Settled.{IsCovered}
use Rattle.shadow_rows.specs.Folded.{CountsFold}
use Rattle.shadow_graph.specs.Taken.{ClosesLink, FoldsIn, TakesIn, touches}
use Rattle.shadow_rows.proofs.AddedLemmas.{tabled-counted}
use Rattle.shadow_rows.proofs.TouchLemmas.{leaves-untouched, or-parts}
use Rattle.shadow_graph.proofs.GraphLemmas.{graph-final, graph-more}

-- ---- more nodes are lost

gains : (b a : Bool) → (b ≡ true → a ≡ true) → cond b 1 0 + cond (a && not b) 1 0 ≡ cond a 1 0
gains true true part = refl
gains true false part = absurd (false≢true (part refl))
gains false true part = refl
gains false false part = refl

-- the nodes lost now are those lost before and the newly lost ones
count-gain : (before after xs : List ℕ) → ((k : ℕ) → has_node before k ≡ true → has_node after k ≡ true) → count_by (has_node before) xs + count_by (is_newly_lost before after) xs ≡ count_by (has_node after) xs
count-gain before after [] part = refl
count-gain before after (k ∷ xs) part =
    let was : count_by (has_node before) (k ∷ xs) ≡ cond (has_node before k) 1 0 + count_by (has_node before) xs = sum_by-cons (λ x. cond (has_node before x) 1 0) k xs in
    let newly : count_by (is_newly_lost before after) (k ∷ xs) ≡ cond (is_newly_lost before after k) 1 0 + count_by (is_newly_lost before after) xs = sum_by-cons (λ x. cond (is_newly_lost before after x) 1 0) k xs in
    let now : count_by (has_node after) (k ∷ xs) ≡ cond (has_node after k) 1 0 + count_by (has_node after) xs = sum_by-cons (λ x. cond (has_node after x) 1 0) k xs in
    let here = gains (has_node before k) (has_node after k) (part k) in
    let later = count-gain before after xs part in
    omega (arith, was, newly, now, here, later)

lost-more : (before after : List ℕ) → IsPart before after → lost_count before + gain_before before after 16 ≡ lost_count after
lost-more before after part =
    let all : take 16 (nodes_below 16) ≡ nodes_below 16 = take_all 16 (nodes_below 16) (omega arith) in
    let gain : gain_before before after 16 ≡ count_by (is_newly_lost before after) (nodes_below 16) = ap (count_by (is_newly_lost before after)) all in
    let total = count-gain before after (nodes_below 16) (λ k t. has_node-member after k (part k (has_node-from_true before k t))) in
    omega (arith, gain, total)

within-lost : (folded lost gain now : ℕ) (s t : Shadows) (e f : Edges) (log : List (List Correction)) → lost + gain ≡ now → Corrects gain s t e f → AreWithin folded lost s e log → AreWithin folded now t f log
within-lost folded lost gain now s t e f log total corrects within = record {
  received = λ a. (let new = corrects.received a in let old = within.received a in omega (arith, new, old));
  told = λ a. (let new = corrects.told a in let old = within.told a in omega (arith, new, old));
  admitted = λ a. (let new = corrects.admitted a in let old = within.admitted a in omega (arith, new, old, total));
  count = λ b a. (
      let new = corrects.count b a in
      let old = within.count b a in
      let low = new.0 in
      let was_low = old.0 in
      let high = new.1 in
      let was_high = old.1 in
      (omega (arith, ints, low, was_low, total), omega (arith, ints, high, was_high, total))
      );
  log_told = within.log_told;
  log_admitted = within.log_admitted;
}

covered-named : (s t : Shadows) (e f : Edges) (log : List (List Correction)) → t.names ≡ s.names → f.pairs ≡ e.pairs → IsLogCovered s e log → IsLogCovered t f log
covered-named s t e f log names pairs covered n owner target some =
    subst (λ ns. IsCovered ns f.pairs owner target) (sym names) (subst (λ ps. IsCovered s.names ps owner target) (sym pairs) (covered n owner target some))

pub kept-lost : (s t : Shadows) (e f : Edges) (log : List (List Correction)) (finals finals' : Noted) (lost lost' cut : List ℕ) → IsKept s e log finals lost cut → finals'.nodes ≡ finals.nodes → lost' ≡ lost_nodes finals'.nodes (links_of finals') → IsPart (lost_nodes finals.nodes (links_of finals)) (lost_nodes finals'.nodes (links_of finals')) → Corrects (gain_before lost lost' 16) s t e f → t.names ≡ s.names → KeepsEnds e f → IsKept t f log finals' lost' cut
kept-lost s t e f log finals finals' lost lost' cut kept nodes by_finals grow corrects names ends =
    let part : IsPart lost lost' = subst (λ xs. IsPart xs lost') (sym kept.by_finals) (subst (IsPart (lost_nodes finals.nodes (links_of finals))) (sym by_finals) grow) in
    record {
      tabled = tabled-counted s.names t.names e f names ends kept.tabled;
      covered = covered-named s t e f log names ends.pairs kept.covered;
      within = within-lost (sum_by (λ k. k) cut) (lost_count lost) (gain_before lost lost' 16) (lost_count lost') s t e f log (lost-more lost lost' part) corrects kept.within;
      by_finals = by_finals;
      counts = kept.counts;
      long = kept.long;
      few = subst (λ n. n ≤ 16) (sym nodes) kept.few;
    }

-- counts do not depend on how many places there are
pub loses-seen : (log : List (List Correction)) (before before' after after' : List ℕ) (s t : Shadows) (e f : Edges) (m n : ℕ) → before ≡ before' → after ≡ after' → LosesNodes log before after s t e f → LosesNodes log before' after' s t (record e { places = m }) (record f { places = n })
loses-seen log before before' after after' s t e f m n same same' loses =
    let moved : LosesNodes log before' after' s t e f = subst (λ xs. LosesNodes log xs after' s t e f) same (subst (λ xs. LosesNodes log before xs s t e f) same' loses) in
    λ cl fold few part below logs counts.
    let was : CountsFold cl (has_node before') fold s e = record { received = counts.received; told = counts.told; admitted = counts.admitted; flags = counts.flags; count = counts.count } in
    let now = moved cl fold few part below logs was in
    record { received = now.received; told = now.told; admitted = now.admitted; flags = now.flags; count = now.count }

-- where no node is newly lost, nothing has to be settled
pub loses-none : (log : List (List Correction)) (before after : List ℕ) (s : Shadows) (e : Edges) → before ≡ after → LosesNodes log before after s s e e
loses-none log before after s e same = λ cl fold few part below logs counts. subst (λ xs. CountsFold cl (has_node xs) fold s e) same counts

pub kept-closed : (s : Shadows) (e : Edges) (log : List (List Correction)) (finals finals' : Noted) (lost cut : List ℕ) → IsKept s e log finals lost cut → finals'.nodes ≡ finals.nodes → lost ≡ lost_nodes finals'.nodes (links_of finals') → IsKept s e log finals' lost cut
kept-closed s e log finals finals' lost cut kept nodes by_finals = record {
  tabled = kept.tabled;
  covered = kept.covered;
  within = kept.within;
  by_finals = by_finals;
  counts = kept.counts;
  long = kept.long;
  few = subst (λ n. n ≤ 16) (sym nodes) kept.few;
}

-- ---- a bulletin is folded

no-link-delta : (o : ℕ) (d : Delta) (n : Notice) → Tells o (bulletins.Delta d) n → links_into o (n ∷ []) ≡ []
no-link-delta o d (delta facts) tells = refl
no-link-delta o d (window_of s facts) tells = absurd tells
no-link-delta o d (final_of s facts) tells = absurd tells

no-link-window : (o : ℕ) (w : Window) (n : Notice) → Tells o (bulletins.Window w) n → links_into o (n ∷ []) ≡ []
no-link-window o w (delta facts) tells = absurd tells
no-link-window o w (window_of s facts) tells = refl
no-link-window o w (final_of s facts) tells = absurd tells

link-final : (o : ℕ) (w : Window) (n : Notice) → Tells o (bulletins.Final w) n → links_into o (n ∷ []) ≡ (w.from, o) ∷ []
link-final o w (delta facts) tells = absurd tells
link-final o w (window_of s facts) tells = absurd tells
link-final o w (final_of s facts) tells = ap (λ (x : ℕ). (x, o) ∷ []) (sym tells.1)

leaves-taken : (o : ℕ) (b : Bulletin) (g h : Graph) → TakesIn o b g h → (a : Actor) → touches (lost_in g) b a ≡ false → LeavesActor g.shadows h.shadows g.edges h.edges a
leaves-taken o b g h takes a apart =
    let parts = or-parts (is_touched (own_rows b) a) (is_touched (link_rows (has_node (lost_in g)) b) a) apart in
    leaves-untouched o (not (has_node (lost_in g) o)) (own_rows b) (link_rows (has_node (lost_in g)) b) g.shadows h.shadows g.edges h.edges a parts.0 parts.1 takes.rows

folds-more : (o : ℕ) (b : Bulletin) (g h : Graph) → g.finals.nodes ≤ 16 → length g.cut ≡ 16 → IsOrdered b → o < g.finals.nodes → ((n : Notice) → Tells o b n → links_into o (n ∷ []) ≡ []) → TakesIn o b g h → h.finals ≡ g.finals → FoldsIn o b g h
folds-more o b g h few long order inside no_link takes same = record {
  stands = λ cl f n tells stands. graph-more cl f o b n g h (subst (λ k. o < k) stands.nodes inside) (omega arith) tells order (no_link n tells) takes same stands;
  names = takes.names;
  more = takes.more;
  leaves = λ a apart _. leaves-taken o b g h takes a apart;
  dropped = λ a. ap (λ (x : Shadow). x.dropped) (takes.rows.shadows a);
  cut = takes.cut;
  nodes = ap (λ (x : Noted). x.nodes) same;
}

pub folds-delta : (d : Delta) (g h : Graph) → g.finals.nodes ≤ 16 → length g.cut ≡ 16 → IsOrdered (bulletins.Delta d) → d.node < g.finals.nodes → TakesIn d.node (bulletins.Delta d) g h → h.finals ≡ g.finals → FoldsIn d.node (bulletins.Delta d) g h
folds-delta d g h few long order inside takes same = folds-more d.node (bulletins.Delta d) g h few long order inside (no-link-delta d.node d) takes same

pub folds-window : (w : Window) (g h : Graph) → g.finals.nodes ≤ 16 → length g.cut ≡ 16 → IsOrdered (bulletins.Window w) → w.at < g.finals.nodes → TakesIn w.at (bulletins.Window w) g h → h.finals ≡ g.finals → FoldsIn w.at (bulletins.Window w) g h
folds-window w g h few long order inside takes same = folds-more w.at (bulletins.Window w) g h few long order inside (no-link-window w.at w) takes same

pub folds-final : (w : Window) (g m h : Graph) → g.finals.nodes ≤ 16 → length g.cut ≡ 16 → IsOrdered (bulletins.Final w) → w.at < g.finals.nodes → w.from < g.finals.nodes → w.from ≢ w.at → TakesIn w.at (bulletins.Final w) g m → m.finals ≡ g.finals → ClosesLink w.from w.at m h → FoldsIn w.at (bulletins.Final w) g h
folds-final w g m h few long order inside from differ takes same closes =
    let o = w.at in
    let b : Bulletin = bulletins.Final w in
    let lost : lost_in m ≡ lost_in g = ap (λ (x : Noted). lost_nodes x.nodes (links_of x)) same in
    let counts : LosesNodes m.log (lost_in g) (lost_in h) m.shadows h.shadows m.edges h.edges = subst (λ xs. LosesNodes m.log xs (lost_in h) m.shadows h.shadows m.edges h.edges) lost closes.counts in
    let noted : (l : ℕ × ℕ) → IsAmong l (links_of h.finals) ↔ ((l ≡ (w.from, o)) ⊎ IsAmong l (links_of g.finals)) = λ l. subst (λ (x : Noted). IsAmong l (links_of h.finals) ↔ ((l ≡ (w.from, o)) ⊎ IsAmong l (links_of x))) same (closes.links l) in
    let nodes = closes.nodes ∙ ap (λ (x : Noted). x.nodes) same in
    record {
      stands = λ cl f n tells stands. graph-final cl f o w.from b n g m h (subst (λ k. k ≤ 16) stands.nodes few) (subst (λ k. o < k) stands.nodes inside) (subst (λ k. w.from < k) stands.nodes from) differ (omega arith) tells order (link-final o w n tells) takes same nodes noted closes.cut closes.log closes.names counts stands;
      names = subst (λ ns. NamesRows g.shadows.names ns (ledger_names (bulletin_ledger b))) (sym closes.names) takes.names;
      more = (takes.more.0, closes.names ∙ takes.more.1);
      leaves = λ a apart none. (
          let same_lost = none ∙ sym lost in
          let taken = leaves-taken o b g m takes a apart in
          subst (λ d. LeavesActor g.shadows h.shadows g.edges d a) (sym (closes.none.edges same_lost))
          (subst (λ s. LeavesActor g.shadows s g.edges m.edges a) (sym (closes.none.shadows same_lost)) taken)
          );
      dropped = λ a. closes.dropped a ∙ ap (λ (x : Shadow). x.dropped) (takes.rows.shadows a);
      cut = closes.cut ∙ takes.cut;
      nodes = nodes;
    }

-- ---- the bulletin that a call was given

on-ok : {X Y : Type 0} {P Q : Type 0} (r : Result X Y) → (P → Q) → OnOk r P → OnOk r Q
on-ok (Ok x) f p = f p
on-ok (Err e) f p = p

given-bulletin : (o : ℕ) (b c : Bulletin) (g h : Graph) → b ≡ c → origin_of b ≡ o → FoldsIn (origin_of c) c g h → FoldsIn o b g h
given-bulletin o b c g h is of folds = subst (λ k. FoldsIn k b g h) of (subst (λ x. FoldsIn (origin_of x) x g h) (sym is) folds)

own-inside : (o n : ℕ) (b c : Bulletin) → b ≡ c → origin_of b ≡ o → o < n → origin_of c < n
own-inside o n b c is of inside = subst (λ k. k < n) (sym of ∙ ap origin_of is) inside

pub folds-given_delta : {X Y : Type 0} (r : Result X Y) (o : ℕ) (b : Bulletin) (d : Delta) (g h : Graph) → b ≡ bulletins.Delta d → origin_of b ≡ o → o < g.finals.nodes → g.finals.nodes ≤ 16 → length g.cut ≡ 16 → IsOrdered (bulletins.Delta d) → OnOk r (TakesIn d.node (bulletins.Delta d) g h) → h.finals ≡ g.finals → OnOk r (FoldsIn o b g h)
folds-given_delta r o b d g h is of inside few long order takes same =
    let c : Bulletin = bulletins.Delta d in
    on-ok r (λ t. given-bulletin o b c g h is of (folds-delta d g h few long order (own-inside o g.finals.nodes b c is of inside) t same)) takes

pub folds-given_window : {X Y : Type 0} (r : Result X Y) (o : ℕ) (b : Bulletin) (w : Window) (g h : Graph) → b ≡ bulletins.Window w → origin_of b ≡ o → o < g.finals.nodes → g.finals.nodes ≤ 16 → length g.cut ≡ 16 → IsOrdered (bulletins.Window w) → OnOk r (TakesIn w.at (bulletins.Window w) g h) → h.finals ≡ g.finals → OnOk r (FoldsIn o b g h)
folds-given_window r o b w g h is of inside few long order takes same =
    let c : Bulletin = bulletins.Window w in
    on-ok r (λ t. given-bulletin o b c g h is of (folds-window w g h few long order (own-inside o g.finals.nodes b c is of inside) t same)) takes
