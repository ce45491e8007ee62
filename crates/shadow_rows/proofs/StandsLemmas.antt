-- What one more bulletin and one more lost node change in the counts of a graph that stands for a fold.
use Rattle.std.proofs.Common.{◌≡◌, ◌+◌, ◌<◌, ◌==◌, ℕ, Bool, true, false, cond, not, List, Option, Some, None, refl, sym, ◌∙◌, ap, inl, inr, arith}
use Rattle.std.proofs.lemmas.Bool.{cases_eq, eq-eqb, ne_eqb}
use Rattle.std.proofs.lemmas.Int.{ints}
use Rattle.std.specs.Option.{option_or}
use Rattle.history_model.specs.declared.records.Bulletin.{Bulletin}
use Rattle.history_model.specs.Cluster.{Cluster}
use Rattle.history_model.specs.Tally.{tally}
use Rattle.history_model.specs.Facts.{Fact, Flags, is_created, is_sent_to}
use Rattle.history_model.specs.Folds.{Fold}
use Rattle.history_model.specs.Graph.{own_flags}
use Rattle.history_model.specs.Ledgers.{actor_total, pair_total}
use Rattle.history_model.specs.MoreFolded as folds
use Rattle.history_model.specs.MoreFolded.{IsLostToo, link_part, link_rows, own_part, own_rows, with_notice}
use Rattle.history_model.specs.Streams.{Notice}
use Rattle.history_model.specs.Tells.{Tells}
use Rattle.history_model.proofs.Lists.{tally-append}
use Rattle.history_model.proofs.OneMoreBulletin.{counts-notice, knows-notice, link-rows, own-rows, told_by-else, told_by-here}
use Rattle.history_model.proofs.OneMoreLost.{moves-counts}
use Rattle.edge_table.specs.Table.{Edges}
use Rattle.shadow_table.specs.Shadows.{Shadows, flag_pair}
use Rattle.shadow_table.specs.declared.table.Shadow.{Shadow}
use Rattle.undo_log.specs.Told.{told_by}
use Rattle.undo_log.specs.declared.corrections.Correction.{Correction}
use Rattle.shadow_rows.specs.Rows.{AddsLog, AddsRows, Settles}
use Rattle.shadow_rows.specs.Folded.{CountsFold, LogsFold}

flip : (b : Bool) (x y : ℕ) → cond (not b) x y ≡ cond b y x
flip true x y = refl
flip false x y = refl

pair-or : (v : Bool) (x y : Option Flags) → cond v (option_or (flag_pair x) (flag_pair y)) (flag_pair y) ≡ flag_pair (cond v (option_or x y) y)
pair-or true None y = refl
pair-or true (Some x) y = refl
pair-or false x y = refl

-- one more bulletin
pub counts-added : (cl : Cluster) (lost : ℕ → Bool) (f : Fold) (o : ℕ) (b : Bulletin) (n : Notice) (shadows shadows' : Shadows) (edges edges' : Edges) → o < cl.nodes → Tells o b n → CountsFold cl lost f shadows edges → AddsRows o (not (lost o)) (own_rows b) (link_rows lost b) shadows shadows' edges edges' → CountsFold cl lost (with_notice o n f) shadows' edges'
counts-added cl lost f o b n shadows shadows' edges edges' inside tells before adds =
    let law = counts-notice cl lost o n f inside in
    let own = own-rows o b n tells in
    let link = link-rows lost o b n tells in
    record {
      received = λ a. ap (λ (s : Shadow). s.received) (adds.shadows a) ∙ (λ i. before.received a i + own.received a i) ∙ sym (law.received a);
      told = λ a.
          ap (λ (s : Shadow). s.told) (adds.shadows a)
          ∙ (λ i. before.told a i + (flip (lost o) (actor_total a (own_rows b).sent) 0 ∙ ap (cond (lost o) 0) (own.sent a)) i)
          ∙ sym (law.told a);
      admitted = λ a. ap (λ (s : Shadow). s.admitted) (adds.shadows a) ∙ (λ i. before.admitted a i + link.sent a i) ∙ sym (law.admitted a);
      flags = λ a.
          ap (λ (s : Shadow). s.flags) (adds.shadows a)
          ∙ (λ i. cond (a.node == o) (option_or (flag_pair (own.flags a i)) (before.flags a i)) (before.flags a i))
          ∙ pair-or (a.node == o) _ (own_flags f a) ∙ ap flag_pair (sym ((knows-notice cl o n f inside).flags a));
      count = λ c a. (
          let new = adds.count c a in
          let old = before.count c a in
          let made = law.created c a in
          let brought = law.carried c a in
          let sends = flip (lost o) (pair_total c a (own_rows b).created) 0 ∙ ap (cond (lost o) 0) (own.created c a) in
          let links = link.created c a in
          let released = own.released c a in
          let more = law.released c a in
          omega (arith, ints, new, old, made, brought, sends, links, released, more)
          );
    }

pub logs-added : (cl : Cluster) (f : Fold) (o : ℕ) (b : Bulletin) (n : Notice) (log log' : List (List Correction)) → o < cl.nodes → Tells o b n → LogsFold cl f log → AddsLog o b log log' → LogsFold cl (with_notice o n f) log'
logs-added cl f o b n log log' inside tells before adds =
    let own = own-rows o b n tells in
    record {
      told = λ s below a. adds.told s None a ∙ told s (is_sent_to a) (actor_total a (own_rows b).sent) (told_by log s None a) (before.told s below a) (own.sent a);
      created = λ s below c a. adds.told s (Some c) a ∙ told s (is_created c a) (pair_total c a (own_rows b).created) (told_by log s (Some c) a) (before.created s below c a) (own.created c a);
      admitted = λ s below a. adds.admitted s None a ∙ (λ i. before.admitted s below a i + (link-rows (λ k. k == s) o b n tells).sent a i) ∙ sym ((counts-notice cl (λ k. k == s) o n f inside).admitted a);
      carried = λ s below c a. adds.admitted s (Some c) a ∙ (λ i. before.carried s below c a i + (link-rows (λ k. k == s) o b n tells).created c a i) ∙ sym ((counts-notice cl (λ k. k == s) o n f inside).carried c a);
    }
  where
    told : (s : ℕ) (test : Fact → Bool) (count was : ℕ) → was ≡ tally test (folds.told_by s f) → count ≡ tally test (own_part n) → was + cond (s == o) count 0 ≡ tally test (folds.told_by s (with_notice o n f))
    told s test count was old own =
        elim (cases_eq s o) [
          | inl same ↦ (
              let more = tally-append test (folds.told_by o f) (own_part n) in
              let here = ap (λ k. tally test (folds.told_by k (with_notice o n f))) same ∙ ap (tally test) (told_by-here o n f) in
              let there = ap (λ k. tally test (folds.told_by k f)) same in
              let counts = ap (λ v. cond v count 0) (eq-eqb s o same) in
              omega (arith, more, here, there, counts, old, own)
              )
          | inr apart ↦ (
              let here = ap (tally test) (told_by-else o s n f apart) in
              let counts = ap (λ v. cond v count 0) (ne_eqb s o apart) in
              omega (arith, here, counts, old)
              )
        ]

-- one more lost node
pub counts-moved : (cl : Cluster) (s : ℕ) (lost more : ℕ → Bool) (f : Fold) (log : List (List Correction)) (shadows shadows' : Shadows) (edges edges' : Edges) → s < cl.nodes → IsLostToo s lost more → LogsFold cl f log → CountsFold cl lost f shadows edges → Settles s log shadows shadows' edges edges' → CountsFold cl more f shadows' edges'
counts-moved cl s lost more f log shadows shadows' edges edges' inside too logs before moves =
    let law = moves-counts cl s lost more f inside too in
    record {
      received = λ a. ap (λ (s : Shadow). s.received) (moves.shadows a) ∙ before.received a;
      told = λ a. (
          let new = ap (λ (s : Shadow). s.told) (moves.shadows a) in
          let old = before.told a in
          let fell = law.told a in
          let noted = logs.told s inside a in
          omega (arith, new, old, fell, noted)
          );
      admitted = λ a. (
          let new = ap (λ (s : Shadow). s.admitted) (moves.shadows a) in
          let old = before.admitted a in
          let rose = law.admitted a in
          let noted = logs.admitted s inside a in
          omega (arith, new, old, rose, noted)
          );
      flags = λ a. ap (λ (s : Shadow). s.flags) (moves.shadows a) ∙ before.flags a;
      count = λ b a. (
          let new = moves.count b a in
          let old = before.count b a in
          let fell = law.created b a in
          let rose = law.carried b a in
          let noted = logs.created s inside b a in
          let brought = logs.carried s inside b a in
          omega (arith, ints, new, old, fell, rose, noted, brought)
          );
    }
