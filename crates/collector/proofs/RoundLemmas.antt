-- Whom a sweep stops that marks in rounds, and what the collector is after it.
use Rattle.std.proofs.Common.{◌≡◌, ◌==◌, ◌∙◌, ◌||◌, ◌+◌, ◌<◌, ◌++◌, ℕ, Bool, true, false, cond, List, [], ◌∷◌, length, sym, ap, inl, inr, take}
use Rattle.std.proofs.lemmas.Bool.{false≢true, or_parts}
use Rattle.std.proofs.lemmas.List.{append-nil}
use Rattle.std.proofs.lemmas.List.Elements.{filter_more}
use Rattle.std.specs.List.{filter, list_any}
use Rattle.crgc_ids.specs.Actor.{Actor}
use Rattle.history_model.specs.declared.records.Verdict.{Verdict}
use Rattle.history_model.specs.Graph.{holds_actor}
use Rattle.shadow_rows.specs.Tabled.{no_actor}
use Rattle.shadow_graph.specs.Graph.{Graph, lost_in}
use Rattle.shadow_graph.specs.Places.{actor_of}
use Rattle.pseudoroot_trace.proofs.GraphLemmas.{is-or-not}
use Rattle.pseudoroot_trace.specs.Traced.{Traced, is_marked_in}
use Rattle.collector.specs.Collected.{Collected, flag_at, was_stopped}
use Rattle.collector.specs.Kept.{IsKept}
use Rattle.collector.specs.Sweeping.{Finds, SetsFlags, Sweeps}
use Rattle.collector.specs.Traced.{AreGone, NoneIsLeft, falls_at}
use Rattle.collector.proofs.DropLemmas.{gone-more}
use Rattle.collector.proofs.SweepLemmas.{falls-from, falls-parts, sweeps-is}

-- ---- place by place

module _ (g : Graph) (test : Actor → Bool) (n : ℕ) (found : List Actor) (inside : n < length g.shadows.names)
    (is : found ≡ filter test (take n g.shadows.names)) where
  abbrev Goal : List Actor → Type 0
  Goal more = more ≡ filter test (take (n + 1) g.shadows.names)

  -- whom the sweep stops at the next place is found too
  pub found-one : (more : List Actor) → test (actor_of g n) ≡ true → more ≡ found ++ actor_of g n ∷ [] → Goal more
  found-one more so added =
      added ∙ (λ i. is i ++ cond (sym so i) (actor_of g n ∷ []) []) ∙ sym (filter_more test g.shadows.names n no_actor inside)

  -- and if it stops nobody there, nobody is
  pub found-skip : test (actor_of g n) ≡ false → Goal found
  found-skip none =
      is ∙ sym (append-nil (filter test (take n g.shadows.names))) ∙ (λ i. filter test (take n g.shadows.names) ++ cond (sym none i) (actor_of g n ∷ []) [])
      ∙ sym (filter_more test g.shadows.names n no_actor inside)

-- ---- a sweep

-- who would be stopped where more were stopped would be stopped before
pub left-more : (t : Traced) (node : ℕ) (stopped now : List Bool) (actors : List Actor) → SetsFlags actors stopped now
    → NoneIsLeft t node stopped → NoneIsLeft t node now
left-more t node stopped now actors sets left fresh p inside free =
    elim (is-or-not (falls_at t node now p)) [
      | inl is ↦ absurd (false≢true (sym (left fresh p inside free) ∙ before is))
      | inr none ↦ none
    ]
  where
    a : Actor
    a = actor_of t.graph p

    before : falls_at t node now p ≡ true → falls_at t node stopped p ≡ true
    before is =
        let parts = falls-parts t.graph (is_marked_in t) node now a is in
        let flags = or_parts (flag_at stopped a.serial) (list_any (λ b. b.serial == a.serial) actors) (sym (sets a.serial) ∙ parts.fresh) in
        falls-from t.graph (is_marked_in t) node stopped a
        (record { here = parts.here; fresh = flags.0; known = parts.known; kept = parts.kept; unmarked = parts.unmarked })

-- the collector sweeps, and keeps its parts
module _ (c new : Collected) (marked : Actor → Bool) (verdict : Verdict) (actors gone more : List Actor) (kept : IsKept c) (are : AreGone c gone)
    (finds : Finds c.graph marked c.node c.stopped actors verdict.stops) (sets : SetsFlags actors c.stopped new.stopped) (node : new.node ≡ c.node)
    (order : new.order ≡ c.order) (graph : new.graph ≡ c.graph) (all : more ≡ gone ++ actors)
    (v_node : verdict.node ≡ c.node) (v_cut : verdict.cut ≡ c.order.cut) (v_lost : verdict.lost ≡ lost_in c.graph) where
  both : Sweeps c new verdict × IsKept new
  both = sweeps-is c new marked actors verdict kept finds sets node order graph v_node v_cut v_lost

  pub rounds-sweep : Sweeps c new verdict
  rounds-sweep = both.0

  pub rounds-kept : IsKept new
  rounds-kept = both.1

  pub rounds-gone : AreGone new more
  rounds-gone =
      gone-more c new gone more actors graph (λ a. both.0.stopped a ∙ ap (λ xs. was_stopped c a || holds_actor xs a) finds.each) all are
