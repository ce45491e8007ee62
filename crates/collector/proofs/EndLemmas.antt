-- What a collector is after a sweep.
use Rattle.std.proofs.Common.{◌≡◌, ◌||◌, ◌++◌, false, List, sym, ◌∙◌, ap, subst, arith}
use Rattle.crgc_ids.specs.Actor.{Actor}
use Rattle.history_model.specs.declared.records.Verdict.{Verdict}
use Rattle.history_model.specs.Graph.{holds_actor}
use Rattle.shadow_graph.specs.Graph.{Graph, lost_in}
use Rattle.pseudoroot_trace.specs.Traced.{AreStanding, IsSweptGraph, Traced, is_marked_in}
use Rattle.collector.specs.Collected.{Collected, was_stopped}
use Rattle.collector.specs.Kept.{IsKept}
use Rattle.collector.specs.Sweeping.{Finds, SetsFlags, Sweeps}
use Rattle.collector.specs.Traced.{AreGone, NoneIsLeft, TakesSome}
use Rattle.collector.proofs.DropLemmas.{gone-more}
use Rattle.collector.proofs.LeftLemmas.{left-swept}
use Rattle.collector.proofs.SweepLemmas.{found, sweeps-is}

-- the collector keeps its parts where its marks change, but not its graph
pub kept-graph : (c new : Collected) → new ≡ c → IsKept c → IsKept new
kept-graph c new same kept = subst IsKept (sym same) kept

pub gone-graph : (c new : Collected) (gone gone' : List Actor) → new ≡ c → gone' ≡ gone → AreGone c gone → AreGone new gone'
gone-graph c new gone gone' same more are = subst (λ xs. AreGone new xs) (sym more) (subst (λ d. AreGone d gone) (sym same) are)

-- the marks stand whatever fallen places are taken out
pub standing-taken : (u v : Traced) → TakesSome u v → AreStanding u.graph u.places u.kept → AreStanding v.graph v.places v.kept
standing-taken u v takes standing =
    subst (λ (x : Traced). AreStanding x.graph x.places x.kept) (sym takes) (record { ranked = standing.ranked; stands = standing.stands })

module _ (c new : Collected) (t u v w : Traced) (verdict : Verdict) (actors gone more : List Actor) (was : c.graph ≡ t.graph) (is : new.graph ≡ w.graph)
    (swept : IsSweptGraph t u) (takes : TakesSome u v) (keeps : w ≡ record v { is_stale = false }) (kept : IsKept c) (are : AreGone c gone)
    (finds : Finds u.graph (is_marked_in u) c.node c.stopped actors verdict.stops) (sets : SetsFlags actors c.stopped new.stopped) (node : new.node ≡ c.node)
    (order : new.order ≡ c.order) (all : more ≡ gone ++ actors) where
  -- the marks of the sweep, kept
  abbrev ended : Traced
  ended = record { graph = u.graph; kept = record u.kept { fallen = v.kept.fallen }; places = u.places; is_stale = false }

  is-ended : w ≡ ended
  is-ended = keeps ∙ (λ i. record (takes i) { is_stale = false })

  same-graph : new.graph ≡ c.graph
  same-graph = is ∙ ap (λ (x : Traced). x.graph) is-ended ∙ swept.graph ∙ sym was

  finds-here : Finds c.graph (is_marked_in u) c.node c.stopped actors verdict.stops
  finds-here = subst (λ (g : Graph). Finds g (is_marked_in u) c.node c.stopped actors verdict.stops) (swept.graph ∙ sym was) finds

  pub left-end : NoneIsLeft w new.node new.stopped
  left-end =
      let places = swept.places in
      let flagged : SetsFlags (found u.graph (is_marked_in u) c.node c.stopped) c.stopped new.stopped = subst (λ xs. SetsFlags xs c.stopped new.stopped) finds.found sets in
      let left : NoneIsLeft ended c.node new.stopped = left-swept ended c.node c.stopped new.stopped swept.placed (omega (arith, places)) flagged in
      subst (λ (x : Traced). NoneIsLeft x new.node new.stopped) (sym is-ended) (subst (λ n. NoneIsLeft ended n new.stopped) (sym node) left)

  both : verdict.node ≡ c.node → verdict.cut ≡ c.order.cut → verdict.lost ≡ lost_in c.graph → Sweeps c new verdict × IsKept new
  both v_node v_cut v_lost = sweeps-is c new (is_marked_in u) actors verdict kept finds-here sets node order same-graph v_node v_cut v_lost

  pub sweeps-end : verdict.node ≡ c.node → verdict.cut ≡ c.order.cut → verdict.lost ≡ lost_in w.graph → Sweeps c new verdict
  sweeps-end v_node v_cut v_lost = (both v_node v_cut (v_lost ∙ ap lost_in (sym is ∙ same-graph))).0

  pub kept-end : verdict.node ≡ c.node → verdict.cut ≡ c.order.cut → verdict.lost ≡ lost_in w.graph → IsKept new
  kept-end v_node v_cut v_lost = (both v_node v_cut (v_lost ∙ ap lost_in (sym is ∙ same-graph))).1

  pub gone-end : verdict.node ≡ c.node → verdict.cut ≡ c.order.cut → verdict.lost ≡ lost_in w.graph → AreGone new more
  gone-end v_node v_cut v_lost =
      let sweeps = sweeps-end v_node v_cut v_lost in
      gone-more c new gone more actors same-graph (λ a. sweeps.stopped a ∙ ap (λ xs. was_stopped c a || holds_actor xs a) finds.each) all are
