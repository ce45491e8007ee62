use Rattle.std.proofs.Common.{◌≡◌, ◌++◌, ◌∙◌, ap, arith, length, refl, subst, sym}
use Rattle.history_model.specs.declared.records.Verdict.{Verdict}
use Rattle.shadow_graph.specs.Graph.{Graph, lost_in}
use Rattle.shadow_graph.specs.Places.{actor_of}
use Rattle.shadow_graph.specs.Seen.{is_dropped}
use Rattle.pseudoroot_trace.specs.Traced.{is_marked_in}
use Rattle.collector.specs.Collected.{Collected}
use Rattle.collector.specs.Sweeping.{Finds, SetsFlags}
use Rattle.collector.specs.Traced.{HaveFallen}
use Rattle.collector.proofs.EndLemmas.{gone-end, gone-graph, kept-end, kept-graph, left-end, standing-taken, sweeps-end}
use Rattle.collector.proofs.LeftLemmas.{fallen-all, left-kept}
use Rattle.collector.proofs.collector.Collector.sweep.Goals as goal
use Rattle.collector.proofs.collector.Collector.sweep.Goals.{After-drop-found-2}

pub invariant_of-self : goal.invariant_of-self
invariant_of-self c =
    let inv = c.self.invariant in
    let t = c.self.inside.graph in
    let u = c.sweep.new.self in
    let graph = c.sweep.ensures.graph in
    let long : length u.graph.shadows.names ≡ length t.graph.shadows.names = ap (λ (g : Graph). length g.shadows.names) graph in
    let old : Collected = record { node = c.self.inside.node; order = c.self.inside.order; graph = t.graph; stopped = c.self.inside.stopped.items } in
    let new : Collected = record old { graph = u.graph } in
    let same : new ≡ old = (λ i. record old { graph = graph i }) in
    record {
      nodes = inv.nodes;
      kept = kept-graph old new same inv.kept;
      left = left-kept t u c.self.inside.node c.self.inside.stopped.items c.in_err-sweep.ensures.marks (λ p inside. ap (λ (g : Graph). actor_of g p) graph) (omega (arith, long))
          (λ a alive. ap (λ (g : Graph). is_dropped g a) (sym graph) ∙ alive) inv.left;
      gone = gone-graph old new c.self.inside.gone.items c.self.inside.gone.items same refl inv.gone;
    }

pub find_stops-requires-clause-sweep : goal.find_stops-requires-clause-sweep
find_stops-requires-clause-sweep c = c.in_ok-sweep.ensures.ok.sweep

pub find_stops-requires-clause-fallen : goal.find_stops-requires-clause-fallen
find_stops-requires-clause-fallen c =
    let swept = c.in_ok-sweep.ensures.ok in
    subst (HaveFallen c.sweep.new.self c.self.inside.node) (sym c.as_slice-stopped.ensures.value)
    (fallen-all c.self.inside.graph c.sweep.new.self c.self.inside.node c.self.inside.stopped.items swept.placed swept c.self.invariant.left)

pub keep_marks-requires : goal.keep_marks-requires
keep_marks-requires c = standing-taken c.sweep.new.self c.find_stops.new.graph c.find_stops.ensures.takes c.in_ok-sweep.ensures.ok.standing

abbrev before : After-drop-found-2 → Collected
before c = record { node = c.self.inside.node; order = c.self.inside.order; graph = c.self.inside.graph.graph; stopped = c.self.inside.stopped.items }

abbrev after : After-drop-found-2 → Collected
after c = record { node = c.self.inside.node; order = c.self.inside.order; graph = c.keep_marks.new.self.graph; stopped = c.remember.new.stopped.items }

abbrev verdict : After-drop-found-2 → Verdict
verdict c = record { node = c.self.inside.node; cut = c.cut.result; lost = c.lost.result; stops = c.in_ok-found.stops }

finds : (c : After-drop-found-2) → Finds c.sweep.new.self.graph (is_marked_in c.sweep.new.self) c.self.inside.node c.self.inside.stopped.items c.in_ok-found.found.items c.in_ok-found.stops
finds c =
    let u = c.sweep.new.self in
    subst (λ xs. Finds u.graph (is_marked_in u) c.self.inside.node xs c.in_ok-found.found.items c.in_ok-found.stops) c.as_slice-stopped.ensures.value c.in_ok-found.ensures.finds

sets : (c : After-drop-found-2) → SetsFlags c.in_ok-found.found.items c.self.inside.stopped.items c.remember.new.stopped.items
sets c = subst (λ xs. SetsFlags xs c.self.inside.stopped.items c.remember.new.stopped.items) c.as_slice.ensures.value c.in_ok-remember.ensures.sets

more : (c : After-drop-found-2) → c.remember.new.gone.items ≡ c.self.inside.gone.items ++ c.in_ok-found.found.items
more c = c.in_ok-remember.ensures.gone ∙ ap (λ xs. c.self.inside.gone.items ++ xs) c.as_slice.ensures.value

lost : (c : After-drop-found-2) → c.lost.result ≡ lost_in c.keep_marks.new.self.graph
lost c = c.lost.ensures ∙ ap lost_in c.graph.ensures

pub invariant_of-self-2 : goal.invariant_of-self-2
invariant_of-self-2 c =
    let inv = c.self.invariant in
    let t = c.self.inside.graph in
    let u = c.sweep.new.self in
    let v = c.find_stops.new.graph in
    let w = c.keep_marks.new.self in
    let swept = c.in_ok-sweep.ensures.ok in
    let takes = c.find_stops.ensures.takes in
    let found = c.in_ok-found.found.items in
    let gone = c.self.inside.gone.items in
    let gone' = c.remember.new.gone.items in
    record {
      nodes = inv.nodes;
      kept = kept-end (before c) (after c) t u v w (verdict c) found gone gone' refl refl swept takes c.keep_marks.ensures inv.kept inv.gone (finds c) (sets c) refl refl (more c) refl c.cut.ensures (lost c);
      left = left-end (before c) (after c) t u v w (verdict c) found gone gone' refl refl swept takes c.keep_marks.ensures inv.kept inv.gone (finds c) (sets c) refl refl (more c);
      gone = gone-end (before c) (after c) t u v w (verdict c) found gone gone' refl refl swept takes c.keep_marks.ensures inv.kept inv.gone (finds c) (sets c) refl refl (more c) refl c.cut.ensures (lost c);
    }

pub returns-clause-ok : goal.returns-clause-ok
returns-clause-ok c =
    let inv = c.self.invariant in
    let swept = c.in_ok-sweep.ensures.ok in
    rw (← c.self.view_is)
    (sweeps-end (before c) (after c) c.self.inside.graph c.sweep.new.self c.find_stops.new.graph c.keep_marks.new.self (verdict c) c.in_ok-found.found.items c.self.inside.gone.items c.remember.new.gone.items
    refl refl swept c.find_stops.ensures.takes c.keep_marks.ensures inv.kept inv.gone (finds c) (sets c) refl refl (more c) refl c.cut.ensures (lost c))
