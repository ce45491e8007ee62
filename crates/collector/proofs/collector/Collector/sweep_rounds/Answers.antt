use Rattle.std.proofs.Common.{◌≡◌, ◌++◌, ◌∙◌, ap, refl, subst}
use Rattle.history_model.specs.declared.records.Verdict.{Verdict}
use Rattle.shadow_graph.specs.Graph.{Graph, lost_in}
use Rattle.pseudoroot_trace.specs.Marked.{is_marked}
use Rattle.collector.specs.Collected.{Collected}
use Rattle.collector.specs.Sweeping.{Finds, SetsFlags}
use Rattle.collector.proofs.RoundLemmas.{left-more, rounds-gone, rounds-kept, rounds-sweep}
use Rattle.collector.proofs.collector.Collector.sweep_rounds.Goals as goal
use Rattle.collector.proofs.collector.Collector.sweep_rounds.Goals.{After-drop-found-2}

abbrev before : (g : _) → After-drop-found-2 g → Collected
before g c = record { node = c.self.inside.node; order = c.self.inside.order; graph = c.self.inside.graph.graph; stopped = c.self.inside.stopped.items }

abbrev after : (g : _) → After-drop-found-2 g → Collected
after g c = record { node = c.self.inside.node; order = c.self.inside.order; graph = c.self.inside.graph.graph; stopped = c.remember.new.stopped.items }

abbrev verdict : (g : _) → After-drop-found-2 g → Verdict
verdict g c = record { node = c.self.inside.node; cut = c.cut.result; lost = c.lost-lost.result; stops = c.in_ok-found.stops }

finds : (g : _) (c : After-drop-found-2 g)
    → Finds c.self.inside.graph.graph (is_marked c.find_stops_in_rounds.new.marks) c.self.inside.node c.self.inside.stopped.items c.in_ok-found.found.items c.in_ok-found.stops
finds g c =
    let marked = is_marked c.find_stops_in_rounds.new.marks in
    subst (λ (x : Graph). Finds x marked c.self.inside.node c.self.inside.stopped.items c.in_ok-found.found.items c.in_ok-found.stops) c.graph.ensures
    (subst (λ xs. Finds c.graph.result.now marked c.self.inside.node xs c.in_ok-found.found.items c.in_ok-found.stops) c.as_slice-stopped.ensures.value c.in_ok-found.ensures)

sets : (g : _) (c : After-drop-found-2 g) → SetsFlags c.in_ok-found.found.items c.self.inside.stopped.items c.remember.new.stopped.items
sets g c = subst (λ xs. SetsFlags xs c.self.inside.stopped.items c.remember.new.stopped.items) c.as_slice-actors.ensures.value c.in_ok-remember.ensures.sets

more : (g : _) (c : After-drop-found-2 g) → c.remember.new.gone.items ≡ c.self.inside.gone.items ++ c.in_ok-found.found.items
more g c = c.in_ok-remember.ensures.gone ∙ ap (λ xs. c.self.inside.gone.items ++ xs) c.as_slice-actors.ensures.value

lost : (g : _) (c : After-drop-found-2 g) → c.lost-lost.result ≡ lost_in c.self.inside.graph.graph
lost g c = c.lost-lost.ensures ∙ ap lost_in c.graph-2.ensures

pub invariant_of-self-2 : goal.invariant_of-self-2
invariant_of-self-2 g c =
    let inv = c.self.invariant in
    let marked = is_marked c.find_stops_in_rounds.new.marks in
    let found = c.in_ok-found.found.items in
    let gone = c.self.inside.gone.items in
    let gone' = c.remember.new.gone.items in
    record {
      nodes = inv.nodes;
      kept = rounds-kept (before g c) (after g c) marked (verdict g c) found gone gone' inv.kept inv.gone (finds g c) (sets g c) refl refl refl (more g c) refl c.cut.ensures (lost g c);
      left = left-more c.self.inside.graph c.self.inside.node c.self.inside.stopped.items c.remember.new.stopped.items found (sets g c) inv.left;
      gone = rounds-gone (before g c) (after g c) marked (verdict g c) found gone gone' inv.kept inv.gone (finds g c) (sets g c) refl refl refl (more g c) refl c.cut.ensures (lost g c);
    }

pub returns-clause-ok : goal.returns-clause-ok
returns-clause-ok g c =
    let inv = c.self.invariant in
    rw (← c.self.view_is)
    (rounds-sweep (before g c) (after g c) (is_marked c.find_stops_in_rounds.new.marks) (verdict g c) c.in_ok-found.found.items c.self.inside.gone.items c.remember.new.gone.items
    inv.kept inv.gone (finds g c) (sets g c) refl refl refl (more g c) refl c.cut.ensures (lost g c))
