use Rattle.std.proofs.Common.{◌≡◌, ◌∙◌, ap, false, subst, sym}
use Rattle.std.specs.List.{AllByRecursion}
use Rattle.shadow_graph.specs.Graph.{Graph}
use Rattle.shadow_graph.specs.Seen.{is_dropped}
use Rattle.pseudoroot_trace.specs.Traced.{Traced, is_marked_in}
use Rattle.collector.specs.Sweeping.{AreStopsOf}
use Rattle.collector.proofs.SweepLemmas.{found-left}
use Rattle.collector.proofs.collector.find_stops.Goals as goal
use Rattle.collector.proofs.collector.find_stops.Goals.{After-as_slice}

same : (c : After-as_slice) → c.graph.result.now ≡ c.args.graph.now.graph
same c = c.graph.ensures ∙ ap (λ (x : Traced). x.graph) c.find_stopped.ensures.takes

pub stops_of-requires : goal.stops_of-requires
stops_of-requires c =
    let u = c.args.graph.now in
    subst (λ (g : Graph). AllByRecursion (λ a. is_dropped g a ≡ false) c.as_slice.result.now) (sym (same c))
    (subst (AllByRecursion (λ a. is_dropped u.graph a ≡ false)) (sym (c.as_slice.ensures.value ∙ c.in_ok-found.ensures.found))
    (found-left u.graph (is_marked_in u) c.args.node c.args.stopped.now))

pub returns-clause-finds : goal.returns-clause-finds
returns-clause-finds c = record {
  sweep = c.requires.sweep;
  found = c.in_ok-found.ensures.found;
  evidence = subst (λ (g : Graph). AreStopsOf g c.in_ok-found.found.items c.in_ok-stops.stops) (c.graph.ensures ∙ ap (λ (x : Traced). x.graph) c.find_stopped.ensures.takes)
      (subst (λ xs. AreStopsOf c.graph.result.now xs c.in_ok-stops.stops) c.as_slice.ensures.value c.in_ok-stops.ensures.stops);
  each = c.in_ok-stops.ensures.actors ∙ c.as_slice.ensures.value;
}
