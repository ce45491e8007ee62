use Rattle.std.proofs.Common.{◌≡◌, ◌∙◌, false, subst, sym}
use Rattle.std.specs.List.{AllByRecursion}
use Rattle.shadow_graph.specs.Seen.{is_dropped}
use Rattle.pseudoroot_trace.specs.Marked.{is_marked}
use Rattle.collector.specs.Sweeping.{AreStopsOf}
use Rattle.collector.proofs.SweepLemmas.{found-left}
use Rattle.collector.proofs.rounds.find_stops_in_rounds.Goals as goal

pub stops_of-requires : goal.stops_of-requires
stops_of-requires g c =
    let graph = c.args.graph.now in
    subst (AllByRecursion (λ a. is_dropped graph a ≡ false)) (sym (c.as_slice.ensures.value ∙ c.in_ok-found.ensures))
    (found-left graph (is_marked c.mark_rounds.new.room) c.args.node c.args.stopped.now)

pub returns : goal.returns
returns g c = record {
  sweep = c.mark_rounds.ensures.sweep;
  found = c.in_ok-found.ensures;
  evidence = subst (λ xs. AreStopsOf c.args.graph.now xs c.in_ok-stops.stops) c.as_slice.ensures.value c.in_ok-stops.ensures.stops;
  each = c.in_ok-stops.ensures.actors ∙ c.as_slice.ensures.value;
}
