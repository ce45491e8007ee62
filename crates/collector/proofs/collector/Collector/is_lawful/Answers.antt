use Rattle.std.proofs.Common.{◌≡◌, true, subst}
use Rattle.crgc_ids.specs.Actor.{Actor}
use Rattle.shadow_graph.specs.Seen.{is_dropped}
use Rattle.collector.specs.Collected.{Collected, was_stopped}
use Rattle.collector.proofs.collector.Collector.is_lawful.Goals as goal

pub returns : goal.returns
returns c = subst (λ (x : Collected). (a : Actor) → is_dropped x.graph a ≡ true → was_stopped x a ≡ true) c.self.view_is c.self.invariant.kept.dropped
