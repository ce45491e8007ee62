use Rattle.std.proofs.Common.{◌≡◌, None, subst}
use Rattle.history_model.specs.declared.events.Event.TheVariants.{Window}
use Rattle.history_model.specs.Legal.{refusal}
use Rattle.traffic.specs.Readings.{IsLowestNode}
use Rattle.world_object.proofs.Searches.{window-first}
use Rattle.world_object.proofs.parts.ClusterParts.next_window.Goals as goal

pub returns : goal.returns
returns c =
    let p = c.args.self.now in
    let v = c.next_window.result in
    window-first p.script.value p.world.past c.args.at v
    (subst (λ cl. IsLowestNode (λ n. refusal cl (Window c.args.at n) p.world.past ≡ None) v) c.requires.cluster c.next_window.ensures)
