use Rattle.std.proofs.Common.{sym, ◌∙◌, ap}
use Rattle.ready_actors.specs.Flags.{has_flag}
use Rattle.ready_actors.proofs.MemberLemmas.{has-found, has-missed}
use Rattle.ready_actors.proofs.ready.ReadyActors.contains.Goals as goal

pub returns-in-Some : goal.returns-in-Some
returns-in-Some c =
    let looked = c.in-Some.ensures.lookup in
    rw (← c.self.view_is) (c.contains.ensures ∙ ap (has_flag c.in-Some.set.now) c.serial.ensures.number
    ∙ sym (has-found c.self.inside.nodes.items c.deref.result.now c.get.result c.in-Some.set.now c.args.actor c.deref.ensures.value (c.get.ensures.number ∙ c.node.ensures) looked.0 looked.1))

pub returns-in-None : goal.returns-in-None
returns-in-None c =
    rw (← c.self.view_is) (sym (has-missed c.self.inside.nodes.items c.deref.result.now c.get.result c.args.actor c.deref.ensures.value (c.get.ensures.number ∙ c.node.ensures) c.in-None.ensures.lookup.0))
