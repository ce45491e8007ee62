use Rattle.std.proofs.Common.{rules, ◌∙◌, ◌≢◌, Some, ap, sym}
use Rattle.world_object.proofs.Searches.{head-carried, row-left}
use Rattle.world_object.proofs.parts.ClusterParts.next_carried.Goals as goal

pub returns-in-Some-clause-next : goal.returns-in-Some-clause-next
returns-in-Some-clause-next c =
    let p = c.args.self.now in
    let s = p.script.value in
    let h = p.world.past in
    let stands = c.requires.stands in
    let sound = stands.sound in
    let apart : c.args.from ≢ c.args.at = search rules in
    ap (λ e. Some e) (sym (c.carry_of.ensures.stands s h stands.progress))
    ∙ sym (head-carried s c.args.from c.args.at h sound.0 c.requires.from c.requires.at apart (Some c.in-Some.number) (c.in-Some.ensures.head apart))

pub returns-in-Some-clause-left : goal.returns-in-Some-clause-left
returns-in-Some-clause-left c = row-left c.args.self.now c.args.from c.args.at c.in-Some.number c.carry_of.result c.carry_of.ensures.value
