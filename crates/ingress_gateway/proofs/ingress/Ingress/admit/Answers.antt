use Rattle.std.proofs.Common.{◌+◌, ◌<◌, ◌^◌, List, sym, subst}
use Rattle.std.specs.List.{count_by}
use Rattle.crgc_ids.specs.Actor.{Actor, same_actor}
use Rattle.ingress_gateway.specs.Gate.{Gate}
use Rattle.ingress_gateway.specs.Pending.{carried_count}
use Rattle.ingress_gateway.proofs.ingress.Ingress.admit.Goals as goal

pub note-requires-clause-carried : goal.note-requires-clause-carried
note-requires-clause-carried c = λ a.
    let Fits : List (Actor × Actor) → Type 0 = λ carried. carried_count c.args.to a carried + count_by (same_actor a) c.args.refs.now < 2 ^ 32 in
    subst Fits (sym c.reserve.ensures.carried) (subst (λ (g : Gate). Fits g.carried) (sym c.self.view_is) (c.requires.carried a))
