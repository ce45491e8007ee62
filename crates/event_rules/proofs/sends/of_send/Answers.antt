use Rattle.std.proofs.Common.{◌≡◌, ◌∷◌, List, Some, ap, sym, ◌∙◌}
use Rattle.std.specs.Option.{option_or}
use Rattle.crgc_ids.specs.Actor.{Actor}
use Rattle.history_model.specs.Legal.{born_all, first_broken}
use Rattle.event_rules.proofs.ChecksLemmas.{send-refused, sender_checks}
use Rattle.event_rules.proofs.sends.of_send.Goals as goal

-- src/sends.rt:66:9
pub returns-in-Some : goal.returns-in-Some
returns-in-Some g c =
    let story = g.M.Moment.story c.args.moment.now in
    let a = c.args in
    let unborn : first_broken (born_all a.refs.now story.past) ≡ Some c.in-Some.rule
    = ap (λ (rs : List Actor). first_broken (born_all rs story.past)) (sym c.as_slice.ensures) ∙ sym c.of_unborn.ensures ∙ c.in-Some.is in
    sym (send-refused story.cluster story.past a.from a.to a.refs.now c.if-not-is_actor.ensures c.if-not-is_actor-2.ensures
    ∙ ap (λ u. option_or u (first_broken (sender_checks story.cluster a.from (a.to ∷ a.refs.now) story.past))) unborn)

-- src/sends.rt:56:1
pub returns : goal.returns
returns g c =
    let story = g.M.Moment.story c.args.moment.now in
    let a = c.args in
    let unborn = ap (λ (rs : List Actor). first_broken (born_all rs story.past)) (sym c.as_slice.ensures) ∙ sym c.of_unborn.ensures ∙ c.in_default.is in
    let sent = c.of_sender.ensures ∙ ap (λ (rs : List Actor). first_broken (sender_checks story.cluster a.from (a.to ∷ rs) story.past)) c.as_slice-2.ensures in
    sent ∙ sym (send-refused story.cluster story.past a.from a.to a.refs.now c.if-not-is_actor.ensures c.if-not-is_actor-2.ensures
    ∙ ap (λ u. option_or u (first_broken (sender_checks story.cluster a.from (a.to ∷ a.refs.now) story.past))) unborn)
