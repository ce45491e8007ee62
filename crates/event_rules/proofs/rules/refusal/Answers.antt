use Rattle.std.proofs.Common.{ap, sym, ◌∙◌}
use Rattle.history_model.specs.declared.events.Event.{Event}
use Rattle.history_model.specs.Legal as legal
use Rattle.event_rules.proofs.rules.refusal.Goals as goal

-- src/rules.rt:14:1
pub returns-in-Tie : goal.returns-in-Tie
returns-in-Tie g c =
    let story = g.M.Moment.story c.args.moment.now in
    c.of_tie.ensures ∙ ap (λ (e : Event). legal.refusal story.cluster e story.past) (sym c.in-Tie.is)

-- src/rules.rt:14:1
pub returns-in-Send : goal.returns-in-Send
returns-in-Send g c =
    let story = g.M.Moment.story c.args.moment.now in
    c.of_send.ensures ∙ ap (λ (e : Event). legal.refusal story.cluster e story.past) (sym c.in-Send.is)

-- src/rules.rt:14:1
pub returns-in-Drop : goal.returns-in-Drop
returns-in-Drop g c =
    let story = g.M.Moment.story c.args.moment.now in
    c.of_drop.ensures ∙ ap (λ (e : Event). legal.refusal story.cluster e story.past) (sym c.in-Drop.is)

-- src/rules.rt:14:1
pub returns-in-Window : goal.returns-in-Window
returns-in-Window g c =
    let story = g.M.Moment.story c.args.moment.now in
    c.of_window.ensures ∙ ap (λ (e : Event). legal.refusal story.cluster e story.past) (sym c.in-Window.is)

-- src/rules.rt:14:1
pub returns-in-Admit : goal.returns-in-Admit
returns-in-Admit g c =
    let story = g.M.Moment.story c.args.moment.now in
    c.of_copy.ensures.admit ∙ ap (λ (e : Event). legal.refusal story.cluster e story.past) (sym c.in-Admit.is)

-- src/rules.rt:14:1
pub returns-in-Lose : goal.returns-in-Lose
returns-in-Lose g c =
    let story = g.M.Moment.story c.args.moment.now in
    c.of_copy-in-Lose.ensures.lose ∙ ap (λ (e : Event). legal.refusal story.cluster e story.past) (sym c.in-Lose.is)

-- src/rules.rt:14:1
pub returns-in-Repeat : goal.returns-in-Repeat
returns-in-Repeat g c =
    let story = g.M.Moment.story c.args.moment.now in
    c.of_copy-in-Repeat.ensures.repeat ∙ ap (λ (e : Event). legal.refusal story.cluster e story.past) (sym c.in-Repeat.is)

-- src/rules.rt:14:1
pub returns-in-Remove : goal.returns-in-Remove
returns-in-Remove g c =
    let story = g.M.Moment.story c.args.moment.now in
    c.of_remove.ensures ∙ ap (λ (e : Event). legal.refusal story.cluster e story.past) (sym c.in-Remove.is)
