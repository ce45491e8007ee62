use Rattle.std.proofs.Common.{◌∙◌, ◌++◌, [], ◌∷◌, ap, not, sym}
use Rattle.history_model.specs.declared.events.Event.TheVariants.{Flush}
use Rattle.run_model.specs.Planned.{is_possible}
use Rattle.operation_model.specs.Answers.{down, first_refusal, unknown, when}
use Rattle.operation_model.specs.declared.replies.Reply.TheVariants as replies
use Rattle.world_object.specs.Answering.{refused_by}
use Rattle.world_object.proofs.parts.ClusterParts.refusal.Goals as goal

pub returns-in-Act : goal.returns-in-Act
returns-in-Act c =
    let p = c.args.self.now in
    let s = p.script.value in
    c.node_refusal.ensures ∙ ap (λ n. first_refusal (unknown s.nodes (n ∷ []) ++ down n p.world.past ∷ [])) c.node.ensures ∙ ap (refused_by p) (sym c.in-Act.is)

pub returns-in-Rest : goal.returns-in-Rest
returns-in-Rest c =
    let p = c.args.self.now in
    let s = p.script.value in
    c.node_refusal-in-Rest.ensures ∙ ap (λ n. first_refusal (unknown s.nodes (n ∷ []) ++ down n p.world.past ∷ [])) c.node-in-Rest.ensures ∙ ap (refused_by p) (sym c.in-Rest.is)

pub returns-in-Flush : goal.returns-in-Flush
returns-in-Flush c =
    let p = c.args.self.now in
    let s = p.script.value in
    let a = c.in-Flush.actor in
    c.event_refusal.ensures
    ∙ ap (λ n. first_refusal (unknown s.nodes (n ∷ []) ++ down n p.world.past ∷ when (not (is_possible s (Flush a) p.world.past)) replies.Nothing ∷ [])) c.node-in-Flush.ensures
    ∙ ap (refused_by p) (sym c.in-Flush.is)
