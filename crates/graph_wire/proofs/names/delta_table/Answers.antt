use Rattle.std.proofs.Common.{◌≡◌, ◌∙◌, ◌++◌, ap, subst}
use Rattle.std.specs.Prelude.{IfOk}
use Rattle.std.specs.List.{AllByRecursion}
use Rattle.wire_grammar.specs.Named.{delta_names, table_of}
use Rattle.graph_wire.specs.Pushed.{pushed_delta}
use Rattle.graph_wire.proofs.Pushing.{members-actors, members-delta, members-table, on_ok}
use Rattle.graph_wire.proofs.names.delta_table.Goals as goal
use Rattle.crgc_ids.specs.Actor.{IsActor}

pub returns-clause-value : goal.returns-clause-value
returns-clause-value c =
    let order = members-table (pushed_delta c.args.d.now) (delta_names c.args.d.now) (members-delta c.args.d.now) in
    let names = c.in_ok-push_delta.ensures.ok ∙ ap (λ xs. xs ++ pushed_delta c.args.d.now) c.requires in
    subst (λ t. IfOk c.sorted.result (λ v. v.items ≡ t)) (ap table_of names ∙ order) c.sorted.ensures

pub returns-clause-actors : goal.returns-clause-actors
returns-clause-actors c =
    on_ok (AllByRecursion IsActor (delta_names c.args.d.now)) c.sorted.result
    (members-actors (pushed_delta c.args.d.now) (delta_names c.args.d.now) (members-delta c.args.d.now) c.in_ok-push_delta.ensures.actors)
