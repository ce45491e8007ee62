use Rattle.std.proofs.Common.{◌≡◌, ◌∙◌, ◌++◌, ap, subst}
use Rattle.std.specs.Prelude.{IfOk}
use Rattle.std.specs.List.{AllByRecursion}
use Rattle.wire_grammar.specs.Named.{window_names, table_of}
use Rattle.graph_wire.specs.Pushed.{pushed_window}
use Rattle.graph_wire.proofs.Pushing.{members-actors, members-window, members-table, on_ok}
use Rattle.graph_wire.proofs.names.window_table.Goals as goal
use Rattle.crgc_ids.specs.Actor.{IsActor}

pub returns-clause-value : goal.returns-clause-value
returns-clause-value c =
    let order = members-table (pushed_window c.args.w.now) (window_names c.args.w.now) (members-window c.args.w.now) in
    let names = c.in_ok-push_window.ensures.ok ∙ ap (λ xs. xs ++ pushed_window c.args.w.now) c.requires in
    subst (λ t. IfOk c.sorted.result (λ v. v.items ≡ t)) (ap table_of names ∙ order) c.sorted.ensures

pub returns-clause-actors : goal.returns-clause-actors
returns-clause-actors c =
    on_ok (AllByRecursion IsActor (window_names c.args.w.now)) c.sorted.result
    (members-actors (pushed_window c.args.w.now) (window_names c.args.w.now) (members-window c.args.w.now) c.in_ok-push_window.ensures.actors)
