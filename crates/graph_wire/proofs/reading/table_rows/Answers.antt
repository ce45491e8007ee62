use Rattle.std.proofs.Common.{◌≡◌, ◌-◌, ◌+◌, false, refl, Some, None, sym, ap, subst, ◌∙◌, List, Result, arith}
use Rattle.std.specs.List.{AllByRecursion}
use Rattle.std.proofs.ByRecursion.{All-push}
use Rattle.std.proofs.lemmas.Result.{err_from_is_err_and}
use Rattle.crgc_bytes.specs.Place.{Place}
use Rattle.crgc_ids.specs.Actor.{Actor}
use Rattle.wire_grammar.specs.declared.fault.WireFault.{WireFault}
use Rattle.wire_grammar.specs.Fields.{rows_at}
use Rattle.wire_grammar.specs.Reading.{table_row}
use Rattle.graph_wire.specs.Gives.{with_front}
use Rattle.graph_wire.specs.Marks.{actors_of}
use Rattle.graph_wire.specs.declared.table.TableActor.{TableActor}
use Rattle.graph_wire.proofs.Loops.{actor_key, actors-none, actors-push, ActorsReady, ends, goes_on, is_done, nothing-before}
use Rattle.graph_wire.proofs.Marks.{actors_of-none, actors_of-push}
use Rattle.graph_wire.proofs.reading.table_rows.Goals as goal

pub returns-in_err-actor-clause-gives : goal.returns-in_err-actor-clause-gives
returns-in_err-actor-clause-gives c =
    let p = err_from_is_err_and c.from_residual-in_err-actor.result c.from_residual-in_err-actor.ensures.1 in
    rw (p.1, p.2) (ends actor_key table_row (actors_of c.loop-i.table.items) c.args.count c.loop-i.i c.loop-i.last c.loop-i.own (rows_at actor_key table_row c.args.count None c.args.cursor.now) c.in_err-actor.field-0.0 c.loop-i-test.true c.in_err-actor.ensures.gives c.loop-i.invariant.read)

pub loop-i-init : goal.loop-i-init
loop-i-init c =
    let items = c.in_ok-table.ensures in
    let actors = ap actors_of items ∙ actors_of-none in
    let all : c.args.count - 0 ≡ c.args.count = omega arith in
    let read : Result (List Actor × Place) WireFault = rows_at actor_key table_row c.args.count None c.args.cursor.now in
    record {
      read = subst (λ own. with_front (actors_of c.in_ok-table.table.items) (rows_at actor_key table_row (c.args.count - 0) None own) ≡ read) (sym c.copy-own.ensures) (subst (λ n. with_front (actors_of c.in_ok-table.table.items) (rows_at actor_key table_row n None c.args.cursor.now) ≡ read) (sym all) (subst (λ front. with_front front read ≡ read) (sym actors) (nothing-before read)));
      ready = subst (ActorsReady None) (sym actors) actors-none;
      unmarked = subst (AllByRecursion (λ e. e.named ≡ false)) (sym items) tt;
    }

pub loop-i-preserved : goal.loop-i-preserved
loop-i-preserved c =
    let actor = c.in_ok-actor.actor in
    let entry : TableActor = record { actor = actor; named = false } in
    let items = c.in_ok-push.ensures.items in
    let actors = ap actors_of items ∙ actors_of-push c.loop-i.table.items entry in
    record {
      read = subst (λ front. with_front front (rows_at actor_key table_row (c.args.count - (c.loop-i.i + 1)) (Some actor) c.table_row.new.cursor) ≡ (rows_at actor_key table_row c.args.count None c.args.cursor.now)) (sym actors)
          (goes_on actor_key table_row (actors_of c.loop-i.table.items) c.args.count c.loop-i.i c.loop-i.last c.loop-i.own (rows_at actor_key table_row c.args.count None c.args.cursor.now) actor c.table_row.new.cursor c.loop-i-test.true c.in_ok-actor.ensures.gives c.loop-i.invariant.read);
      ready = subst (ActorsReady (Some actor)) (sym actors) (actors-push c.loop-i.last (actors_of c.loop-i.table.items) actor c.loop-i.invariant.ready c.in_ok-actor.ensures.above);
      unmarked = subst (AllByRecursion (λ e. e.named ≡ false)) (sym items) (All-push (λ (e : TableActor). e.named ≡ false) c.loop-i.table.items entry c.loop-i.invariant.unmarked refl);
    }

pub returns-clause-gives : goal.returns-clause-gives
returns-clause-gives c = is_done actor_key table_row (actors_of c.loop-i.table.items) c.args.count c.loop-i.i c.loop-i.last c.loop-i.own (rows_at actor_key table_row c.args.count None c.args.cursor.now) c.loop-i-test.false c.loop-i.invariant.read

pub returns-clause-fresh : goal.returns-clause-fresh
returns-clause-fresh c = record { rise = c.loop-i.invariant.ready.rise; unmarked = c.loop-i.invariant.unmarked }
