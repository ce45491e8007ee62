use Rattle.std.proofs.Common.{◌≡◌, ◌<◌, true, [], sym, ◌∙◌, ap, arith, subst}
use Rattle.std.specs.Prelude.{IfOk}
use Rattle.script_reader.specs.Valid.{IsScript}
use Rattle.operation_model.specs.Openings.{IsNew}
use Rattle.cluster_calls.specs.Calling.{Knows}
use Rattle.world_object.specs.State.{ClusterState, as_opening}
use Rattle.script_workers.specs.Ended.{IsWorked}
use Rattle.script_workers.specs.Leading.{has_end}
use Rattle.script_workers.proofs.Ends.{closable-of, end-later, made-end, worked-of}
use Rattle.script_workers.proofs.Gathers.{all-stand}
use Rattle.script_workers.proofs.runs.run_turns.Goals as goal

pub returns-in-Ok-clause-worked : goal.returns-in-Ok-clause-worked
returns-in-Ok-clause-worked g c =
    let start = c.in-Ok.lock.start in
    let p = c.serve_all-first.result.0 in
    let begun = c.in-Ok.ensures.ok.0 in
    let same : start.script ≡ c.args.script = ap (λ (x : ClusterState). x.script) begun ∙ c.in_ok-cluster.ensures.script in
    let count = c.saturating_add-count in
    let some : 0 < count.result = omega (arith, c.requires.some, count.ensures) in
    let found : has_end p.seen ≡ true = made-end _ p.seen c.close.ensures.calls (end-later p.own p.gathered (c.serve_all-first.ensures.ended some)) in
    subst (λ s. IfOk c.worked_of.result (λ r. IsWorked s r.world r.halted)) same
    (worked-of start c.close.result p.seen (subst IsScript (sym same) c.requires.script)
    (subst (λ (x : ClusterState). IsNew (as_opening x)) (sym begun) c.in_ok-cluster.ensures.new) c.close.ensures.stands found
    c.worked_of.result c.worked_of.ensures.cluster c.worked_of.ensures.past c.worked_of.ensures.halt)

pub returns-in-Ok-clause-left : goal.returns-in-Ok-clause-left
returns-in-Ok-clause-left g c =
    let start = c.in-Ok.lock.start in
    let p = c.serve_all-first.result.0 in
    let begun = c.in-Ok.ensures.ok.0 in
    let same : start.script ≡ c.args.script = ap (λ (x : ClusterState). x.script) begun ∙ c.in_ok-cluster.ensures.script in
    let count = c.saturating_add-count in
    let some : 0 < count.result = omega (arith, c.requires.some, count.ensures) in
    let found : has_end p.seen ≡ true = made-end _ p.seen c.close.ensures.calls (end-later p.own p.gathered (c.serve_all-first.ensures.ended some)) in
    let new : IsNew (as_opening start) = subst (λ (x : ClusterState). IsNew (as_opening x)) (sym begun) c.in_ok-cluster.ensures.new in
    let own : p.own ≡ [] = c.serve_all-first.ensures.own ∙ ap (λ (k : Knows). k.own) c.in-Ok.ensures.ok.1 in
    let stands = c.close.ensures.stands in
    let laws = c.a_collector_stands_at_the_world.ensures in
    let back = all-stand laws.stands laws.down (as_opening start) p.seen p.own p.gathered c.serve_all-first.result.1.items c.in-Ok.first.split new
    stands.course own c.close.ensures.calls c.serve_all-first.ensures.back in
    closable-of start c.close.result p.seen (subst IsScript (sym same) c.requires.script) new stands found
    (ap (λ (x : ClusterState). x.verdicts) begun ∙ c.in_ok-cluster.ensures.verdicts) c.serve_all-first.result.1.items back
    c.worked_of.result c.worked_of.ensures.cluster c.worked_of.ensures.past c.worked_of.ensures.verdicts c.worked_of.ensures.back
