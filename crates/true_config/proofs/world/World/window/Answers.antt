use Rattle.std.proofs.Common.{◌≡◌, List, None, Some, length, true, rules, refl, subst, sym}
use Rattle.history_model.specs.declared.events.Event.{Event}
use Rattle.history_model.specs.declared.events.Event.TheVariants.{Window}
use Rattle.roster.proofs.TableSteps.{stands-left}
use Rattle.std.specs.Prelude.{IfNone, IfSome, OnSome, is_some}
use Rattle.link_table.specs.Standing.{CountsSince}
use Rattle.true_config.specs.Steps.{MayFollow}
use Rattle.true_config.proofs.Growing.{grows}
use Rattle.history_model.specs.Cluster.{Cluster}
use Rattle.traffic.specs.Standing.{AlwaysKeeps, IsTrafficOf}
use Rattle.traffic.specs.TrafficState.{link_of}
use Rattle.true_config.proofs.ToldEvents.{link-stands, some-window}
use Rattle.true_config.proofs.world.World.window.Goals as goal

pub unwrap-window-requires : goal.unwrap-window-requires
unwrap-window-requires c =
    let e = Window c.args.at c.args.from in
    let old = c.self.inside.history in
    let may = subst (MayFollow e) (sym c.self.view_is) c.requires in
    let t = c.self.inside.traffic in
    elim c.cut_window.result as (λ r. IfNone r (length (link_of t c.args.from c.args.at).gate.messages ≡ 0) → is_some r ≡ true) [
      | Some w ↦ λ _. refl
      | None ↦ λ none. absurd (some-window old.cluster old.past t c.args.from c.args.at c.self.invariant.traffic may.legal none)
    ] c.cut_window.ensures.none

pub invariant_of-self-2 : goal.invariant_of-self-2
invariant_of-self-2 c =
    let e = Window c.args.at c.args.from in
    let old = c.self.inside.history in
    let r = c.self.inside.roster in
    let t = c.self.inside.traffic in
    let u = c.cut_window.new.self in
    let s = c.self.inside.streams in
    let mid = c.reserve_bulletin.new.self in
    let new = c.append_window.new.self in
    let kept = subst (λ o. OnSome o (AlwaysKeeps e t u)) c.unwrap-window.ensures c.cut_window.ensures.kept in
    let counts = subst (λ o. IfSome o (λ w. (cl : Cluster) (h : List Event) → IsTrafficOf cl h t → CountsSince c.args.from c.args.at h w)) c.unwrap-window.ensures c.cut_window.ensures.counts in
    grows e old c.push.new.self t u r r s new (record { cluster = c.push.ensures.cluster; past = c.in-Ok-push.ensures.ok })
    (subst (MayFollow e) (sym c.self.view_is) c.requires) (search rules) c.self.invariant
    (kept old.cluster old.past) (stands-left old.cluster e old.past r refl)
    (link-stands Window old.cluster old.past c.unwrap-window.result c.args.from c.args.at s mid new (counts old.cluster old.past c.self.invariant.traffic) c.reserve_bulletin.ensures.same (λ tells. c.append_window.ensures.stands old.cluster old.past tells))
