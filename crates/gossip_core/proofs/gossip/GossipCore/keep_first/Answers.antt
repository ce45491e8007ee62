use Rattle.std.proofs.Common.{◌<◌, ◌≤◌, ap, refl, subst, sym, ◌∙◌}
use Rattle.std.proofs.lemmas.Bool.{false≢true}
use Rattle.std.specs.Result.{is_err}
use Rattle.crgc_ids.proofs.SuccessLaws.{at_success}
use Rattle.gossip_core.specs.Gossip.{Gossip, KeepsFirst, count_at}
use Rattle.gossip_core.proofs.OrderLemmas.{in_order-kept, keeps_new, kept-none}
use Rattle.gossip_core.proofs.gossip.GossipCore.keep_first.Goals as goal
use Rattle.gossip_core.proofs.gossip.GossipCore.keep_first.Goals.{Else-is_err}

abbrev before : Else-is_err → Gossip
before c = record { nodes = c.self.inside.nodes; cut = c.self.inside.cut; kept = c.self.inside.kept.entries }

abbrev after : Else-is_err → Gossip
after c = record { nodes = c.self.inside.nodes; cut = c.self.inside.cut; kept = c.insert.new.self.entries }

later : (c : Else-is_err) → count_at (before c) c.args.origin ≤ c.args.number
later c = subst (λ (g : Gossip). count_at g c.args.origin ≤ c.args.number) (sym c.self.view_is) c.requires.later

kept : (c : Else-is_err) → KeepsFirst (before c) (after c) c.args.origin c.args.number c.args.b
kept c =
    let updates = at_success _ c.insert.result (λ e is. false≢true (sym (sym c.is_err.ensures.value ∙ c.if-is_err.false) ∙ ap is_err is)) c.insert.ensures.updates in
    let none = kept-none (before c) c.args.origin c.args.number (sym c.contains_key.ensures ∙ c.if-contains_key.false) in
    keeps_new (before c) (after c) c.args.origin c.args.number c.args.b refl refl (later c) none updates.1 updates.2

pub invariant_of-self-2 : goal.invariant_of-self-2
invariant_of-self-2 c =
    let node = subst (λ (g : Gossip). c.args.origin < g.nodes) (sym c.self.view_is) c.requires.origin in
    in_order-kept (before c) (after c) c.args.origin c.args.number c.args.b c.self.invariant node c.requires.number (later c) (kept c)

pub returns-clause-kept : goal.returns-clause-kept
returns-clause-kept c = rw (← c.self.view_is) (kept c)
