use Rattle.std.proofs.Common.{◌≡◌, ◌||◌, ℕ, true, false, sym, ◌∙◌}
use Rattle.crgc_ids.specs.LostNodes.{has_link}
use Rattle.crgc_ids.specs.Nodes.{has_node}
use Rattle.membership.proofs.SetsLemmas.{all_fails, all_more}
use Rattle.membership.specs.Noted.{links_of}
use Rattle.membership.proofs.finals.Finals.is_cut_off.Goals as goal

pub returns-then-not-is_within_or_told : goal.returns-then-not-is_within_or_told
returns-then-not-is_within_or_told c =
    let test = λ (d : ℕ). has_node c.args.set d || has_link (links_of c.args.self.now) c.args.from d in
    let fails : test c.loop-number.number ≡ false = rw (← c.node.ensures) (sym c.is_within_or_told.ensures ∙ c.if-not-is_within_or_told.true) in
    sym (all_fails test c.args.self.now.nodes c.loop-number.number (rw (← c.self.view_is) c.loop-number-test.true) fails)

pub loop-number-preserved : goal.loop-number-preserved
loop-number-preserved c =
    let test = λ (d : ℕ). has_node c.args.set d || has_link (links_of c.args.self.now) c.args.from d in
    let passes : test c.loop-number.number ≡ true = rw (← c.node.ensures) (sym c.is_within_or_told.ensures ∙ c.if-not-is_within_or_told.false) in
    all_more test c.loop-number.number c.loop-number.invariant passes
