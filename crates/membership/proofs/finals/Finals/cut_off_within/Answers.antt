use Rattle.std.proofs.Common.{◌≡◌, ◌&&◌, ℕ, true, false, sym, ◌∙◌, ap}
use Rattle.crgc_ids.proofs.NodesLaws.{has_node-member}
use Rattle.crgc_ids.specs.LostNodes.{is_cut_off}
use Rattle.crgc_ids.specs.Nodes.{has_node}
use Rattle.membership.proofs.SetsLemmas.{filter_more_no, filter_more_yes, has_node-apart}
use Rattle.membership.specs.Noted.{links_of}
use Rattle.membership.proofs.finals.Finals.cut_off_within.Goals as goal
use Rattle.membership.proofs.finals.Finals.cut_off_within.Goals.{then-contains+then-is_cut_off, else-contains, else-contains-via-then-contains+else-is_cut_off, else-contains-via-else-contains}

pub loop-number-preserved : goal.loop-number-preserved
loop-number-preserved c =
    let cut_off = λ (s : ℕ). is_cut_off c.args.self.now.nodes (links_of c.args.self.now) c.args.set s in
    let stays = λ (s : ℕ). has_node c.args.set s && cut_off s in
    let n = c.loop-number.number in
    let member : c.contains.result ≡ true → has_node c.args.set n ≡ true =
    λ t. rw (← c.node-member.ensures) (has_node-member c.args.set c.node-member.result (c.contains.ensures.member.0 t)) in
    elim c.if-contains.branch [
      | then-contains+then-is_cut_off w ↦ (
          let cut : cut_off n ≡ true = rw (← c.node-member.ensures) (sym w.is_cut_off.ensures ∙ w.if-is_cut_off.true) in
          let put = filter_more_yes stays n (ap (λ b. b && cut_off n) (member w.if-contains.true) ∙ cut) in
          rw (w.kept-is, w.with-kept.ensures, c.node-member.ensures, c.loop-number.invariant) put
          )
      | else-contains w ↦ (
          let out : stays n ≡ false = elim w.else-contains.branch [
            | else-contains-via-then-contains+else-is_cut_off v ↦ (
                let cut : cut_off n ≡ false = rw (← c.node-member.ensures) (sym v.is_cut_off.ensures ∙ v.if-is_cut_off.false) in
                ap (λ b. b && cut_off n) (member v.if-contains.true) ∙ cut
                )
            | else-contains-via-else-contains v ↦ (
                let none : has_node c.args.set n ≡ false = rw (← c.node-member.ensures) (has_node-apart c.args.set c.node-member.result c.contains.ensures.member.1 v.if-contains.false) in
                ap (λ b. b && cut_off n) none
                )
          ] in
          rw w.kept-is (c.loop-number.invariant ∙ filter_more_no stays n out)
          )
    ]
