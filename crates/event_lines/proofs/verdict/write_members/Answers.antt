use Rattle.std.proofs.Common.{◌≡◌, ◌∙◌, ◌++◌, ◌∷◌, map, ap, arith, refl, subst, sym, ℕ}
use Rattle.std.proofs.lemmas.Bool.{false≢true}
use Rattle.std.specs.Fmt.{decimal}
use Rattle.crgc_ids.specs.Members.{IsAmong}
use Rattle.event_lines.specs.Words.{bytes_of, spaced}
use Rattle.event_lines.proofs.MembersLaws.{below, below-all, below-other, made-same, members-more}
use Rattle.event_lines.proofs.WordsLaws.{begins-append, OnErr-any}
use Rattle.event_lines.proofs.verdict.write_members.Goals as goal
use Rattle.event_lines.proofs.verdict.write_members.Goals.{then-contains+in_ok-write_word, else-contains}

pub returns-in_err-write_word-clause-err : goal.returns-in_err-write_word-clause-err
returns-in_err-write_word-clause-err c =
    let written = spaced (map decimal (below c.loop-n.n c.args.set)) in
    OnErr-any c.from_residual.result _ (begins-append c.args.out.now.items c.loop-n.out.items written c.write_word.new.out.items c.loop-n.invariant.written c.in_err-write_word.ensures.err)

pub loop-n-preserved : goal.loop-n-preserved
loop-n-preserved c =
    let n = c.loop-n.n in
    let old = c.args.out.now.items in
    let same = made-same c.new.result c.unwrap-node.result n c.unwrap-node.ensures c.new.ensures.some in
    record {
      written = elim c.if-contains.branch [
        | then-contains+in_ok-write_word w ↦ (
            let now = w.in_ok-write_word.ensures.ok ∙ ap (λ v. c.loop-n.out.items ++ 32 ∷ bytes_of v) w.of_node.ensures in
            ap (λ v. v.items) w.out-is
            ∙ members-more old c.loop-n.out.items w.write_word.new.out.items c.args.set n c.unwrap-node.result same c.contains.ensures.rising (w.if-contains.ensures.member.0 refl) c.loop-n.invariant.written now)
        | else-contains w ↦ (
            let other = below-other n c.args.set c.contains.ensures.rising (λ m. false≢true (w.if-contains.ensures.member.1 (subst (λ (i : ℕ). IsAmong i c.args.set) (sym same) m))) in
            ap (λ v. v.items) w.out-is ∙ c.loop-n.invariant.written ∙ ap (λ l. old ++ spaced (map decimal l)) (sym other))
      ];
      in_range = λ h. c.contains.ensures.in_range;
    }

pub returns-clause-ok : goal.returns-clause-ok
returns-clause-ok c =
    let end : c.loop-n.n ≡ 16 = omega arith in
    let all = below-all 16 c.args.set (c.loop-n.invariant.in_range (omega arith)) in
    c.loop-n.invariant.written ∙ ap (λ l. c.args.out.now.items ++ spaced (map decimal l)) (ap (λ i. below i c.args.set) end ∙ all)
