use Rattle.std.proofs.Common.{◌∙◌, ◌∷◌, ◌++◌, ap, codes, map, take}
use Rattle.std.specs.Fmt.{decimal}
use Rattle.event_lines.specs.Words.{bytes_of}
use Rattle.event_lines.proofs.WordsLaws.{labelled-written, OnOk-weaker}
use Rattle.event_lines.proofs.verdict.write_cut.Goals as goal

pub returns-clause-ok : goal.returns-clause-ok
returns-clause-ok c =
    let v = c.args.verdict.now in
    let node = c.in_ok-write_word.ensures.ok ∙ ap (λ w. c.write.new.out.items ++ 32 ∷ bytes_of w) c.of_node.ensures in
    let line = labelled-written c.args.out.now.items (codes "cut") (decimal v.node) (codes "lost") (map decimal (take c.args.nodes v.cut)) (map decimal v.lost)
    c.write.new.out.items c.write_word.new.out.items c.write_counts.new.out.items c.write_word-2.new.out.items c.write_members.new.out.items
    c.in_ok-write.ensures.ok node c.in_ok-write_counts.ensures.ok c.in_ok-write_word-2.ensures.ok c.in_ok-write_members.ensures.ok in
    OnOk-weaker c.write_byte.result _ _ c.write_byte.ensures.ok (λ e. e ∙ line)
