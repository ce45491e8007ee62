use Rattle.std.proofs.Common.{◌∙◌, ◌∷◌, ◌++◌, ap, codes, map}
use Rattle.std.specs.Fmt.{decimal}
use Rattle.event_lines.specs.Words.{bytes_of}
use Rattle.event_lines.proofs.WordsLaws.{labelled-written, OnOk-weaker}
use Rattle.event_lines.proofs.spelling.append_cut.Goals as goal

pub returns : goal.returns
returns c =
    let node = c.in_ok-write_word.ensures.ok ∙ ap (λ w. c.write.new.out.items ++ 32 ∷ bytes_of w) c.of_node.ensures in
    let line = labelled-written c.args.out.now.items (codes "cut") (decimal c.args.node) (codes "lost") (map decimal c.args.counts.now) (map decimal c.args.lost.now)
    c.write.new.out.items c.write_word.new.out.items c.write_numbers.new.out.items c.write_word-2.new.out.items c.write_nodes.new.out.items
    c.in_ok-write.ensures.ok node c.in_ok-write_numbers.ensures c.in_ok-write_word-2.ensures.ok c.in_ok-write_nodes.ensures in
    OnOk-weaker c.write_byte.result _ _ c.write_byte.ensures.ok (λ e. e ∙ line)
