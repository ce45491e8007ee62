use Rattle.std.proofs.Common.{◌||◌, sym, ◌∙◌, ap, arith}
use Rattle.crgc_ids.proofs.NodesLaws.{has_node-member}
use Rattle.crgc_ids.specs.LostNodes.{has_link}
use Rattle.membership.proofs.LinksLemmas.{told-link}
use Rattle.membership.proofs.SetsLemmas.{has_node-apart}
use Rattle.membership.specs.Noted.{links_of}
use Rattle.membership.proofs.finals.Finals.is_within_or_told.Goals as goal

pub returns-then-contains : goal.returns-then-contains
returns-then-contains c =
    c.if-contains.true
    ∙ sym (ap (λ b. b || has_link (links_of c.args.self.now) c.args.from c.args.at) (has_node-member c.args.set c.args.at (c.contains.ensures.member.0 c.if-contains.true)))

pub returns-else-contains : goal.returns-else-contains
returns-else-contains c =
    rw (has_node-apart c.args.set c.args.at (c.contains.ensures.member.1) c.if-contains.false, ← c.self.view_is, ← c.get.ensures.number)
    (told-link c.self.inside.told c.get.result c.args.at c.index-self-get.result c.contains-else-contains.result (omega arith) c.contains-else-contains.ensures.member)
