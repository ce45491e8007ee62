use Rattle.std.proofs.Common.{◌≡◌, ◌∙◌, true, List, None, Some, arith, subst, sym}
use Rattle.std.specs.List.{AllByRecursion}
use Rattle.crgc_ids.specs.Actor.{Actor}
use Rattle.shadow_table.specs.Shadows.{is_named}
use Rattle.shadow_rows.specs.Pairs.{has_pair}
use Rattle.shadow_rows.proofs.AddedLemmas.{tabled-counted}
use Rattle.shadow_rows.proofs.SettleLemmas.{messages-covered, pairs-covered}
use Rattle.shadow_rows.proofs.settle.settle_node.Goals as goal

pub take_back_messages-requires : goal.take_back_messages-requires
take_back_messages-requires c =
    messages-covered c.args.shadows.now.names c.messages.result.now c.messages.ensures.stand
    (λ a some. let told = c.messages.ensures.counts a in c.requires.covered c.args.node None a (omega (arith, told, some)))

pub take_back_pairs-requires-clause-there : goal.take_back_pairs-requires-clause-there
take_back_pairs-requires-clause-there c =
    pairs-covered c.args.edges.now.pairs c.pairs.result.now c.pairs.ensures.stand
    (λ b a some. let told = c.pairs.ensures.counts b a in c.requires.covered c.args.node (Some b) a (omega (arith, told, some)))

pub admit_all-requires-clause-named : goal.admit_all-requires-clause-named
admit_all-requires-clause-named c =
    subst (λ (names : List Actor). AllByRecursion (λ r. is_named names r.actor ≡ true) c.messages-2.result.now) (sym c.take_back_messages.ensures.names)
    (messages-covered c.args.shadows.now.names c.messages-2.result.now c.messages-2.ensures.stand
    (λ a some. let admitted = c.messages-2.ensures.counts a in c.requires.covered c.args.node None a (omega (arith, admitted, some))))

pub put_in_pairs-requires-clause-there : goal.put_in_pairs-requires-clause-there
put_in_pairs-requires-clause-there c =
    subst (λ (pairs : List (Actor × Actor)). AllByRecursion (λ r. has_pair pairs r.owner r.target ≡ true) c.pairs-2.result.now) (sym c.take_back_pairs.ensures.ends.pairs)
    (pairs-covered c.args.edges.now.pairs c.pairs-2.result.now c.pairs-2.ensures.stand
    (λ b a some. let admitted = c.pairs-2.ensures.counts b a in c.requires.covered c.args.node (Some b) a (omega (arith, admitted, some))))

pub put_in_pairs-requires-clause-tabled : goal.put_in_pairs-requires-clause-tabled
put_in_pairs-requires-clause-tabled c =
    tabled-counted c.args.shadows.now.names c.admit_all.new.self.names c.args.edges.now c.take_back_pairs.new.edges (c.admit_all.ensures.names ∙ c.take_back_messages.ensures.names) c.take_back_pairs.ensures.ends c.requires.tabled
