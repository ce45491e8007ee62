use Rattle.std.proofs.Common.{ap, subst, ◌∙◌, arith}
use Rattle.wire_grammar.specs.Reading.{reading}
use Rattle.wire_grammar.proofs.Bulletins.{reading-again}
use Rattle.graph_wire.specs.Gives.{GivesPrefix}
use Rattle.graph_wire.proofs.Ends.{is-found}
use Rattle.graph_wire.proofs.bulletins.read_into.Goals as goal

pub returns-clause-found : goal.returns-clause-found
returns-clause-found c = is-found c.args.bytes.now c.prefix.result (λ i. omega (arith, c.type_inv.bytes i)) c.prefix.ensures

pub returns-clause-only : goal.returns-clause-only
returns-clause-only c = λ b rest h e. subst (λ r. GivesPrefix c.prefix.result r) (ap reading e ∙ reading-again b rest h) c.prefix.ensures
