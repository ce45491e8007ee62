use Rattle.std.proofs.Common.{◌≡◌, ◌<◌, ◌∙◌, Some, ap, length, subst, sym}
use Rattle.edge_table.specs.Partition.{IsParted, Parted, kept_of}
use Rattle.edge_table.specs.declared.positive.TheConstants.{MANY}
use Rattle.edge_table.proofs.PageLemmas.{changed-here, changed-others}
use Rattle.edge_table.proofs.PartitionLemmas.{kept-none, kept-short}
use Rattle.edge_table.proofs.positive.PositiveEdges.set.Goals as goal
use Rattle.edge_table.proofs.positive.PositiveEdges.set.Goals.{In-Some}

-- what was kept of the place
was : (c : In-Some) → kept_of c.args.self.now c.args.place ≡ Some c.in-Some.partition.now
was c = ap (λ pages. kept_of pages c.args.place) (sym c.self.view_is) ∙ c.in-Some.ensures.some

pub returns-then-ends-le-MANY-clause-kept : goal.returns-then-ends-le-MANY-clause-kept
returns-then-ends-le-MANY-clause-kept c = λ old new at kept.
    kept-none c.args.ends.now new (kept_of c.args.self.now c.args.place) (kept-short c.args.ends.now old (kept_of c.args.self.now c.args.place) c.if-ends-le-MANY.true kept)

pub set-requires-clause-parted : goal.set-requires-clause-parted
set-requires-clause-parted c = (c.requires.kept.0, (c.requires.kept.1 c.in-Some.partition.now (was c)).1)

pub returns-clause-kept : goal.returns-clause-kept
returns-clause-kept c = λ old new at kept s there.
    let is = c.set.new.self in
    let before = kept c.in-Some.partition.now (was (goal.at.returns-clause-kept c).In-Some) in
    let written = changed-here c.self.inside.places c.args.place c.in-Some.partition.now is c.in-Some.ensures.some in
    let same : is ≡ s = cc (written, there) in
    subst (λ (x : Parted). (MANY < length c.args.ends.now) × IsParted c.args.ends.now new x) same (before.0, c.set.ensures old new before.1 at)

pub returns-clause-others : goal.returns-clause-others
returns-clause-others c = λ p apart.
    changed-others c.self.inside.places c.args.place c.in-Some.partition.now c.set.new.self c.in-Some.ensures.some p apart
    ∙ ap (λ pages. kept_of pages p) c.self.view_is
