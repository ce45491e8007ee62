use Rattle.std.proofs.Common.{◌≡◌, ◌∙◌, ℕ, true, Option, Some, None, eqb, eqb-true, ap, subst, sym}
use Rattle.std.proofs.lemmas.Bool.{false≢true}
use Rattle.std.specs.Option.{option_eq}
use Rattle.edge_table.specs.Far.{Entries, far_number}
use Rattle.edge_table.proofs.FarLemmas.{far-taken}
use Rattle.edge_table.proofs.far_edges.FarEdges.remove.Goals as goal

-- a number that is found equal to another is that number
found_is : (o : Option ℕ) (n : ℕ) → option_eq eqb o (Some n) ≡ true → o ≡ Some n
found_is None n same = absurd (false≢true same)
found_is (Some m) n same = ap Some (eqb-true m n same)

pub returns-then-eq : goal.returns-then-eq
returns-then-eq c =
    let is = sym c.number.ensures ∙ found_is c.number.result c.args.number (sym c.eq.ensures ∙ c.if-eq.true) in
    let was = subst (λ (entries : Entries). far_number entries c.args.owner_place c.args.target_place ≡ Some c.args.number) (sym c.self.view_is) is in
    rw (← c.self.view_is) (far-taken c.self.inside.numbers.entries c.remove.new.self.entries c.args.owner_place c.args.target_place c.args.number was c.remove.ensures.updates.1 c.remove.ensures.updates.2)
