use Rattle.std.proofs.Common.{◌≡◌, ◌++◌, ◌∷◌, ◌∙◌, [], Some, arith, pos, refl, rules, sym, true}
use Rattle.crgc_ids.specs.Actor.{same_actor}
use Rattle.edge_table.specs.Table.{Edges}
use Rattle.edge_table.specs.declared.table.Edge.{Edge}
use Rattle.shadow_table.proofs.KeyedLemmas.{place-within}
use Rattle.shadow_rows.specs.Pairs.{has_pair}
use Rattle.shadow_rows.specs.Tabled.{AreTabled, ExtendsEdges}
use Rattle.shadow_rows.proofs.EndsLemmas.{ends-tabled}
use Rattle.shadow_rows.proofs.GrowLemmas.{edge-added, edges-extend-more, edges-extend-self, edges-same, pair-added, pair-numbered, tabled-added}
use Rattle.shadow_rows.proofs.NamedLemmas.{keeps-place, one-named, stays-named}
use Rattle.shadow_rows.proofs.NumberedLemmas.{either_way, number-added, when_added}
use Rattle.shadow_rows.proofs.grow.add_pair.Goals as goal

pub returns-in_err-to-clause-extends : goal.returns-in_err-to-clause-extends
returns-in_err-to-clause-extends c = edges-same c.args.edges.now c.name.new.edges c.name.ensures.pairs c.name.ensures.edges

-- the place of a named actor is one of the table's
pub number_of-requires-clause-owner : goal.number_of-requires-clause-owner
number_of-requires-clause-owner c =
    let named = stays-named c.args.shadows.now c.name.new.shadows c.args.owner c.name.ensures.shadows c.requires.owner in
    let within = place-within (same_actor c.args.owner) c.name.new.shadows.names named in
    let is = c.requires.from ∙ sym (keeps-place c.args.shadows.now c.name.new.shadows c.args.owner c.name.ensures.shadows c.requires.owner) in
    let room = c.in_ok-to.ensures.tabled.room in
    omega arith

pub number_of-requires-clause-target : goal.number_of-requires-clause-target
number_of-requires-clause-target c =
    let named = one-named c.args.shadows.now.names c.name.new.shadows.names c.args.target c.in_ok-to.ensures.named in
    let within = place-within (same_actor c.args.target) c.name.new.shadows.names named in
    let is = c.in_ok-to.ensures.place in
    let room = c.in_ok-to.ensures.tabled.room in
    omega arith

pub add-requires-clause-owner : goal.add-requires-clause-owner
add-requires-clause-owner c =
    let named = stays-named c.args.shadows.now c.name.new.shadows c.args.owner c.name.ensures.shadows c.requires.owner in
    let within = place-within (same_actor c.args.owner) c.name.new.shadows.names named in
    let is = c.requires.from ∙ sym (keeps-place c.args.shadows.now c.name.new.shadows c.args.owner c.name.ensures.shadows c.requires.owner) in
    let room = c.in_ok-to.ensures.tabled.room in
    omega arith

pub add-requires-clause-target : goal.add-requires-clause-target
add-requires-clause-target c =
    let named = one-named c.args.shadows.now.names c.name.new.shadows.names c.args.target c.in_ok-to.ensures.named in
    let within = place-within (same_actor c.args.target) c.name.new.shadows.names named in
    let is = c.in_ok-to.ensures.place in
    let room = c.in_ok-to.ensures.tabled.room in
    omega arith

pub number_of-requires-clause-ends : goal.number_of-requires-clause-ends
number_of-requires-clause-ends c =
    let owner_named = stays-named c.args.shadows.now c.name.new.shadows c.args.owner c.name.ensures.shadows c.requires.owner in
    let target_named = one-named c.args.shadows.now.names c.name.new.shadows.names c.args.target c.in_ok-to.ensures.named in
    let from_is = c.requires.from ∙ sym (keeps-place c.args.shadows.now c.name.new.shadows c.args.owner c.name.ensures.shadows c.requires.owner) in
    ends-tabled c.name.new.shadows.names c.name.new.edges c.args.owner c.args.target c.args.from c.in_ok-to.to c.in_ok-to.ensures.tabled c.edge_count-edges.ensures.long c.edge_count-edges.ensures.distinct owner_named target_named from_is c.in_ok-to.ensures.place

pub returns-in-Some-clause-there : goal.returns-in-Some-clause-there
returns-in-Some-clause-there c =
    pair-numbered c.name.new.edges.pairs c.args.owner c.args.target (Some c.in-Some.number) _ c.in-Some.ensures.number refl refl

pub returns-in-Some-clause-extends : goal.returns-in-Some-clause-extends
returns-in-Some-clause-extends c = edges-same c.args.edges.now c.name.new.edges c.name.ensures.pairs c.name.ensures.edges

pub returns-clause-there : goal.returns-clause-there
returns-clause-there c =
    let t = c.name.new.edges in
    let e : Edge = record { owner = c.args.from; target = c.in_ok-to.to; count = pos 0 } in
    let v : Edges = record t { pairs = t.pairs ++ (c.args.owner, c.args.target) ∷ []; edges = t.edges ++ e ∷ [] } in
    when_added c.add.result c.add.new.self v (λ (u : Edges). has_pair u.pairs c.args.owner c.args.target ≡ true) c.add.ensures.ok (pair-added t.pairs v.pairs c.args.owner c.args.target refl)

pub returns-clause-number : goal.returns-clause-number
returns-clause-number c =
    let e : Edge = record { owner = c.args.from; target = c.in_ok-to.to; count = pos 0 } in
    number-added c.add.result c.name.new.edges c.add.new.self c.args.owner c.args.target e (search rules) c.number_of.ensures.long c.add.ensures.number c.add.ensures.ok

pub returns-clause-tabled : goal.returns-clause-tabled
returns-clause-tabled c =
    let t = c.name.new.edges in
    let names = c.name.new.shadows.names in
    let e : Edge = record { owner = c.args.from; target = c.in_ok-to.to; count = pos 0 } in
    let v : Edges = record t { pairs = t.pairs ++ (c.args.owner, c.args.target) ∷ []; edges = t.edges ++ e ∷ [] } in
    let owner_named = stays-named c.args.shadows.now c.name.new.shadows c.args.owner c.name.ensures.shadows c.requires.owner in
    let target_named = one-named c.args.shadows.now.names names c.args.target c.in_ok-to.ensures.named in
    let from_is = c.requires.from ∙ sym (keeps-place c.args.shadows.now c.name.new.shadows c.args.owner c.name.ensures.shadows c.requires.owner) in
    let after = tabled-added names t v c.args.owner c.args.target e c.in_ok-to.ensures.tabled c.number_of.ensures.long owner_named target_named from_is c.in_ok-to.ensures.place refl in
    when_added c.add.result c.add.new.self v (AreTabled names) c.add.ensures.ok after

pub returns-clause-extends : goal.returns-clause-extends
returns-clause-extends c =
    let t = c.name.new.edges in
    let e : Edge = record { owner = c.args.from; target = c.in_ok-to.to; count = pos 0 } in
    let v : Edges = record t { pairs = t.pairs ++ (c.args.owner, c.args.target) ∷ []; edges = t.edges ++ e ∷ [] } in
    let named = edges-same c.args.edges.now t c.name.ensures.pairs c.name.ensures.edges in
    let added = either_way c.add.result t c.add.new.self v (ExtendsEdges t) c.add.ensures.ok c.add.ensures.err (edges-extend-self t) (edge-added t v c.args.owner c.args.target e c.number_of.ensures.long refl refl) in
    edges-extend-more c.args.edges.now t c.add.new.self named added
