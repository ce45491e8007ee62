use Rattle.std.proofs.Common.{◌≡◌, ◌<◌, ◌↔◌, ℕ, Option, Some, get_or, inl, inr, length, position, refl, subst, sym, take, ◌∙◌}
use Rattle.crgc_ids.specs.Members.{IsAmong}
use Rattle.std.specs.Option.{IfSome}
use Rattle.edge_table.specs.Far.{far_number}
use Rattle.edge_table.specs.Table.{Edges, HasEnds, IsBetween, ends_from, ends_to, no_edge, same_pair}
use Rattle.edge_table.specs.declared.near.TheConstants.{NEAR}
use Rattle.edge_table.proofs.FoundLemmas.{list-first, list-found, list-near, list-read, all_some, map_is_right, near_is_right, none_there, some_told}
use Rattle.edge_table.proofs.TableLemmas.{from_of, owner_of, target_of, to_of}
use Rattle.edge_table.proofs.table.EdgeTable.number_of.Goals as goal
use Rattle.edge_table.proofs.table.EdgeTable.number_of.Goals.{After-from-from, After-to-to}

-- the lists of both places
from_is : (c : After-from-from) → c.from-from.result.now ≡ ends_from c.self.inside.edges.edges c.args.owner_place
from_is c =
    let places = c.self.inside.places.items in
    let inside : c.args.owner_place < length places = subst (λ (t : Edges). c.args.owner_place < t.places) (sym c.self.view_is) c.requires.owner in
    list-read from_of (ends_from c.self.inside.edges.edges) places c.args.owner_place c.index.result.now c.from-from.result.now inside c.index.ensures c.from-from.ensures c.self.invariant.0.from

to_is : (c : After-to-to) → c.to-to.result.now ≡ ends_to c.self.inside.edges.edges c.args.target_place
to_is c =
    let places = c.self.inside.places.items in
    let inside : c.args.target_place < length places = subst (λ (t : Edges). c.args.target_place < t.places) (sym c.self.view_is) c.requires.target in
    list-read to_of (ends_to c.self.inside.edges.edges) places c.args.target_place c.index-2.result.now c.to-to.result.now inside c.index-2.ensures c.to-to.ensures c.self.invariant.0.to

-- what they have leads from the one place to the other
from_right : (c : After-from-from) (n : ℕ) → IsAmong (c.args.target_place, n) c.from-from.result.now → IsBetween c.self.inside.edges.edges n c.args.owner_place c.args.target_place
from_right c n h = list-found owner_of target_of refl c.self.inside.edges.edges c.args.owner_place c.from-from.result.now (from_is c) c.args.target_place n h

to_right : (c : After-to-to) (n : ℕ) → IsAmong (c.args.owner_place, n) c.to-to.result.now → IsBetween c.self.inside.edges.edges n c.args.owner_place c.args.target_place
to_right c n h = (let at = list-found target_of owner_of refl c.self.inside.edges.edges c.args.target_place c.to-to.result.now (to_is c) c.args.owner_place n h in (at.0, at.2, at.1))

-- the edge of the pair is the one between these places
between : (c : After-from-from) (n : ℕ) → (position (same_pair (c.args.owner, c.args.target)) c.self.inside.edges.pairs ≡ Some n) ↔ IsBetween c.self.inside.edges.edges n c.args.owner_place c.args.target_place
between c = subst (λ (t : Edges). HasEnds t c.args.owner c.args.target c.args.owner_place c.args.target_place) (sym c.self.view_is) c.requires.ends

-- what the map has for these places is the number of the pair
far_right : (c : After-from-from) (found : Option ℕ) → found ≡ far_number c.self.inside.far c.args.owner_place c.args.target_place → IfSome found (λ n. position (same_pair (c.args.owner, c.args.target)) c.self.inside.edges.pairs ≡ Some n)
far_right c found is = some_told _ found (λ n. position (same_pair (c.args.owner, c.args.target)) c.self.inside.edges.pairs ≡ Some n) is
    (λ n has. (between c n).1 (c.self.invariant.1.0.right c.args.owner_place c.args.target_place n has))

pub returns-then-to-le-NEAR-clause-number : goal.returns-then-to-le-NEAR-clause-number
returns-then-to-le-NEAR-clause-number c =
    let from = (goal.at.returns-then-to-le-NEAR-clause-number c).After-from-from in
    let to = (goal.at.returns-then-to-le-NEAR-clause-number c).After-to-to in
    let edges = c.self.inside.edges.edges in
    let list = c.to-to.result.now in
    let owner = c.args.owner_place in
    let target = c.args.target_place in
    rw (← c.self.view_is) (near_is_right _ c.number_near.result (λ n. IsBetween edges n owner target) (λ n. IsAmong (owner, n) (take NEAR list)) (λ n. IsAmong (owner, n) list) (between from)
    (λ n is. list-first target_of owner_of refl edges target list (to_is to) owner n is.0 is.2 is.1 c.if-to-le-NEAR.true)
    (to_right to) c.number_near.ensures.number c.number_near.ensures.none)

pub returns-then-from-le-NEAR-clause-number : goal.returns-then-from-le-NEAR-clause-number
returns-then-from-le-NEAR-clause-number c =
    let from = (goal.at.returns-then-from-le-NEAR-clause-number c).After-from-from in
    let edges = c.self.inside.edges.edges in
    rw (← c.self.view_is) (sym (none_there _ (λ n there.
    let is = (between from n).0 there in
    c.in_default.ensures.none n (list-first owner_of target_of refl edges c.args.owner_place c.from-from.result.now (from_is from) c.args.target_place n is.0 is.1 is.2 c.if-from-le-NEAR.true))))

pub returns-clause-number : goal.returns-clause-number
returns-clause-number c =
    let from = (goal.at.returns-clause-number c).After-from-from in
    let to = (goal.at.returns-clause-number c).After-to-to in
    let edges = c.self.inside.edges.edges in
    let owner = c.args.owner_place in
    let target = c.args.target_place in
    rw (← c.self.view_is) (map_is_right _ c.number.result (far_right from c.number.result c.number.ensures) (λ n there.
    let is = (between from n).0 there in
    elim (c.self.invariant.1.0.found n is.0) [
      | inl near ↦ elim near [
        | inl first ↦ absurd (c.in_default.ensures.none n (list-near owner_of target_of refl edges owner c.from-from.result.now (from_is from) target n is.1 is.2 first))
        | inr first ↦ absurd (c.in_default-number_near.ensures.none n (list-near target_of owner_of refl edges target c.to-to.result.now (to_is to) owner n is.2 is.1 first))
      ]
      | inr far ↦ (
          let has : far_number c.self.inside.far owner target ≡ Some far.0 = subst (λ x. far_number c.self.inside.far owner x ≡ Some far.0) is.2 (subst (λ x. far_number c.self.inside.far x (get_or edges n no_edge).target ≡ Some far.0) is.1 far.1) in
          c.number.ensures ∙ has ∙ sym ((between from far.0).1 (c.self.invariant.1.0.right owner target far.0 has)) ∙ there
          )
    ]))

pub returns-clause-within : goal.returns-clause-within
returns-clause-within c =
    rw (← c.self.view_is) (some_told _ c.number.result (λ n. n < length c.self.inside.edges.edges) c.number.ensures (λ n has. (c.self.invariant.1.0.right c.args.owner_place c.args.target_place n has).0))

pub returns-then-to-le-NEAR-clause-within : goal.returns-then-to-le-NEAR-clause-within
returns-then-to-le-NEAR-clause-within c =
    let to = (goal.at.returns-then-to-le-NEAR-clause-within c).After-to-to in
    rw (← c.self.view_is) (all_some c.number_near.result (λ n. IsAmong (c.args.owner_place, n) c.to-to.result.now) (λ n. n < length c.self.inside.edges.edges) (λ n h. (to_right to n h).0) c.number_near.ensures.number)

pub returns-in-Some-clause-number : goal.returns-in-Some-clause-number
returns-in-Some-clause-number c =
    let from = (goal.at.returns-in-Some-clause-number c).After-from-from in
    rw (← c.self.view_is) (sym ((between from c.in-Some.number).1 (from_right from c.in-Some.number c.in-Some.ensures.number)))

pub returns-in-Some-clause-within : goal.returns-in-Some-clause-within
returns-in-Some-clause-within c =
    let from = (goal.at.returns-in-Some-clause-within c).After-from-from in
    rw (← c.self.view_is) (from_right from c.in-Some.number c.in-Some.ensures.number).0

pub returns-in-Some-number_near-clause-number : goal.returns-in-Some-number_near-clause-number
returns-in-Some-number_near-clause-number c =
    let from = (goal.at.returns-in-Some-number_near-clause-number c).After-from-from in
    let to = (goal.at.returns-in-Some-number_near-clause-number c).After-to-to in
    rw (← c.self.view_is) (sym ((between from c.in-Some-number_near.number).1 (to_right to c.in-Some-number_near.number c.in-Some-number_near.ensures.number)))

pub returns-in-Some-number_near-clause-within : goal.returns-in-Some-number_near-clause-within
returns-in-Some-number_near-clause-within c =
    let to = (goal.at.returns-in-Some-number_near-clause-within c).After-to-to in
    rw (← c.self.view_is) (to_right to c.in-Some-number_near.number c.in-Some-number_near.ensures.number).0
