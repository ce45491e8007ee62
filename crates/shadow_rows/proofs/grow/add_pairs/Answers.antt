use Rattle.std.proofs.Common.{◌≡◌, ◌<◌, ◌∷◌, ◌++◌, ◌∙◌, [], ap, arith, subst, sym, take, true}
use Rattle.std.proofs.lemmas.Bool.{false≢true}
use Rattle.std.proofs.lemmas.Grind.{flat_map-append}
use Rattle.std.proofs.lemmas.List.{take_more}
use Rattle.std.specs.List.{position_or_len}
use Rattle.std.specs.Result.{is_err}
use Rattle.crgc_ids.proofs.SuccessLaws.{at_success}
use Rattle.crgc_ids.specs.Actor.{Actor}
use Rattle.crgc_ids.specs.declared.rising.PairCount.{PairCount}
use Rattle.edge_table.specs.Table.{same_pair}
use Rattle.history_model.specs.Ledgers.{pair_names}
use Rattle.shadow_rows.specs.Pairs.{has_pair}
use Rattle.shadow_rows.specs.Rows.{NamesRows}
use Rattle.shadow_rows.specs.Tabled.{AreNumbered}
use Rattle.shadow_rows.proofs.GrowLemmas.{edges-extend-more, edges-extend-self, edges-same}
use Rattle.shadow_rows.proofs.NamedLemmas.{extends-more, extends-self, fits-more, keeps-place, names-append, names-more, names-none, one-named, stays-named}
use Rattle.shadow_rows.proofs.NumberedLemmas.{numbered-more, numbered-none, numbered-push}
use Rattle.shadow_rows.proofs.grow.add_pairs.Goals as goal

pub returns-then-is_err-clause-shadows : goal.returns-then-is_err-clause-shadows
returns-then-is_err-clause-shadows c = extends-self c.args.shadows.now

pub returns-then-is_err-clause-extends : goal.returns-then-is_err-clause-extends
returns-then-is_err-clause-extends c = edges-extend-self c.args.edges.now

pub returns-in_err-from-clause-shadows : goal.returns-in_err-from-clause-shadows
returns-in_err-from-clause-shadows c = extends-more c.args.shadows.now c.loop-row.shadows c.name_after.new.shadows c.loop-row.invariant.shadows c.name_after.ensures.shadows

pub returns-in_err-from-clause-extends : goal.returns-in_err-from-clause-extends
returns-in_err-from-clause-extends c =
    edges-extend-more c.args.edges.now c.loop-row.edges c.name_after.new.edges c.loop-row.invariant.extends (edges-same c.loop-row.edges c.name_after.new.edges c.name_after.ensures.pairs c.name_after.ensures.edges)

pub returns-in_err-number-clause-shadows : goal.returns-in_err-number-clause-shadows
returns-in_err-number-clause-shadows c =
    let first = extends-more c.args.shadows.now c.loop-row.shadows c.name_after.new.shadows c.loop-row.invariant.shadows c.name_after.ensures.shadows in
    extends-more c.args.shadows.now c.name_after.new.shadows c.add_pair.new.shadows first c.add_pair.ensures.shadows

pub returns-in_err-number-clause-extends : goal.returns-in_err-number-clause-extends
returns-in_err-number-clause-extends c =
    let first = edges-extend-more c.args.edges.now c.loop-row.edges c.name_after.new.edges c.loop-row.invariant.extends (edges-same c.loop-row.edges c.name_after.new.edges c.name_after.ensures.pairs c.name_after.ensures.edges) in
    edges-extend-more c.args.edges.now c.name_after.new.edges c.add_pair.new.edges first c.add_pair.ensures.extends

pub add_pair-requires-clause-owner : goal.add_pair-requires-clause-owner
add_pair-requires-clause-owner c = one-named c.loop-row.shadows.names c.name_after.new.shadows.names c.named_in_pair-owner.result.0 c.in_ok-from.ensures.named

pub loop-row-init : goal.loop-row-init
loop-row-init c =
    let reserved = at_success _ c.reserve.result (λ e is. false≢true (sym c.if-is_err.false ∙ c.is_err.ensures.value ∙ ap is_err is)) c.reserve.ensures.ok in
    record {
      named = names-none c.args.shadows.now.names;
      fits = tt;
      tabled = c.requires.tabled;
      shadows = extends-self c.args.shadows.now;
      extends = edges-extend-self c.args.edges.now;
      places = omega arith;
      numbered = numbered-none c.args.edges.now c.reserve.new.self.items (c.reserve.ensures.items ∙ c.clear.ensures.items);
      last_named = tt;
      last = tt;
      room = omega arith;
    }

pub loop-row-preserved : goal.loop-row-preserved
loop-row-preserved c =
    let before = c.loop-row.invariant in
    let i = c.loop-row.row-index in
    let row = c.row-item.result in
    let rows = take i c.args.rows.now in
    let pair = c.named_in_pair-owner.result in
    let actors = c.named_in_pair-owner.ensures.actors in
    let now = c.loop-row.shadows in
    let mid = c.name_after.new.shadows in
    let next = c.add_pair.new.shadows in
    let owner_named = one-named now.names mid.names pair.0 c.in_ok-from.ensures.named in
    let both = names-append now.names mid.names next.names (pair.0 ∷ []) (pair.1 ∷ []) c.in_ok-from.ensures.named c.in_ok-number.ensures.named in
    let one = subst (λ (p : Actor × Actor). NamesRows now.names next.names (p.0 ∷ p.1 ∷ [])) actors both in
    let same = edges-same c.loop-row.edges c.name_after.new.edges c.name_after.ensures.pairs c.name_after.ensures.edges in
    let grown = edges-extend-more c.loop-row.edges c.name_after.new.edges c.add_pair.new.edges same c.add_pair.ensures.extends in
    let new = c.add_pair.new.edges in
    let number = c.in_ok-number.number in
    let numbers = c.loop-row.numbers.items in
    let stay = numbered-more c.loop-row.edges new rows numbers grown before.numbered in
    let there = subst (λ (p : Actor × Actor). has_pair new.pairs p.0 p.1 ≡ true) actors c.in_ok-number.ensures.there in
    let at = c.in_ok-number.ensures.number ∙ ap (λ p. position_or_len (same_pair p) new.pairs) actors in
    let pushed = numbered-push new rows numbers row number stay there at c.in_ok-number.ensures.within in
    let is = take_more c.args.rows.now i row c.loop-row-test.true ∙ ap (λ (r : PairCount). rows ++ r ∷ []) (sym c.row-item.is) in
    let more = c.push_reserved.ensures.items in
    record {
      named = names-more pair_names (flat_map-append (λ (r : PairCount). r.owner ∷ r.target ∷ [])) c.args.rows.now i row c.args.shadows.now.names now.names next.names c.loop-row-test.true c.row-item.is before.named one;
      fits = fits-more (λ (r : PairCount). r.count < 4294967296) c.args.rows.now i row c.loop-row-test.true c.row-item.is before.fits c.named_in_pair-owner.ensures.fits;
      tabled = c.in_ok-number.ensures.tabled;
      shadows = extends-more c.args.shadows.now mid next (extends-more c.args.shadows.now now mid before.shadows c.name_after.ensures.shadows) c.add_pair.ensures.shadows;
      extends = edges-extend-more c.args.edges.now c.loop-row.edges new before.extends grown;
      places = (let first = before.places in let then = c.name_after.ensures.places in let last = c.add_pair.ensures.places in omega arith);
      numbered = subst (λ rs. AreNumbered new rs c.push_reserved.new.self.items) (sym is) (subst (AreNumbered new (rows ++ row ∷ [])) (sym more) pushed);
      last_named = stays-named mid next pair.0 c.add_pair.ensures.shadows owner_named;
      last = c.in_ok-from.ensures.place ∙ sym (keeps-place mid next pair.0 c.add_pair.ensures.shadows owner_named);
      room = omega arith;
    }
