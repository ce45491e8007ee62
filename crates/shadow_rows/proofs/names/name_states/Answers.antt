use Rattle.std.proofs.Common.{◌<◌, ◌∷◌, ◌∙◌, [], arith, map, refl, subst}
use Rattle.std.proofs.lemmas.List.{map-append}
use Rattle.history_model.specs.declared.records.StateRow.{StateRow}
use Rattle.shadow_rows.specs.Rows.{NamesRows}
use Rattle.shadow_rows.proofs.NamedLemmas.{extends-more, extends-self, fits-more, names-more, names-none}
use Rattle.shadow_rows.proofs.names.name_states.Goals as goal

pub loop-row-init : goal.loop-row-init
loop-row-init c = record {
  named = names-none c.args.shadows.now.names;
  fits = tt;
  tabled = c.requires.tabled;
  shadows = extends-self c.args.shadows.now;
  places = omega arith;
  pairs = refl;
  edges = refl;
}

pub loop-row-preserved : goal.loop-row-preserved
loop-row-preserved c =
    let now = c.loop-row.shadows in
    let next = c.name.new.shadows in
    let one = subst (λ a. NamesRows now.names next.names (a ∷ [])) c.named_in_state-actor.ensures.actor c.in_ok-name.ensures.named in
    let before = c.loop-row.invariant in
    record {
      named = names-more (map (λ (r : StateRow). r.actor)) (map-append (λ (r : StateRow). r.actor)) c.args.rows.now c.loop-row.row-index c.row-item.result c.args.shadows.now.names now.names next.names c.loop-row-test.true c.row-item.is before.named one;
      fits = fits-more (λ (r : StateRow). r.received < 4294967296) c.args.rows.now c.loop-row.row-index c.row-item.result c.loop-row-test.true c.row-item.is before.fits c.named_in_state-actor.ensures.fits;
      tabled = c.in_ok-name.ensures.tabled;
      shadows = extends-more c.args.shadows.now now next before.shadows c.name.ensures.shadows;
      places = (let more = c.name.ensures.places in let so = before.places in omega arith);
      pairs = c.name.ensures.pairs ∙ before.pairs;
      edges = c.name.ensures.edges ∙ before.edges;
    }
