use Rattle.std.proofs.Common.{◌≡◌, List, subst, sym, ap, ◌∙◌, true, arith}
use Rattle.std.specs.List.{AllByRecursion}
use Rattle.crgc_ids.specs.Actor.{Actor}
use Rattle.history_model.specs.Ledgers.{delta_ledger, ledger_names, no_rows}
use Rattle.shadow_table.specs.Shadows.{Shadows, is_named}
use Rattle.undo_log.specs.declared.corrections.Side.TheVariants as sides
use Rattle.shadow_rows.specs.Rows.{NamesRows}
use Rattle.shadow_rows.specs.Tabled.{ArePairs}
use Rattle.shadow_rows.proofs.AddedLemmas.{adds-grown, covered-restored, small-grown, tabled-counted, tabled-restored}
use Rattle.shadow_rows.proofs.LogLemmas.{covered-logged, edges-cut, notes-delta, pairs-cut, shadows-cut}
use Rattle.shadow_rows.proofs.NamedLemmas.{sent-named, states-named}
use Rattle.shadow_rows.proofs.add.add_delta.Goals as goal

pub count_delta-requires-clause-states : goal.count_delta-requires-clause-states
count_delta-requires-clause-states c =
    let d = c.args.delta.now in
    states-named c.args.shadows.now.names c.prepare_delta.new.shadows.names d.states d.sent d.created d.released c.in-Ok.ensures.named

pub count_delta-requires-clause-sent : goal.count_delta-requires-clause-sent
count_delta-requires-clause-sent c =
    let d = c.args.delta.now in
    sent-named c.args.shadows.now.names c.prepare_delta.new.shadows.names d.states d.sent d.created d.released c.in-Ok.ensures.named

pub count_delta-requires-clause-small : goal.count_delta-requires-clause-small
count_delta-requires-clause-small c =
    small-grown c.args.shadows.now c.prepare_delta.new.shadows c.args.edges.now c.prepare_delta.new.edges c.prepare_delta.ensures.shadows c.prepare_delta.ensures.edges c.requires.small

pub returns-in-Ok-clause-adds : goal.returns-in-Ok-clause-adds
returns-in-Ok-clause-adds c =
    adds-grown c.args.delta.now.node c.args.counts (delta_ledger c.args.delta.now) no_rows c.args.shadows.now c.prepare_delta.new.shadows c.count_delta.new.shadows c.args.edges.now c.prepare_delta.new.edges c.count_delta.new.edges c.prepare_delta.ensures.shadows c.prepare_delta.ensures.edges c.count_delta.ensures.adds

pub returns-in-Ok-clause-noted : goal.returns-in-Ok-clause-noted
returns-in-Ok-clause-noted c = record {
  noted = λ t. notes-delta c.args.delta.now c.args.log.now c.prepare_delta.new.log (c.in-Ok.ensures.noted t);
  same = c.prepare_delta.ensures.same_log;
}

pub returns-in-Ok-clause-named : goal.returns-in-Ok-clause-named
returns-in-Ok-clause-named c =
    subst (λ (ns : List Actor). NamesRows c.args.shadows.now.names ns (ledger_names (delta_ledger c.args.delta.now))) (sym c.count_delta.ensures.names) c.in-Ok.ensures.named

pub returns-in-Ok-clause-more : goal.returns-in-Ok-clause-more
returns-in-Ok-clause-more c = (c.prepare_delta.ensures.shadows.more, c.count_delta.ensures.names ∙ c.prepare_delta.ensures.shadows.names)

pub returns-in-Ok-clause-covered : goal.returns-in-Ok-clause-covered
returns-in-Ok-clause-covered c =
    let d = c.args.delta.now in
    let grown = c.prepare_delta.ensures.shadows in
    let more = c.prepare_delta.ensures.edges in
    let names = c.count_delta.ensures.names in
    let pairs = c.count_delta.ensures.ends.pairs in
    let sent = sent-named c.args.shadows.now.names c.prepare_delta.new.shadows.names d.states d.sent d.created d.released c.in-Ok.ensures.named in
    covered-logged c.args.logs c.args.shadows.now c.count_delta.new.shadows c.args.edges.now c.count_delta.new.edges c.args.log.now c.prepare_delta.new.log d.node sides.Told d.sent d.created grown.more more.more
    (names ∙ grown.names) (pairs ∙ more.pairs)
    (subst (λ (ns : List Actor). AllByRecursion (λ r. is_named ns r.actor ≡ true) d.sent) (sym names) sent)
    (subst (λ (ps : List (Actor × Actor)). ArePairs ps d.created) (sym pairs) c.in-Ok.ensures.created.there)
    c.in-Ok.ensures.noted c.prepare_delta.ensures.same_log c.requires.covered

pub returns-in-Ok-clause-tabled : goal.returns-in-Ok-clause-tabled
returns-in-Ok-clause-tabled c =
    tabled-counted c.prepare_delta.new.shadows.names c.count_delta.new.shadows.names c.prepare_delta.new.edges c.count_delta.new.edges c.count_delta.ensures.names c.count_delta.ensures.ends c.in-Ok.ensures.tabled

pub returns-in-Err-clause-shadows : goal.returns-in-Err-clause-shadows
returns-in-Err-clause-shadows c =
    c.cut_back.ensures.shadows ∙ shadows-cut c.args.shadows.now c.prepare_delta.new.shadows c.place_count-places.result c.prepare_delta.ensures.shadows c.place_count-places.ensures.value c.place_count-places.ensures.shadows

pub returns-in-Err-clause-pairs : goal.returns-in-Err-clause-pairs
returns-in-Err-clause-pairs c =
    c.cut_back.ensures.pairs ∙ pairs-cut c.args.edges.now c.prepare_delta.new.edges c.edge_count-count.result c.prepare_delta.ensures.edges c.edge_count-count.ensures.value c.edge_count-count.ensures.long

pub returns-in-Err-clause-edges : goal.returns-in-Err-clause-edges
returns-in-Err-clause-edges c =
    c.cut_back.ensures.edges ∙ edges-cut c.args.edges.now c.prepare_delta.new.edges c.edge_count-count.result c.prepare_delta.ensures.edges c.edge_count-count.ensures.value

pub returns-in-Err-clause-tabled : goal.returns-in-Err-clause-tabled
returns-in-Err-clause-tabled c =
    let shadows = c.cut_back.ensures.shadows ∙ shadows-cut c.args.shadows.now c.prepare_delta.new.shadows c.place_count-places.result c.prepare_delta.ensures.shadows c.place_count-places.ensures.value c.place_count-places.ensures.shadows in
    let pairs = c.cut_back.ensures.pairs ∙ pairs-cut c.args.edges.now c.prepare_delta.new.edges c.edge_count-count.result c.prepare_delta.ensures.edges c.edge_count-count.ensures.value c.edge_count-count.ensures.long in
    let edges = c.cut_back.ensures.edges ∙ edges-cut c.args.edges.now c.prepare_delta.new.edges c.edge_count-count.result c.prepare_delta.ensures.edges c.edge_count-count.ensures.value in
    let grown = c.prepare_delta.ensures.places in
    let same = c.cut_back.ensures.places in
    tabled-restored c.args.shadows.now.names c.cut_back.new.shadows.names c.args.edges.now c.cut_back.new.edges (ap (λ (t : Shadows). t.names) shadows) pairs edges (omega (arith, grown, same)) c.requires.tabled

pub returns-in-Err-clause-covered : goal.returns-in-Err-clause-covered
returns-in-Err-clause-covered c =
    let shadows = c.cut_back.ensures.shadows ∙ shadows-cut c.args.shadows.now c.prepare_delta.new.shadows c.place_count-places.result c.prepare_delta.ensures.shadows c.place_count-places.ensures.value c.place_count-places.ensures.shadows in
    let pairs = c.cut_back.ensures.pairs ∙ pairs-cut c.args.edges.now c.prepare_delta.new.edges c.edge_count-count.result c.prepare_delta.ensures.edges c.edge_count-count.ensures.value c.edge_count-count.ensures.long in
    covered-restored c.args.shadows.now c.cut_back.new.shadows c.args.edges.now c.cut_back.new.edges c.args.log.now c.prepare_delta.new.log shadows pairs c.in-Err.ensures.log c.requires.covered
