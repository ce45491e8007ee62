use Rattle.std.proofs.Common.{◌++◌, map}
use Rattle.history_model.specs.Ledgers.{pair_names}
use Rattle.shadow_rows.proofs.GrowLemmas.{edges-extend-more, edges-same}
use Rattle.shadow_rows.proofs.NamedLemmas.{extends-more, names-append}
use Rattle.shadow_rows.proofs.NumberedLemmas.{numbered-more}
use Rattle.shadow_rows.proofs.grow.grow.Goals as goal

pub returns-in_err-name_states-clause-edges : goal.returns-in_err-name_states-clause-edges
returns-in_err-name_states-clause-edges c = edges-same c.args.edges.now c.name_states.new.edges c.name_states.ensures.pairs c.name_states.ensures.edges

pub returns-in_err-name_counts-clause-edges : goal.returns-in_err-name_counts-clause-edges
returns-in_err-name_counts-clause-edges c =
    let first = edges-same c.args.edges.now c.name_states.new.edges c.name_states.ensures.pairs c.name_states.ensures.edges in
    edges-extend-more c.args.edges.now c.name_states.new.edges c.name_counts.new.edges first (edges-same c.name_states.new.edges c.name_counts.new.edges c.name_counts.ensures.pairs c.name_counts.ensures.edges)

pub returns-in_err-add_pairs-clause-shadows : goal.returns-in_err-add_pairs-clause-shadows
returns-in_err-add_pairs-clause-shadows c =
    let named = extends-more c.args.shadows.now c.name_states.new.shadows c.name_counts.new.shadows c.name_states.ensures.shadows c.name_counts.ensures.shadows in
    extends-more c.args.shadows.now c.name_counts.new.shadows c.add_pairs.new.shadows named c.add_pairs.ensures.shadows

pub returns-in_err-add_pairs-clause-edges : goal.returns-in_err-add_pairs-clause-edges
returns-in_err-add_pairs-clause-edges c =
    let first = edges-same c.args.edges.now c.name_states.new.edges c.name_states.ensures.pairs c.name_states.ensures.edges in
    let named = edges-extend-more c.args.edges.now c.name_states.new.edges c.name_counts.new.edges first (edges-same c.name_states.new.edges c.name_counts.new.edges c.name_counts.ensures.pairs c.name_counts.ensures.edges) in
    edges-extend-more c.args.edges.now c.name_counts.new.edges c.add_pairs.new.edges named c.add_pairs.ensures.extends

pub returns-in_err-add_pairs-2-clause-shadows : goal.returns-in_err-add_pairs-2-clause-shadows
returns-in_err-add_pairs-2-clause-shadows c =
    let named = extends-more c.args.shadows.now c.name_states.new.shadows c.name_counts.new.shadows c.name_states.ensures.shadows c.name_counts.ensures.shadows in
    let then = extends-more c.args.shadows.now c.name_counts.new.shadows c.add_pairs.new.shadows named c.add_pairs.ensures.shadows in
    extends-more c.args.shadows.now c.add_pairs.new.shadows c.add_pairs-2.new.shadows then c.add_pairs-2.ensures.shadows

pub returns-in_err-add_pairs-2-clause-edges : goal.returns-in_err-add_pairs-2-clause-edges
returns-in_err-add_pairs-2-clause-edges c =
    let first = edges-same c.args.edges.now c.name_states.new.edges c.name_states.ensures.pairs c.name_states.ensures.edges in
    let named = edges-extend-more c.args.edges.now c.name_states.new.edges c.name_counts.new.edges first (edges-same c.name_states.new.edges c.name_counts.new.edges c.name_counts.ensures.pairs c.name_counts.ensures.edges) in
    let then = edges-extend-more c.args.edges.now c.name_counts.new.edges c.add_pairs.new.edges named c.add_pairs.ensures.extends in
    edges-extend-more c.args.edges.now c.add_pairs.new.edges c.add_pairs-2.new.edges then c.add_pairs-2.ensures.extends

pub returns-clause-named : goal.returns-clause-named
returns-clause-named c =
    let states = map (λ r. r.actor) c.args.states.now in
    let sent = map (λ r. r.actor) c.args.sent.now in
    let old = c.args.shadows.now.names in
    let new = c.add_pairs-2.new.shadows.names in
    let pairs = names-append c.name_counts.new.shadows.names c.add_pairs.new.shadows.names new (pair_names c.args.created.now) (pair_names c.args.released.now) c.in_ok-add_pairs.ensures.named c.in_ok-add_pairs-2.ensures.named in
    let rest = names-append c.name_states.new.shadows.names c.name_counts.new.shadows.names new sent (pair_names c.args.created.now ++ pair_names c.args.released.now) c.in_ok-name_counts.ensures.named pairs in
    names-append old c.name_states.new.shadows.names new states (sent ++ (pair_names c.args.created.now ++ pair_names c.args.released.now)) c.in_ok-name_states.ensures.named rest

pub returns-clause-created : goal.returns-clause-created
returns-clause-created c =
    numbered-more c.add_pairs.new.edges c.add_pairs-2.new.edges c.args.created.now c.add_pairs.new.numbers.items c.add_pairs-2.ensures.extends c.in_ok-add_pairs.ensures.ok

pub returns-clause-shadows : goal.returns-clause-shadows
returns-clause-shadows c =
    let named = extends-more c.args.shadows.now c.name_states.new.shadows c.name_counts.new.shadows c.name_states.ensures.shadows c.name_counts.ensures.shadows in
    let then = extends-more c.args.shadows.now c.name_counts.new.shadows c.add_pairs.new.shadows named c.add_pairs.ensures.shadows in
    extends-more c.args.shadows.now c.add_pairs.new.shadows c.add_pairs-2.new.shadows then c.add_pairs-2.ensures.shadows

pub returns-clause-edges : goal.returns-clause-edges
returns-clause-edges c =
    let first = edges-same c.args.edges.now c.name_states.new.edges c.name_states.ensures.pairs c.name_states.ensures.edges in
    let named = edges-extend-more c.args.edges.now c.name_states.new.edges c.name_counts.new.edges first (edges-same c.name_states.new.edges c.name_counts.new.edges c.name_counts.ensures.pairs c.name_counts.ensures.edges) in
    let then = edges-extend-more c.args.edges.now c.name_counts.new.edges c.add_pairs.new.edges named c.add_pairs.ensures.extends in
    edges-extend-more c.args.edges.now c.add_pairs.new.edges c.add_pairs-2.new.edges then c.add_pairs-2.ensures.extends
