use Rattle.std.proofs.Common.{◌∙◌, None, ap, rules, sym}
use Rattle.std.proofs.lemmas.Bool.{false≢true}
use Rattle.std.specs.Box.{box_value}
use Rattle.std.specs.Option.{option_map}
use Rattle.std.specs.Result.{is_err}
use Rattle.crgc_ids.proofs.SuccessLaws.{at_success}
use Rattle.edge_table.specs.Partition.{KeptPage, kept_in}
use Rattle.edge_table.proofs.PageLemmas.{filled}
use Rattle.edge_table.proofs.pages.Page.reach.Goals as goal

pub returns-clause-kept : goal.returns-clause-kept
returns-clause-kept c = λ i.
    ap (option_map box_value) (filled _ None (λ f x g called. search rules) c.self.inside.entries.items _ _ _ (search rules)
    (at_success _ c.resize_with.result (λ e failed. false≢true (sym c.if-is_err.false ∙ c.is_err.ensures.value ∙ ap is_err failed)) c.resize_with.ensures.items) i)
    ∙ ap (λ (page : KeptPage). kept_in page i) c.self.view_is
