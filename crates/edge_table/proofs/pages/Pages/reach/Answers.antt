use Rattle.std.proofs.Common.{◌∙◌, ◌/◌, ◌%◌, [], ap, rules, sym}
use Rattle.std.proofs.lemmas.Bool.{false≢true}
use Rattle.std.specs.Result.{is_err}
use Rattle.crgc_ids.proofs.SuccessLaws.{at_success}
use Rattle.edge_table.specs.Partition.{Kept, KeptPage, kept_in, kept_of}
use Rattle.edge_table.specs.declared.pages.TheConstants.{PAGE}
use Rattle.edge_table.proofs.PageLemmas.{filled}
use Rattle.edge_table.proofs.pages.Pages.reach.Goals as goal

pub returns-clause-kept : goal.returns-clause-kept
returns-clause-kept c = λ p.
    ap (λ (page : KeptPage). kept_in page (p % PAGE)) (filled _ [] (λ f x g called. search rules) c.self.inside.pages.items _ _ _ (search rules)
    (at_success _ c.resize_with-grown.result (λ e failed. false≢true (sym c.if-is_err.false ∙ c.is_err.ensures.value ∙ ap is_err failed)) c.resize_with-grown.ensures.items) (p / PAGE))
    ∙ ap (λ (kept : Kept). kept_of kept p) c.self.view_is
