use Rattle.std.proofs.Common.{◌≡◌, ◌++◌, ◌<◌, ◌∙◌, ◌∷◌, [], ap, arith, length, length-append, subst, sym}
use Rattle.std.proofs.lemmas.Bool.{false≢true}
use Rattle.std.specs.Result.{is_ok}
use Rattle.crgc_ids.proofs.SuccessLaws.{at_success}
use Rattle.edge_table.specs.Partition.{IsParted, Parted, kept_of}
use Rattle.edge_table.specs.declared.positive.TheConstants.{MANY}
use Rattle.edge_table.proofs.PageLemmas.{changed-here, changed-others}
use Rattle.edge_table.proofs.positive.PositiveEdges.push.Goals as goal

pub returns-then-is_ok-clause-pushed : goal.returns-then-is_ok-clause-pushed
returns-then-is_ok-clause-pushed c = λ _ before counts free kept s there.
    let was = c.in-Some.partition.now in
    let is = c.push.new.self in
    let old = kept was (ap (λ pages. kept_of pages c.args.place) (sym c.self.view_is) ∙ c.in-Some.ensures.some) in
    let written = changed-here c.self.inside.places c.args.place was is c.in-Some.ensures.some in
    let pushed = at_success _ c.push.result (λ e failed. false≢true (sym (c.is_ok.ensures.value ∙ ap is_ok failed) ∙ c.if-is_ok.true)) c.push.ensures.ok in
    let same : is ≡ s = cc (written, there) in
    let many = old.0 in
    let more = length-append before (c.args.end ∷ []) in
    subst (λ (x : Parted). (MANY < length (before ++ c.args.end ∷ [])) × IsParted (before ++ c.args.end ∷ []) counts x) same (omega arith, pushed before counts old.1 free)

pub returns-then-is_ok-clause-others : goal.returns-then-is_ok-clause-others
returns-then-is_ok-clause-others c = λ p apart.
    changed-others c.self.inside.places c.args.place c.in-Some.partition.now c.push.new.self c.in-Some.ensures.some p apart
    ∙ ap (λ pages. kept_of pages p) c.self.view_is

pub returns-clause-others : goal.returns-clause-others
returns-clause-others c = λ p apart.
    c.forget.ensures.others p apart
    ∙ changed-others c.self.inside.places c.args.place c.in-Some.partition.now c.push.new.self c.in-Some.ensures.some p apart
    ∙ ap (λ pages. kept_of pages p) c.self.view_is
