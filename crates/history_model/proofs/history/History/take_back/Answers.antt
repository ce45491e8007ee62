use Rattle.std.proofs.Common.{◌≡◌, ◌-◌, drop, reverse, length, take, sym, ◌∙◌, ap, subst}
use Rattle.history_model.specs.Codes.{events_of, further_count}
use Rattle.history_model.proofs.CodesLemmas.{AreOf, past-taken_back}
use Rattle.history_model.proofs.history.History.take_back.Goals as goal

pub returns-in-Some-clause-past : goal.returns-in-Some-clause-past
returns-in-Some-clause-past c =
    let further = c.self.inside.further.items in
    let codes = c.in-Some.ensures.items in
    let kept : c.truncate.new.self.items ≡ take (length further - further_count c.in-Some.code) further =
    c.truncate.ensures.items ∙ ap (λ n. take (n - c.further_count.result) further) (c.len.ensures ∙ c.self.inside.further.ok.0)
    ∙ ap (λ n. take (length further - n) further) c.further_count.ensures in
    rw (kept, ← c.self.view_is)
    (past-taken_back c.pop.new.self.items c.in-Some.code further (subst (λ cs. AreOf cs further) codes c.self.invariant.4)
    ∙ ap (λ cs. drop 1 (reverse (events_of cs further))) (sym codes))
