use Rattle.std.proofs.Common.{rules, ◌≡◌, ◌==◌, ◌∙◌, not}
use Rattle.std.proofs.lemmas.List.Elements.{filter_from_retain}
use Rattle.refob_counts.specs.Rising.{standing}
use Rattle.refob_counts.proofs.rising.make_room.Goals as goal
use Rattle.refob_counts.proofs.rising.make_room.Goals.{After-reserve}

-- the closure asks whether the count is above 0
stay : (c : After-reserve) → c.reserve.new.self.items ≡ standing c.args.rows.now.items
stay c =
    c.reserve.ensures.items ∙ filter_from_retain _ (λ row. not (row.1 == 0)) (λ p x b q called. search rules) _ _ _ c.retain.ensures.filtered

pub returns-in-Ok-clause-stay : goal.returns-in-Ok-clause-stay
returns-in-Ok-clause-stay c = stay (goal.at.returns-in-Ok-clause-stay c).After-reserve

pub returns-in-Err-clause-stay : goal.returns-in-Err-clause-stay
returns-in-Err-clause-stay c = stay (goal.at.returns-in-Err-clause-stay c).After-reserve
