use Rattle.std.proofs.Common.{◌≡◌, [], ◌∷◌, ◌++◌, reverse, OnOk, sym, ◌∙◌, ap, subst}
use Rattle.history_model.specs.Cluster.{newborn}
use Rattle.quiet_check.specs.Plain.{owners_by}
use Rattle.quiet_check.proofs.actors.add_owners.Goals as goal

pub returns-in_ok-next_born-in-Spawn : goal.returns-in_ok-next_born-in-Spawn
returns-in_ok-next_born-in-Spawn c =
    subst (λ e. OnOk c.put_both.result (c.put_both.new.actors.items ≡ c.args.actors.now.items ++ owners_by e (reverse c.args.earlier.now)))
    (sym c.in-Spawn.is)
    (subst (λ b. OnOk c.put_both.result (c.put_both.new.actors.items ≡ c.args.actors.now.items ++ c.in-Spawn.parent ∷ b ∷ []))
    (c.in_ok-next_born-in-Spawn.ensures ∙ ap (λ n. newborn n (reverse c.args.earlier.now)) c.node.ensures) c.put_both.ensures)
