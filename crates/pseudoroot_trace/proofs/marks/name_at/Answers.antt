use Rattle.std.proofs.Common.{◌≡◌, ◌+◌, ◌++◌, ◌∙◌, [], ◌∷◌, IfOk, ap, cond, false, not, subst}
use Rattle.indexmap.specs.IndexSet.{index_set_len}
use Rattle.shadow_table.specs.Shadows.{is_named}
use Rattle.pseudoroot_trace.proofs.marks.name_at.Goals as goal

pub returns-clause-keys : goal.returns-clause-keys
returns-clause-keys c =
    let old = c.args.actors.now.keys in
    let a = c.actor_at.result in
    let new : is_named old a ≡ false = ap (is_named old) c.actor_at.ensures ∙ c.requires.new in
    let keys = subst (λ r. IfOk r (λ _. c.insert.new.self.keys ≡ cond (is_named old a) old (old ++ a ∷ []))) c.unwrap.ensures c.insert.ensures.keys in
    keys ∙ ap (λ v. cond v old (old ++ a ∷ [])) new ∙ ap (λ b. old ++ b ∷ []) c.actor_at.ensures

pub returns-clause-len : goal.returns-clause-len
returns-clause-len c =
    let old = c.args.actors.now.keys in
    let a = c.actor_at.result in
    let new : is_named old a ≡ false = ap (is_named old) c.actor_at.ensures ∙ c.requires.new in
    let added = subst (λ r. IfOk r (λ v. v ≡ not (is_named old a))) c.unwrap.ensures c.insert.ensures.added in
    let len = subst (λ r. IfOk r (λ v. index_set_len c.insert.new.self ≡ index_set_len c.args.actors.now + cond v 1 0)) c.unwrap.ensures c.insert.ensures.len in
    len ∙ ap (λ v. index_set_len c.args.actors.now + cond v 1 0) (added ∙ ap not new)
