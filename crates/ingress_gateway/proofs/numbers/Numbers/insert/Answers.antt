use Rattle.std.proofs.Common.{◌≡◌, ◌+◌, ℕ, false, cond, None, sym, ◌∙◌, ap, subst}
use Rattle.std.proofs.lemmas.Bool.{both_ways}
use Rattle.std.specs.BTreeMap.{get, is_at}
use Rattle.std.specs.Ordering.{nat_cmp}
use Rattle.std.specs.Result.{is_err}
use Rattle.crgc_ids.proofs.SuccessLaws.{at_success}
use Rattle.ingress_gateway.specs.Numbered.{Numbered, has_number}
use Rattle.ingress_gateway.proofs.NumbersLemmas.{IsPut, joined-apart, put-joined, put-numbers}
use Rattle.ingress_gateway.proofs.numbers.Numbers.insert.Goals as goal

-- where the run after the number was taken
is-put : (c : goal.After-remove) → ((k : ℕ) → get nat_cmp c.remove.new.self k ≡ cond (is_at (nat_cmp (c.from-number.result + 1)) k) None (get nat_cmp c.insert.new.self k)) → IsPut c.self.inside.runs c.insert.new.self c.remove.new.self c.from-number.result c.first_with-first.result c.end_with-end.result
is-put c taken =
    let updates = at_success _ c.insert.result
    (λ e failed. both_ways (is_err c.insert.result) (sym c.is_err.ensures.value ∙ c.if-is_err.false) (ap is_err failed)) c.insert.ensures.updates in
    let requires = subst (λ (n : Numbered). has_number n c.args.number ≡ false) (sym c.self.view_is) c.requires in
    record {
      apart = c.self.invariant;
      old_ordered = c.first_with-first.ensures.ordered;
      new_ordered = c.remove.ensures.ordered;
      out = subst (λ k. has_number (record { runs = c.self.inside.runs.entries }) k ≡ false) (sym c.from-number.ensures) requires;
      left = c.first_with-first.ensures.first;
      right = c.end_with-end.ensures;
      first_put = updates.0;
      next_taken = taken;
    }

pub invariant_of-self-2 : goal.invariant_of-self-2
invariant_of-self-2 c = joined-apart _ _ _ _ _ (put-joined _ _ _ _ _ _ (is-put c c.remove.ensures.updates.0))

pub returns-clause-ok : goal.returns-clause-ok
returns-clause-ok c = λ k. rw (← c.self.view_is, ← c.from-number.ensures) (put-numbers _ _ _ _ _ _ (is-put c c.remove.ensures.updates.0) k)
