use Rattle.std.proofs.Common.{◌≡◌, ℕ, ◌+◌, ◌%◌, ◌^◌, ◌<◌, [], ◌++◌, ap, ◌∙◌, arith}
use Rattle.turn_lock.specs.declared.object.Entry.{Entry}
use Rattle.turn_lock.proofs.Accounts.{total-append, total_of_made}
use Rattle.locked_objects.specs.Counter.{added}
use Rattle.locked_objects.proofs.Sums.{sum_is}
use Rattle.locked_objects.proofs.counter.two_hundred.Goals as goal

pub returns : goal.returns
returns g c =
    let made = c.in-Ok.ensures.ok in
    let last = c.join-2.new.pass in
    let one = c.added_by_two-one.result.0.own in
    let other = c.added_by_two-one.result.1.own in
    let own : last.own ≡ [] = ap (λ p. p.own) c.join-2.ensures.pass ∙ (ap (λ p. p.own) c.join.ensures.pass ∙ (ap (λ p. p.own) c.split-other.ensures.pass ∙ (ap (λ p. p.own) c.split-one.ensures.pass ∙ ap (λ p. p.own) made.1))) in
    let none = ap (λ p. p.gathered) c.split-other.ensures.pass ∙ (ap (λ p. p.gathered) c.split-one.ensures.pass ∙ ap (λ p. p.gathered) made.1) in
    let gathered : last.gathered ≡ other ++ (one ++ []) = ap (λ p. p.gathered) c.join-2.ensures.pass ∙ ap (λ l. other ++ l) (ap (λ p. p.gathered) c.join.ensures.pass ∙ ap (λ l. one ++ l) none) in
    let f = λ (e : Entry ℕ ℕ). e.op in
    let weight : added last.seen ≡ added (other ++ (one ++ [])) = total_of_made f (last.own ++ last.gathered) last.seen c.close.ensures.calls ∙ (λ i. added (own i ++ gathered i)) in
    let parts = total-append f other (one ++ []) in
    let part = total-append f one [] in
    let sums = c.added_by_two-one.ensures.added in
    let a = sums.0 in
    let b = sums.1 in
    let all : c.in-Ok.made.0.start + added last.seen ≡ 200 = let start = made.0 in omega arith in
    let fits : c.in-Ok.made.0.start < 2 ^ 64 = let start = made.0 in omega arith in
    sum_is c.in-Ok.made.0.start last.seen c.close.result fits c.close.ensures.stands ∙ ap (λ (n : ℕ). n % 2 ^ 64) all
