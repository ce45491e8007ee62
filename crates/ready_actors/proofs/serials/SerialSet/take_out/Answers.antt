use Rattle.std.proofs.Common.{◌≡◌, ◌≤◌, ◌/◌, ◌==◌, ℕ, Bool, false, cond, List, drop, length, refl, sym, ◌∙◌, ap, arith}
use Rattle.std.proofs.lemmas.Bool.{not-false, not-true}
use Rattle.std.proofs.lemmas.List.{take_at}
use Rattle.ready_actors.specs.Flags.{Summarizes, has_flag, has_one, has_word, word_at}
use Rattle.ready_actors.proofs.LevelLemmas.{flag-same, summary-kept, summary-same, summary-unset}
use Rattle.ready_actors.proofs.serials.SerialSet.take_out.Goals as goal

-- what the set says of its words holds of them where they are lent
lent-low : (above words above' words' : List ℕ) → above' ≡ above → words' ≡ words → Summarizes (has_flag above) words → Summarizes (has_flag above') words'
lent-low above words above' words' e f sums =
    summary-same (has_flag above) (has_flag above') words words' sums
    (flag-same above above' (λ g. ap (λ (ws : List ℕ). word_at ws g) e)) (λ g. ap (λ (ws : List ℕ). word_at ws g) f)

lent-high : (above : ℕ → Bool) (words words' : List ℕ) → words' ≡ words → Summarizes above words → Summarizes above words'
lent-high above words words' e sums = summary-same above above words words' sums (λ g. refl) (λ g. ap (λ (ws : List ℕ). word_at ws g) e)

pub invariant_of-self-then-not-unset-2 : goal.invariant_of-self-then-not-unset-2
invariant_of-self-then-not-unset-2 c =
    let place = c.args.serial / 64 in
    let inside = c.self.inside in
    let serials = c.deref_mut.result.now in
    let groups = c.deref_mut-2.result.now in
    let low = lent-low inside.groups.items inside.serials.items groups serials c.deref_mut-2.ensures.value c.deref_mut.ensures.value c.self.invariant.1 in
    let high = lent-high (has_one inside.top) inside.groups.items groups c.deref_mut-2.ensures.value c.self.invariant.2 in
    let long = ap (λ (ws : List ℕ). length ws) c.deref_mut.ensures.value in
    let few : length c.unset.new.words ≤ 4096 = omega arith in
    let serials_long : length c.unset.new.words ≡ inside.serials.len = omega arith in
    let groups_long : length c.unset-2.new.words ≡ inside.groups.len = omega arith in
    rw (take_at c.unset.new.words (drop (length c.unset.new.words) inside.serials.items) _ serials_long, take_at c.unset-2.new.words (drop (length c.unset-2.new.words) inside.groups.items) _ groups_long) (
      few,
      summary-unset (has_flag groups) (has_flag c.unset-2.new.words) serials c.unset.new.words place low c.unset-2.ensures.flags c.unset.ensures.words
          (not-true (has_word c.unset.new.words place) (sym c.unset.ensures.empty ∙ c.if-not-unset.false)),
      summary-kept (has_one inside.top) groups c.unset-2.new.words (place / 64) high c.unset-2.ensures.words c.unset-2.ensures.none
          (not-false (has_word c.unset-2.new.words (place / 64)) (sym c.unset-2.ensures.empty ∙ c.if-not-unset-2.true)),
    )

pub returns-then-not-unset-2-clause-serials : goal.returns-then-not-unset-2-clause-serials
returns-then-not-unset-2-clause-serials c =
    let long : length c.unset.new.words ≡ c.self.inside.serials.len = omega arith in
    rw (take_at c.unset.new.words (drop (length c.unset.new.words) c.self.inside.serials.items) _ long, ← c.self.view_is)
    (λ k. c.unset.ensures.flags k ∙ ap (λ (ws : List ℕ). cond (c.args.serial == k) false (has_flag ws k)) c.deref_mut.ensures.value)

pub invariant_of-self-2 : goal.invariant_of-self-2
invariant_of-self-2 c =
    let place = c.args.serial / 64 in
    let inside = c.self.inside in
    let serials = c.deref_mut.result.now in
    let groups = c.deref_mut-2.result.now in
    let low = lent-low inside.groups.items inside.serials.items groups serials c.deref_mut-2.ensures.value c.deref_mut.ensures.value c.self.invariant.1 in
    let high = lent-high (has_one inside.top) inside.groups.items groups c.deref_mut-2.ensures.value c.self.invariant.2 in
    let long = ap (λ (ws : List ℕ). length ws) c.deref_mut.ensures.value in
    let few : length c.unset.new.words ≤ 4096 = omega arith in
    let serials_long : length c.unset.new.words ≡ inside.serials.len = omega arith in
    let groups_long : length c.unset-2.new.words ≡ inside.groups.len = omega arith in
    rw (take_at c.unset.new.words (drop (length c.unset.new.words) inside.serials.items) _ serials_long, take_at c.unset-2.new.words (drop (length c.unset-2.new.words) inside.groups.items) _ groups_long) (
      few,
      summary-unset (has_flag groups) (has_flag c.unset-2.new.words) serials c.unset.new.words place low c.unset-2.ensures.flags c.unset.ensures.words
          (not-true (has_word c.unset.new.words place) (sym c.unset.ensures.empty ∙ c.if-not-unset.false)),
      summary-unset (has_one inside.top) (has_one c.without_one-self-inside.result) groups c.unset-2.new.words (place / 64) high c.without_one-self-inside.ensures.ones c.unset-2.ensures.words
          (not-true (has_word c.unset-2.new.words (place / 64)) (sym c.unset-2.ensures.empty ∙ c.if-not-unset-2.false)),
    )

pub returns-clause-serials : goal.returns-clause-serials
returns-clause-serials c =
    let long : length c.unset.new.words ≡ c.self.inside.serials.len = omega arith in
    rw (take_at c.unset.new.words (drop (length c.unset.new.words) c.self.inside.serials.items) _ long, ← c.self.view_is)
    (λ k. c.unset.ensures.flags k ∙ ap (λ (ws : List ℕ). cond (c.args.serial == k) false (has_flag ws k)) c.deref_mut.ensures.value)
