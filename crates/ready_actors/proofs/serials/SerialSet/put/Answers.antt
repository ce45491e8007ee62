use Rattle.std.proofs.Common.{◌≡◌, ◌≤◌, ◌/◌, ◌==◌, ℕ, Bool, true, cond, List, drop, length, refl, ◌∙◌, ap, arith}
use Rattle.std.proofs.lemmas.List.{take_at}
use Rattle.ready_actors.specs.Flags.{Summarizes, has_flag, has_one, word_at}
use Rattle.ready_actors.proofs.LevelLemmas.{flag-same, summary-same, summary-set}
use Rattle.ready_actors.proofs.serials.SerialSet.put.Goals as goal

pub invariant_of-self-2 : goal.invariant_of-self-2
invariant_of-self-2 c =
    let serial = c.args.serial in
    let inside = c.self.inside in
    let groups = c.deref_mut.result.now in
    let serials = c.deref_mut-2.result.now in
    let groups_same : (g : ℕ) → word_at groups g ≡ word_at inside.groups.items g = λ g. ap (λ (ws : List ℕ). word_at ws g) c.deref_mut.ensures.value ∙ c.reach.ensures.words g in
    let serials_same : (g : ℕ) → word_at serials g ≡ word_at inside.serials.items g = λ g. ap (λ (ws : List ℕ). word_at ws g) c.deref_mut-2.ensures.value ∙ c.reach-2.ensures.words g in
    let low : Summarizes (has_flag groups) serials =
    summary-same (has_flag inside.groups.items) (has_flag groups) inside.serials.items serials c.self.invariant.1 (flag-same inside.groups.items groups groups_same) serials_same in
    let high : Summarizes (has_one inside.top) groups =
    summary-same (has_one inside.top) (has_one inside.top) inside.groups.items groups c.self.invariant.2 (λ g. refl) groups_same in
    let long = ap (λ (ws : List ℕ). length ws) c.deref_mut-2.ensures.value in
    let few : length c.set-2.new.words ≤ 4096 = omega arith in
    let serials_long : length c.set-2.new.words ≡ c.reach-2.new.words.len = omega arith in
    let groups_long : length c.set.new.words ≡ c.reach.new.words.len = omega arith in
    rw (take_at c.set-2.new.words (drop (length c.set-2.new.words) c.reach-2.new.words.items) _ serials_long, take_at c.set.new.words (drop (length c.set.new.words) c.reach.new.words.items) _ groups_long) (
      few,
      summary-set (has_flag groups) (has_flag c.set.new.words) serials c.set-2.new.words (serial / 64) low c.set.ensures.flags c.set-2.ensures.words c.set-2.ensures.some,
      summary-set (has_one inside.top) (has_one c.with_one-self-inside.result) groups c.set.new.words (serial / 64 / 64) high c.with_one-self-inside.ensures.ones c.set.ensures.words c.set.ensures.some,
    )

pub returns-clause-ok : goal.returns-clause-ok
returns-clause-ok c =
    let inside = c.self.inside in
    let serials = c.deref_mut-2.result.now in
    let serials_same : (g : ℕ) → word_at serials g ≡ word_at inside.serials.items g = λ g. ap (λ (ws : List ℕ). word_at ws g) c.deref_mut-2.ensures.value ∙ c.reach-2.ensures.words g in
    let long : length c.set-2.new.words ≡ c.reach-2.new.words.len = omega arith in
    rw (take_at c.set-2.new.words (drop (length c.set-2.new.words) c.reach-2.new.words.items) _ long, ← c.self.view_is)
    (λ k. c.set-2.ensures.flags k ∙ ap (λ (v : Bool). cond (c.args.serial == k) true v) (flag-same inside.serials.items serials serials_same k))
