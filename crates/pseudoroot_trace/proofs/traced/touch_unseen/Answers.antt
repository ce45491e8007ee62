use Rattle.std.proofs.Common.{◌≡◌, ◌<◌, ◌≤◌, ℕ, ap, inl, inr, length, subst, true}
use Rattle.kept_marks.specs.PlaceSet.{has_place}
use Rattle.pseudoroot_trace.specs.Traced.{TouchesMore}
use Rattle.pseudoroot_trace.proofs.SweptLemmas.{kept-seen, watched-seen}
use Rattle.pseudoroot_trace.proofs.traced.touch_unseen.Goals as goal
use Rattle.pseudoroot_trace.proofs.traced.touch_unseen.Goals.{After-touch_from}

pub returns-then-is_stale-clause-watched : goal.returns-then-is_stale-clause-watched
returns-then-is_stale-clause-watched c = λ p inside may. inr (inl (c.restart.ensures.all p inside))

touched : (c : After-touch_from) → TouchesMore (length c.args.trace.now.shadows.names) c.args.kept.now c.touch_from.new.kept
touched c = subst (λ n. TouchesMore n c.args.kept.now c.touch_from.new.kept) c.place_count.ensures.count c.touch_from.ensures.touches

added : (c : After-touch_from) → (a : ℕ) → c.args.places ≤ a → a < length c.args.trace.now.shadows.names → has_place c.touch_from.new.kept.touched a ≡ true
added c = subst (λ n. (a : ℕ) → c.args.places ≤ a → a < n → has_place c.touch_from.new.kept.touched a ≡ true) c.place_count.ensures.count c.touch_from.ensures.added

pub returns-clause-kept : goal.returns-clause-kept
returns-clause-kept c =
    kept-seen c.args.trace.now c.args.places c.args.kept.now c.touch_from.new.kept c.place_count.ensures.whole c.requires.room c.requires.seen
    (c.requires.standing c.if-is_stale.false) (touched c) (added c)

pub returns-clause-watched : goal.returns-clause-watched
returns-clause-watched c =
    watched-seen (length c.args.trace.now.shadows.names) c.args.places c.args.kept.now c.touch_from.new.kept c.args.is_stale c.if-is_stale.false (touched c) (added c)

pub returns-clause-room : goal.returns-clause-room
returns-clause-room c = ap length c.touch_from.ensures.touches.supports
