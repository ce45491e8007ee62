use Rattle.std.proofs.Common.{◌≡◌, ◌≤◌, ◌<◌, ◌⊎◌, ℕ, None, Some, true, arith, length, rules, subst, sym}
use Rattle.std.proofs.lemmas.Grind.{common_steps}
use Rattle.kept_marks.specs.PlaceSet.{has_place}
use Rattle.kept_marks.specs.Kept.{IsEmpty, KeepsWatch, Kept, support_of}
use Rattle.kept_marks.proofs.ChangeLemmas.{kept-restart, watch-restart}
use Rattle.kept_marks.proofs.StepLemmas.{kept_of}
use Rattle.kept_marks.proofs.kept.KeptMarks.restart.Goals as goal

pub returns-clause-kept : goal.returns-clause-kept
returns-clause-kept g c =
    let graph = g.G.PlaceGraph.graph c.args.graph.now in
    let s' = c.fill.new.self.items in
    let free : (a : ℕ) → support_of s' a ≡ None = λ a. first_of (grind (arith, common_steps), search rules) in
    let room : graph.places ≤ length s' = first_of (grind (arith, common_steps), search rules) in
    let within = subst (λ (k : Kept). (a : ℕ) → has_place k.touched a ≡ true → a < graph.places) (sym c.self.view_is) c.requires.touched in
    let settled = subst (λ (k : Kept). IsEmpty k.queued) (sym c.self.view_is) c.requires.settled in
    let added = subst (λ n. (a : ℕ) → a < n → has_place c.put_all.new.set a ≡ true) c.place_count-places.ensures.count c.put_all.ensures.added in
    let others = subst (λ n. (a : ℕ) → has_place c.put_all.new.set a ≡ true → (has_place c.self.inside.touched a ≡ true) ⊎ (a < n)) c.place_count-places.ensures.count c.put_all.ensures.others in
    kept-restart graph c.self.inside.supports.items s' c.self.inside.touched c.put_all.new.set c.self.inside.queued c.self.inside.fallen c.place_count-places.ensures.whole room free within added others settled

pub returns-clause-watched : goal.returns-clause-watched
returns-clause-watched g c =
    let graph = g.G.PlaceGraph.graph c.args.graph.now in
    let s = c.self.inside.supports.items in
    let s' = c.fill.new.self.items in
    let marked = subst (λ (k : Kept). (a b : ℕ) → support_of k.supports a ≡ Some b → a < graph.places) (sym c.self.view_is) c.requires.marked in
    let added = subst (λ n. (a : ℕ) → a < n → has_place c.put_all.new.set a ≡ true) c.place_count-places.ensures.count c.put_all.ensures.added in
    subst (λ k. KeepsWatch k (kept_of s' c.put_all.new.set c.self.inside.queued c.self.inside.fallen)) c.self.view_is
    (watch-restart graph s s' c.self.inside.touched c.put_all.new.set c.self.inside.queued c.self.inside.fallen marked c.put_all.ensures.kept added)

pub returns-clause-all : goal.returns-clause-all
returns-clause-all g c =
    subst (λ n. (a : ℕ) → a < n → has_place c.put_all.new.set a ≡ true) c.place_count-places.ensures.count c.put_all.ensures.added
