-- Whom a collector stopped is rightly gone, in whatever legal history its bulletins come from.
use Rattle.std.proofs.Common.{◌≡◌, ◌==◌, ◌&&◌, ◌≤◌, ◌||◌, ◌⊎◌, ℕ, zero, suc, Bool, true, false, not, List, [], ◌∷◌, ◌++◌, take, refl, sym, ap, subst, ◌∙◌, inl, inr, arith}
use Rattle.std.proofs.lemmas.Bool.{false≢true}
use Rattle.std.specs.List.{filter}
use Rattle.crgc_ids.specs.Actor.{Actor}
use Rattle.crgc_ids.specs.Members.{IsAmong}
use Rattle.crgc_ids.proofs.MembersLaws.{IsAmong-from_filter}
use Rattle.history_model.specs.declared.records.Verdict.{Verdict}
use Rattle.history_model.specs.Cluster.{Cluster}
use Rattle.history_model.specs.Compaction.{AreRightlyGone, compacted_dead}
use Rattle.history_model.specs.Folds.{Fold, is_lost}
use Rattle.history_model.specs.Graph.{holds_actor}
use Rattle.history_model.specs.Streams.{Notice}
use Rattle.history_model.specs.Sweeps.{stop_of}
use Rattle.history_model.proofs.CompactedSweeps.{gone-stays, more-gone}
use Rattle.history_model.proofs.FoldSumsKnown.{holds-among}
use Rattle.gossip_core.specs.Gossip.{count_at}
use Rattle.shadow_graph.specs.Seen.{is_dropped}
use Rattle.collector.specs.Collected.{Collected, IsFedBy, IsNew, cut_of, flag_at, folded_of, was_stopped}
use Rattle.collector.specs.Sweeping.{Compacts, Sweeps, stopped_actors}
use Rattle.collector.specs.Taking.{Takes}
use Rattle.collector.proofs.VerdictLemmas.{actors-of, never-stopped}

pub gone-first : (cl : Cluster) (m : ℕ) (c : Collected) (f : Fold) → IsNew m cl.nodes c → AreRightlyGone cl (was_stopped c) f
gone-first cl m c f fresh h legal fold a gone kept = absurd (false≢true (sym (never-stopped m cl.nodes c fresh a) ∙ gone))

-- fewer of the first are among more of the first
take-part : (c d : ℕ) (xs : List Notice) → c ≤ d → (more : List Notice) × (take d xs ≡ take c xs ++ more)
take-part zero d xs less = (take d xs, refl)
take-part (suc c) zero xs less = absurd (omega arith)
take-part (suc c) (suc d) [] less = ([], refl)
take-part (suc c) (suc d) (x ∷ xs) less = (let rest = take-part c d xs (omega arith) in (rest.0, ap (λ l. x ∷ l) rest.1))

pub gone-taken : (cl : Cluster) (streams : Fold) (o k : ℕ) (bytes : List ℕ) (old new : Collected) → Takes o k bytes old new
    → AreRightlyGone cl (was_stopped old) (folded_of old streams) → AreRightlyGone cl (was_stopped new) (folded_of new streams)
gone-taken cl streams o k bytes old new takes right =
    subst (λ gone. AreRightlyGone cl gone (folded_of new streams))
    (λ i a. (a.node == sym takes.goes_on.node i) && flag_at (sym takes.goes_on.stopped i) a.serial)
    (gone-stays cl (was_stopped old) (folded_of old streams) (folded_of new streams)
    (λ x. take-part (cut_of old x) (cut_of new x) (streams x) (takes.goes_on.rises x)) right)

pub gone-swept : (cl : Cluster) (streams : Fold) (old new : Collected) (v : Verdict) → IsFedBy cl streams old → Sweeps old new v
    → AreRightlyGone cl (was_stopped old) (folded_of old streams) → AreRightlyGone cl (was_stopped new) (folded_of new streams)
gone-swept cl streams old new v fed sweeps right =
    let f = folded_of old streams in
    let dead = compacted_dead cl (is_lost cl f) (is_dropped old.graph) f in
    let own : Actor → Bool = λ a. (a.node == old.node) && not (was_stopped old a) in
    let actors : stopped_actors v.stops ≡ filter own dead =
    ap stopped_actors (sweeps.verdict cl f fed.graph).stops ∙ actors-of (stop_of cl (is_lost cl f) f) (filter own dead) (λ b. refl) in
    let joined : (a : Actor) → was_stopped new a ≡ true → (was_stopped old a ≡ true) ⊎ IsAmong a dead = λ a is. (
    let Goal : Bool → Type 0 = λ s. was_stopped old a ≡ s → (s || holds_actor (stopped_actors v.stops) a) ≡ true → (was_stopped old a ≡ true) ⊎ IsAmong a dead in
    let goal : Goal (was_stopped old a) = elim (was_stopped old a) as Goal [
      | true ↦ λ before _. inl before
      | false ↦ λ _ now. inr (IsAmong-from_filter own a dead ((holds-among (filter own dead) a).0 (ap (λ xs. holds_actor xs a) (sym actors) ∙ now))).0
    ] in
    goal refl (sym (sweeps.stopped a) ∙ is)
    ) in
    subst (AreRightlyGone cl (was_stopped new)) (λ i o. take (count_at (sym sweeps.order i) o) (streams o))
    (more-gone cl (is_dropped old.graph) (was_stopped old) (was_stopped new) f sweeps.were right joined)

pub gone-compacted : (cl : Cluster) (streams : Fold) (old new : Collected) → Compacts old new
    → AreRightlyGone cl (was_stopped old) (folded_of old streams) → AreRightlyGone cl (was_stopped new) (folded_of new streams)
gone-compacted cl streams old new compacts right =
    subst (λ gone. AreRightlyGone cl gone (folded_of new streams))
    (λ i a. (a.node == sym compacts.node i) && flag_at (sym compacts.stopped i) a.serial)
    (subst (AreRightlyGone cl (was_stopped old)) (λ i o. take (count_at (sym compacts.order i) o) (streams o)) right)
