use Rattle.std.proofs.Common.{◌≡◌, ◌∷◌, rules, refl, subst, sym, ◌∙◌, ap}
use Rattle.crgc_ids.specs.Actor.{Actor}
use Rattle.history_model.specs.declared.events.Event.TheVariants.{Flush, Publish}
use Rattle.history_model.specs.Story.{Story}
use Rattle.bulletin_streams.specs.StreamState.{AreAlike, ChangesAt, Publishes}
use Rattle.bulletin_streams.proofs.StandingLemmas.{alike-stand, publish-stands}
use Rattle.roster.specs.Table.{state_at}
use Rattle.roster.proofs.TableSteps.{stands-flushed, stands-left}
use Rattle.true_config.specs.Applying.{after, answer_to}
use Rattle.true_config.specs.Steps.{MayFollow}
use Rattle.true_config.specs.declared.applied.Applied.TheVariants.{Done, Limit}
use Rattle.true_config.specs.declared.applied.Told.TheVariants.{Plain}
use Rattle.true_config.proofs.Bounds.{queue-fits}
use Rattle.true_config.proofs.Growing.{beside-keeps, grows, grows-within, same-story, stays}
use Rattle.true_config.proofs.Pairs.{done-answer, limit-answer, publish-legal, publish-may, where-none, where-some}
use Rattle.true_config.proofs.ToldEvents.{copy-stands, copy-undone, flush-due}
use Rattle.true_config.proofs.world.World.publish_flushed.Goals as goal

pub enqueue_copy-requires-clause-due : goal.enqueue_copy-requires-clause-due
enqueue_copy-requires-clause-due c =
    let may = subst (MayFollow (Flush c.args.actor)) (sym c.self.view_is) c.requires in
    flush-due c.self.inside.history.cluster c.self.inside.history.past c.self.inside.roster c.args.actor c.self.invariant.roster may.legal

pub enqueue_copy-requires-clause-whose : goal.enqueue_copy-requires-clause-whose
enqueue_copy-requires-clause-whose c = (c.self.invariant.roster.states c.args.actor).actor

pub publish_queue-requires : goal.publish_queue-requires
publish_queue-requires c =
    let a = c.args.actor in
    let old = c.self.inside.history in
    let s = c.self.inside.streams in
    let q = c.enqueue_copy.new.streams in
    let may = subst (MayFollow (Flush a)) (sym c.self.view_is) c.requires in
    let queued = copy-stands old.cluster old.past a (state_at c.self.inside.roster a) s q (c.self.invariant.roster.states a) c.in-Ok.ensures.ok c.self.invariant.streams in
    let within = grows-within old.cluster (Flush a) old.past may (search rules) c.self.invariant.within in
    record { fits = queue-fits old.cluster (Flush a ∷ old.past) q a.node within queued (search rules) }

pub flush-requires-clause-due : goal.flush-requires-clause-due
flush-requires-clause-due c =
    let may = subst (MayFollow (Flush c.args.actor)) (sym c.self.view_is) c.requires in
    flush-due c.self.inside.history.cluster c.self.inside.history.past c.self.inside.roster c.args.actor c.self.invariant.roster may.legal

pub invariant_of-self-in-Ok-None : goal.invariant_of-self-in-Ok-None
invariant_of-self-in-Ok-None c =
    let a = c.args.actor in
    let old = c.self.inside.history in
    let mid = after (Flush a) old in
    let new = c.publish_queue.new.history in
    let t = c.self.inside.traffic in
    let r = c.self.inside.roster in
    let z = c.flush.new.self in
    let s = c.self.inside.streams in
    let q = c.enqueue_copy.new.streams in
    let told = c.publish_queue.new.streams in
    let is = c.in-Ok-None.field-0-is in
    let may = subst (MayFollow (Flush a)) (sym c.self.view_is) c.requires in
    let copied = copy-stands old.cluster old.past a (state_at r a) s q (c.self.invariant.roster.states a) c.in-Ok.ensures.ok in
    let limit = sym is ∙ c.in-Ok-None.ensures.limit old.cluster (copied c.self.invariant.streams) in
    let done = where-none c.in-Ok-None.field-0 (ChangesAt q told a.node (Publishes a.node)) is c.in-Ok-None.ensures.done in
    let past = where-none c.in-Ok-None.field-0 (new.past ≡ Publish a.node ∷ Flush a ∷ old.past) is c.in-Ok-None.ensures.past in
    let flushed = grows (Flush a) old mid t t r z s q (record { cluster = refl; past = refl }) may (search rules) c.self.invariant
    (beside-keeps old.cluster (Flush a) old.past t refl) (stands-flushed old.cluster a old.past r z c.flush.ensures.after) copied in
    grows (Publish a.node) mid new t t z z q told (record { cluster = c.in-Ok-None.ensures.cluster; past = past }) (publish-may old a c.self.invariant.within.legal may limit) (search rules) flushed
    (beside-keeps mid.cluster (Publish a.node) mid.past t refl) (stands-left mid.cluster (Publish a.node) mid.past z refl) (publish-stands mid.cluster mid.past a.node q told done)

pub invariant_of-self-in-Ok-Some : goal.invariant_of-self-in-Ok-Some
invariant_of-self-in-Ok-Some c =
    let a = c.args.actor in
    let old = c.self.inside.history in
    let new = c.publish_queue.new.history in
    let t = c.self.inside.traffic in
    let r = c.self.inside.roster in
    let s = c.self.inside.streams in
    let q = c.enqueue_copy.new.streams in
    let kept = c.publish_queue.new.streams in
    let state = c.self.invariant.roster.states a in
    let same = where-some c.in-Ok-Some.field-0 c.in-Ok-Some.which (AreAlike q kept × (new.past ≡ old.past)) c.in-Ok-Some.field-0-is c.in-Ok-Some.ensures.over in
    let here = ap (λ (x : Actor). x.node) state.actor ∙ sym c.node.ensures in
    let undone = copy-undone (state_at r a) c.node.result s q kept c.take_back.new.self c.in-Ok.ensures.ok here same.0 c.take_back.ensures.change in
    stays old new t t r r s c.take_back.new.self (same-story new old c.in-Ok-Some.ensures.cluster same.1) c.self.invariant (λ is. is) (λ is. is)
    (alike-stand old.cluster old.past s c.take_back.new.self undone)

pub invariant_of-self-in-Err : goal.invariant_of-self-in-Err
invariant_of-self-in-Err c =
    let a = c.args.actor in
    let old = c.self.inside.history in
    let new = c.publish_queue.new.history in
    let t = c.self.inside.traffic in
    let r = c.self.inside.roster in
    let s = c.self.inside.streams in
    let q = c.enqueue_copy.new.streams in
    let kept = c.publish_queue.new.streams in
    let state = c.self.invariant.roster.states a in
    let same = c.in-Err.ensures.err in
    let here = ap (λ (x : Actor). x.node) state.actor ∙ sym c.node-in-Err.ensures in
    let undone = copy-undone (state_at r a) c.node-in-Err.result s q kept c.take_back-in-Err.new.self c.in-Ok.ensures.ok here same.0 c.take_back-in-Err.ensures.change in
    stays old new t t r r s c.take_back-in-Err.new.self (same-story new old c.in-Err.ensures.cluster same.1) c.self.invariant (λ is. is) (λ is. is)
    (alike-stand old.cluster old.past s c.take_back-in-Err.new.self undone)

pub returns-in-Ok-None-clause-answer : goal.returns-in-Ok-None-clause-answer
returns-in-Ok-None-clause-answer c =
    let a = c.args.actor in
    let old = c.self.inside.history in
    let s = c.self.inside.streams in
    let q = c.enqueue_copy.new.streams in
    let may = subst (MayFollow (Flush a)) (sym c.self.view_is) c.requires in
    let copied = copy-stands old.cluster old.past a (state_at c.self.inside.roster a) s q (c.self.invariant.roster.states a) c.in-Ok.ensures.ok c.self.invariant.streams in
    let limit = sym c.in-Ok-None.field-0-is ∙ c.in-Ok-None.ensures.limit old.cluster copied in
    subst (λ (x : Story). Done Plain ≡ answer_to x.cluster (Publish a.node) (Flush a ∷ x.past)) c.self.view_is
    (done-answer old.cluster (Publish a.node) (Flush a ∷ old.past) (publish-legal old.cluster old.past a c.self.invariant.within.legal may.legal) limit)

pub returns-in-Ok-Some-clause-answer : goal.returns-in-Ok-Some-clause-answer
returns-in-Ok-Some-clause-answer c =
    let a = c.args.actor in
    let old = c.self.inside.history in
    let s = c.self.inside.streams in
    let q = c.enqueue_copy.new.streams in
    let may = subst (MayFollow (Flush a)) (sym c.self.view_is) c.requires in
    let copied = copy-stands old.cluster old.past a (state_at c.self.inside.roster a) s q (c.self.invariant.roster.states a) c.in-Ok.ensures.ok c.self.invariant.streams in
    let limit = sym c.in-Ok-Some.field-0-is ∙ c.in-Ok-Some.ensures.limit old.cluster copied in
    subst (λ (x : Story). Limit c.in-Ok-Some.which ≡ answer_to x.cluster (Publish a.node) (Flush a ∷ x.past)) c.self.view_is
    (limit-answer old.cluster (Publish a.node) (Flush a ∷ old.past) c.in-Ok-Some.which (publish-legal old.cluster old.past a c.self.invariant.within.legal may.legal) limit)
