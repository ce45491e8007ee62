-- What stands after the events of an operation.
use Rattle.std.proofs.Common.{◌≡◌, true, List, [], ◌∷◌, None, refl, sym, ◌∙◌, subst}
use Rattle.std.specs.List.{list_all}
use Rattle.std.proofs.lemmas.Bool.{and_from, false≢true}
use Rattle.history_model.specs.declared.events.Event.{Event}
use Rattle.history_model.specs.declared.events.Event.TheVariants.{Seed, Tie, Spawn, Send, Drop, Retire}
use Rattle.history_model.specs.Legal.{refusal}
use Rattle.history_model.specs.Rows.{onto}
use Rattle.history_model.specs.Story.{Story}
use Rattle.script_reader.specs.Valid.{Scripted}
use Rattle.run_model.specs.Doing.{cluster_of}
use Rattle.run_model.specs.Round.{is_of_round}
use Rattle.run_model.specs.Sound.{IsSound}
use Rattle.run_model.proofs.HeldNames.{IsDue}
use Rattle.run_model.proofs.Runs.{sound-next}
use Rattle.script_actors.specs.Standing.{AreActorsAt}
use Rattle.script_actors.specs.Table.{Table}
use Rattle.script_progress.specs.Standing.{IsProgressAt}
use Rattle.script_progress.specs.Used.{Used}
use Rattle.script_actors.proofs.Standings as actors
use Rattle.script_progress.proofs.Steps as progress
use Rattle.world_object.specs.declared.parts.ClusterParts.{ClusterParts}
use Rattle.world_object.specs.Answering.{Happens}
use Rattle.world_object.specs.Standing.{Stands}

-- an event of a round is no act
round-due : (s : Scripted) (e : Event) (h : List Event) → is_of_round e ≡ true → IsDue s e h
round-due s (Seed n) h of = absurd (false≢true of)
round-due s (Tie a b) h of = absurd (false≢true of)
round-due s (Spawn a) h of = absurd (false≢true of)
round-due s (Send a t refs) h of = absurd (false≢true of)
round-due s (Drop a t) h of = absurd (false≢true of)
round-due s (Retire a) h of = absurd (false≢true of)
round-due s e h of = tt

one-round : (e : Event) → is_of_round e ≡ true → list_all is_of_round (e ∷ []) ≡ true
one-round e of = and_from (is_of_round e) true of refl

pub sound-round : (s : Scripted) (e : Event) (h : List Event) → is_of_round e ≡ true → refusal (cluster_of s) e h ≡ None → IsSound s h → IsSound s (e ∷ h)
sound-round s e h of legal sound = sound-next s e h sound legal (round-due s e h of)

-- the parts stand with a longer history
module _ (old : ClusterParts) (stands : Stands old) (events : List Event) (w : Story) (cluster : w.cluster ≡ old.world.cluster) (past : w.past ≡ onto old.world.past events) where
  abbrev h : List Event
  h = onto old.world.past events

  pub stands-with : (t : Table) (p : Used) → AreActorsAt old.script.value h t → IsProgressAt old.script.value h p → IsSound old.script.value h → Stands (record old { world = w; actors = t; progress = p })
  stands-with t p at used sound = record {
    script = stands.script;
    cluster = cluster ∙ stands.cluster;
    seeds = stands.seeds;
    actors = subst (λ x. AreActorsAt old.script.value x t) (sym past) at;
    progress = subst (λ x. IsProgressAt old.script.value x p) (sym past) used;
    sound = subst (IsSound old.script.value) (sym past) sound;
  }

-- an event of a round happens
pub stands-round : (old new : ClusterParts) (e : Event) → Stands old → is_of_round e ≡ true → Happens (e ∷ []) old new → Stands new
stands-round old new e stands of happens =
    let s = old.script.value in
    let h = old.world.past in
    subst Stands (sym happens.others)
    (stands-with old stands (e ∷ []) new.world happens.cluster happens.past old.actors old.progress
    (actors.round-events s (e ∷ []) h old.actors (one-round e of) stands.actors)
    (progress.round-events s (e ∷ []) h old.progress (one-round e of) stands.progress)
    (sound-round s e h of happens.follow.0 stands.sound))

-- two events of a round happen
pub stands-rounds : (old new : ClusterParts) (e f : Event) → Stands old → is_of_round e ≡ true → is_of_round f ≡ true → Happens (e ∷ f ∷ []) old new → Stands new
stands-rounds old new e f stands of_e of_f happens =
    let s = old.script.value in
    let h = old.world.past in
    let both = and_from (is_of_round f) (list_all is_of_round (e ∷ [])) of_f (one-round e of_e) in
    subst Stands (sym happens.others)
    (stands-with old stands (e ∷ f ∷ []) new.world happens.cluster happens.past old.actors old.progress
    (actors.round-events s (f ∷ e ∷ []) h old.actors both stands.actors)
    (progress.round-events s (f ∷ e ∷ []) h old.progress both stands.progress)
    (sound-round s f (e ∷ h) of_f happens.follow.2.0 (sound-round s e h of_e happens.follow.0 stands.sound)))
