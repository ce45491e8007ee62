-- What the state of an actor stands for after an event that is not of it.
use Rattle.std.proofs.Common.{◌≡◌, ◌+◌, ◌==◌, ◌&&◌, ◌||◌, Bool, true, false, cond, List, [], ◌∷◌, map, refl, sym, ◌∙◌, ap, subst, arith}
use Rattle.std.proofs.lemmas.Bool.{and_right, cond_both}
use Rattle.crgc_ids.specs.Actor.{Actor}
use Rattle.history_model.specs.declared.events.Event.{Event}
use Rattle.history_model.specs.declared.events.Event.TheVariants.{Seed, Tie, Wake, Take, Spawn, Send, Drop, Retire, Rest, Flush, Sweep}
use Rattle.history_model.specs.Cluster.{Cluster, newborn, same_actor}
use Rattle.history_model.specs.Facts.{Fact, Note, created, message_facts, note_by, notes, received, released}
use Rattle.history_model.specs.Held.{given_at_once, is_drop_of, is_note_of}
use Rattle.history_model.specs.Legal.{IsLegal, is_parent}
use Rattle.history_model.specs.Messages.{is_take_by}
use Rattle.history_model.specs.State.{is_busy, is_root}
use Rattle.history_model.specs.Streams.{facts_by, is_flush_of}
use Rattle.history_model.specs.Sweeps.{is_stopped}
use Rattle.history_model.specs.Tally.{tally}
use Rattle.entry_records.specs.Log.{IsLogAt, Log, log_with}
use Rattle.entry_records.proofs.LogLemmas.{log-step}
use Rattle.actor_states.specs.State.{State}
use Rattle.roster.specs.Standing.{IsStateOf}
use Rattle.roster.proofs.HeldSteps.{held-given, weigh}

-- whether the event may change the actor's state
abbrev pub touches : Event → List Event → Actor → Bool
touches (Seed n) p b = same_actor (newborn n p) b
touches (Tie o t) p b = same_actor o b || same_actor t b
touches (Wake a) p b = same_actor a b
touches (Take a) p b = same_actor a b
touches (Spawn a) p b = same_actor a b || same_actor (newborn a.node p) b
touches (Send f t refs) p b = same_actor f b
touches (Drop a t) p b = same_actor a b
touches (Retire a) p b = same_actor a b
touches (Rest a) p b = same_actor a b
touches (Flush a) p b = same_actor a b
touches (Sweep m) p b = true
touches _ p b = false

neither : (v w : Bool) → (v || w) ≡ false → (v ≡ false) × (w ≡ false)
neither true w e = absurd (cc)
neither false w e = (refl, e)

busy-left : (e : Event) (p : List Event) (b : Actor) → touches e p b ≡ false → is_busy b (e ∷ p) ≡ is_busy b p
busy-left (Wake a) p b other = rw other refl
busy-left (Take a) p b other = rw other refl
busy-left (Rest a) p b other = rw other refl
busy-left _ p b other = refl

root-left : (e : Event) (p : List Event) (b : Actor) → touches e p b ≡ false → is_root b (e ∷ p) ≡ is_root b p
root-left (Seed n) p b other = rw other refl
root-left (Retire a) p b other = rw other refl
root-left _ p b other = refl

parent-left : (e : Event) (p : List Event) (b : Actor) → touches e p b ≡ false → (t : Actor) → is_parent t b (e ∷ p) ≡ is_parent t b p
parent-left (Spawn a) p b other t =
    ap (λ v. v || is_parent t b p) (and_right (same_actor a t) (same_actor (newborn a.node p) b) (neither (same_actor a b) (same_actor (newborn a.node p) b) other).1)
parent-left _ p b other t = refl

stopped-left : (cl : Cluster) (e : Event) (p : List Event) (b : Actor) → touches e p b ≡ false → is_stopped cl b (e ∷ p) ≡ is_stopped cl b p
stopped-left cl (Sweep m) p b other = absurd (cc)
stopped-left cl _ p b other = refl

take-other : (e : Event) (p : List Event) (b : Actor) → touches e p b ≡ false → is_take_by b e ≡ false
take-other (Take a) p b other = other
take-other _ p b other = refl

flush-other : (e : Event) (p : List Event) (b : Actor) → touches e p b ≡ false → is_flush_of b e ≡ false
flush-other (Flush a) p b other = other
flush-other _ p b other = refl

drop-other : (e : Event) (p : List Event) (b t : Actor) → touches e p b ≡ false → is_drop_of b t e ≡ false
drop-other (Drop x y) p b t other = ap (λ v. v && same_actor y t) other
drop-other _ p b t other = refl

-- a pair of another owner is not given to b
pub other-owner : (b t w x y : Actor) (ns : List Note) → same_actor x b ≡ false → tally (is_note_of b t) (note_by w (created x y) ∷ ns) ≡ tally (is_note_of b t) ns
other-owner b t w x y ns other = ap (λ v. cond (v && same_actor y t) (tally (is_note_of b t) ns + 1) (tally (is_note_of b t) ns)) other

given-other : (cl : Cluster) (e : Event) (p : List Event) (b t : Actor) → touches e p b ≡ false → tally (is_note_of b t) (given_at_once cl e p) ≡ 0
given-other cl (Seed n) p b t other = other-owner b t (newborn n p) (newborn n p) (newborn n p) [] other
given-other cl (Tie o u) p b t other = other-owner b t u o u [] (neither (same_actor o b) (same_actor u b) other).0
given-other cl (Spawn a) p b t other =
    let new = newborn a.node p in
    let both = neither (same_actor a b) (same_actor new b) other in
    let back : List Note = cond (cl.version == 2) (note_by a (created new a) ∷ []) [] in
    other-owner b t new new new (note_by new (created a new) ∷ back) both.1
    ∙ other-owner b t new a new back both.0
    ∙ cond_both (cl.version == 2) (note_by a (created new a) ∷ []) [] (λ ns. tally (is_note_of b t) ns ≡ 0) (λ _. other-owner b t a new a [] both.1) (λ _. refl)
given-other cl _ p b t other = refl

-- who does not note has nothing in its log of it
pub noted-other : (b x : Actor) (f : Fact) (ns : List Note) → same_actor x b ≡ false → facts_by b (note_by x f ∷ ns) ≡ facts_by b ns
noted-other b x f ns other = ap (λ v. cond v (f ∷ facts_by b ns) (facts_by b ns)) other

pub all-other : (b x : Actor) (fs : List Fact) → same_actor x b ≡ false → facts_by b (map (note_by x) fs) ≡ []
all-other b x [] other = refl
all-other b x (f ∷ fs) other = noted-other b x f (map (note_by x) fs) other ∙ all-other b x fs other

facts-other : (cl : Cluster) (e : Event) (p : List Event) (b : Actor) → touches e p b ≡ false → facts_by b (notes cl e p) ≡ []
facts-other cl (Seed n) p b other = noted-other b (newborn n p) (created (newborn n p) (newborn n p)) [] other
facts-other cl (Tie o t) p b other = noted-other b t (created o t) [] (neither (same_actor o b) (same_actor t b) other).1
facts-other cl (Take a) p b other = noted-other b a (received a) [] other
facts-other cl (Spawn a) p b other =
    let new = newborn a.node p in
    let both = neither (same_actor a b) (same_actor new b) other in
    let back : List Note = cond (cl.version == 2) (note_by a (created new a) ∷ []) [] in
    noted-other b new (created new new) (note_by new (created a new) ∷ back) both.1
    ∙ noted-other b new (created a new) back both.1
    ∙ cond_both (cl.version == 2) (note_by a (created new a) ∷ []) [] (λ ns. facts_by b ns ≡ []) (λ _. noted-other b a (created new a) [] both.0) (λ _. refl)
facts-other cl (Send f t refs) p b other = all-other b f (message_facts (record { from = f; to = t; refs = refs })) other
facts-other cl (Drop a t) p b other = noted-other b a (released a t) [] other
facts-other cl _ p b other = refl

-- an event adds to the log of b what b notes
pub log-after : (cl : Cluster) (e : Event) (p : List Event) (b : Actor) (l : Log) (facts : List Fact) → l.actor ≡ b → is_flush_of b e ≡ false → facts_by b (notes cl e p) ≡ facts → IsLogAt cl p l → IsLogAt cl (e ∷ p) (log_with facts l)
log-after cl e p b l facts own other noted at_p =
    let none = subst (λ x. is_flush_of x e ≡ false) (sym own) other in
    let same = subst (λ x. facts_by x (notes cl e p) ≡ facts) (sym own) noted in
    subst (λ fs. IsLogAt cl (e ∷ p) (log_with fs l)) same (log-step cl e p l none at_p)

-- so the state of an actor that the event does not touch stands
pub state-left : (cl : Cluster) (e : Event) (p : List Event) (b : Actor) (s : State) → IsLegal cl (e ∷ p) → touches e p b ≡ false → IsStateOf cl p b s → IsStateOf cl (e ∷ p) b s
state-left cl e p b s legal other is = record {
  busy = is.busy ∙ sym (busy-left e p b other);
  root = is.root ∙ sym (root-left e p b other);
  parent = λ t. is.parent t ∙ sym (parent-left e p b other t);
  held = λ t. (
      let step = held-given cl e p legal b t (take-other e p b other) in
      let none = ap weigh (drop-other e p b t other) in
      let nothing = given-other cl e p b t other in
      let before = is.held t in
      omega arith
      );
  actor = is.actor;
  log = log-after cl e p b s.log [] is.actor (flush-other e p b other) (facts-other cl e p b other) is.log;
  stopped = is.stopped ∙ sym (stopped-left cl e p b other);
}
