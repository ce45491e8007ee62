-- Answers to events: what hinders an event, and what is told where nothing does.
use Rattle.std.proofs.Common.{◌≡◌, ◌≢◌, ◌==◌, ℕ, Bool, true, false, cond, not, List, [], ◌∷◌, length, Option, Some, None, Result, Ok, Err, refl, sym, ap, subst, IfOk, OnErr, OnOk}
use Rattle.std.specs.Prelude.{slice_get, unwrap_or}
use Rattle.std.specs.Option.{option_map}
use Rattle.std.proofs.lemmas.Bool.{eqb-false, eqb-true}
use Rattle.crgc_ids.specs.Actor.{Actor}
use Rattle.crgc_ids.specs.declared.NoMemory.{NoMemory}
use Rattle.crgc_ids.specs.declared.Which.{Which}
use Rattle.history_model.specs.declared.events.Event.{Event}
use Rattle.history_model.specs.declared.events.Rule.{Rule}
use Rattle.history_model.specs.Legal.{refusal}
use Rattle.history_model.specs.Messages.{Message, sent}
use Rattle.history_model.specs.Story.{Story}
use Rattle.journal_model.specs.Limits.{limit_passed}
use Rattle.true_config.specs.Applying.{IsChange, OnDone, UnlessDone, first_refs, hindered, hindrance, telling, told_by_number, told_of}
use Rattle.true_config.specs.Steps.{Adds, MayFollow}
use Rattle.true_config.specs.declared.applied.Applied.{Applied}
use Rattle.true_config.specs.declared.applied.Applied.TheVariants.{Done, Illegal, Limit}
use Rattle.true_config.specs.declared.applied.Told.{Told}
use Rattle.true_config.specs.declared.applied.Told.TheVariants.{Admitted, Discarded, Local, Number, Plain}

-- what hinders an event is the answer to it
pub hindered-answer : (rule : Option Rule) (limit : Option Which) (x : Applied) (told : Told) → Some x ≡ hindered rule limit → x ≡ unwrap_or (hindered rule limit) (Done told)
hindered-answer rule limit x told is = subst (λ o. x ≡ unwrap_or o (Done told)) is refl

-- where nothing does, it is done
pub free-answer : (rule : Option Rule) (limit : Option Which) (x : Applied) → None ≡ hindered rule limit → x ≡ unwrap_or (hindered rule limit) x
free-answer rule limit x is = subst (λ o. x ≡ unwrap_or o x) is refl

-- what hinders an event is not that it is done
pub hindered-not_done : (rule : Option Rule) (limit : Option Which) (x : Applied) (P : Type 0) → Some x ≡ hindered rule limit → OnDone (Ok x) P
hindered-not_done (Some rule) limit x P is = (let same : x ≡ Illegal rule = cc in subst (λ y. OnDone (Ok y) P) (sym same) tt)
hindered-not_done None (Some which) x P is = (let same : x ≡ Limit which = cc in subst (λ y. OnDone (Ok y) P) (sym same) tt)
hindered-not_done None None x P is = absurd (cc)

not-hindered : (rule : Option Rule) (limit : Option Which) → None ≡ hindered rule limit → (rule ≡ None) × (limit ≡ None)
not-hindered (Some rule) limit is = absurd (cc)
not-hindered None (Some which) is = absurd (cc)
not-hindered None None is = (refl, refl)

-- an event that nothing hinders may follow
pub may-follow : (e : Event) (s : Story) → None ≡ hindrance s.cluster e s.past → MayFollow e s
may-follow e s is =
    let both = not-hindered (refusal s.cluster e s.past) (limit_passed s.cluster e s.past) is in
    record { legal = both.0; limit = both.1 }

-- what holds anyway holds with any other answer
pub unless-any : (r : Result Applied NoMemory) (P : Type 0) → P → UnlessDone r P
unless-any (Ok (Done told)) P p = tt
unless-any (Ok (Illegal rule)) P p = p
unless-any (Ok (Limit which)) P p = p
unless-any (Err e) P p = p

-- what follows holds where it is done too
pub done-weaker : (r : Result Applied NoMemory) (P Q : Type 0) → (P → Q) → OnDone r P → OnDone r Q
done-weaker (Ok (Done told)) P Q f p = f p
done-weaker (Ok (Illegal rule)) P Q f p = tt
done-weaker (Ok (Limit which)) P Q f p = tt
done-weaker (Err e) P Q f p = tt

change-cases : {T : Type 0} (e : Event) (old new : Story) (tell : T → Told) (r : Result T NoMemory) → IfOk r (λ x. tell x ≡ told_of e old.past) → OnOk r (Adds e old new) → OnErr r (new ≡ old) → IsChange e old new (telling tell r)
change-cases e old new tell (Ok x) told ok err = record { told = told; ok = ok; err = tt }
change-cases e old new tell (Err x) told ok err = record { told = tt; ok = tt; err = err }

-- the change by an event, which is given in two forms, and what it tells
pub changed : {T : Type 0} (f e : Event) (old new : Story) (tell : T → Told) (r : Result T NoMemory) (done : Result Told NoMemory) → f ≡ e → done ≡ telling tell r
    → IfOk r (λ x. tell x ≡ told_of e old.past) → OnOk r (Adds e old new) → OnErr r (new ≡ old) → IsChange f old new done
changed f e old new tell r done form tells told ok err =
    subst (λ x. IsChange x old new done) (sym form) (subst (λ d. IsChange e old new d) (sym tells) (change-cases e old new tell r told ok err))

always-ok : {T : Type 0} (r : Result T NoMemory) (P : Type 0) → P → IfOk r (λ _. P)
always-ok (Ok x) P p = p
always-ok (Err e) P p = tt

-- the change by an event that tells nothing
pub changed-plain : {T : Type 0} (f e : Event) (old new : Story) (r : Result T NoMemory) (done : Result Told NoMemory) → f ≡ e → Plain ≡ told_of e old.past
    → done ≡ telling (λ _. Plain) r → OnOk r (Adds e old new) → OnErr r (new ≡ old) → IsChange f old new done
changed-plain f e old new r done form none tells ok err =
    changed f e old new (λ _. Plain) r done form tells (always-ok r (Plain ≡ told_of e old.past) none) ok err

-- what a take tells
pub first-taken : (ms : List Message) (refs : List Actor) → option_map (λ (m : Message). m.refs) (slice_get ms 0) ≡ Some refs → refs ≡ first_refs ms
first-taken [] refs is = absurd (cc)
first-taken (m ∷ ms) refs is = cc

-- what a send tells
pub sent-told : (f t : Actor) (h : List Event) (r : Result (Option ℕ) NoMemory) → (f.node ≡ t.node → IfOk r (λ x. x ≡ None)) → (f.node ≢ t.node → IfOk r (λ x. x ≡ Some (length (sent f.node t.node h))))
    → IfOk r (λ x. told_by_number x ≡ cond (f.node == t.node) Local (Number (length (sent f.node t.node h))))
sent-told f t h (Ok x) same apart =
    let split = elim (f.node == t.node) as (λ v. (f.node == t.node) ≡ v → told_by_number x ≡ cond v Local (Number (length (sent f.node t.node h)))) [
      | true ↦ λ e. ap told_by_number (same (eqb-true f.node t.node e))
      | false ↦ λ e. ap told_by_number (apart (eqb-false f.node t.node e))
    ] in
    split refl
sent-told f t h (Err e) same apart = tt

-- what an admission tells
pub came-told : (first was : Bool) → first ≡ not was → cond first Admitted Discarded ≡ cond was Discarded Admitted
came-told first true is = ap (λ v. cond v Admitted Discarded) is
came-told first false is = ap (λ v. cond v Admitted Discarded) is
