-- What waits for an actor after one event more.
use Rattle.std.proofs.Common.{◌≡◌, ◌≢◌, ◌+◌, ◌≤◌, ℕ, zero, suc, true, false, cond, List, [], ◌∷◌, ◌++◌, drop, filter, length, map, append-nil, refl, sym, ◌∙◌, ap, subst, arith}
use Rattle.std.proofs.lemmas.List.{map-append}
use Rattle.crgc_ids.specs.Actor.{Actor, same_actor}
use Rattle.crgc_ids.proofs.ActorLaws.{same_actor-decides}
use Rattle.history_model.specs.declared.events.Event.{Event}
use Rattle.history_model.specs.declared.events.Event.TheVariants.{Take}
use Rattle.history_model.specs.Cluster.{Cluster}
use Rattle.history_model.specs.Legal.{IsLegal}
use Rattle.history_model.specs.Messages.{Message, admitted_by, is_take_by, is_to, mail, takes, waiting}
use Rattle.history_model.proofs.AccountsTaken.{takes-mail}
use Rattle.history_model.proofs.Basics.{same_actor-equal}
use Rattle.mailboxes.specs.Mail.{Mailbox, mail_of}
use Rattle.mail_laws.specs.Standing.{ChangesMail, StandsForMail}

-- the references of messages
abbrev pub all_refs : List Message → List (List Actor)
all_refs ms = map (λ (m : Message). m.refs) ms

drop-joined : {X : Type 0} (n : ℕ) (xs ys : List X) → n ≤ length xs → drop n (xs ++ ys) ≡ drop n xs ++ ys
drop-joined zero xs ys below = refl
drop-joined (suc n) [] ys below = absurd (omega arith)
drop-joined (suc n) (x ∷ xs) ys below = drop-joined n xs ys (omega arith)

drop-next : {X : Type 0} (n : ℕ) (xs : List X) → drop (suc n) xs ≡ drop 1 (drop n xs)
drop-next zero xs = refl
drop-next (suc n) [] = refl
drop-next (suc n) (x ∷ xs) = drop-next n xs

drop-one_more : {X : Type 0} (n : ℕ) (xs : List X) → drop (n + 1) xs ≡ drop 1 (drop n xs)
drop-one_more n xs = (let next : n + 1 ≡ suc n = omega arith in ap (λ k. drop k xs) next ∙ drop-next n xs)

drop-refs : (ms : List Message) → all_refs (drop 1 ms) ≡ drop 1 (all_refs ms)
drop-refs [] = refl
drop-refs (m ∷ ms) = refl

-- what is admitted waits last, if nobody takes
pub waiting-admitted : (cl : Cluster) (e : Event) (p : List Event) → IsLegal cl p → (a : Actor) → is_take_by a e ≡ false → waiting a (e ∷ p) ≡ waiting a p ++ filter (is_to a) (admitted_by e p)
waiting-admitted cl e p legal a none =
    let more = filter (is_to a) (admitted_by e p) in
    ap (λ v. drop (cond v (takes a p + 1) (takes a p)) (mail a p ++ more)) none ∙ drop-joined (takes a p) (mail a p) more (takes-mail cl p legal a)

-- who takes leaves the others
pub waiting-taken : (a : Actor) (p : List Event) → waiting a (Take a ∷ p) ≡ drop 1 (waiting a p)
waiting-taken a p =
    let itself : same_actor a a ≡ true = (same_actor-decides a a).1 refl in
    ap (λ v. drop (cond v (takes a p + 1) (takes a p)) (mail a p ++ [])) itself ∙ ap (drop (takes a p + 1)) (append-nil (mail a p)) ∙ drop-one_more (takes a p) (mail a p)

pub waiting-other : (a b : Actor) (p : List Event) → same_actor b a ≡ false → waiting a (Take b ∷ p) ≡ waiting a p
waiting-other a b p other =
    ap (λ v. drop (cond v (takes a p + 1) (takes a p)) (mail a p ++ [])) other ∙ ap (drop (takes a p)) (append-nil (mail a p))

pub mail-left : (cl : Cluster) (e : Event) (p : List Event) (boxes : List (Actor × Mailbox)) → IsLegal cl (e ∷ p) → admitted_by e p ≡ [] → ((a : Actor) → is_take_by a e ≡ false) → StandsForMail p boxes → StandsForMail (e ∷ p) boxes
mail-left cl e p boxes legal none idle stands a =
    stands a ∙ sym (ap all_refs (waiting-admitted cl e p legal.1 a (idle a) ∙ ap (λ ms. waiting a p ++ filter (is_to a) ms) none ∙ append-nil (waiting a p)))

-- an actor's messages, by whether it is the one whose mailbox changed
at-actor : (P : Actor → Type 0) (b a : Actor) → P b → (a ≢ b → P a) → P a
at-actor P b a here there =
    elim (same_actor b a) as (λ v. same_actor b a ≡ v → P a) [
      | true ↦ λ same. subst P (same_actor-equal b a same) here
      | false ↦ λ other. there (λ e. both other e)
    ] refl
  where
    both : same_actor b a ≡ false → a ≡ b → ⊥
    both other e = (let same : same_actor b a ≡ true = (same_actor-decides b a).1 (sym e) in absurd (cc))

pub mail-admitted : (cl : Cluster) (e : Event) (p : List Event) (m : Message) (old new : List (Actor × Mailbox)) → IsLegal cl (e ∷ p) → admitted_by e p ≡ m ∷ [] → ((a : Actor) → is_take_by a e ≡ false)
    → ChangesMail old new m.to (mail_of old m.to ++ m.refs ∷ []) → StandsForMail p old → StandsForMail (e ∷ p) new
mail-admitted cl e p m old new legal one idle change stands a =
    let Stands : Actor → Type 0 = λ x. mail_of new x ≡ all_refs (waiting x p ++ filter (is_to x) (m ∷ [])) in
    let itself : is_to m.to m ≡ true = (same_actor-decides m.to m.to).1 refl in
    let here : Stands m.to = change.mail ∙ ap (λ rs. rs ++ m.refs ∷ []) (stands m.to) ∙ sym (map-append (λ (x : Message). x.refs) (waiting m.to p) (m ∷ []))
    ∙ sym (ap (λ v. all_refs (waiting m.to p ++ cond v (m ∷ []) [])) itself) in
    let there = λ (apart : a ≢ m.to). (
    let not_to : is_to a m ≡ false = elim (is_to a m) as (λ v. is_to a m ≡ v → v ≡ false) [ true ↦ λ same. absurd (apart (sym (same_actor-equal m.to a same))) | false ↦ λ _. refl ] refl in
    change.others a apart ∙ stands a ∙ sym (ap all_refs (ap (λ v. waiting a p ++ cond v (m ∷ []) []) not_to ∙ append-nil (waiting a p)))) in
    at-actor Stands m.to a here there ∙ sym (ap all_refs (waiting-admitted cl e p legal.1 a (idle a) ∙ ap (λ ms. waiting a p ++ filter (is_to a) ms) one))

pub mail-taken : (p : List Event) (b : Actor) (old new : List (Actor × Mailbox)) → ChangesMail old new b (drop 1 (mail_of old b)) → StandsForMail p old → StandsForMail (Take b ∷ p) new
mail-taken p b old new change stands a =
    at-actor (λ x. mail_of new x ≡ all_refs (waiting x (Take b ∷ p))) b a
    (change.mail ∙ ap (drop 1) (stands b) ∙ sym (drop-refs (waiting b p)) ∙ sym (ap all_refs (waiting-taken b p)))
    (λ apart.
    let other : same_actor b a ≡ false = elim (same_actor b a) as (λ v. same_actor b a ≡ v → v ≡ false) [ true ↦ λ same. absurd (apart (sym (same_actor-equal b a same))) | false ↦ λ _. refl ] refl in
    change.others a apart ∙ stands a ∙ sym (ap all_refs (waiting-other a b p other)))
