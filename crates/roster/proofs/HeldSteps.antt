-- How the references that an actor holds change with one event of a legal history.
use Rattle.std.proofs.Common.{◌≡◌, ◌+◌, ℕ, zero, suc, Bool, false, cond, List, [], ◌∷◌, ◌++◌, drop, take, filter, ◌∙◌, ap, arith, append-nil, add-one}
use Rattle.std.proofs.lemmas.List.{take-append-le}
use Rattle.crgc_ids.specs.Actor.{Actor}
use Rattle.history_model.specs.declared.events.Event.{Event}
use Rattle.history_model.specs.declared.events.Event.TheVariants.{Take}
use Rattle.history_model.specs.Cluster.{Cluster, same_actor}
use Rattle.history_model.specs.Held.{carried, given_at_once, held, is_drop_of, is_note_of}
use Rattle.history_model.specs.Legal.{IsLegal}
use Rattle.history_model.specs.Messages.{Message, admitted_by, is_take_by, is_to, mail, taken, takes, waiting}
use Rattle.history_model.specs.Tally.{tally}
use Rattle.history_model.proofs.AccountsTaken.{gave-got, takes-mail}
use Rattle.history_model.proofs.Basics.{same_actor-refl}
use Rattle.history_model.proofs.Lists.{tally-one}

-- 1 where it is so
abbrev pub weigh : Bool → ℕ
weigh v = cond v 1 0

-- what was taken carries as before, if the actor takes nothing by the event
carried-kept : (cl : Cluster) (e : Event) (p : List Event) → IsLegal cl p → (b t : Actor) → is_take_by b e ≡ false → carried t (taken b (e ∷ p)) ≡ carried t (taken b p)
carried-kept cl e p legal b t none =
    let more = filter (is_to b) (admitted_by e p) in
    ap (λ v. carried t (take (cond v (takes b p + 1) (takes b p)) (mail b p ++ more))) none
    ∙ ap (carried t) (take-append-le (takes b p) (mail b p) more (takes-mail cl p legal b))

-- who takes nothing holds what it held, with what the event gives it, and without what it drops
pub held-given : (cl : Cluster) (e : Event) (p : List Event) → IsLegal cl (e ∷ p) → (b t : Actor) → is_take_by b e ≡ false
    → held cl b t (e ∷ p) + weigh (is_drop_of b t e) ≡ held cl b t p + tally (is_note_of b t) (given_at_once cl e p)
held-given cl e p legal b t none =
    let same = carried-kept cl e p legal.1 b t none in
    let drops = tally-one (is_drop_of b t) e p in
    let before = gave-got cl p legal.1 b t in
    let after = gave-got cl (e ∷ p) legal b t in
    omega arith

-- the next message that is taken is the first that waits
carried-next : (t : Actor) (n : ℕ) (xs : List Message) (m : Message) (ms : List Message) → drop n xs ≡ m ∷ ms → carried t (take (suc n) xs) ≡ carried t (take n xs) + tally (same_actor t) m.refs
carried-next t zero [] m ms e = absurd (cc)
carried-next t zero (x ∷ xs) m ms e =
    let same : x ≡ m = cc in
    let counts = ap (λ (y : Message). tally (same_actor t) y.refs) same in
    omega arith
carried-next t (suc n) [] m ms e = absurd (cc)
carried-next t (suc n) (x ∷ xs) m ms e = (let rest = carried-next t n xs m ms e in omega arith)

-- who takes the first message that waits holds its references more
pub held-taken : (cl : Cluster) (p : List Event) (a : Actor) → IsLegal cl (Take a ∷ p) → (m : Message) (ms : List Message) → waiting a p ≡ m ∷ ms → (t : Actor)
    → held cl a t (Take a ∷ p) ≡ held cl a t p + tally (same_actor t) m.refs
held-taken cl p a legal m ms first t =
    let counts = ap (λ v. cond v (takes a p + 1) (takes a p)) (same_actor-refl a) ∙ add-one (takes a p) in
    let taken_more : carried t (taken a (Take a ∷ p)) ≡ carried t (taken a p) + tally (same_actor t) m.refs =
    ap (λ n. carried t (take n (mail a p ++ []))) counts ∙ ap (λ ms. carried t (take (suc (takes a p)) ms)) (append-nil (mail a p)) ∙ carried-next t (takes a p) (mail a p) m ms first in
    let before = gave-got cl p legal.1 a t in
    let after = gave-got cl (Take a ∷ p) legal a t in
    omega arith
