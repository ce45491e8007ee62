-- The next event of a legal history changes nobody's references to a member of a quiet set: nobody gives one or gives one
-- up, and no message that is taken carries one.
use Rattle.std.proofs.Common.{inl, inr, ◌≡◌, ◌+◌, ◌==◌, ℕ, zero, suc, List, [], ◌∷◌, take, drop, refl, sym, ◌∙◌, ap, subst, arith, if◌then◌else◌, filter, add-one, add-zero, append-nil}
use Rattle.std.proofs.lemmas.Bool.{and_right, cond_both, false_from_ne_true}
use Rattle.std.proofs.lemmas.List.{take-append-le}
use Rattle.crgc_ids.specs.Actor.{Actor}
use Rattle.crgc_ids.specs.Members.{IsAmong}
use Rattle.history_model.specs.declared.events.Event.{Event}
use Rattle.history_model.specs.declared.events.Event.TheVariants.{Seed, Tie, Take, Spawn, Drop, Flush}
use Rattle.history_model.specs.Tally.{tally}
use Rattle.history_model.specs.Cluster.{Cluster, same_actor, newborn}
use Rattle.history_model.specs.Messages.{Message, admitted_by, is_to, mail, takes, taken, waiting}
use Rattle.history_model.specs.Facts.{Note, created, note_by}
use Rattle.history_model.specs.Held.{is_note_of, gifts, carried, gave, held}
use Rattle.history_model.specs.Legal.{IsLegal}
use Rattle.history_model.specs.Quiescent.{IsQuietSet}
use Rattle.history_model.proofs.Basics.{legal-kept, same_actor-equal}
use Rattle.history_model.proofs.AccountsTaken.{takes-mail}
use Rattle.history_model.proofs.Lists.{tally-none}
use Rattle.history_model.proofs.States.{some_waits, waiting-live}
use Rattle.history_model.proofs.UsesActors.{IsOutside, busy-outside, newborn-outside, only-flush, root-outside}

-- ---- gifts

-- a pair whose target is another actor does not count
other_target : (b a w x y : Actor) (ns : List Note) → (y ≡ a → ⊥) → tally (is_note_of b a) (note_by w (created x y) ∷ ns) ≡ tally (is_note_of b a) ns
other_target b a w x y ns other =
    let differ = false_from_ne_true (same_actor y a) (λ s. other (same_actor-equal y a s)) in
    let count = tally (is_note_of b a) ns in
    ap (λ v. if v then count + 1 else count) (and_right (same_actor x b) (same_actor y a) differ)

-- who is no member is another actor
outside-other : (q : List Actor) (b a : Actor) → IsOutside q b → IsAmong a q → b ≡ a → ⊥
outside-other q b a outside member e = outside (subst (λ x. IsAmong x q) (sym e) member)

-- no reference to a member is given: newborns are none, roots are none, and a parent is busy
gifts-next : (cl : Cluster) (e : Event) (p : List Event) (q : List Actor) → IsLegal cl (e ∷ p) → IsQuietSet cl p q → (b a : Actor) → IsAmong a q
    → gifts cl b a (e ∷ p) ≡ gifts cl b a p
gifts-next cl (Seed n) p q legal quiet b a member =
    let new = newborn n p in
    let none = other_target b a new new new [] (outside-other q new a (newborn-outside cl p q quiet n) member) in
    omega arith
gifts-next cl (Tie o t) p q legal quiet b a member =
    let root = (legal-kept cl (Tie o t) p legal).1.1.1.1.1.1.0 in
    let none = other_target b a t o t [] (outside-other q t a (root-outside cl p q quiet t root) member) in
    omega arith
gifts-next cl (Spawn x) p q legal quiet b a member =
    let new = newborn x.node p in
    let busy = (legal-kept cl (Spawn x) p legal).1.1.0 in
    let fresh = outside-other q new a (newborn-outside cl p q quiet x.node) member in
    let back : List Note = if cl.version == 2 then note_by x (created new x) ∷ [] else [] in
    let first = other_target b a new new new (note_by new (created x new) ∷ back) fresh in
    let second = other_target b a new x new back fresh in
    let third = cond_both (cl.version == 2) (note_by x (created new x) ∷ []) [] (λ ns. tally (is_note_of b a) ns ≡ 0)
    (λ _. other_target b a x new x [] (outside-other q x a (busy-outside cl p q quiet x busy) member)) (λ _. refl) in
    omega arith
gifts-next cl _ p q legal quiet b a member = omega arith

-- ---- what taken messages carry

-- an actor that is not among the references is not counted there
pub tally-absent : (a : Actor) (xs : List Actor) → ¬ IsAmong a xs → tally (same_actor a) xs ≡ 0
tally-absent a xs none =
    tally-none (same_actor a) xs (λ x among. false_from_ne_true (same_actor a x) (λ same. none (subst (λ y. IsAmong y xs) (sym (same_actor-equal a x same)) among)))

-- the next message that is taken is the first that waits
carried-take_suc : (a : Actor) (n : ℕ) (xs : List Message) (m : Message) (ms : List Message) → drop n xs ≡ m ∷ ms
    → carried a (take (suc n) xs) ≡ carried a (take n xs) + tally (same_actor a) m.refs
carried-take_suc a zero [] m ms e = absurd (cc)
carried-take_suc a zero (x ∷ xs) m ms e =
    let same : x ≡ m = cc in
    let counts = ap (λ (y : Message). tally (same_actor a) y.refs) same in
    omega arith
carried-take_suc a (suc n) [] m ms e = absurd (cc)
carried-take_suc a (suc n) (x ∷ xs) m ms e =
    let rest = carried-take_suc a n xs m ms e in
    omega arith

-- the messages taken carry no more references to a member
carried-next : (cl : Cluster) (e : Event) (p : List Event) (q : List Actor) → IsLegal cl (e ∷ p) → IsQuietSet cl p q → (b a : Actor) → IsAmong a q
    → carried a (taken b (e ∷ p)) ≡ carried a (taken b p)
carried-next cl (Take x) p q legal quiet b a member =
    let some = some_waits (waiting x p) (legal-kept cl (Take x) p legal).1.1.1.0 in
    let live = waiting-live p x (legal-kept cl (Take x) p legal).1.0 some.0 (subst (IsAmong some.0) (sym some.2) (inl refl)) in
    let none = tally-absent a some.0.refs (quiet.not_carried some.0 live.0 a member) in
    let Same : ℕ → Type 0 = λ n. carried a (take n (mail b p)) ≡ carried a (taken b p) in
    ap (λ ms. carried a (take (takes b (Take x ∷ p)) ms)) (append-nil (mail b p))
    ∙ cond_both (same_actor x b) (takes b p + 1) (takes b p) Same
    (λ s.
    let first : drop (takes b p) (mail b p) ≡ some.0 ∷ some.1 = subst (λ y. waiting y p ≡ some.0 ∷ some.1) (same_actor-equal x b s) some.2 in
    ap (λ n. carried a (take n (mail b p))) (add-one (takes b p)) ∙ carried-take_suc a (takes b p) (mail b p) some.0 some.1 first ∙ ap (λ n. carried a (taken b p) + n) none ∙ add-zero (carried a (taken b p)))
    (λ _. refl)
carried-next cl e p q legal quiet b a member =
    ap (carried a) (take-append-le (takes b p) (mail b p) (filter (is_to b) (admitted_by e p)) (takes-mail cl p legal.1 b))

-- ---- drops

-- nobody gives up a reference to a member
gave-next : (cl : Cluster) (e : Event) (p : List Event) (q : List Actor) → IsLegal cl (e ∷ p) → IsQuietSet cl p q → (b a : Actor) → IsAmong a q
    → gave b a (e ∷ p) ≡ gave b a p
gave-next cl (Drop x y) p q legal quiet b a member =
    let other = outside-other q y a (λ named. not_flush (only-flush cl p q quiet (Drop x y) legal y (inr (inl refl)) named)) member in
    let differ = false_from_ne_true (same_actor y a) (λ s. other (same_actor-equal y a s)) in
    ap (λ v. if v then gave b a p + 1 else gave b a p) (and_right (same_actor x b) (same_actor y a) differ)
  where
    not_flush : Drop x y ≡ Flush y → ⊥
    not_flush e = cc
gave-next cl _ p q legal quiet b a member = refl

-- so each actor holds as many references to a member as before
pub held-next : (cl : Cluster) (e : Event) (p : List Event) (q : List Actor) → IsLegal cl (e ∷ p) → IsQuietSet cl p q → (b a : Actor) → IsAmong a q
    → held cl b a (e ∷ p) ≡ held cl b a p
held-next cl e p q legal quiet b a member =
    let same_gifts = gifts-next cl e p q legal quiet b a member in
    let same_carried = carried-next cl e p q legal quiet b a member in
    let same_drops = gave-next cl e p q legal quiet b a member in
    omega arith
