-- Checks of one rule over a list of actors, from a place on.
use Rattle.std.proofs.Common.{◌≡◌, ◌<◌, ◌≤◌, ◌+◌, ℕ, Bool, true, false, if◌then◌else◌, List, [], ◌∷◌, ◌++◌, length, drop, map, get_or, Option, Some, None, refl, ap, sym, ◌∙◌}
use Rattle.std.proofs.lemmas.List.{at_drop_all, at_drop_more}
use Rattle.crgc_ids.specs.Actor.{Actor}
use Rattle.std.specs.Option.{option_or}
use Rattle.history_model.specs.declared.events.Event.{Event}
use Rattle.history_model.specs.declared.events.Event.TheVariants.{Send}
use Rattle.history_model.specs.declared.events.Rule.{Rule}
use Rattle.history_model.specs.declared.events.Rule.TheVariants.{Idle}
use Rattle.history_model.specs.Cluster.{Cluster, is_born}
use Rattle.history_model.specs.State.{is_busy}
use Rattle.history_model.specs.Legal.{Check, born_all, check, first_broken, held_all, node_up, refusal}

-- the first rule broken by the actors from place i on
abbrev pub broken_from : Rule → (Actor → Bool) → List Actor → ℕ → Option Rule
broken_from r t xs i = first_broken (map (λ a. check r (t a)) (drop i xs))

-- it is that of the actors after the place, where the one there passes the test, and else the rule
pub broken-from : (r : Rule) (t : Actor → Bool) (xs : List Actor) (i : ℕ) (x : Actor) (b : Bool) → i < length xs
    → x ≡ get_or xs i x → t x ≡ b → broken_from r t xs i ≡ (if b then broken_from r t xs (i + 1) else Some r)
broken-from r t xs i x b within is passes =
    let here : t (get_or xs i x) ≡ b = ap t (sym is) ∙ passes in
    at_drop_more (λ ys. first_broken (map (λ a. check r (t a)) ys)) xs i x within
    ∙ ap (λ v. if v then broken_from r t xs (i + 1) else Some r) here

-- none from the end on
pub broken-end : (r : Rule) (t : Actor → Bool) (xs : List Actor) (i : ℕ) → length xs ≤ i → broken_from r t xs i ≡ None
broken-end r t xs i past = at_drop_all (λ ys. first_broken (map (λ a. check r (t a)) ys)) xs i past

kept-or-not : (b : Bool) (r : Rule) (x y z : Option Rule) → x ≡ option_or y z → (if b then x else Some r) ≡ option_or (if b then y else Some r) z
kept-or-not true r x y z e = e
kept-or-not false r x y z e = refl

-- of two lists of checks the first decides where it breaks one, and else the second
pub broken-joined : (cs ds : List Check) → first_broken (cs ++ ds) ≡ option_or (first_broken cs) (first_broken ds)
broken-joined [] ds = refl
broken-joined (c ∷ cs) ds = kept-or-not c.kept c.rule (first_broken (cs ++ ds)) (first_broken cs) (first_broken ds) (broken-joined cs ds)

-- the checks of a send after those of its sender's and its recipient's birth and of the births of what it carries
abbrev pub sender_checks : Cluster → Actor → List Actor → List Event → List Check
sender_checks cl f named h = node_up f.node h ∷ check Idle (is_busy f h) ∷ held_all cl f named h

-- the refusal of a send between born actors
pub send-refused : (cl : Cluster) (h : List Event) (f t : Actor) (refs : List Actor) → true ≡ is_born f h → true ≡ is_born t h
    → refusal cl (Send f t refs) h ≡ option_or (first_broken (born_all refs h)) (first_broken (sender_checks cl f (t ∷ refs) h))
send-refused cl h f t refs from to = rw (← from, ← to) (broken-joined (born_all refs h) (sender_checks cl f (t ∷ refs) h))
