-- One event more: what is noted past the horizons gives nobody access to a member, and members past their horizons stay at
-- rest. So every moment of the history has what `SoundnessTold` calls told, and `SoundnessQuiet` takes the last one.
use Rattle.std.proofs.Common.{◌≡◌, ◌<◌, ◌≤◌, ℕ, Bool, true, false, not, List, [], ◌∷◌, ◌++◌, length, map, refl, sym, ◌∙◌, subst, inl, inr, arith, append_assoc}
use Rattle.std.proofs.lemmas.Bool.{cases_lt, false≢true, and_parts, not-true}
use Rattle.std.proofs.lemmas.List.{drop_all}
use Rattle.crgc_ids.specs.Actor.{Actor}
use Rattle.crgc_ids.specs.Members.{IsAmong}
use Rattle.history_model.specs.declared.events.Event.{Event}
use Rattle.history_model.specs.declared.events.Event.TheVariants.{Seed, Tie, Take, Spawn, Send, Drop}
use Rattle.history_model.specs.Cluster.{Cluster, same_actor, newborn, is_born}
use Rattle.history_model.specs.Messages.{mail, takes}
use Rattle.history_model.specs.Facts.{Fact, received, sent_to, created, released, Note, note_by, notes, message_facts, is_sent_to, is_created}
use Rattle.history_model.specs.Held.{held}
use Rattle.history_model.specs.State.{is_busy, is_root}
use Rattle.history_model.specs.Legal.{IsLegal}
use Rattle.history_model.proofs.Basics.{same_actor-equal, legal-kept, legal-before}
use Rattle.history_model.proofs.AccountsBirths.{each-notes_of_spawn, born-on_node, newborn-not_born}
use Rattle.history_model.proofs.FoldSumsNotes.{told-next}
use Rattle.history_model.proofs.SoundnessTold.{is_sending, is_creation, IsToldSet, AreTold}
use Rattle.history_model.proofs.SoundnessBounds.{no_take, no_hold}
use Rattle.history_model.proofs.Lists.{Each, each-none, each-more, each-one, each-map}
use Rattle.history_model.proofs.States.{legal-send, stays-at_rest}

-- ---- access

-- the fact is of a message to a or of a reference to it
abbrev pub GivesAccess : Actor → Fact → Type 0
GivesAccess a (sent_to b) = b ≡ a
GivesAccess a (created b c) = c ≡ a
GivesAccess a _ = ⊥

sent-access : (a : Actor) (f : Fact) → is_sent_to a f ≡ true → GivesAccess a f
sent-access a (sent_to b) t = same_actor-equal b a t
sent-access a _ t = absurd (false≢true t)

created-access : (b a : Actor) (f : Fact) → is_created b a f ≡ true → GivesAccess a f
created-access b a (created c d) t = same_actor-equal d a (and_parts (same_actor c b) (same_actor d a) t).1
created-access b a _ t = absurd (false≢true t)

-- noted past a horizon on a node that is not lost, it gives nobody access to a member
abbrev IsHarmless : (ℕ → Bool) → (Actor → ℕ) → List Actor → List Event → Note → Type 0
IsHarmless lost u members p x =
    lost x.by.node ≡ false → u x.by ≤ length p → (a : Actor) → IsAmong a members → ¬ GivesAccess a x.fact

-- an actor that the next birth gives is no member past its horizon
newborn-outside : (cl : Cluster) (lost : ℕ → Bool) (u : Actor → ℕ) (members : List Actor) (n : ℕ) (p : List Event) → AreTold cl lost u members p → u (newborn n p) ≤ length p → (a : Actor) → IsAmong a members → ¬ (newborn n p ≡ a)
newborn-outside cl lost u members n p told past a member same =
    let rest = told.rest a member (subst (λ b. u b ≤ length p) same past) in
    false≢true (sym (newborn-not_born n p) ∙ subst (λ b. is_born b p ≡ true) (sym same) rest.0)

-- a busy actor past its horizon is no member
busy-outside : (cl : Cluster) (lost : ℕ → Bool) (u : Actor → ℕ) (members : List Actor) (b : Actor) (p : List Event) → AreTold cl lost u members p → is_busy b p ≡ true → u b ≤ length p → ¬ IsAmong b members
busy-outside cl lost u members b p told busy past member =
    false≢true (sym (told.rest b member past).1 ∙ busy)

-- a sender holds what it sends references to, so past its horizon it holds no member
send-outside : (cl : Cluster) (lost : ℕ → Bool) (u : Actor → ℕ) (members : List Actor) (q p : List Event) (f t : Actor) (refs : List Actor) → IsLegal cl (q ++ p) → IsLegal cl (Send f t refs ∷ p) → IsToldSet cl (q ++ p) lost u members → AreTold cl lost u members p → (b : Actor) → IsAmong b (t ∷ refs) → lost f.node ≡ false → u f ≤ length p → (a : Actor) → IsAmong a members → ¬ (b ≡ a)
send-outside cl lost u members q p f t refs legal now set told b named out past a member same =
    let rules = legal-send cl f t refs p now in
    let holds : 0 < held cl f a p = subst (λ c. 0 < held cl f c p) same (rules.holds b named) in
    let node = born-on_node cl p now.1 f (rules.born f (inl refl)) in
    elim (no_hold cl lost u members q p legal set told f a member node out past) [
      | inl is_member ↦ busy-outside cl lost u members f p told rules.busy past is_member
      | inr gave_all ↦ omega (arith, holds, gave_all)
    ]

-- what the event notes gives nobody access to a member
notes-harmless : (cl : Cluster) (lost : ℕ → Bool) (u : Actor → ℕ) (members : List Actor) (q : List Event) (e : Event) (p : List Event) → IsLegal cl (q ++ p) → IsLegal cl (e ∷ p) → IsToldSet cl (q ++ p) lost u members → AreTold cl lost u members p → Each (IsHarmless lost u members p) (notes cl e p)
notes-harmless cl lost u members q (Seed n) p legal now set told =
    let child = newborn n p in
    each-one (IsHarmless lost u members p) (note_by child (created child child)) (λ out past. newborn-outside cl lost u members n p told past)
notes-harmless cl lost u members q (Tie o t) p legal now set told =
    let root : is_root t p ≡ true = (legal-kept cl (Tie o t) p now).1.1.1.1.1.1.0 in
    each-one (IsHarmless lost u members p) (note_by t (created o t)) (λ out past a member same.
    let rest = told.rest a member (subst (λ b. u b ≤ length p) same past) in
    false≢true (sym rest.2 ∙ subst (λ b. is_root b p ≡ true) same root))
notes-harmless cl lost u members q (Take b) p legal now set told =
    each-one (IsHarmless lost u members p) (note_by b (received b)) (λ out past a member access. access)
notes-harmless cl lost u members q (Spawn s) p legal now set told =
    let busy : is_busy s p ≡ true = (legal-kept cl (Spawn s) p now).1.1.0 in
    let newborn_outside = newborn-outside cl lost u members s.node p told in
    each-notes_of_spawn cl s p (IsHarmless lost u members p)
    (λ out past. newborn_outside past) (λ out past. newborn_outside past)
    (λ out past a member same. busy-outside cl lost u members s p told busy past (subst (λ b. IsAmong b members) (sym same) member))
notes-harmless cl lost u members q (Send f t refs) p legal now set told =
    let outside = send-outside cl lost u members q p f t refs legal now set told in
    let Harmless : Fact → Type 0 = λ x. IsHarmless lost u members p (note_by f x) in
    each-map (IsHarmless lost u members p) (note_by f) (message_facts (record { from = f; to = t; refs = refs }))
    (each-more Harmless (sent_to t) (map (created t) refs) (outside t (inl refl))
    (each-map Harmless (created t) refs (λ r among. outside r (inr among))))
notes-harmless cl lost u members q (Drop b t) p legal now set told =
    each-one (IsHarmless lost u members p) (note_by b (released b t)) (λ out past a member access. access)
notes-harmless cl lost u members q e p legal now set told = each-none (IsHarmless lost u members p)

-- ---- moments

-- what is told at a moment is told after the next event
told-step : (cl : Cluster) (lost : ℕ → Bool) (u : Actor → ℕ) (members : List Actor) (q : List Event) (e : Event) (p : List Event) → IsLegal cl (q ++ (e ∷ p)) → IsToldSet cl (q ++ (e ∷ p)) lost u members → AreTold cl lost u members p → AreTold cl lost u members (e ∷ p)
told-step cl lost u members q e p legal set told =
    let now = legal-before cl q (e ∷ p) legal in
    let shift : q ++ (e ∷ p) ≡ (q ++ (e ∷ [])) ++ p = sym (append_assoc q (e ∷ []) p) in
    let legal_p = subst (IsLegal cl) shift legal in
    let set_p = subst (λ h. IsToldSet cl h lost u members) shift set in
    let harmless = notes-harmless cl lost u members (q ++ (e ∷ [])) e p legal_p now set_p told in
    let below : (a : Actor) → IsAmong a members → (x : Note) → IsAmong x (notes cl e p) → lost x.by.node ≡ false → GivesAccess a x.fact → length p < u x.by = λ a member x among out access.
    elim (cases_lt (length p) (u x.by)) [ inl low ↦ low | inr past ↦ absurd (harmless x among out past a member access) ] in
    record {
      rest = λ a member past. elim (cases_lt (length p) (u a)) [
        | inl low ↦ set.at_horizon a member q (e ∷ p) refl (omega (arith, low, past))
        | inr before ↦ stays-at_rest cl e p now a (told.rest a member before) (λ _ m waits.
            let all = no_take cl lost u members (q ++ (e ∷ [])) p legal_p set_p told a member before in
            subst (IsAmong m) (drop_all (takes a p) (mail a p) all) waits)
      ];
      sendings = λ a member. told-next cl u (is_sending lost a) e p (λ x among test.
          let both = and_parts (not (lost x.by.node)) (is_sent_to a x.fact) test in
          below a member x among (not-true (lost x.by.node) both.0) (sent-access a x.fact both.1)) (told.sendings a member);
      creations = λ b a member. told-next cl u (is_creation lost b a) e p (λ x among test.
          let both = and_parts (not (lost x.by.node)) (is_created b a x.fact) test in
          below a member x among (not-true (lost x.by.node) both.0) (created-access b a x.fact both.1)) (told.creations b a member);
    }

-- so it holds at every moment
pub told-always : (cl : Cluster) (lost : ℕ → Bool) (u : Actor → ℕ) (members : List Actor) (p q : List Event) → IsLegal cl (q ++ p) → IsToldSet cl (q ++ p) lost u members → AreTold cl lost u members p
told-always cl lost u members [] q legal set = record {
  rest = λ a member past. set.at_horizon a member q [] refl (omega (arith, past));
  sendings = λ a member. refl;
  creations = λ b a member. refl;
}
told-always cl lost u members (e ∷ p) q legal set =
    let shift : q ++ (e ∷ p) ≡ (q ++ (e ∷ [])) ++ p = sym (append_assoc q (e ∷ []) p) in
    let before = told-always cl lost u members p (q ++ (e ∷ [])) (subst (IsLegal cl) shift legal) (subst (λ h. IsToldSet cl h lost u members) shift set) in
    told-step cl lost u members q e p legal set before
