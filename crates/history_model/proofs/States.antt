-- What the rules of a send say, and that an idle actor that is no root stays so where no message waits for it.
-- Soundness uses this of the dead past their horizons, and stability of the members of a quiet set.
use Rattle.std.proofs.Common.{◌≡◌, ◌<◌, true, false, not, List, [], ◌∷◌, ◌++◌, map, refl, sym, ◌∙◌, subst, inl, inr, IsTrue, IsFalse, nat_lt}
use Rattle.std.proofs.lemmas.Bool.{cond_both, false≢true}
use Rattle.std.proofs.lemmas.Bool.Decides.{Decides-ltb}
use Rattle.crgc_ids.specs.Actor.{Actor}
use Rattle.crgc_ids.specs.Members.{IsAmong}
use Rattle.history_model.specs.declared.events.Event.{Event}
use Rattle.history_model.specs.declared.events.Event.TheVariants.{Seed, Wake, Take, Send, Retire, Rest}
use Rattle.history_model.specs.Cluster.{Cluster, same_actor, newborn, is_born}
use Rattle.history_model.specs.Messages.{Message, waiting}
use Rattle.history_model.specs.Held.{held}
use Rattle.history_model.specs.State.{is_busy, is_root, is_up}
use Rattle.history_model.specs.Legal.{Check, check, born_all, held_all, node_up, has_nothing, IsLegal}
use Rattle.history_model.specs.declared.events.Rule.TheVariants.{NoActor, NotHeld, Idle}
use Rattle.history_model.specs.Quiescent.{IsLive}
use Rattle.history_model.proofs.Basics.{AreKept, legal-kept, same_actor-equal}
use Rattle.history_model.proofs.AccountsBirths.{mail-among, newborn-not_born, waiting-among, born-grows}

-- ---- rules that are lists

AreKept-append : (xs ys : List Check) → AreKept (xs ++ ys) → AreKept xs × AreKept ys
AreKept-append [] ys kept = (tt, kept)
AreKept-append (x ∷ xs) ys kept =
    let rest = AreKept-append xs ys kept.1 in
    ((kept.0, rest.0), rest.1)

AreKept-map : {A : Type 0} (rule : A → Check) (xs : List A) → AreKept (map rule xs) → (x : A) → IsAmong x xs → (rule x).kept ≡ true
AreKept-map rule [] kept x among = absurd among
AreKept-map rule (y ∷ ys) kept x (inl e) = subst (λ z. (rule z).kept ≡ true) (sym e) kept.0
AreKept-map rule (y ∷ ys) kept x (inr later) = AreKept-map rule ys kept.1 x later

-- what the rules of a send say
pub record IsSendLegal (cl : Cluster) (f t : Actor) (refs : List Actor) (p : List Event) : Type 0 where
  pub born : (a : Actor) → IsAmong a (f ∷ t ∷ refs) → IsTrue (is_born a p)
  pub up : IsTrue (is_up f.node p)
  pub busy : IsTrue (is_busy f p)
  pub holds : (a : Actor) → IsAmong a (t ∷ refs) → 0 < held cl f a p

pub legal-send : (cl : Cluster) (f t : Actor) (refs : List Actor) (p : List Event) → IsLegal cl (Send f t refs ∷ p) → IsSendLegal cl f t refs p
legal-send cl f t refs p legal =
    let rules : List Check = node_up f.node p ∷ check Idle (is_busy f p) ∷ held_all cl f (t ∷ refs) p in
    let both = AreKept-append (born_all (f ∷ t ∷ refs) p) rules (legal-kept cl (Send f t refs) p legal) in
    record {
      born = AreKept-map (λ a. check NoActor (is_born a p)) (f ∷ t ∷ refs) both.0;
      up = both.1.0;
      busy = both.1.1.0;
      holds = λ a among. (Decides-ltb 0 (held cl f a p)).0 (AreKept-map (λ x. check NotHeld (nat_lt 0 (held cl f x p))) (t ∷ refs) both.1.1.1 a among);
    }

-- ---- mail

-- a message waits where a take is allowed
pub some_waits : (xs : List Message) → not (has_nothing xs) ≡ true → (m : Message) × (ms : List Message) × (xs ≡ m ∷ ms)
some_waits [] t = absurd (false≢true t)
some_waits (m ∷ ms) t = (m, ms, refl)

-- what waits for an actor on a node that is up is live
pub waiting-live : (h : List Event) (b : Actor) → IsTrue (is_up b.node h) → (x : Message) → IsAmong x (waiting b h) → IsLive h x × (x.to ≡ b)
waiting-live h b up x waits =
    let to = (mail-among b h x (waiting-among b h x waits)).1 in
    let Waits : Actor → Type 0 = λ a. IsTrue (is_up a.node h) × IsAmong x (waiting a h) in
    let there = subst Waits (sym to) (up, waits) in
    ((there.0, inl there.1), to)

-- ---- rest

-- born, idle and no root
abbrev pub IsAtRest : Actor → List Event → Type 0
IsAtRest a p = IsTrue (is_born a p) × IsFalse (is_busy a p) × IsFalse (is_root a p)

-- no root can wake, and without a message none can take
stays-idle : (cl : Cluster) (e : Event) (p : List Event) → IsLegal cl (e ∷ p) → (a : Actor) → IsAtRest a p → (IsTrue (is_up a.node p) → (m : Message) → ¬ IsAmong m (waiting a p))
    → IsFalse (is_busy a (e ∷ p))
stays-idle cl (Wake b) p legal a rest none =
    let root : is_root b p ≡ true = (legal-kept cl (Wake b) p legal).1.1.0 in
    cond_both (same_actor b a) true (is_busy a p) (λ v. v ≡ false)
    (λ same. absurd (false≢true (sym rest.2 ∙ subst (λ c. is_root c p ≡ true) (same_actor-equal b a same) root)))
    (λ _. rest.1)
stays-idle cl (Take b) p legal a rest none =
    let kept = legal-kept cl (Take b) p legal in
    let some = some_waits (waiting b p) kept.1.1.1.0 in
    let first : IsAmong some.0 (waiting b p) = subst (IsAmong some.0) (sym some.2) (inl refl) in
    let Waits : Actor → Type 0 = λ c. IsTrue (is_up c.node p) × IsAmong some.0 (waiting c p) in
    cond_both (same_actor b a) true (is_busy a p) (λ v. v ≡ false)
    (λ same. (let waits = subst Waits (same_actor-equal b a same) (kept.1.0, first) in absurd (none waits.0 some.0 waits.1)))
    (λ _. rest.1)
stays-idle cl (Rest b) p legal a rest none =
    cond_both (same_actor b a) false (is_busy a p) (λ v. v ≡ false) (λ _. refl) (λ _. rest.1)
stays-idle cl _ p legal a rest none = rest.1

-- a birth makes no born actor a root
stays-no_root : (e : Event) (p : List Event) (a : Actor) → IsAtRest a p → IsFalse (is_root a (e ∷ p))
stays-no_root (Seed n) p a rest =
    cond_both (same_actor (newborn n p) a) true (is_root a p) (λ v. v ≡ false)
    (λ same. absurd (false≢true (sym (newborn-not_born n p) ∙ subst (λ b. is_born b p ≡ true) (sym (same_actor-equal (newborn n p) a same)) rest.0)))
    (λ _. rest.2)
stays-no_root (Retire b) p a rest =
    cond_both (same_actor b a) false (is_root a p) (λ v. v ≡ false) (λ _. refl) (λ _. rest.2)
stays-no_root _ p a rest = rest.2

-- who is at rest stays so after the next event, where no message waits for it
pub stays-at_rest : (cl : Cluster) (e : Event) (p : List Event) → IsLegal cl (e ∷ p) → (a : Actor) → IsAtRest a p → (IsTrue (is_up a.node p) → (m : Message) → ¬ IsAmong m (waiting a p))
    → IsAtRest a (e ∷ p)
stays-at_rest cl e p legal a rest none =
    (born-grows a (e ∷ []) p rest.0, stays-idle cl e p legal a rest none, stays-no_root e p a rest)
