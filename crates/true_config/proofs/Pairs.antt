-- Two events at once: what hinders the second after the first.
use Rattle.std.proofs.Common.{◌≡◌, ◌≤◌, ◌<◌, ◌∷◌, ◌++◌, not, Bool, true, false, cond, List, [], length, Option, Some, None, IfNone, IfSome, ℕ, refl, sym, ◌∙◌, ap, subst, arith}
use Rattle.std.specs.Prelude.{nat_le, nat_lt, unwrap_or}
use Rattle.std.specs.Option.{option_or}
use Rattle.std.proofs.lemmas.Bool.{le-leb, lt-leb, lt-ltb}
use Rattle.crgc_ids.specs.Actor.{Actor}
use Rattle.crgc_ids.specs.declared.Which.{Which}
use Rattle.crgc_ids.specs.declared.Which.TheVariants.{Delta, Events}
use Rattle.history_model.specs.declared.events.Event.{Event}
use Rattle.history_model.specs.declared.events.Event.TheVariants.{Crash, Flush, Publish, Rest}
use Rattle.history_model.specs.declared.events.Rule.{Rule}
use Rattle.history_model.specs.declared.events.Rule.TheVariants.{Down, EmptyQueue, NoNode}
use Rattle.history_model.specs.Cluster.{Cluster}
use Rattle.history_model.specs.Facts.{Fact, flagged}
use Rattle.history_model.specs.Legal.{IsLegal, check, checks, first_broken, refusal}
use Rattle.history_model.specs.State.{is_up}
use Rattle.history_model.specs.Story.{Story}
use Rattle.history_model.specs.Streams.{entry, flags_at, is_blank, log, queue}
use Rattle.history_model.proofs.AccountsBirths.{born-on_node}
use Rattle.history_model.proofs.Basics.{eqb-refl, first_broken-none}
use Rattle.journal_model.specs.Limits.{limit_passed, passes_delta}
use Rattle.true_config.specs.Applying.{after, answer_to, hindered, hindrance, told_of}
use Rattle.true_config.specs.Steps.{MayFollow}
use Rattle.true_config.specs.declared.applied.Applied.{Applied}
use Rattle.true_config.specs.declared.applied.Applied.TheVariants.{Done, Limit}
use Rattle.true_config.specs.declared.applied.Told.TheVariants.{Plain}

-- what hinders the first is the answer to both
pub first-hinders : (x y : Option Applied) (z : Applied) → Some z ≡ x → z ≡ unwrap_or (option_or x y) (Done Plain)
first-hinders x y z is = subst (λ o. z ≡ unwrap_or (option_or o y) (Done Plain)) is refl

-- else what hinders the second
pub second-hinders : (x y : Option Applied) (z : Applied) → None ≡ x → y ≡ Some z → z ≡ unwrap_or (option_or x y) (Done Plain)
second-hinders x y z free is =
    subst (λ o. z ≡ unwrap_or (option_or o y) (Done Plain)) free (subst (λ o. z ≡ unwrap_or o (Done Plain)) (sym is) refl)

pub none-hinders : (x y : Option Applied) → None ≡ x → y ≡ None → Done Plain ≡ unwrap_or (option_or x y) (Done Plain)
none-hinders x y free is =
    subst (λ o. Done Plain ≡ unwrap_or (option_or o y) (Done Plain)) free (subst (λ o. Done Plain ≡ unwrap_or o (Done Plain)) (sym is) refl)

two-kept : (r q : Rule) (x y : Bool) → x ≡ true → y ≡ true → first_broken (check r x ∷ check q y ∷ []) ≡ None
two-kept r q x y first second =
    subst (λ v. cond v (cond y None (Some q)) (Some r) ≡ None) (sym first) (subst (λ v. cond v None (Some q) ≡ None) (sym second) refl)

-- after an actor rests its node may crash
pub crash-legal : (cl : Cluster) (h : List Event) (a : Actor) → IsLegal cl h → refusal cl (Rest a) h ≡ None → refusal cl (Crash a.node) (Rest a ∷ h) ≡ None
crash-legal cl h a legal may =
    let kept = first_broken-none (checks cl (Rest a) h) may in
    two-kept NoNode Down (nat_lt a.node cl.nodes) (is_up a.node (Rest a ∷ h)) (lt-ltb a.node cl.nodes (born-on_node cl h legal a kept.0)) kept.1.0

-- so only the number of events can hinder that
pub crash-hindered : (cl : Cluster) (h : List Event) (a : Actor) → IsLegal cl h → refusal cl (Rest a) h ≡ None → 999999 ≤ length h → hindrance cl (Crash a.node) (Rest a ∷ h) ≡ hindered None (Some Events)
crash-hindered cl h a legal may full =
    let over : nat_le 1000000 (length (Rest a ∷ h)) ≡ true = le-leb 1000000 (length (Rest a ∷ h)) (omega arith) in
    ap (λ r. hindered r (limit_passed cl (Crash a.node) (Rest a ∷ h))) (crash-legal cl h a legal may)
    ∙ ap (λ v. hindered None (cond v (Some Events) None)) over

pub crash-free : (cl : Cluster) (h : List Event) (a : Actor) → IsLegal cl h → refusal cl (Rest a) h ≡ None → length h < 999999 → hindrance cl (Crash a.node) (Rest a ∷ h) ≡ None
crash-free cl h a legal may room =
    let under = lt-leb 1000000 (length (Rest a ∷ h)) (omega arith) in
    ap (λ r. hindered r (limit_passed cl (Crash a.node) (Rest a ∷ h))) (crash-legal cl h a legal may)
    ∙ ap (λ v. hindered None (cond v (Some Events) None)) under

-- where nothing hinders the first, the answer to both is that to the second
pub second-answers : (x y : Option Applied) (z : Applied) → None ≡ x → z ≡ unwrap_or y (Done Plain) → z ≡ unwrap_or (option_or x y) (Done Plain)
second-answers x y z free is = subst (λ o. z ≡ unwrap_or (option_or o y) (Done Plain)) free is

three-kept : (r q t : Rule) (x y z : Bool) → x ≡ true → y ≡ true → z ≡ true → first_broken (check r x ∷ check q y ∷ check t z ∷ []) ≡ None
three-kept r q t x y z first second third =
    subst (λ v. cond v (first_broken (check q y ∷ check t z ∷ [])) (Some r) ≡ None) (sym first) (two-kept q t y z second third)

some-appended : (xs : List Fact) (f : Fact) (ys : List Fact) → not (is_blank (xs ++ f ∷ ys)) ≡ true
some-appended [] f ys = refl
some-appended (x ∷ xs) f ys = refl

some-queued : (cl : Cluster) (h : List Event) (a : Actor) → not (is_blank (queue cl a.node (Flush a ∷ h))) ≡ true
some-queued cl h a =
    let q = queue cl a.node h in
    subst (λ v. not (is_blank (cond v (q ++ entry cl a h) q)) ≡ true) (sym (eqb-refl a.node)) (some-appended q (flagged a (flags_at a h)) (log cl a h))

-- after an actor's flush its node may publish
pub publish-legal : (cl : Cluster) (h : List Event) (a : Actor) → IsLegal cl h → refusal cl (Flush a) h ≡ None → refusal cl (Publish a.node) (Flush a ∷ h) ≡ None
publish-legal cl h a legal may =
    let kept = first_broken-none (checks cl (Flush a) h) may in
    three-kept NoNode Down EmptyQueue (nat_lt a.node cl.nodes) (is_up a.node (Flush a ∷ h)) (not (is_blank (queue cl a.node (Flush a ∷ h))))
    (lt-ltb a.node cl.nodes (born-on_node cl h legal a kept.0)) kept.1.0 (some-queued cl h a)

-- the answer to a legal event, by the limit that it would pass
pub limit-answer : (cl : Cluster) (e : Event) (h : List Event) (which : Which) → refusal cl e h ≡ None → Some which ≡ limit_passed cl e h → Limit which ≡ answer_to cl e h
limit-answer cl e h which legal is =
    subst (λ r. Limit which ≡ unwrap_or (hindered r (limit_passed cl e h)) (Done (told_of e h))) (sym legal)
    (subst (λ w. Limit which ≡ unwrap_or (hindered None w) (Done (told_of e h))) is refl)

pub done-answer : (cl : Cluster) (e : Event) (h : List Event) → refusal cl e h ≡ None → None ≡ limit_passed cl e h → Done (told_of e h) ≡ answer_to cl e h
done-answer cl e h legal is =
    subst (λ r. Done (told_of e h) ≡ unwrap_or (hindered r (limit_passed cl e h)) (Done (told_of e h))) (sym legal)
    (subst (λ w. Done (told_of e h) ≡ unwrap_or (hindered None w) (Done (told_of e h))) is refl)

-- the limits of a publish
pub publish-over : (cl : Cluster) (h : List Event) (n : ℕ) → passes_delta cl (Publish n) h ≡ true → Some Delta ≡ limit_passed cl (Publish n) h
publish-over cl h n over = subst (λ v. Some Delta ≡ cond v (Some Delta) (cond (nat_le 1000000 (length h)) (Some Events) None)) (sym over) refl

pub publish-full : (cl : Cluster) (h : List Event) (n : ℕ) → passes_delta cl (Publish n) h ≡ false → 1000000 ≤ length h → Some Events ≡ limit_passed cl (Publish n) h
publish-full cl h n over full =
    let events = le-leb 1000000 (length h) full in
    subst (λ v. Some Events ≡ cond v (Some Delta) (cond (nat_le 1000000 (length h)) (Some Events) None)) (sym over)
    (subst (λ v. Some Events ≡ cond v (Some Events) None) (sym events) refl)

pub publish-free : (cl : Cluster) (h : List Event) (n : ℕ) → passes_delta cl (Publish n) h ≡ false → length h < 1000000 → None ≡ limit_passed cl (Publish n) h
publish-free cl h n over room =
    let events = lt-leb 1000000 (length h) room in
    subst (λ v. None ≡ cond v (Some Delta) (cond (nat_le 1000000 (length h)) (Some Events) None)) (sym over)
    (subst (λ v. None ≡ cond v (Some Events) None) (sym events) refl)

-- the publish may follow the flush where it passes no limit
pub publish-may : (s : Story) (a : Actor) → IsLegal s.cluster s.past → MayFollow (Flush a) s → None ≡ limit_passed s.cluster (Publish a.node) (Flush a ∷ s.past) → MayFollow (Publish a.node) (after (Flush a) s)
publish-may s a legal may none = record { legal = publish-legal s.cluster s.past a legal may.legal; limit = sym none }

-- what holds of an answer that is None, and of one that is not
pub where-none : {A : Type 0} (x : Option A) (P : Type 0) → x ≡ None → IfNone x P → P
where-none x P is holds = subst (λ o. IfNone o P) is holds

pub where-some : {A : Type 0} (x : Option A) (w : A) (P : Type 0) → x ≡ Some w → IfSome x (λ _. P) → P
where-some x w P is holds = subst (λ o. IfSome o (λ _. P)) is holds
