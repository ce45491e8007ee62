-- What happens to a copy on a link: it is legal exactly where the link is open and has the copy.
use Rattle.std.proofs.Common.{◌≡◌, ◌≢◌, ◌<◌, ◌&&◌, ℕ, true, false, not, nat_lt, List, [], ◌∷◌, ◌++◌, None, refl, sym, ◌∙◌, ap, if◌then◌else◌}
use Rattle.std.specs.List.{list_any}
use Rattle.std.proofs.lemmas.Bool.{and_parts, eq-eqb, false≢true, lt-ltb, ltb-true, ne_eqb}
use Rattle.history_model.specs.declared.events.Event.{Event}
use Rattle.history_model.specs.declared.events.Event.TheVariants.{Admit, Lose, Repeat}
use Rattle.history_model.specs.declared.events.Rule.TheVariants.{NotOnLink}
use Rattle.history_model.specs.Cluster.{Cluster}
use Rattle.history_model.specs.Legal.{Check, check, checks, first_broken, link_checks, refusal}
use Rattle.history_model.specs.Messages.{copies, is_closed, is_lose, is_repeat}
use Rattle.history_model.specs.State.{is_up}
use Rattle.history_model.proofs.Basics.{AreKept, first_broken-none}
use Rattle.fault_plan.specs.Rows.{Planned}
use Rattle.script_reader.specs.Valid.{Scripted}
use Rattle.run_model.specs.Doing.{cluster_of}
use Rattle.run_model.specs.Planned.{carry, has_row, is_possible}
use Rattle.run_model.proofs.ActsLegal.{none-broken}
use Rattle.run_model.proofs.Possible.{no-rule}

-- a copy of the number is on the open link
abbrev pub IsThere : ℕ → ℕ → List Event → ℕ → Type 0
IsThere f d h k = ((is_up d h && not (is_closed f d h)) ≡ true) × (0 < copies f d k h)

-- the rules of a copy on a link are kept
abbrev LinkChecks : Cluster → ℕ → ℕ → ℕ → List Event → List Check
LinkChecks cl f d k h = link_checks cl f d h ++ check NotOnLink (nat_lt 0 (copies f d k h)) ∷ []

-- what happens to a copy has these rules, whatever the plan says
carry-rules : (s : Scripted) (f d k : ℕ) (h g : List Event) → checks (cluster_of s) (carry s f d k g) h ≡ LinkChecks (cluster_of s) f d k h
carry-rules s f d k h g =
    let plan : Planned = s.plan in
    let repeats = has_row f d k plan.repeats && not (list_any (is_repeat f d k) g) in
    let loses = has_row f d k plan.losses && not (list_any (is_lose f d k) g) in
    elim repeats as (λ v. checks (cluster_of s) (if v then Repeat f d k else if loses then Lose f d k else Admit f d k) h ≡ LinkChecks (cluster_of s) f d k h) [
      | true ↦ refl
      | false ↦ elim loses as (λ v. checks (cluster_of s) (if v then Lose f d k else Admit f d k) h ≡ LinkChecks (cluster_of s) f d k h) [ true ↦ refl | false ↦ refl ]
    ]

-- on an open link between two nodes each copy may be carried
pub carry-legal : (s : Scripted) (f d k : ℕ) (h : List Event) → f < s.nodes → d < s.nodes → f ≢ d → IsThere f d h k → refusal (cluster_of s) (carry s f d k h) h ≡ None
carry-legal s f d k h source at apart (opened, some) =
    let both = and_parts (is_up d h) (not (is_closed f d h)) opened in
    let kept : AreKept (LinkChecks (cluster_of s) f d k h) =
    (lt-ltb f s.nodes source, (lt-ltb d s.nodes at, (ap not (ne_eqb f d apart), (both.0, (both.1, (lt-ltb 0 (copies f d k h) some, tt)))))) in
    ap first_broken (carry-rules s f d k h h) ∙ none-broken (LinkChecks (cluster_of s) f d k h) kept

-- and what may be carried is on an open link between two nodes
pub carry-open : (s : Scripted) (f d k : ℕ) (h : List Event) → is_possible s (carry s f d k h) h ≡ true → (f ≢ d) × IsThere f d h k
carry-open s f d k h possible =
    let none : first_broken (LinkChecks (cluster_of s) f d k h) ≡ None = sym (ap first_broken (carry-rules s f d k h h)) ∙ no-rule (refusal (cluster_of s) (carry s f d k h) h) possible in
    let kept = first_broken-none (LinkChecks (cluster_of s) f d k h) none in
    (λ same. false≢true (sym (ap not (eq-eqb f d same)) ∙ kept.1.1.0), (rw (kept.1.1.1.0, kept.1.1.1.1.0) refl, ltb-true 0 (copies f d k h) kept.1.1.1.1.1.0))
