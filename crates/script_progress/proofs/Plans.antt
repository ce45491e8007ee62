-- What a loss or a repeat uses of a plan.
use Rattle.std.proofs.Common.{◌≡◌, ◌&&◌, ◌||◌, ◌==◌, ℕ, Bool, true, false, not, List, ◌∷◌, refl, sym, ◌∙◌, ap}
use Rattle.std.specs.List.{filter, list_any}
use Rattle.std.proofs.lemmas.Map.Views.{any-filter_same}
use Rattle.history_model.specs.declared.events.Event.{Event}
use Rattle.history_model.specs.declared.events.Event.TheVariants.{Lose, Repeat}
use Rattle.history_model.specs.Messages.{is_lose, is_repeat}
use Rattle.fault_plan.specs.Rows.{Planned, link_row, same_row}
use Rattle.fault_plan.specs.declared.links.LinkRow.{LinkRow}
use Rattle.fault_plan.proofs.IndexLemmas.{same_row-eq}
use Rattle.script_reader.specs.Valid.{Scripted}
use Rattle.run_model.specs.Planned.{has_row}
use Rattle.script_progress.specs.Standing.{IsPlanAt}

-- the rows without one
abbrev pub less : ℕ → ℕ → ℕ → List LinkRow → List LinkRow
less f d k rows = filter (λ r. not (same_row (link_row f d k) r)) rows

-- they have each row but that one
has-less : (x y n f d k : ℕ) (rows : List LinkRow) → has_row x y n (less f d k rows) ≡ (not (same_row (link_row f d k) (link_row x y n)) && has_row x y n rows)
has-less x y n f d k rows =
    any-filter_same (same_row (link_row x y n)) (λ r. not (same_row (link_row f d k) r)) (not (same_row (link_row f d k) (link_row x y n)))
    (λ r found. ap (λ t. not (same_row (link_row f d k) t)) (sym (same_row-eq (link_row x y n) r found))) rows

used : (a b c all before : Bool) → (not ((a && b) && c) && (all && not before)) ≡ (all && not ((a && (b && c)) || before))
used true true true true before = refl
used true true true false before = refl
used true true false all before = refl
used true false c all before = refl
used false b c all before = refl

module _ (s : Scripted) (h : List Event) (f d k : ℕ) (plan : Planned) (stands : IsPlanAt s h plan) where
  pub plan-loses : IsPlanAt s (Lose f d k ∷ h) (record plan { losses = less f d k plan.losses })
  plan-loses = record {
    losses = λ x y n.
        (let all : Planned = s.plan in
        has-less x y n f d k plan.losses ∙ ap (λ v. not (same_row (link_row f d k) (link_row x y n)) && v) (stands.losses x y n)
        ∙ used (f == x) (d == y) (k == n) (has_row x y n all.losses) (list_any (is_lose x y n) h));
    repeats = stands.repeats;
    crashes = stands.crashes;
  }

  pub plan-repeats : IsPlanAt s (Repeat f d k ∷ h) (record plan { repeats = less f d k plan.repeats })
  plan-repeats = record {
    losses = stands.losses;
    repeats = λ x y n.
        (let all : Planned = s.plan in
        has-less x y n f d k plan.repeats ∙ ap (λ v. not (same_row (link_row f d k) (link_row x y n)) && v) (stands.repeats x y n)
        ∙ used (f == x) (d == y) (k == n) (has_row x y n all.repeats) (list_any (is_repeat x y n) h));
    crashes = stands.crashes;
  }
