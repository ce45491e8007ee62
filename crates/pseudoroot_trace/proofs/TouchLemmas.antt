-- More places are touched, one after another.
use Rattle.std.proofs.Common.{◌≡◌, ◌⊎◌, ◌+◌, ◌<◌, ◌≤◌, ◌++◌, ◌||◌, ℕ, Bool, true, false, cond, List, [], ◌∷◌, get_or, length, take, refl, sym, ◌∙◌, ap, subst, inl, inr}
use Rattle.std.proofs.Math.ListN.{set}
use Rattle.std.proofs.lemmas.Bool.{cases_eq, false≢true}
use Rattle.std.proofs.lemmas.List.{take_more}
use Rattle.std.specs.List.{AllByRecursion, list_any}
use Rattle.crgc_ids.specs.Actor.{Actor, same_actor}
use Rattle.crgc_ids.proofs.ActorLaws.{same_actor-decides}
use Rattle.crgc_ids.specs.Nodes.{has_node}
use Rattle.history_model.specs.declared.records.Bulletin.{Bulletin}
use Rattle.history_model.specs.declared.records.Bulletin.TheVariants as bulletins
use Rattle.history_model.specs.declared.records.Delta.{Delta}
use Rattle.history_model.specs.declared.records.Window.{Window}
use Rattle.history_model.specs.Ledgers.{Ledger, delta_ledger, no_rows, window_ledger}
use Rattle.kept_marks.specs.Kept.{Kept}
use Rattle.kept_marks.specs.PlaceSet.{has_place}
use Rattle.kept_marks.proofs.StepLemmas.{in-other}
use Rattle.shadow_rows.specs.Touched.{is_touched}
use Rattle.shadow_table.specs.Shadows.{place_in}
use Rattle.shadow_graph.specs.Graph.{Graph}
use Rattle.shadow_graph.specs.Taken.{touches}
use Rattle.pseudoroot_trace.specs.Traced.{IsLookedAt, TouchesMore}

pub touches-none : (places : ℕ) (k : Kept) → TouchesMore places k k
touches-none places k = record { supports = refl; queued = refl; fallen = refl; touched = λ a t. t; within = λ a t. inl t }

pub touches-more : (places : ℕ) (k l m : Kept) → TouchesMore places k l → TouchesMore places l m → TouchesMore places k m
touches-more places k l m first then_ = record {
  supports = then_.supports ∙ first.supports;
  queued = then_.queued ∙ first.queued;
  fallen = then_.fallen ∙ first.fallen;
  touched = λ a t. then_.touched a (first.touched a t);
  within = λ a t. elim (then_.within a t) [ inl before ↦ first.within a before | inr inside ↦ inr inside ];
}

-- one place is touched
pub touches-one : (places p : ℕ) (k k' : Kept) → p < places → has_place k'.touched p ≡ true → k' ≡ record k { touched = set k.touched p true }
    → TouchesMore places k k'
touches-one places p k k' inside there is =
    let flags : k'.touched ≡ set k.touched p true = ap (λ (x : Kept). x.touched) is in
    record {
      supports = ap (λ (x : Kept). x.supports) is;
      queued = ap (λ (x : Kept). x.queued) is;
      fallen = ap (λ (x : Kept). x.fallen) is;
      touched = λ a t. elim (cases_eq a p) [
        | inl same ↦ ap (has_place k'.touched) same ∙ there
        | inr other ↦ in-other k.touched k'.touched p a true flags other ∙ t
      ];
      within = λ a t. elim (cases_eq a p) [
        | inl same ↦ inr (subst (λ q. q < places) (sym same) inside)
        | inr other ↦ inl (sym (in-other k.touched k'.touched p a true flags other) ∙ t)
      ];
    }

-- whom the next sweep looks at, it does where more is touched
pub looked-more : (g : Graph) (places : ℕ) (k k' : Kept) (a : Actor) → TouchesMore places k k' → IsLookedAt g places k a → IsLookedAt g places k' a
looked-more g places k k' a touched looked = λ named inside. touched.touched (place_in g.shadows.names a) (looked named inside)

module _ {X : Type 0} (actor : X → Actor) (g : Graph) (places : ℕ) where
  -- the next sweep looks at the actors of all rows
  abbrev pub AllLooked : Kept → List X → Type 0
  AllLooked k rows = AllByRecursion (λ r. IsLookedAt g places k (actor r)) rows

  all-more : (k k' : Kept) (rows : List X) → TouchesMore places k k' → AllLooked k rows → AllLooked k' rows
  all-more k k' [] touched all = tt
  all-more k k' (r ∷ rows) touched all = (looked-more g places k k' (actor r) touched all.0, all-more k k' rows touched all.1)

  all-push : (k : Kept) (rows : List X) (r : X) → AllLooked k rows → IsLookedAt g places k (actor r) → AllLooked k (rows ++ r ∷ [])
  all-push k [] r all one = (one, tt)
  all-push k (x ∷ rows) r all one = (all.0, all-push k rows r all.1 one)

  -- the next row's actor is touched too
  pub looked-next : (first k k' : Kept) (rows : List X) (i : ℕ) (r : X) → i < length rows → r ≡ get_or rows i r
      → TouchesMore places first k × AllLooked k (take i rows) → TouchesMore places k k' → IsLookedAt g places k' (actor r)
      → TouchesMore places first k' × AllLooked k' (take (i + 1) rows)
  looked-next first k k' rows i r less is so_far touched one =
      let next : take (i + 1) rows ≡ take i rows ++ r ∷ [] = take_more rows i r less ∙ ap (λ x. take i rows ++ x ∷ []) (sym is) in (
        touches-more places first k k' so_far.0 touched,
        subst (AllLooked k') (sym next) (all-push k' (take i rows) r (all-more k k' (take i rows) touched so_far.1) one),
      )

  -- an actor of one of the rows
  pub looked-any : (k : Kept) (rows : List X) (a : Actor) → AllLooked k rows → list_any (λ r. same_actor a (actor r)) rows ≡ true → IsLookedAt g places k a
  looked-any k [] a all t = absurd (false≢true t)
  looked-any k (r ∷ rows) a all t =
      let Goal : Bool → Type 0 = λ v. same_actor a (actor r) ≡ v → (v || list_any (λ x. same_actor a (actor x)) rows) ≡ true → IsLookedAt g places k a in
      let goal : Goal (same_actor a (actor r)) = elim (same_actor a (actor r)) as Goal [
        | true ↦ λ same _. subst (IsLookedAt g places k) (sym ((same_actor-decides a (actor r)).0 same)) all.0
        | false ↦ λ _ later. looked-any k rows a all.1 later
      ] in
      goal refl t

or-cases : (a b : Bool) → (a || b) ≡ true → (a ≡ true) ⊎ (b ≡ true)
or-cases true b t = inl refl
or-cases false b t = inr t

-- whom the rows of a ledger touch, it looks at
pub looked-ledger : (g : Graph) (places : ℕ) (k : Kept) (l : Ledger) → AllLooked (λ r. r.actor) g places k l.states
    → AllLooked (λ r. r.actor) g places k l.sent → AllLooked (λ r. r.target) g places k l.created
    → AllLooked (λ r. r.target) g places k l.released → (a : Actor) → is_touched l a ≡ true → IsLookedAt g places k a
looked-ledger g places k l states sent created released a t =
    elim (or-cases (list_any (λ r. same_actor a r.actor) l.states) _ t) [
      | inl hit ↦ looked-any (λ r. r.actor) g places k l.states a states hit
      | inr more ↦ elim (or-cases (list_any (λ r. same_actor a r.actor) l.sent) _ more) [
        | inl hit ↦ looked-any (λ r. r.actor) g places k l.sent a sent hit
        | inr rest ↦ elim (or-cases (list_any (λ r. same_actor a r.target) l.created) _ rest) [
          | inl hit ↦ looked-any (λ r. r.target) g places k l.created a created hit
          | inr hit ↦ looked-any (λ r. r.target) g places k l.released a released hit
        ]
      ]
    ]

pub looked-all : {X : Type 0} (actor : X → Actor) (g : Graph) (places : ℕ) (k k' : Kept) (rows : List X) → TouchesMore places k k'
    → AllLooked actor g places k rows → AllLooked actor g places k' rows
looked-all actor g places k k' rows touched all = all-more actor g places k k' rows touched all

-- room stays
pub room-stays : (places n : ℕ) (k k' : Kept) → TouchesMore places k k' → n ≤ length k.supports → n ≤ length k'.supports
room-stays places n k k' touched room = subst (λ s. n ≤ length s) (sym touched.supports) room

-- ---- the rows of a bulletin

none-more : (b : Bool) → (b || false) ≡ true → b ≡ true
none-more true t = refl
none-more false t = t

-- rows that count where a test says so
rows-if : (v : Bool) (l : Ledger) (a : Actor) → is_touched (cond v l no_rows) a ≡ true → (v ≡ true) × (is_touched l a ≡ true)
rows-if true l a t = (refl, t)
rows-if false l a t = absurd (false≢true t)

pub rows-delta : (lost : List ℕ) (b : Bulletin) (d : Delta) (a : Actor) → b ≡ bulletins.Delta d → touches lost b a ≡ true → is_touched (delta_ledger d) a ≡ true
rows-delta lost b d a is t = none-more (is_touched (delta_ledger d) a) ((λ i. touches lost (sym is i) a) ∙ t)

pub rows-window : (lost : List ℕ) (b : Bulletin) (w : Window) (a : Actor) → b ≡ bulletins.Window w → touches lost b a ≡ true
    → (has_node lost w.from ≡ true) × (is_touched (window_ledger w) a ≡ true)
rows-window lost b w a is t = rows-if (has_node lost w.from) (window_ledger w) a ((λ i. touches lost (sym is i) a) ∙ t)

pub rows-final : (lost : List ℕ) (b : Bulletin) (w : Window) (a : Actor) → b ≡ bulletins.Final w → touches lost b a ≡ true
    → (has_node lost w.from ≡ true) × (is_touched (window_ledger w) a ≡ true)
rows-final lost b w a is t = rows-if (has_node lost w.from) (window_ledger w) a ((λ i. touches lost (sym is i) a) ∙ t)
