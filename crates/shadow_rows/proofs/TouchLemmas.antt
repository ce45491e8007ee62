-- Rows leave as it was whatever they do not touch.
use Rattle.std.proofs.Common.{◌≡◌, ◌==◌, ◌+◌, ◌&&◌, ◌||◌, ℕ, Bool, true, false, cond, List, [], ◌∷◌, Option, Some, None, refl, sym, ◌∙◌, ap, arith}
use Rattle.std.proofs.lemmas.Bool.{false≢true}
use Rattle.std.proofs.lemmas.Int.{ints}
use Rattle.std.proofs.lemmas.List.Sums.{sum_by-cons}
use Rattle.std.specs.List.{list_any, sum_by}
use Rattle.std.specs.Option.{option_or, unwrap_or}
use Rattle.crgc_ids.specs.Actor.{Actor, same_actor}
use Rattle.crgc_ids.specs.declared.rising.PairCount.{PairCount}
use Rattle.history_model.specs.declared.records.StateRow.{StateRow}
use Rattle.history_model.specs.Ledgers.{Ledger, actor_total, pair_total, received_total, row_flags, state_flags}
use Rattle.edge_table.specs.Table.{Edges}
use Rattle.shadow_table.specs.Shadows.{Shadows, flag_pair, shadow_at}
use Rattle.shadow_rows.specs.Rows.{AddsRows, counted_shadow}
use Rattle.shadow_rows.specs.Touched.{LeavesActor, is_touched}

pub or-parts : (a b : Bool) → (a || b) ≡ false → (a ≡ false) × (b ≡ false)
or-parts true b e = absurd (false≢true (sym e))
or-parts false b e = (refl, e)

-- where no row passes the test, those that do count nothing
total-none : {X : Type 0} (test : X → Bool) (count : X → ℕ) (xs : List X) → list_any test xs ≡ false → sum_by (λ x. cond (test x) (count x) 0) xs ≡ 0
total-none test count [] e = refl
total-none test count (x ∷ xs) e =
    let parts = or-parts (test x) (list_any test xs) e in
    let here : cond (test x) (count x) 0 ≡ 0 = ap (λ v. cond v (count x) 0) parts.0 in
    let later = total-none test count xs parts.1 in
    sum_by-cons (λ y. cond (test y) (count y) 0) x xs ∙ (λ i. here i + later i)

-- a test that asks more passes less
any-less : {X : Type 0} (also test : X → Bool) (xs : List X) → list_any test xs ≡ false → list_any (λ x. also x && test x) xs ≡ false
any-less also test [] e = refl
any-less also test (x ∷ xs) e =
    let parts = or-parts (test x) (list_any test xs) e in
    let later = any-less also test xs parts.1 in
    (λ i. (also x && parts.0 i) || later i) ∙ ap (λ v. v || false) (and-false (also x))
  where
    and-false : (b : Bool) → (b && false) ≡ false
    and-false true = refl
    and-false false = refl

flags-none : (a : Actor) (rows : List StateRow) → list_any (λ r. same_actor a r.actor) rows ≡ false → row_flags a rows ≡ None
flags-none a [] e = refl
flags-none a (r ∷ rest) e =
    let parts = or-parts (same_actor a r.actor) (list_any (λ s. same_actor a s.actor) rest) e in
    ap (λ v. cond v (Some (unwrap_or (row_flags a rest) (state_flags r))) (row_flags a rest)) parts.0 ∙ flags-none a rest parts.1

-- no row of the actor
pub record IsUntouched (l : Ledger) (a : Actor) : Type 0 where
  pub states : list_any (λ r. same_actor a r.actor) l.states ≡ false
  pub sent : list_any (λ r. same_actor a r.actor) l.sent ≡ false
  pub created : list_any (λ r. same_actor a r.target) l.created ≡ false
  pub released : list_any (λ r. same_actor a r.target) l.released ≡ false

pub untouched-parts : (l : Ledger) (a : Actor) → is_touched l a ≡ false → IsUntouched l a
untouched-parts l a e =
    let first = or-parts (list_any (λ r. same_actor a r.actor) l.states) _ e in
    let second = or-parts (list_any (λ r. same_actor a r.actor) l.sent) _ first.1 in
    let third = or-parts (list_any (λ r. same_actor a r.target) l.created) (list_any (λ r. same_actor a r.target) l.released) second.1 in
    record { states = first.0; sent = second.0; created = third.0; released = third.1 }

pair-none : (b a : Actor) (rows : List PairCount) → list_any (λ r. same_actor a r.target) rows ≡ false → pair_total b a rows ≡ 0
pair-none b a rows e =
    total-none (λ r. same_actor b r.owner && same_actor a r.target) (λ r. r.count) rows (any-less (λ r. same_actor b r.owner) (λ r. same_actor a r.target) rows e)

flags-kept : (own : Bool) (f g : Option (Bool × Bool)) → f ≡ None → cond own (option_or f g) g ≡ g
flags-kept true f g e = ap (λ x. option_or x g) e
flags-kept false f g e = refl

nothing-told : (counts : Bool) (n : ℕ) → n ≡ 0 → cond counts n 0 ≡ 0
nothing-told true n e = e
nothing-told false n e = refl

more-none : (n m : ℕ) → m ≡ 0 → n + m ≡ n
more-none n m e = omega (arith, e)

pub leaves-untouched : (node : ℕ) (counts : Bool) (own link : Ledger) (s t : Shadows) (d e : Edges) (a : Actor) → is_touched own a ≡ false → is_touched link a ≡ false → AddsRows node counts own link s t d e → LeavesActor s t d e a
leaves-untouched node counts own link s t d e a no_own no_link adds =
    let mine = untouched-parts own a no_own in
    let other = untouched-parts link a no_link in
    let x = shadow_at s a in
    let received : x.received + received_total a own.states ≡ x.received = more-none x.received _ (total-none (λ r. same_actor a r.actor) (λ r. r.received) own.states mine.states) in
    let told : x.told + cond counts (actor_total a own.sent) 0 ≡ x.told = more-none x.told _ (nothing-told counts _ (total-none (λ r. same_actor a r.actor) (λ r. r.count) own.sent mine.sent)) in
    let admitted : x.admitted + actor_total a link.sent ≡ x.admitted = more-none x.admitted _ (total-none (λ r. same_actor a r.actor) (λ r. r.count) link.sent other.sent) in
    let flags : cond (a.node == node) (option_or (flag_pair (row_flags a own.states)) x.flags) x.flags ≡ x.flags = flags-kept (a.node == node) _ x.flags (ap flag_pair (flags-none a own.states mine.states)) in
    let same : counted_shadow node counts own link a x ≡ x = λ i. record { received = received i; told = told i; admitted = admitted i; flags = flags i; dropped = x.dropped } in
    record {
      shadow = adds.shadows a ∙ same;
      count = λ b. (
          let made = nothing-told counts _ (pair-none b a own.created mine.created) in
          let carried = pair-none b a link.created other.created in
          let released = pair-none b a own.released mine.released in
          let is = adds.count b a in
          omega (arith, ints, is, made, carried, released)
          );
    }
