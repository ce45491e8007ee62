-- What is counted after the actors and pairs are there.
use Rattle.std.proofs.Common.{◌≡◌, ◌≤◌, ℕ, Bool, List, [], sym, ◌∙◌, ap, subst, arith, append-nil, length}
use Rattle.std.proofs.lemmas.Int.{ints}
use Rattle.crgc_ids.specs.Actor.{Actor}
use Rattle.history_model.specs.Ledgers.{Ledger}
use Rattle.edge_table.specs.Table.{Edges}
use Rattle.shadow_table.specs.Shadows.{Shadows}
use Rattle.shadow_table.specs.declared.table.Shadow.{Shadow}
use Rattle.undo_log.specs.declared.corrections.Correction.{Correction}
use Rattle.shadow_rows.specs.Rows.{AddsRows, AreSmall, IsLogCovered, counted_shadow}
use Rattle.shadow_rows.specs.Pairs.{IsWithin, KeepsEnds}
use Rattle.shadow_rows.specs.Tabled.{AreTabled, ExtendsEdges, ExtendsShadows}
use Rattle.shadow_rows.proofs.GrowLemmas.{tabled-named}

pub small-grown : (s t : Shadows) (e f : Edges) → ExtendsShadows s t → ExtendsEdges e f → AreSmall s e → AreSmall t f
small-grown s t e f grown more small = record {
  received = λ a. subst (λ (x : Shadow). x.received ≤ 4611686018427387904) (sym (grown.same a)) (small.received a);
  told = λ a. subst (λ (x : Shadow). x.told ≤ 4611686018427387904) (sym (grown.same a)) (small.told a);
  admitted = λ a. subst (λ (x : Shadow). x.admitted ≤ 4611686018427387904) (sym (grown.same a)) (small.admitted a);
  count = λ b a. subst (IsWithin 4611686018427387904) (sym (more.count b a)) (small.count b a);
}

pub adds-grown : (node : ℕ) (counts : Bool) (own link : Ledger) (s t u : Shadows) (e f g : Edges) → ExtendsShadows s t → ExtendsEdges e f → AddsRows node counts own link t u f g → AddsRows node counts own link s u e g
adds-grown node counts own link s t u e f g grown more adds = record {
  shadows = λ a. adds.shadows a ∙ ap (counted_shadow node counts own link a) (grown.same a);
  count = λ b a. (let new = adds.count b a in let old = more.count b a in omega (arith, ints, new, old));
}

pub tabled-counted : (names names' : List Actor) (e f : Edges) → names' ≡ names → KeepsEnds e f → AreTabled names e → AreTabled names' f
tabled-counted names names' e f same keeps tabled =
    let with_edges : Edges = record f { pairs = e.pairs; places = e.places } in
    let is : with_edges ≡ f = λ i. record { pairs = sym keeps.pairs i; edges = f.edges; places = sym keeps.places i } in
    let kept : AreTabled names with_edges = record {
      room = tabled.room;
      owner_named = tabled.owner_named;
      target_named = tabled.target_named;
      owner = λ k inside. keeps.owner k ∙ tabled.owner k inside;
      target = λ k inside. keeps.target k ∙ tabled.target k inside;
    } in
    subst (λ ns. AreTabled ns f) (sym same) (subst (AreTabled names) is kept)

-- what was there before stays so where nothing is left of what was added
pub tabled-restored : (names names' : List Actor) (e f : Edges) → names' ≡ names → f.pairs ≡ e.pairs → f.edges ≡ e.edges → e.places ≤ f.places → AreTabled names e → AreTabled names' f
tabled-restored names names' e f same pairs edges grown tabled =
    let long = ap (λ (ns : List Actor). length ns) same in
    let room = tabled.room in
    tabled-named names [] names' e f (same ∙ sym (append-nil names)) pairs edges (omega (arith, long, room, grown)) tabled

pub covered-restored : (s t : Shadows) (e f : Edges) (log log' : List (List Correction)) → t ≡ s → f.pairs ≡ e.pairs → log' ≡ log → IsLogCovered s e log → IsLogCovered t f log'
covered-restored s t e f log log' same pairs logs covered =
    let at_pairs : IsLogCovered s f log = subst (λ ps. IsLogCovered s (record f { pairs = ps }) log) (sym pairs) covered in
    subst (λ x. IsLogCovered x f log') (sym same) (subst (IsLogCovered s f) (sym logs) at_pairs)
