-- What a change of the map of counts says of the counts.
use Rattle.std.proofs.Common.{◌≡◌, ℕ, Bool, false, not, List, Option, Some, None, is_some, Result, Ok, Err, OnErr, OnOk, refl, sym, ◌∙◌, ap}
use Rattle.std.proofs.lemmas.Bool.{true≢false}
use Rattle.std.specs.Bool.{Decides}
use Rattle.std.specs.Map.{lookup}
use Rattle.std.specs.Option.{unwrap_or}
use Rattle.crgc_ids.proofs.ActorMaps.{lookup-tie, tie, tie-apart}
use Rattle.crgc_ids.specs.Actor.{Actor}
use Rattle.refob_counts.specs.Counts.{IsCountChange, count_of}
use Rattle.refob_counts.specs.Rising.{found_in}

-- a map that changed at one target changed that count alone
pub count_change : (old new : List (Actor × ℕ)) (target : Actor) (count : Option ℕ) → lookup (tie target) new ≡ count → ((a : Actor) → tie target a ≡ false → lookup (tie a) new ≡ lookup (tie a) old) → IsCountChange old new target (unwrap_or count 0)
count_change old new target count here there = record {
  changed = ap (λ o. unwrap_or o 0) (sym (lookup-tie target new) ∙ here);
  others = λ a differ.
      let kept = there a (tie-apart target a differ) in
      ap (λ o. unwrap_or o 0) (sym (lookup-tie a new) ∙ kept ∙ lookup-tie a old);
}

-- of a target, as many are held as the map has
pub count_of-found : (counts : List (Actor × ℕ)) (target : Actor) (found : Option ℕ) → found ≡ lookup (tie target) counts → count_of counts target ≡ unwrap_or found 0
count_of-found counts target found is = ap (λ o. unwrap_or o 0) (sym (lookup-tie target counts) ∙ sym is)

-- of two changes at one target the second counts
pub changed_again : (old between new : List (Actor × ℕ)) (target : Actor) (first second : ℕ) → IsCountChange old between target first → IsCountChange between new target second → IsCountChange old new target second
changed_again old between new target first second change again = record {
  changed = again.changed;
  others = λ a differ. again.others a differ ∙ change.others a differ;
}

-- a target that the map has is put in again without an error, which comes only where the map has it not
pub put_again : {E : Type 0} (P : Type 0) (r : Result (Option ℕ) E) (counts : List (Actor × ℕ)) (target : Actor) (count : ℕ) → lookup (tie target) counts ≡ Some count → OnErr r (lookup (tie target) counts ≡ None) → OnOk r P → P
put_again P (Ok old) counts target count there absent p = p
put_again P (Err e) counts target count there absent p = absurd (true≢false (sym (ap is_some there) ∙ ap is_some absent))

-- a target is no key of the map where the test for it fails
pub key_test : (counts : List (Actor × ℕ)) (target : Actor) (has : Bool) → has ≡ is_some (lookup (tie target) counts) → Decides (not has) (found_in counts target ≡ None)
key_test counts target has is = told (found_in counts target) has (is ∙ ap is_some (lookup-tie target counts))
  where
    told : (o : Option ℕ) (b : Bool) → b ≡ is_some o → Decides (not b) (o ≡ None)
    told None b e = (λ _. refl, λ _. ap not e)
    told (Some n) b e = (λ t. absurd (true≢false (sym t ∙ ap not e)), λ none. absurd (true≢false (ap is_some none)))
