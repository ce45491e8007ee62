-- What two calls move, one after the other.
use Rattle.std.proofs.Common.{◌≡◌, ℕ, List, ◌++◌, append_assoc, ap, sym, ◌∙◌}
use Rattle.std.specs.Prelude.{Option}
use Rattle.std.proofs.KnownBytes.{Consumes-trans, Appends-trans}
use Rattle.crgc_io.specs.Taken.{Puts, Takes}

-- bytes that were recorded after others
recorded-trans : (first second third bs cs : List ℕ) → second ≡ first ++ bs → third ≡ second ++ cs → third ≡ first ++ (bs ++ cs)
recorded-trans first second third bs cs p q = q ∙ ap (λ xs. xs ++ cs) p ∙ append_assoc first bs cs

pub Takes-trans : {S : Type 0} (left : S → Option (List ℕ)) (given : S → List ℕ) (first second third : S) (bs cs : List ℕ)
    → Takes left given first second bs → Takes left given second third cs → Takes left given first third (bs ++ cs)
Takes-trans left given first second third bs cs p q = record {
  consumed = Consumes-trans (left first) (left second) (left third) bs cs p.consumed q.consumed;
  recorded = recorded-trans (given first) (given second) (given third) bs cs p.recorded q.recorded;
}

pub Puts-trans : {K : Type 0} (held : K → Option (List ℕ)) (taken : K → List ℕ) (first second third : K) (bs cs : List ℕ)
    → Puts held taken first second bs → Puts held taken second third cs → Puts held taken first third (bs ++ cs)
Puts-trans held taken first second third bs cs p q = record {
  appended = Appends-trans (held first) (held second) (held third) bs cs p.appended q.appended;
  recorded = recorded-trans (taken first) (taken second) (taken third) bs cs p.recorded q.recorded;
}
