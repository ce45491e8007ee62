-- What a map that is ordered by its actors has for an actor, by the test of sameness.
use Rattle.std.proofs.Common.{◌≡◌, ◌≢◌, Bool, false, cond, List, [], ◌∷◌, Some, refl, sym, ◌∙◌, ap, arith}
use Rattle.std.proofs.lemmas.Bool.Decides.{nat_tests}
use Rattle.std.specs.Map.{lookup}
use Rattle.std.specs.Ordering.{is_eq}
use Rattle.crgc_ids.proofs.ActorLaws.{same_actor-apart}
use Rattle.crgc_ids.specs.Actor.{Actor, same_actor}
use Rattle.crgc_ids.specs.contracts.ids.ActorIdOrd.TheImpl as order

-- whether two actors tie in their order
abbrev pub tie : Actor → Actor → Bool
tie a b = is_eq ((order.cmp-value).it a b)

-- no two actors tie but one and itself
pub tie-same : (a b : Actor) → tie a b ≡ same_actor a b
tie-same a b = grind (arith, nat_tests)

pub tie-apart : (a b : Actor) → b ≢ a → tie a b ≡ false
tie-apart a b differ = tie-same a b ∙ same_actor-apart a b (λ e. differ (sym e))

-- so the map has for an actor what its entry of that actor says
pub lookup-tie : {V : Type 0} (a : Actor) (entries : List (Actor × V)) → lookup (tie a) entries ≡ lookup (same_actor a) entries
lookup-tie a [] = refl
lookup-tie a (e ∷ entries) = rw (tie-same a e.0) (ap (cond (same_actor a e.0) (Some e.1)) (lookup-tie a entries))
