use Rattle.std.proofs.Common.{refl, subst}
use Rattle.crgc_ids.specs.Members.{IsAmong}
use Rattle.edge_table.specs.Table.{ends_from, ends_to}
use Rattle.edge_table.proofs.EndsLemmas.{ends-back, ends-listed}
use Rattle.edge_table.proofs.TableLemmas.{owner_of, target_of}
use Rattle.edge_table.proofs.laws.ends_are_listed_by_place.Goals as goal

pub returns : goal.returns
returns c = record {
  from = λ edges from to number. (
    (λ h. ends-listed owner_of target_of refl edges from to number h),
    (λ is. subst (λ p. IsAmong (p, number) (ends_from edges from)) is.2 (ends-back owner_of target_of refl edges from number is.0 is.1)),
  );
  to = λ edges from to number. (
    (λ h. let at = ends-listed target_of owner_of refl edges to from number h in (at.0, at.2, at.1)),
    (λ is. subst (λ p. IsAmong (p, number) (ends_to edges to)) is.1 (ends-back target_of owner_of refl edges to number is.0 is.2)),
  );
}
