use Rattle.std.proofs.Common.{ap₂, ◌∙◌, nat_cmp}
use Rattle.behaviour_lang.proofs.NumberLaws.{ordered_by_number}
use Rattle.behaviour_lang.proofs.local_name.number_order.Goals as goal

pub returns : goal.returns
returns c =
    c.cmp.ensures ∙ ap₂ nat_cmp c.from_be_bytes.ensures c.from_be_bytes-2.ensures ∙ ordered_by_number _ _ c.told-bytes c.told-others c.fits-bytes c.fits-others
