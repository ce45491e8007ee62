use Rattle.std.proofs.Common.{◌≡◌, string_bytes, sym, ap, ◌∙◌, subst}
use Rattle.std.specs.Str.{IsUtf8}
use Rattle.workload_gen.proofs.GeneratedLaws.{pieces-are-text, pieces-stand}
use Rattle.workload_gen.proofs.text.generate.Goals as goal

pub returns-in-Ok-clause-text : goal.returns-in-Ok-clause-text
returns-in-Ok-clause-text c =
    let bytes : c.from_vec.result ≡ string_bytes c.in-Ok.text = c.from_vec.ensures ∙ ap (λ v. v.items) c.into_bytes.ensures.value in
    bytes ∙ c.in-Ok.ensures.text ∙ pieces-are-text c.args.seed c.args.size

pub returns-in-Ok-clause-stands : goal.returns-in-Ok-clause-stands
returns-in-Ok-clause-stands c =
    let bytes : c.from_vec.result ≡ string_bytes c.in-Ok.text = c.from_vec.ensures ∙ ap (λ v. v.items) c.into_bytes.ensures.value in
    pieces-stand c.args.seed c.args.size c.from_vec.result c.requires.in_range (bytes ∙ c.in-Ok.ensures.text) (subst IsUtf8 (sym bytes) c.in-Ok.ensures.utf8)
