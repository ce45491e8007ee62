use Rattle.std.proofs.Common.{◌≡◌, ◌+◌, true, not, [], ◌∷◌, ◌++◌, get_or, length, length-append, sym, ◌∙◌, ap, subst}
use Rattle.std.proofs.lemmas.Bool.{cond-true}
use Rattle.std.specs.Result.{is_ok}
use Rattle.link_table.specs.LinkState.{IsNewLink}
use Rattle.link_table.specs.Table.{blank, end_of, source_of}
use Rattle.link_table.proofs.TableLemmas.{each-place_more}
use Rattle.link_table.proofs.table.LinkTable.new.Goals as goal

pub loop-number-preserved : goal.loop-number-preserved
loop-number-preserved c =
    let pushed : is_ok c.push.result ≡ true = c.is_err.ensures.negation ∙ ap not c.if-is_err.false in
    let items = c.push.ensures.items ∙ cond-true (is_ok c.push.result) (c.loop-number.links.items ++ c.new_link.result ∷ []) c.loop-number.links.items pushed in
    let more = each-place_more (λ j l. IsNewLink l (source_of j) (end_of j)) c.loop-number.links.items c.loop-number.number c.new_link.result c.loop-number.invariant.many c.loop-number.invariant.fresh c.new_link.ensures in
    record {
      many = ap length items ∙ length-append c.loop-number.links.items (c.new_link.result ∷ []) ∙ ap (λ n. n + 1) c.loop-number.invariant.many;
      fresh = λ j below. subst (λ links. IsNewLink (get_or links j blank) (source_of j) (end_of j)) (sym items) (more j below);
    }
