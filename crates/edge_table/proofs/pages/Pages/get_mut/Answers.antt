use borrow.Follows.Closed.{read_of}
use Rattle.std.proofs.Common.{rules, ◌≡◌, ◌<◌, ◌∙◌, ◌/◌, ◌%◌, [], ap, get_or, length, set, sym}
use Rattle.std.proofs.lemmas.List.{get_or_default, set-get_or}
use Rattle.std.specs.Option.{ghost_name_of}
use Rattle.edge_table.specs.Lends.{with_changed, with_changed_in}
use Rattle.edge_table.specs.Partition.{Kept, KeptPage}
use Rattle.edge_table.specs.declared.pages.TheConstants.{PAGE}
use Rattle.edge_table.proofs.pages.Pages.get_mut.Goals as goal

-- the page that is lent is the place's, so the pages with it changed are the pages with what was kept of the place changed
pub returns-in-Some : goal.returns-in-Some
returns-in-Some c =
    let name = ghost_name_of c.get_mut-in-Some.result in
    let pages = c.self.inside.pages.items in
    let number = c.args.place / PAGE in
    let index = c.args.place % PAGE in
    let page = c.in-Some.page.now in
    let there : number < length pages = search rules in
    let is : get_or pages number [] ≡ page = get_or_default pages number [] page there ∙ sym c.in-Some.ensures.value in (
      ap (λ (x : KeptPage). read_of name (λ w. set pages number (with_changed_in x index w)) (set pages number x)) (sym is)
          ∙ ap (λ (x : Kept). read_of name (with_changed pages c.args.place) x) (set-get_or pages number [])
          ∙ ap (λ (x : Kept). read_of name (with_changed x c.args.place) x) c.self.view_is,
      search rules,
    )
