use Rattle.std.proofs.Common.{rules}
use Rattle.std.proofs.lemmas.Fn.{always_returns_same}
use Rattle.std.specs.List.Sorted.{IsBinarySearchResult}
use Rattle.crgc_ids.specs.Actor.{actor_cmp}
use Rattle.refob_counts.proofs.RisingLemmas.{searched}
use Rattle.refob_counts.proofs.rising.search.Goals as goal

-- the closure compares a row's target
by_target : (c : goal.After-ok) → IsBinarySearchResult (λ row. actor_cmp row.0 c.args.target) c.args.rows.now c.binary_search_by.result
by_target c = c.binary_search_by.ensures.position (λ row. actor_cmp row.0 c.args.target) (always_returns_same _ _ _ (λ a r g called. search rules))

pub returns-clause-some : goal.returns-clause-some
returns-clause-some c =
    rw c.ok.ensures.value (searched c.args.target c.args.rows.now c.requires c.binary_search_by.result c.binary_search_by.ensures.bound (by_target c)).0

pub returns-clause-none : goal.returns-clause-none
returns-clause-none c =
    rw c.ok.ensures.value (searched c.args.target c.args.rows.now c.requires c.binary_search_by.result c.binary_search_by.ensures.bound (by_target c)).1
