use Rattle.std.proofs.Common.{◌≡◌, ◌≤◌, arith, length, subst, sym}
use Rattle.crgc_ids.specs.Actor.{Actor}
use Rattle.shadow_table.specs.Shadows.{Shadows, with_name}
use Rattle.shadow_rows.specs.Tabled.{ExtendsShadows}
use Rattle.shadow_rows.proofs.GrowLemmas.{tabled-named}
use Rattle.shadow_rows.proofs.NamedLemmas.{extends-self, name-extends}
use Rattle.shadow_rows.proofs.names.name_new.Goals as goal

extended : (t u : Shadows) (a : Actor) → length t.shadows ≡ length t.names → u ≡ with_name t a → ExtendsShadows t u
extended t u a long is = subst (ExtendsShadows t) (sym is) (name-extends t a long)

pub returns-in_err-name-clause-shadows : goal.returns-in_err-name-clause-shadows
returns-in_err-name-clause-shadows c = subst (ExtendsShadows c.args.shadows.now) (sym c.in_err-name.ensures.err) (extends-self c.args.shadows.now)

pub returns-in_err-add_places-clause-shadows : goal.returns-in_err-add_places-clause-shadows
returns-in_err-add_places-clause-shadows c = extended c.args.shadows.now c.name.new.self c.args.actor c.name.ensures.long c.in_ok-name.ensures.ok

pub returns-clause-shadows : goal.returns-clause-shadows
returns-clause-shadows c = extended c.args.shadows.now c.name.new.self c.args.actor c.name.ensures.long c.in_ok-name.ensures.ok

pub returns-clause-tabled : goal.returns-clause-tabled
returns-clause-tabled c =
    let step = extended c.args.shadows.now c.name.new.self c.args.actor c.name.ensures.long c.in_ok-name.ensures.ok in
    let count = c.place_count.ensures.value in
    let so_many : c.place_count.result ≤ c.add_places.new.edges.places = c.in_ok-add_places.ensures.ok in
    tabled-named c.args.shadows.now.names step.more c.name.new.self.names c.args.edges.now c.add_places.new.edges step.names c.add_places.ensures.pairs c.add_places.ensures.edges (omega arith) c.requires.tabled
