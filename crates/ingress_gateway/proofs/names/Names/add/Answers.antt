use Rattle.std.proofs.Common.{◌≡◌, ◌<◌, ◌||◌, sym, ◌∙◌, ap, subst}
use Rattle.std.proofs.lemmas.Bool.{false≢true}
use Rattle.std.specs.List.{list_any}
use Rattle.std.specs.Result.{is_ok}
use Rattle.crgc_ids.proofs.SuccessLaws.{at_success}
use Rattle.crgc_ids.specs.Actor.{same_actor}
use Rattle.ingress_gateway.specs.NameSet.{NameSet, has_name}
use Rattle.ingress_gateway.proofs.NamesLemmas.{put_in}
use Rattle.ingress_gateway.proofs.names.Names.add.Goals as goal

pub returns-clause-names : goal.returns-clause-names
returns-clause-names c = λ a.
    let before = c.self.inside.actors.keys in
    let after = c.insert.new.self.keys in
    let room = subst (λ (n : NameSet). 0 < n.room) (sym c.self.view_is) c.requires in
    let told = at_success _ c.insert.result (λ e failed. false≢true (ap is_ok (sym failed) ∙ c.insert.ensures.succeeds room)) c.insert.ensures.updates in
    subst (λ (n : NameSet). list_any (same_actor a) after ≡ (same_actor a c.args.actor || has_name n a)) c.self.view_is
    (put_in c.args.actor a (list_any (same_actor a) before) (list_any (same_actor a) after) (told.0 a))
