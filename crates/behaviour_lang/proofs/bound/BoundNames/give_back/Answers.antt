use Rattle.std.proofs.Common.{◌≡◌, ◌∙◌}
use Rattle.behaviour_lang.specs.Bound.{local_names}
use Rattle.behaviour_lang.proofs.HeldLaws.{set_back, local_names_same}
use Rattle.behaviour_lang.proofs.NameLaws.{without-bind}
use Rattle.behaviour_lang.proofs.bound.BoundNames.give_back.Goals as goal

pub returns : goal.returns
returns c = λ before a kept free.
    let flags : c.set_flag.new.flags ≡ before.flags = c.set_flag.ensures ∙ rw kept.flags (set_back before.flags c.args.k free.flag) in
    let rows : c.unbind.new.self ≡ before.locals = local_names_same c.unbind.new.self before.locals (c.unbind.ensures ∙ rw kept.locals (without-bind c.args.name.now a (local_names before.locals) free.unbound)) in
    λ i. record { refs = kept.refs i; flags = flags i; locals = rows i }
