use Rattle.std.proofs.Common.{◌≡◌, rules, Some, None, refl, sym, ◌∙◌}
use Rattle.behaviour_lang.specs.Bound.{bound, local_names}
use Rattle.behaviour_lang.specs.Held.{names_of}
use Rattle.behaviour_lang.specs.declared.instr.Name.TheVariants.{Local, Message}
use Rattle.behaviour_lang.proofs.HeldLaws.{bound-past, flag_of_bound}
use Rattle.behaviour_lang.proofs.NameLaws.{without_unbound}
use Rattle.behaviour_lang.proofs.run.Run.keep.Goals as goal

-- the reference of the message name is kept under a name that was not bound
pub returns-in_ok-keep-in-Some-None-clause-ok : goal.returns-in_ok-keep-in-Some-None-clause-ok
returns-in_ok-keep-in-Some-None-clause-ok c =
    let held = c.args.self.now.names in
    let names = names_of held in
    let message : bound (Message c.args.k) names ≡ Some c.in-Some-None.actor = search rules in
    let unbound : bound (Local c.args.name.now) names ≡ None = search rules in (
      record {
        same_next = λ instrs e. rw (e, message, unbound, without_unbound _ names unbound, c.in_ok-keep-in-Some-None.ensures.ok) refl;
        position = refl;
        none_owed = c.requires.none_owed;
      },
      record {
        actor = c.in-Some-None.actor;
        free = record {
          flag = flag_of_bound c.args.k held.refs held.flags held.locals c.in-Some-None.actor message;
          unbound = sym (bound-past c.args.name.now 0 held.refs held.flags (local_names held.locals)) ∙ unbound;
        };
        kept = c.in_ok-keep-in-Some-None.ensures.kept;
        others = refl;
      },
    )
