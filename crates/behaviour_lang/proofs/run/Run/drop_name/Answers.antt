use Rattle.std.proofs.Common.{◌≡◌, None, refl, sym}
use Rattle.behaviour_lang.specs.Bound.{bound}
use Rattle.behaviour_lang.specs.Held.{names_of}
use Rattle.behaviour_lang.proofs.NameLaws.{without_unbound}
use Rattle.behaviour_lang.proofs.run.Run.drop_name.Goals as goal

-- a name that is not bound is passed
pub returns-in-None : goal.returns-in-None
returns-in-None c =
    let unbound : bound c.args.name.now (names_of c.args.self.now.names) ≡ None = sym c.in-None.ensures in (
      record {
        same_next = λ instrs e. rw (e, unbound, without_unbound _ _ unbound) refl;
        position = refl;
        none_owed = c.requires.none_owed;
      },
      refl,
    )
