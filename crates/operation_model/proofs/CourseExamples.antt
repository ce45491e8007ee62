-- What calls make of a cluster, computed on a course of two passes: two seeds on two nodes are each woken once, with nothing to do.
use Rattle.std.specs.Prelude.{◌≡◌, ℕ, true, codes, List, [], ◌∷◌, refl, Some, None}
use Rattle.std.proofs.Common.{inl, inr}
use Rattle.crgc_ids.specs.Actor.{Actor}
use Rattle.history_model.specs.declared.events.Event.TheVariants as events
use Rattle.history_model.specs.Rows.{actor, onto}
use Rattle.turn_lock.specs.History.{entry}
use Rattle.behaviour_lang.specs.Bound.{local_names}
use Rattle.behaviour_lang.specs.declared.act.Act.TheVariants as acts
use Rattle.behaviour_lang.specs.declared.act.List.TheVariants as lists
use Rattle.behaviour_lang.specs.declared.instr.Instr.TheVariants.{Keep, Send, Spawn}
use Rattle.behaviour_lang.specs.declared.instr.Name.TheVariants.{Local}
use Rattle.fault_plan.specs.Rows.{link_row}
use Rattle.script_reader.specs.Valid.{Scripted}
use Rattle.script_reader.specs.declared.script.Seed.{Seed as SeedRow}
use Rattle.run_model.specs.Doing.{as_seed, beginning, first_names}
use Rattle.operation_model.specs.declared.operations.Op.{Op}
use Rattle.operation_model.specs.declared.operations.Op.TheVariants as ops
use Rattle.operation_model.specs.declared.replies.Halt.TheVariants.{Memory}
use Rattle.operation_model.specs.declared.replies.Reply.{Reply}
use Rattle.operation_model.specs.declared.replies.Reply.TheVariants as replies
use Rattle.operation_model.specs.declared.replies.Why.TheVariants.{Busy, NoMail}
use Rattle.operation_model.specs.Answers.{IsCourse, refused}
use Rattle.operation_model.specs.Courses.{behaviour_at, claim_at, names_at, world}
use Rattle.operation_model.specs.Deeds.{Begun, turn_reply}
use Rattle.operation_model.specs.Fits.{Fits}
use Rattle.operation_model.specs.Openings.{Opening}
use Rattle.operation_model.specs.Turns.{Calls}

abbrev seed : ℕ → SeedRow
seed n = record { node = n; behaviour = 0; wakes = 1 }

abbrev idlers : ℕ → Scripted
idlers turns = record {
  nodes = 2;
  code = record { name = codes "idler"; wake = []; message = [] } ∷ [];
  seeds = seed 0 ∷ seed 1 ∷ [];
  ties = [];
  plan = record { losses = []; repeats = []; crashes = [] };
  turns = turns;
}

abbrev opening : ℕ → Opening
opening turns = (let s = idlers turns in record {
  script = s;
  past = beginning s;
  behaviours = λ a. 0;
  names = λ a. first_names s a;
  claims = λ n. None;
  halt = None;
})

abbrev self : Actor → List (List ℕ × Actor)
self a = (codes "self", a) ∷ []

abbrev begun : Actor → Begun
begun a = record { actor = a; behaviour = 0; list = lists.Wake; locals = self a; refs = []; root = true }

-- both are woken, and only then both rest
abbrev both_woken : Calls
both_woken = entry 2 ops.Wake (turn_reply (begun (actor 1 0))) ∷ entry 1 ops.Wake (turn_reply (begun (actor 0 0))) ∷ []

abbrev both_rest : Calls
both_rest =
    entry 2 (ops.Rest (actor 1 0) (self (actor 1 0))) replies.Done
    ∷ entry 1 (ops.Rest (actor 0 0) (self (actor 0 0))) replies.Done
    ∷ entry 1 ops.Finished (replies.NotYet 2 0 0)
    ∷ entry 1 (ops.Take (actor 1 0)) (replies.NotReady Busy)
    ∷ both_woken

abbrev all_done : Calls
all_done =
    entry 1 ops.Finished replies.AllDone
    ∷ entry 2 (ops.Refill 0) replies.Nothing
    ∷ entry 1 ops.Wake replies.Nothing
    ∷ entry 2 (ops.Claim 0) (replies.Claimed 1)
    ∷ entry 1 (ops.Claim 0) replies.Done
    ∷ entry 1 (ops.Publish 0) replies.Done
    ∷ entry 1 (ops.Flush (actor 0 0)) replies.Nothing
    ∷ entry 1 (ops.Flush (actor 0 0)) replies.Done
    ∷ entry 2 (ops.Flush (actor 2 0)) replies.Nothing
    ∷ both_rest

both_woken-course : IsCourse (opening 10) both_woken
both_woken-course = (
  tt,
  inl ((begun (actor 1 0), refl, refl, record { behaviour = refl; list_is = refl; names = refl; refs_are = refl; root = refl }), (refl, refl, tt)),
  (
    tt,
    inl ((begun (actor 0 0), refl, refl, record { behaviour = refl; list_is = refl; names = refl; refs_are = refl; root = refl }), (refl, refl, tt)),
    tt,
  ),
)

both_rest-course : IsCourse (opening 10) both_rest
both_rest-course = (
  (refl, refl, refl),
  inl (refl, (refl, refl, tt)),
  (
    (refl, refl, refl),
    inl (refl, (refl, refl, tt)),
    (
      tt,
      inl (refl, tt),
      (
        tt,
        inl (refl, tt),
        both_woken-course,
      ),
    ),
  ),
)

all_done-course : IsCourse (opening 10) all_done
all_done-course = (
  tt,
  inl (refl, tt),
  (
    tt,
    inl (refl, tt),
    (
      tt,
      inl (refl, tt),
      (
        tt,
        inl (refl, tt),
        (
          tt,
          inl (refl, tt),
          (
            tt,
            inl (refl, (refl, refl, tt)),
            (
              tt,
              inl (refl, tt),
              (
                tt,
                inl (refl, (refl, refl, tt)),
                (
                  tt,
                  inl (refl, tt),
                  both_rest-course,
                ),
              ),
            ),
          ),
        ),
      ),
    ),
  ),
)

-- both wakes stand before both rests
all_done-world : world (opening 10) all_done ≡ onto (beginning (idlers 10)) (
    events.Wake (actor 0 0) ∷ events.Wake (actor 1 0) ∷ events.Rest (actor 0 0) ∷ events.Rest (actor 1 0)
    ∷ events.Flush (actor 0 0) ∷ events.Publish 0 ∷ []
    )
all_done-world = refl

-- what is refused, and why: the budget, which is spent; a node that the world does not have; an actor without mail
abbrev refused_after : ℕ → Calls → Op → Reply → Type 0
refused_after turns h op r = (let o = opening turns in refused o.script (claim_at o h) op (world o h) ≡ Some r)

spent : refused_after 2 both_rest ops.Wake replies.Over
spent = refl

spent-take : refused_after 2 both_rest (ops.Take (actor 0 0)) replies.Over
spent-take = refl

unknown-node : refused_after 10 both_rest (ops.Claim 2) replies.Nothing
unknown-node = refl

no-mail : refused_after 10 both_rest (ops.Take (actor 0 0)) (replies.NotReady NoMail)
no-mail = refl

nothing-to_carry : refused_after 10 both_rest (ops.Carry 0 1) replies.Nothing
nothing-to_carry = refl

wakes-planned : refused_after 10 [] ops.Finished (replies.NotYet 0 0 2)
wakes-planned = refl

-- a pass that gives up halts the cluster
gave-up : IsCourse (opening 10) (entry 2 ops.Wake (replies.Halted Memory) ∷ entry 1 ops.GiveUp (replies.Halted Memory) ∷ [])
gave-up = (tt, refl, (tt, inr (inr refl), tt))

-- A turn with acts, a copy that is repeated, and a crash that comes with a rest: one seed makes a child and sends it to the other,
-- which keeps it; the other's node is to crash with its first turn that ends.

abbrev senders : Scripted
senders = record {
  nodes = 2;
  code =
      record { name = codes "sender"; wake = Spawn (codes "x") 2 ∷ Send (Local (codes "b")) (Local (codes "x") ∷ []) ∷ []; message = [] }
      ∷ record { name = codes "keeper"; wake = []; message = Keep (codes "k") 0 ∷ [] }
      ∷ record { name = codes "idler"; wake = []; message = [] } ∷ [];
  seeds = record { node = 0; behaviour = 0; wakes = 1 } ∷ record { node = 1; behaviour = 1; wakes = 0 } ∷ [];
  ties = record { from = 0; to = 1; name = codes "b" } ∷ [];
  plan = record { losses = []; repeats = link_row 0 1 0 ∷ []; crashes = record { node = 1; after = 1 } ∷ [] };
  turns = 10;
}

abbrev new_senders : Opening
new_senders = (let s = senders in record {
  script = s;
  past = beginning s;
  behaviours = λ a. (let d = as_seed s a in d.behaviour);
  names = λ a. first_names s a;
  claims = λ n. None;
  halt = None;
})

abbrev sending : Begun
sending = record { actor = actor 0 0; behaviour = 0; list = lists.Wake; locals = (codes "b", actor 1 0) ∷ self (actor 0 0); refs = []; root = true }

abbrev keeping : Begun
keeping = record { actor = actor 1 0; behaviour = 1; list = lists.Message; locals = self (actor 1 0); refs = actor 0 1 ∷ []; root = true }

abbrev woken : Calls
woken = entry 1 ops.Wake (turn_reply sending) ∷ []

abbrev with_child : Calls
with_child = entry 1 (ops.Act (actor 0 0) (acts.Spawn 2)) (replies.Born (actor 0 1)) ∷ woken

abbrev sent : Calls
sent = entry 1 (ops.Act (actor 0 0) (acts.Send (actor 1 0) (actor 0 1 ∷ []))) replies.Done ∷ with_child

abbrev carried_twice : Calls
carried_twice =
    entry 2 (ops.Carry 0 1) replies.Done
    ∷ entry 2 (ops.Carry 0 1) replies.Done
    ∷ entry 1 (ops.Rest (actor 0 0) ((codes "b", actor 1 0) ∷ (codes "self", actor 0 0) ∷ (codes "x", actor 0 1) ∷ [])) replies.Done
    ∷ sent

abbrev crashed : Calls
crashed =
    entry 1 ops.Finished replies.AllDone
    ∷ entry 2 (ops.Flush (actor 1 0)) (replies.Down 1)
    ∷ entry 2 (ops.Rest (actor 1 0) ((codes "k", actor 0 1) ∷ self (actor 1 0))) replies.Done
    ∷ entry 2 (ops.Take (actor 1 0)) (turn_reply keeping)
    ∷ carried_twice

sent-course : IsCourse new_senders sent
sent-course = (
  (refl, ([], refl)),
  inl (refl, (refl, refl, tt)),
  (
    (refl, ([], refl)),
    inl (refl, (refl, refl, tt)),
    (
      tt,
      inl ((sending, refl, refl, record { behaviour = refl; list_is = refl; names = refl; refs_are = refl; root = refl }), (refl, refl, tt)),
      tt,
    ),
  ),
)

carried_twice-course : IsCourse new_senders carried_twice
carried_twice-course = (
  tt,
  inl (refl, (refl, refl, tt)),
  (
    tt,
    inl (refl, (refl, refl, tt)),
    (
      (refl, refl, refl),
      inl (refl, (refl, refl, tt)),
      sent-course,
    ),
  ),
)

crashed-course : IsCourse new_senders crashed
crashed-course = (
  tt,
  inl (refl, tt),
  (
    tt,
    inl (refl, tt),
    (
      (refl, refl, refl),
      inl (refl, (refl, refl, (refl, refl, tt))),
      (
        tt,
        inl ((keeping, refl, refl, record { behaviour = refl; list_is = refl; names = refl; refs_are = refl; root = refl }), (refl, refl, tt)),
        carried_twice-course,
      ),
    ),
  ),
)

crashed-world : world new_senders crashed ≡ onto (beginning senders) (
    events.Wake (actor 0 0) ∷ events.Spawn (actor 0 0) ∷ events.Send (actor 0 0) (actor 1 0) (actor 0 1 ∷ []) ∷ events.Rest (actor 0 0)
    ∷ events.Repeat 0 1 0 ∷ events.Admit 0 1 0 ∷ events.Take (actor 1 0) ∷ events.Rest (actor 1 0) ∷ events.Crash 1 ∷ []
    )
crashed-world = refl

-- what the calls tell: the child has its behaviour and its own name, and the other has kept the child under `k`
child-told : (behaviour_at new_senders crashed (actor 0 1) ≡ 2) × (names_at new_senders crashed (actor 0 1) ≡ local_names (self (actor 0 1)))
child-told = (refl, refl)

kept-told : names_at new_senders crashed (actor 1 0) ≡ local_names ((codes "k", actor 0 1) ∷ self (actor 1 0))
kept-told = refl

-- what does not fit: an act out of its order, an act of another pass's turn, a rest before the last act, and an act after the rest
not-in_order : ¬ Fits new_senders woken (ops.Act (actor 0 0) (acts.Send (actor 1 0) [])) 1
not-in_order fit = (let same = fit.1.1 in absurd (cc))

not-own : ¬ Fits new_senders woken (ops.Act (actor 0 0) (acts.Spawn 2)) 2
not-own fit = fit

not-ended : ¬ Fits new_senders with_child (ops.Rest (actor 0 0) (self (actor 0 0))) 1
not-ended fit = (let same = fit.1 in absurd (cc))

not-open : ¬ Fits new_senders carried_twice (ops.Act (actor 0 0) (acts.Spawn 2)) 1
not-open fit = fit

-- a bulletin fits only for who has claimed the node
not-claimed : ¬ Fits new_senders woken (ops.Hand 0 0 0) 1
not-claimed fit = (let same = fit.0 in absurd (cc))
