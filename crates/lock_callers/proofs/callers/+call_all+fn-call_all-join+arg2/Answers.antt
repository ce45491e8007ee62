use mathlib.Core.List.{[], ◌∷◌}
use denote.RattleType.{RattleType}
use denote.Ref.{ShrRef}
use denote.Param.{param}
use denote.Struct.Field.{u32-field, u64-field}
use denote.Param.Send.{IsSend, IsSync, sendable, shr_send}
use Rattle.turn_lock.specs.contracts.lock.TurnLock as TurnLock
use Rattle.turn_lock.specs.contracts.pass.Pass as Pass
use Rattle.turn_lock.proofs.Crossing.{pass_send, lock_sync, captures_send}
use Rattle.locked_objects.specs.contracts.counter.Counter as Counter
use Rattle.locked_objects.specs.contracts.counter.CounterObject.TheImpl.{ghosts}
use Rattle.lock_callers.proofs.callers.+call_all+fn-call_all-join+arg2.Goals as goal

abbrev u64 : RattleType
u64 = u64-field.row

abbrev lock : RattleType
lock = TurnLock.the_row Counter.the_row u64 u64 u64 ghosts

abbrev pass : RattleType
pass = Pass.the_row Counter.the_row u64 u64 u64 ghosts

shared : IsSync lock
shared = search (sendable, lock_sync) depth 40

moved : IsSend pass
moved = search (sendable, pass_send) depth 40

u32_send : IsSend u32-field.row
u32_send = search sendable depth 20

pub join-first-requires-send-F : goal.join-first-requires-send-F
join-first-requires-send-F g t c κs h =
    captures_send 1 _ _ (ShrRef _ _ (param 0 g.row.R) ∷ ShrRef _ _ lock ∷ pass ∷ u32-field.row ∷ u32-field.row ∷ [])
    (shr_send _ _ _ c.requires.shared, (shr_send _ _ _ shared, (moved, (u32_send, (u32_send, tt)))))

pub join-first-requires-send-A : goal.join-first-requires-send-A
join-first-requires-send-A g t c κs h = search (sendable, moved) depth 40
